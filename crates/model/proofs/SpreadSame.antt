-- What is reached, in the same order, where each name has another one, and with more fuel than is needed.
use Rattle.std.proofs.Common.{◌≡◌, ℕ, zero, suc, ◌+◌, ◌≤◌, Bool, true, false, cond, not, ◌||◌, List, [], ◌∷◌, ◌++◌, map, length, refl, sym, ap, ◌∙◌, arith, ⊎_elim, length-append, append-nil}
use Rattle.std.proofs.lemmas.List.{map-append}
use Rattle.std.proofs.lemmas.Bool.{cases_eq, eq-eqb, ne_eqb}
use Rattle.std.proofs.lemmas.Map.Made.{length-le_from_is_member}
use Rattle.std.specs.Prelude.{nat_eq}
use Rattle.std.specs.Cmp.{nat_eq_equiv}
use Rattle.std.specs.List.{position_or_len}
use Rattle.model.specs.Reached.{has, fresh_of, spread, reached_list}
use Rattle.model.specs.Laws.{ListsReached}
use Rattle.model.proofs.Has.{has_none, has_head, has_tail, has-cons, has_either}
use Rattle.model.proofs.SpreadLemmas.{spread_end}
use Rattle.model.proofs.ReachedList.{reached_list_exact}

-- each name of a list passes
abbrev pub AllPass : (ℕ → Type 0) → List ℕ → Type 0
AllPass P xs = (q : ℕ) → has xs q ≡ true → P q

module _ (P : ℕ → Type 0) where
  pub pass_head : (x : ℕ) (xs : List ℕ) → AllPass P (x ∷ xs) → P x
  pass_head x xs all = all x (has_head x xs)

  pub pass_tail : (x : ℕ) (xs : List ℕ) → AllPass P (x ∷ xs) → AllPass P xs
  pass_tail x xs all q h = all q (has_tail x xs q h)

  pub pass_cons : (x : ℕ) (xs : List ℕ) → P x → AllPass P xs → AllPass P (x ∷ xs)
  pass_cons x xs p all q h = ⊎_elim (λ e. rw e p) (λ r. all q r) (has-cons x xs q h)

  pub pass_append : (xs ys : List ℕ) → AllPass P xs → AllPass P ys → AllPass P (xs ++ ys)
  pass_append xs ys all more q h = ⊎_elim (λ a. all q a) (λ b. more q b) (has_either xs ys q h)

  pub pass_fresh : (seen xs : List ℕ) → AllPass P xs → AllPass P (fresh_of seen xs)
  pass_fresh seen [] all = all
  pass_fresh seen (x ∷ xs) all = go (has seen x) (pass_fresh (x ∷ seen) xs (pass_tail x xs all))
    where
      go : (b : Bool) → AllPass P (fresh_of (x ∷ seen) xs) → AllPass P (cond b (fresh_of (x ∷ seen) xs) (x ∷ fresh_of (x ∷ seen) xs))
      go true rest = rest
      go false rest = pass_cons x (fresh_of (x ∷ seen) xs) (pass_head x xs all) rest

  -- what is reached from names that pass, by steps that keep to them, passes
  pub pass_spread : (next : ℕ → List ℕ) → ((m : ℕ) → P m → AllPass P (next m)) → (fuel : ℕ) (done todo : List ℕ) → AllPass P done → AllPass P todo → AllPass P (spread next fuel done todo)
  pass_spread next keeps zero done todo a b = pass_append done todo a b
  pass_spread next keeps (suc fuel) done [] a b = a
  pass_spread next keeps (suc fuel) done (x ∷ todo) a b =
      let p = pass_head x todo b in
      pass_spread next keeps fuel (done ++ x ∷ []) (todo ++ fresh_of (done ++ x ∷ todo) (next x))
      (pass_append done (x ∷ []) a (pass_cons x [] p (λ q h. has_none q h)))
      (pass_append todo (fresh_of (done ++ x ∷ todo) (next x)) (pass_tail x todo b) (pass_fresh (done ++ x ∷ todo) (next x) (keeps x p)))

  pub pass_reached : (next : ℕ → List ℕ) → ((m : ℕ) → P m → AllPass P (next m)) → (fuel : ℕ) (start : List ℕ) → AllPass P start → AllPass P (reached_list next fuel start)
  pass_reached next keeps fuel start all = pass_spread next keeps fuel [] (fresh_of [] start) (λ q h. has_none q h) (pass_fresh [] start all)

  module _ (f : ℕ → ℕ) (one_to_one : (a b : ℕ) → P a → P b → f a ≡ f b → a ≡ b) where
    pub same_test : (x y : ℕ) → P x → P y → nat_eq (f x) (f y) ≡ nat_eq x y
    same_test x y p q =
        ⊎_elim
        (λ e. eq-eqb (f x) (f y) (ap f e) ∙ sym (eq-eqb x y e))
        (λ ne. ne_eqb (f x) (f y) (λ e. ne (one_to_one x y p q e)) ∙ sym (ne_eqb x y ne))
        (cases_eq x y)

    pub has-map : (xs : List ℕ) (x : ℕ) → AllPass P xs → P x → has (map f xs) (f x) ≡ has xs x
    has-map [] x all p = refl
    has-map (y ∷ xs) x all p =
        let here = same_test x y p (pass_head y xs all) in
        let rest = has-map xs x (pass_tail y xs all) p in
        λ i. here i || rest i

    fresh_of-map : (seen xs : List ℕ) → AllPass P seen → AllPass P xs → fresh_of (map f seen) (map f xs) ≡ map f (fresh_of seen xs)
    fresh_of-map seen [] s all = refl
    fresh_of-map seen (x ∷ xs) s all =
        let p = pass_head x xs all in
        let here = has-map seen x s p in
        let rest : fresh_of (f x ∷ map f seen) (map f xs) ≡ map f (fresh_of (x ∷ seen) xs) = fresh_of-map (x ∷ seen) xs (pass_cons x seen p s) (pass_tail x xs all) in
        (λ i. cond (here i) (rest i) (f x ∷ rest i)) ∙ split (has seen x) x (fresh_of (x ∷ seen) xs)
      where
        split : (b : Bool) (x : ℕ) (ys : List ℕ) → cond b (map f ys) (f x ∷ map f ys) ≡ map f (cond b ys (x ∷ ys))
        split true x ys = refl
        split false x ys = refl

    module _ (next next' : ℕ → List ℕ) (keeps : (m : ℕ) → P m → AllPass P (next m)) (same : (m : ℕ) → P m → next' (f m) ≡ map f (next m)) where
      spread-map : (fuel : ℕ) (done todo : List ℕ) → AllPass P done → AllPass P todo → spread next' fuel (map f done) (map f todo) ≡ map f (spread next fuel done todo)
      spread-map zero done todo a b = sym (map-append f done todo)
      spread-map (suc fuel) done [] a b = refl
      spread-map (suc fuel) done (x ∷ todo) a b =
          let p = pass_head x todo b in
          let new : List ℕ = fresh_of (done ++ x ∷ todo) (next x) in
          let whole = pass_append done (x ∷ todo) a b in
          let front : map f done ++ f x ∷ [] ≡ map f (done ++ x ∷ []) = sym (map-append f done (x ∷ [])) in
          let seen : map f done ++ f x ∷ map f todo ≡ map f (done ++ x ∷ todo) = sym (map-append f done (x ∷ todo)) in
          let fresh : fresh_of (map f done ++ f x ∷ map f todo) (next' (f x)) ≡ map f new = (λ i. fresh_of (seen i) (same x p i)) ∙ fresh_of-map (done ++ x ∷ todo) (next x) whole (keeps x p) in
          let back : map f todo ++ fresh_of (map f done ++ f x ∷ map f todo) (next' (f x)) ≡ map f (todo ++ new) = ap (λ ys. map f todo ++ ys) fresh ∙ sym (map-append f todo new) in
          (λ i. spread next' fuel (front i) (back i))
          ∙ spread-map fuel (done ++ x ∷ []) (todo ++ new)
          (pass_append done (x ∷ []) a (pass_cons x [] p (λ q h. has_none q h)))
          (pass_append todo new (pass_tail x todo b) (pass_fresh (done ++ x ∷ todo) (next x) (keeps x p)))

      -- the names of what is reached, each by its other name
      pub reached_list-map : (fuel : ℕ) (start : List ℕ) → AllPass P start → reached_list next' fuel (map f start) ≡ map f (reached_list next fuel start)
      reached_list-map fuel start all =
          ap (spread next' fuel []) (fresh_of-map [] start (λ q h. has_none q h) all)
          ∙ spread-map fuel [] (fresh_of [] start) (λ q h. has_none q h) (pass_fresh [] start all)

    -- where a name stands in the list
    pub position_or_len-map : (xs : List ℕ) (x : ℕ) → AllPass P xs → P x → position_or_len (nat_eq (f x)) (map f xs) ≡ position_or_len (nat_eq x) xs
    position_or_len-map [] x all p = refl
    position_or_len-map (y ∷ xs) x all p =
        let here = same_test x y p (pass_head y xs all) in
        let rest = position_or_len-map xs x (pass_tail y xs all) p in
        λ i. cond (not (here i)) (1 + rest i) 0

module _ (next : ℕ → List ℕ) where
  -- fuel that was not used up makes no difference
  spread-fuel : (a b : ℕ) (done todo : List ℕ) → a ≤ b → length (spread next a done todo) ≤ length done + a → spread next b done todo ≡ spread next a done todo
  spread-fuel zero b done [] le short = spread_end next b done ∙ sym (append-nil done)
  spread-fuel zero b done (x ∷ todo) le short = absurd (omega (arith, short, length-append done (x ∷ todo)))
  spread-fuel (suc a) zero done todo le short = absurd (omega arith)
  spread-fuel (suc a) (suc b) done [] le short = refl
  spread-fuel (suc a) (suc b) done (x ∷ todo) le short =
      spread-fuel a b (done ++ x ∷ []) (todo ++ fresh_of (done ++ x ∷ todo) (next x)) (omega arith) (omega (arith, short, length-append done (x ∷ [])))

  -- fuel for each of the names that start and steps stay within is enough
  pub reached_list-fuel : (start names : List ℕ) (a b : ℕ) → ((k : ℕ) → has start k ≡ true → has names k ≡ true) → ((m k : ℕ) → has names m ≡ true → has (next m) k ≡ true → has names k ≡ true) → length names ≤ a → a ≤ b → reached_list next b start ≡ reached_list next a start
  reached_list-fuel start names a b started inside enough le =
      let lists : ListsReached next start (reached_list next a start) = reached_list_exact next start names a started inside enough in
      let within = pass_reached (λ q. has names q ≡ true) next (λ m p k h. inside m k p h) a start started in
      let short : length (reached_list next a start) ≤ length names = length-le_from_is_member nat_eq_equiv (reached_list next a start) names lists.distinct within in
      spread-fuel a b [] (fresh_of [] start) le (omega (arith, short))
