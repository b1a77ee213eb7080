-- The list that `reached_list` computes has what is reached, each once, and nothing else.
use Rattle.std.proofs.Common.{◌≡◌, ℕ, zero, suc, ◌+◌, ◌≤◌, Bool, true, false, List, [], ◌∷◌, ◌++◌, length, refl, sym, subst, ◌∙◌, arith, ◌⊎◌, inl, inr, ⊎_elim, append_assoc, length-append}
use Rattle.std.proofs.lemmas.Bool.{or_left, eq-eqb, cases_Bool, true≢false}
use Rattle.std.proofs.lemmas.List.{append-nil}
use Rattle.std.proofs.lemmas.Map.Keys.{IsDistinct-push}
use Rattle.std.proofs.lemmas.Map.Made.{length-le_from_is_member}
use Rattle.std.specs.Prelude.{nat_eq, if◌then◌else◌}
use Rattle.std.specs.Cmp.{nat_eq_equiv}
use Rattle.std.specs.List.{IsDistinct}
use Rattle.model.specs.Reached.{Reached, first, later, has, fresh_of, spread, reached_list}
pub use Rattle.model.specs.Laws.{IsNext, IsIn}
use Rattle.model.specs.Laws.{ReachedListIsExact}
use Rattle.model.proofs.Has.{has-cons, has_tail, has_left, has_right, has_either}

abbrev In : List ℕ → ℕ → Type 0
In xs q = has xs q ≡ true

in_head : (x : ℕ) (xs : List ℕ) (q : ℕ) → q ≡ x → In (x ∷ xs) q
in_head x xs q e = or_left _ _ (eq-eqb q x e)

-- the members of fresh_of seen ys are those of ys that seen lacks
abbrev picked : ℕ → List ℕ → Bool → List ℕ
picked y rest b = if b then rest else y ∷ rest

fresh_in : (ys seen : List ℕ) (q : ℕ) → In (fresh_of seen ys) q → In ys q
fresh_in [] seen q h = h
fresh_in (y ∷ ys) seen q h = go (has seen y) (λ k. has_tail y ys q (fresh_in ys (y ∷ seen) q k)) h
  where
    go : (b : Bool) → (In (fresh_of (y ∷ seen) ys) q → In (y ∷ ys) q) → In (picked y (fresh_of (y ∷ seen) ys) b) q → In (y ∷ ys) q
    go true rest k = rest k
    go false rest k = ⊎_elim (λ at. in_head y ys q at) (λ r. rest r) (has-cons y _ q k)

fresh_all : (ys seen : List ℕ) (q : ℕ) → In ys q → In seen q ⊎ In (fresh_of seen ys) q
fresh_all [] seen q h = absurd (true≢false (sym h))
fresh_all (y ∷ ys) seen q h = go (has seen y) refl (⊎_elim (λ e. inl (inl e)) (λ r. ⊎_elim (λ s. ⊎_elim (λ e. inl (inl e)) (λ t. inl (inr t)) (has-cons y seen q s)) (λ f. inr f) (fresh_all ys (y ∷ seen) q r)) (has-cons y ys q h))
  where
    go : (b : Bool) → has seen y ≡ b → ((q ≡ y) ⊎ In seen q) ⊎ In (fresh_of (y ∷ seen) ys) q → In seen q ⊎ In (picked y (fresh_of (y ∷ seen) ys) b) q
    go true e (inl (inl at)) = inl (subst (λ x. has seen x ≡ true) (sym at) e)
    go true e (inl (inr s)) = inl s
    go true e (inr f) = inr f
    go false e (inl (inl at)) = inr (in_head y _ q at)
    go false e (inl (inr s)) = inl s
    go false e (inr f) = inr (has_tail y _ q f)

-- what is added is not there before
fresh_distinct : (ys all seen : List ℕ) → IsDistinct nat_eq all → ((q : ℕ) → In all q → In seen q) → IsDistinct nat_eq (all ++ fresh_of seen ys)
fresh_distinct [] all seen d s = subst (IsDistinct nat_eq) (sym (append-nil all)) d
fresh_distinct (y ∷ ys) all seen d s = go (has seen y) refl (λ xs. fresh_distinct ys xs (y ∷ seen))
  where
    go : (b : Bool) → has seen y ≡ b → ((xs : List ℕ) → IsDistinct nat_eq xs → ((q : ℕ) → In xs q → In (y ∷ seen) q) → IsDistinct nat_eq (xs ++ fresh_of (y ∷ seen) ys)) → IsDistinct nat_eq (all ++ picked y (fresh_of (y ∷ seen) ys) b)
    go true e rest = rest all d (λ q h. has_tail y seen q (s q h))
    go false e rest =
        let absent : has all y ≡ false = ⊎_elim (λ t. absurd (true≢false (sym (s y t) ∙ e))) (λ f. f) (cases_Bool (has all y)) in
        let more : IsDistinct nat_eq ((all ++ y ∷ []) ++ fresh_of (y ∷ seen) ys) =
        rest (all ++ y ∷ []) (IsDistinct-push nat_eq_equiv all y d absent)
        (λ q h. ⊎_elim (λ k. has_tail y seen q (s q k)) (λ k. ⊎_elim (λ at. in_head y seen q at) (λ n. absurd (true≢false (sym n))) (has-cons y [] q k)) (has_either all (y ∷ []) q h)) in
        rw append_assoc at more

empty_distinct : IsDistinct nat_eq []
unfolding IsDistinct
empty_distinct = tt

module _ (next : ℕ → List ℕ) where
  -- a property of the members that next keeps holds of all members of the result
  spread_sound : (P : ℕ → Type 0) → ((m k : ℕ) → P m → In (next m) k → P k) → (fuel : ℕ) (done todo : List ℕ) → ((q : ℕ) → In (done ++ todo) q → P q) → (q : ℕ) → In (spread next fuel done todo) q → P q
  spread_sound P keep zero done todo all q h = all q h
  spread_sound P keep (suc fuel) done [] all q h = all q (has_left done [] q h)
  spread_sound P keep (suc fuel) done (x ∷ todo) all q h =
      spread_sound P keep fuel (done ++ x ∷ []) (todo ++ fresh_of (done ++ x ∷ todo) (next x))
      (λ r k. ⊎_elim
      (λ d. ⊎_elim (λ a. all r (has_left done (x ∷ todo) r a)) (λ b. ⊎_elim (λ at. all r (has_right done (x ∷ todo) r (in_head x todo r at))) (λ n. absurd (true≢false (sym n))) (has-cons x [] r b)) (has_either done (x ∷ []) r d))
      (λ t. ⊎_elim
      (λ a. all r (has_right done (x ∷ todo) r (has_tail x todo r a)))
      (λ b. keep x r (all x (has_right done (x ∷ todo) x (in_head x todo x refl))) (fresh_in (next x) (done ++ x ∷ todo) r b))
      (has_either todo _ r t))
      (has_either (done ++ x ∷ []) _ r k))
      q h

  record Whole (before result : List ℕ) : Type 0 where
    kept : (q : ℕ) → In before q → In result q
    closed : (m k : ℕ) → In result m → In (next m) k → In result k
    distinct : IsDistinct nat_eq result

  module _ (all : List ℕ) (inside : (m k : ℕ) → In all m → In (next m) k → In all k) where
    -- with fuel for each member that is not done, the result is whole
    spread_whole : (fuel : ℕ) (done todo : List ℕ) → IsDistinct nat_eq (done ++ todo) → ((q : ℕ) → In (done ++ todo) q → In all q) → ((m k : ℕ) → In done m → In (next m) k → In (done ++ todo) k) → length all ≤ length done + fuel → Whole (done ++ todo) (spread next fuel done todo)
    spread_whole zero done [] d s c l = record { kept = λ q h. h; closed = λ m k h n. c m k (subst (λ xs. In xs m) (append-nil done) h) n; distinct = d }
    spread_whole zero done (x ∷ todo) d s c l =
        let small : length (done ++ x ∷ todo) ≤ length all = length-le_from_is_member nat_eq_equiv (done ++ x ∷ todo) all d s in
        absurd (omega (arith, length-append done (x ∷ todo)))
    spread_whole (suc fuel) done [] d s c l =
        let same : done ++ [] ≡ done = append-nil done in
        record { kept = λ q h. subst (λ xs. In xs q) same h; closed = λ m k h n. subst (λ xs. In xs k) same (c m k h n); distinct = subst (IsDistinct nat_eq) same d }
    spread_whole (suc fuel) done (x ∷ todo) d s c l =
        let new : List ℕ = fresh_of (done ++ x ∷ todo) (next x) in
        let regroup : (done ++ x ∷ []) ++ (todo ++ new) ≡ (done ++ x ∷ todo) ++ new = append_assoc done (x ∷ []) (todo ++ new) ∙ sym (append_assoc done (x ∷ todo) new) in
        let is_x : In all x = s x (has_right done (x ∷ todo) x (in_head x todo x refl)) in
        let rest : Whole ((done ++ x ∷ []) ++ (todo ++ new)) (spread next fuel (done ++ x ∷ []) (todo ++ new)) =
        spread_whole fuel (done ++ x ∷ []) (todo ++ new)
        (subst (IsDistinct nat_eq) (sym regroup) (fresh_distinct (next x) (done ++ x ∷ todo) (done ++ x ∷ todo) d (λ q h. h)))
        (λ q h. ⊎_elim (λ a. s q a) (λ b. inside x q is_x (fresh_in (next x) (done ++ x ∷ todo) q b)) (has_either (done ++ x ∷ todo) new q (subst (λ xs. In xs q) regroup h)))
        (λ m k h n. subst (λ xs. In xs k) (sym regroup) (⊎_elim
        (λ a. has_left (done ++ x ∷ todo) new k (c m k a n))
        (λ b. ⊎_elim
        (λ at. ⊎_elim (λ o. has_left (done ++ x ∷ todo) new k o) (λ f. has_right (done ++ x ∷ todo) new k f) (fresh_all (next x) (done ++ x ∷ todo) k (subst (λ y. In (next y) k) at n)))
        (λ e. absurd (true≢false (sym e)))
        (has-cons x [] m b))
        (has_either done (x ∷ []) m h)))
        (omega (arith, length-append done (x ∷ []))) in
        record {
          kept = λ q h. rest.kept q (subst (λ xs. In xs q) (sym regroup) (has_left (done ++ x ∷ todo) new q h));
          closed = rest.closed;
          distinct = rest.distinct;
        }

  pub reached_list-sound : (fuel : ℕ) (start : List ℕ) (q : ℕ) → has (reached_list next fuel start) q ≡ true → Reached (IsNext next) (IsIn start) q
  reached_list-sound fuel start q h = spread_sound (Reached (IsNext next) (IsIn start)) (λ m k p n. later p n) fuel [] (fresh_of [] start) (λ r k. first (fresh_in start [] r k)) q h

  module _ (all start : List ℕ) (inside : (m k : ℕ) → In all m → In (next m) k → In all k) (started : (q : ℕ) → In start q → In all q) (fuel : ℕ) (enough : length all ≤ fuel) where
    whole : Whole (fresh_of [] start) (reached_list next fuel start)
    whole = spread_whole all inside fuel [] (fresh_of [] start) (fresh_distinct start [] [] empty_distinct (λ q h. h)) (λ q h. started q (fresh_in start [] q h)) (λ m k h n. absurd (true≢false (sym h))) (omega arith)

    pub reached_list-complete : (q : ℕ) → Reached (IsNext next) (IsIn start) q → has (reached_list next fuel start) q ≡ true
    reached_list-complete q (first h) = ⊎_elim (λ e. absurd (true≢false (sym e))) (λ f. whole.kept q f) (fresh_all start [] q h)
    reached_list-complete q (later {m = m} before n) = whole.closed m q (reached_list-complete m before) n

    pub reached_list-distinct : IsDistinct nat_eq (reached_list next fuel start)
    reached_list-distinct = whole.distinct

pub reached_list_exact : ReachedListIsExact
reached_list_exact next start names fuel started inside enough =
    record {
      distinct = reached_list-distinct next names start inside started fuel enough;
      only = reached_list-sound next fuel start;
      all = reached_list-complete next names start inside started fuel enough;
    }
