-- Two lists joined place by place, from the back.
use Rattle.std.proofs.Common.{◌≡◌, ◌≢◌, ◌≤◌, ℕ, zero, suc, ◌+◌, ◌<◌, Some, List, [], ◌∷◌, ◌++◌, All, length, map, take, set, get_or, sym, refl, ap, ◌∙◌, subst, ⊎_elim, arith, length-append, option_map}
use Rattle.std.specs.List.{slice_get}
use Rattle.std.proofs.Math.Nat.{eq-or-lt_of_le}
use Rattle.std.proofs.Math.Seq.{take-length}
use Rattle.std.proofs.lemmas.List.{length-map, set-get_or}
use mathlib.Core.Logic.{dite}
use native.Mathlib.Decide.{ℕ_discrete}
use Rattle.std.proofs.lemmas.Option.{slice_get_within, slice_get_read, slice_get-map, get_or_from_slice_get}
use Rattle.pending_queues.proofs.Places.{get-set_here, inside, map-kept, some_at}

abbrev tail : {X : Type 0} → List X → List X
tail [] = []
tail (x ∷ xs) = xs

-- the last of the first elements of a list stands in it
last_there : {X : Type 0} (xs rest : List X) (q : X) (n : ℕ) → rest ++ q ∷ [] ≡ take n xs → slice_get xs (length rest) ≡ Some q
last_there [] [] q zero e = absurd (let l = ap length e in omega arith)
last_there [] [] q (suc n) e = absurd (let l = ap length e in omega arith)
last_there [] (r ∷ rs) q zero e = absurd (let l = ap length e in omega arith)
last_there [] (r ∷ rs) q (suc n) e = absurd (let l = ap length e in omega arith)
last_there (x ∷ xs) [] q zero e = absurd (let l = ap length e in omega arith)
last_there (x ∷ xs) [] q (suc n) e = sym (ap (λ l. slice_get l 0) e)
last_there (x ∷ xs) (r ∷ rs) q zero e = absurd (let l = ap length e in omega arith)
last_there (x ∷ xs) (r ∷ rs) q (suc n) e = last_there xs rs q n (ap tail e)

front_of : {X : Type 0} (xs rest : List X) (q : X) (n : ℕ) → rest ++ q ∷ [] ≡ take n xs → rest ≡ take (length rest) xs
front_of xs [] q n e = refl
front_of [] (r ∷ rs) q zero e = absurd (let l = ap length e in omega arith)
front_of [] (r ∷ rs) q (suc n) e = absurd (let l = ap length e in omega arith)
front_of (x ∷ xs) (r ∷ rs) q zero e = absurd (let l = ap length e in omega arith)
front_of (x ∷ xs) (r ∷ rs) q (suc n) e =
    let head : r ≡ x = ap (λ l. get_or l 0 r) e in let rest : rs ≡ take (length rs) xs = front_of xs rs q n (ap tail e) in (λ i. head i ∷ rest i)

else_set : {X : Type 0} (xs : List X) (i j : ℕ) (v : X) → j ≢ i → slice_get (set xs i v) j ≡ slice_get xs j
else_set [] i j v ne = refl
else_set (x ∷ xs) zero zero v ne = absurd (ne refl)
else_set (x ∷ xs) zero (suc j) v ne = refl
else_set (x ∷ xs) (suc i) zero v ne = refl
else_set (x ∷ xs) (suc i) (suc j) v ne = else_set xs i j v (λ e. ne (ap suc e))

-- what stands at a place has the name that stands there
pub name_there : {V L : Type 0} (f : V → L) (xs : List V) (names : List L) (n : ℕ) (p : V) (l : L) → map f xs ≡ names → slice_get xs n ≡ Some p → l ≡ get_or names n l → f p ≡ l
name_there f xs names n p l is at there =
    let named : slice_get names n ≡ Some (f p) = ap (λ ys. slice_get ys n) (sym is) ∙ slice_get-map f xs n ∙ ap (option_map f) at in
    sym (get_or_from_slice_get names n (f p) l named) ∙ sym there

pub all_there : {X : Type 0} (P : X → Type 0) (xs : List X) (n : ℕ) (p : X) → All P xs → slice_get xs n ≡ Some p → P p
all_there P xs n p h e = subst P (get_or_from_slice_get xs n p p e) (h n p (slice_get_within xs n p e))

module _ {V L : Type 0} (f : V → L) (join : V → V → V) (keeps : (p q : V) → f (join p q) ≡ f p) where
  -- the elements from some place on are joined
  pub record Halfway (names : List L) (old others now rest : List V) : Type 0 where
    pub part : rest ≡ take (length rest) others
    pub named : map f now ≡ names
    pub before : (u : ℕ) (p : V) → u < length rest → slice_get old u ≡ Some p → slice_get now u ≡ Some p
    pub after : (u : ℕ) (p q : V) → length rest ≤ u → slice_get old u ≡ Some p → slice_get others u ≡ Some q → slice_get now u ≡ Some (join p q)

  pub starts : (names : List L) (old others : List V) → map f old ≡ names → Halfway names old others old others
  starts names old others is = record {
    part = sym (take-length others);
    named = is;
    before = λ u p lt e. e;
    after = λ u p q le e h. absurd (let l = slice_get_within others u q h in omega arith);
  }

  -- what stands at the next place
  pub record IsNext (old others now rest : List V) (p q : V) : Type 0 where
    pub old_there : slice_get old (length rest) ≡ Some p
    pub other_there : slice_get others (length rest) ≡ Some q
    pub now_there : slice_get now (length rest) ≡ Some p

  pub stands : (names : List L) (old others now all rest : List V) (p q : V) → map f old ≡ names → map f others ≡ names → Halfway names old others now all → all ≡ rest ++ q ∷ []
      → p ≡ get_or now (length rest) p → IsNext old others now rest p q
  stands names old others now all rest p q names_old names_others h is at =
      let there : slice_get others (length rest) ≡ Some q = last_there others rest q (length all) (sym is ∙ h.part) in
      let inside = slice_get_within others (length rest) q there in
      let m = sym (length-map others f) ∙ ap length (names_others ∙ sym names_old) ∙ length-map old f in
      let n = sym (length-map now f) ∙ ap length (h.named ∙ sym names_old) ∙ length-map old f in
      let o = some_at old (length rest) (omega arith) in
      let k : length all ≡ length rest + 1 = ap length is ∙ length-append rest (q ∷ []) in
      let now_o = h.before (length rest) o.0 (omega arith) o.1 in
      let now_p : slice_get now (length rest) ≡ Some p = slice_get_read now (length now) (length rest) p refl (omega arith) at in
      let same : Some o.0 ≡ Some p = sym now_o ∙ now_p in
      record { old_there = o.1 ∙ same; other_there = there; now_there = now_p }

  -- what stands there after the step
  joined_there : (now rest : List V) (old others : List V) (p q x y : V) (u : ℕ) → IsNext old others now rest p q → length rest ≡ u → slice_get old u ≡ Some x → slice_get others u ≡ Some y
      → slice_get (set now (length rest) (join p q)) u ≡ Some (join x y)
  joined_there now rest old others p q x y u at same e g =
      let ep : p ≡ x = inside p x (sym at.old_there ∙ ap (slice_get old) same ∙ e) in
      let eq : q ≡ y = inside q y (sym at.other_there ∙ ap (slice_get others) same ∙ g) in
      ap (slice_get (set now (length rest) (join p q))) (sym same) ∙ get-set_here now (length rest) p (join p q) at.now_there ∙ (λ i. Some (join (ep i) (eq i)))

  pub next : (names : List L) (old others now all rest : List V) (p q : V) → Halfway names old others now all → all ≡ rest ++ q ∷ [] → IsNext old others now rest p q
      → Halfway names old others (set now (length rest) (join p q)) rest
  next names old others now all rest p q h is at =
      let k : length all ≡ length rest + 1 = ap length is ∙ length-append rest (q ∷ []) in record {
        part = front_of others rest q (length all) (sym is ∙ h.part);
        named = map-kept f now (length rest) p (join p q) at.now_there (keeps p q) ∙ h.named;
        before = λ u x lt e. else_set now (length rest) u (join p q) (λ same. absurd (omega arith)) ∙ h.before u x (omega arith) e;
        after = λ u x y le e g. ⊎_elim
            (λ (same : length rest ≡ u). joined_there now rest old others p q x y u at same e g)
            (λ (more : length rest < u). else_set now (length rest) u (join p q) (λ same. absurd (omega arith)) ∙ h.after u x y (omega arith) e g)
            (eq-or-lt_of_le le);
      }

  -- where nothing is left to join
  pub ends : (names : List L) (old others now rest : List V) → Halfway names old others now rest → rest ≡ []
      → (u : ℕ) (p q : V) → slice_get old u ≡ Some p → slice_get others u ≡ Some q → slice_get now u ≡ Some (join p q)
  ends names old others now rest h none u p q e g = h.after u p q (let l = ap length none in omega arith) e g

-- what holds of each up to a place holds up to the next
pub each_next : {X : Type 0} (P : X → Type 0) (xs : List X) (n : ℕ) (x : X) → ((u : ℕ) (y : X) → u < n → slice_get xs u ≡ Some y → P y) → slice_get xs n ≡ Some x → P x
    → (u : ℕ) (y : X) → u < n + 1 → slice_get xs u ≡ Some y → P y
each_next P xs n x before at here u y lt e =
    dite (ℕ_discrete u n)
    (λ (same : u ≡ n). subst P (inside x y (sym at ∙ ap (slice_get xs) (sym same) ∙ e)) here)
    (λ (ne : u ≢ n). before u y (omega arith) e)

-- one more was settled, and stays as it was
pub settled_next : {X : Type 0} (P : X → Type 0) (old now : List X) (n : ℕ) (x new : X) → now ≡ old → x ≡ get_or now n x → n < length now → new ≡ x → P x
    → ((u : ℕ) (y : X) → u < n → slice_get old u ≡ Some y → P y)
    → (set now n new ≡ old) × ((u : ℕ) (y : X) → u < n + 1 → slice_get old u ≡ Some y → P y)
settled_next P old now n x new same at lt is here before =
    let there : slice_get old n ≡ Some x = ap (λ l. slice_get l n) (sym same) ∙ slice_get_read now (length now) n x refl lt at in
    (ap (set now n) (is ∙ at) ∙ set-get_or now n x ∙ same, each_next P old n x before there here)
