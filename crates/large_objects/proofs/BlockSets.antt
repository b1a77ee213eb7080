-- Blocks that are given back, as sets of numbers.
use Rattle.std.proofs.Common.{◌≡◌, ℕ, zero, suc, ◌+◌, ◌<◌, Bool, true, false, cond, ◌||◌, List, [], ◌∷◌, ◌++◌, length, take, get_or, refl, sym, ap, ◌∙◌, arith}
use Rattle.std.proofs.lemmas.Bool.{true≢false, ne_eqb, eqb-true}
use Rattle.std.proofs.lemmas.List.{take_more}
use Rattle.std.proofs.lemmas.Map.Keys.{IsDistinct-tail}
use Rattle.std.proofs.lemmas.Map.Views.{list_any-from_Contains, Contains-from_any}
use Rattle.std.specs.Prelude.{nat_eq, nat_lt, Contains}
use Rattle.std.specs.Cmp.{nat_eq_equiv}
use Rattle.std.specs.List.{IsDistinct}
use Rattle.model.specs.Reached.{has}
use Rattle.model.proofs.Same.{distinct_absent}
use Rattle.model.proofs.Has.{has-append, has_head, has_tail}
use Rattle.block_pool.specs.PoolValue.{insert_rising}

pub has-contains : (xs : List ℕ) (q : ℕ) → Contains xs q → has xs q ≡ true
has-contains xs q h = list_any-from_Contains nat_eq_equiv q xs h

pub contains-has : (xs : List ℕ) (q : ℕ) → has xs q ≡ true → Contains xs q
contains-has xs q h = Contains-from_any (λ x y e. eqb-true x y e) q xs h

pub has_at : (xs : List ℕ) (i : ℕ) → i < length xs → has xs (get_or xs i 0) ≡ true
has_at [] i lt = absurd (omega arith)
has_at (x ∷ xs) zero lt = has_head x xs
has_at (x ∷ xs) (suc i) lt = has_tail x xs (get_or xs i 0) (has_at xs i (omega arith))

or_none : (b : Bool) → (b || false) ≡ b
or_none true = refl
or_none false = refl

has-push : (xs : List ℕ) (x q : ℕ) → has (xs ++ x ∷ []) q ≡ (has xs q || nat_eq q x)
has-push xs x q = has-append xs (x ∷ []) q ∙ ap (λ b. has xs q || b) (or_none (nat_eq q x))

-- no number stands twice, so one isn't among those before it
once_at : (xs : List ℕ) (i : ℕ) → IsDistinct nat_eq xs → i < length xs → has (take i xs) (get_or xs i 0) ≡ false
once_at [] i once lt = absurd (omega arith)
once_at (x ∷ xs) zero once lt = refl
once_at (x ∷ xs) (suc i) once lt =
    let there : has xs (get_or xs i 0) ≡ true = has_at xs i (omega arith) in
    let ne : nat_eq (get_or xs i 0) x ≡ false = ne_eqb (get_or xs i 0) x (λ e. true≢false (sym there ∙ ap (has xs) e ∙ distinct_absent x xs once)) in
    rw ne (once_at xs i (IsDistinct-tail nat_eq x xs once) (omega arith))

has-insert_rising : (x : ℕ) (xs : List ℕ) (q : ℕ) → has (insert_rising x xs) q ≡ (nat_eq q x || has xs q)
has-insert_rising x [] q = refl
has-insert_rising x (y ∷ ys) q = go (nat_lt x y) (has-insert_rising x ys q)
  where
    swap_or : (a b c : Bool) → (b || (a || c)) ≡ (a || (b || c))
    swap_or true true c = refl
    swap_or true false c = refl
    swap_or false b c = refl

    go : (b : Bool) → has (insert_rising x ys) q ≡ (nat_eq q x || has ys q) → has (cond b (x ∷ y ∷ ys) (y ∷ insert_rising x ys)) q ≡ (nat_eq q x || has (y ∷ ys) q)
    go true rest = refl
    go false rest = ap (λ b. nat_eq q y || b) rest ∙ swap_or (nat_eq q x) (nat_eq q y) (has ys q)

module _ (before now blocks : List ℕ) (i : ℕ) (lt : i < length blocks) (so_far : (n : ℕ) → has now n ≡ (has (take i blocks) n || has before n)) where
  -- one more is given back
  pub given_back : (new : List ℕ) → new ≡ insert_rising (get_or blocks i 0) now → (n : ℕ) → has new n ≡ (has (take (i + 1) blocks) n || has before n)
  given_back new is n =
      let more : has (take (i + 1) blocks) n ≡ (has (take i blocks) n || nat_eq n (get_or blocks i 0)) = ap (λ xs. has xs n) (take_more blocks i 0 lt) ∙ has-push (take i blocks) (get_or blocks i 0) n in
      rw (more, is, has-insert_rising (get_or blocks i 0) now n, so_far n) (turned (has (take i blocks) n) (nat_eq n (get_or blocks i 0)) (has before n))
    where
      turned : (a b c : Bool) → (b || (a || c)) ≡ ((a || b) || c)
      turned true true c = refl
      turned true false c = refl
      turned false b c = refl

  -- it isn't free before it is given back
  pub not_yet_free : IsDistinct nat_eq blocks → has before (get_or blocks i 0) ≡ false → ¬ (Contains now (get_or blocks i 0))
  not_yet_free once absent there =
      true≢false (sym (has-contains now (get_or blocks i 0) there) ∙ so_far (get_or blocks i 0) ∙ ap (λ b. b || has before (get_or blocks i 0)) (once_at blocks i once lt) ∙ absent)
