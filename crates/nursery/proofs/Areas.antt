-- Blocks dropped and put in, by number.
use Rattle.std.proofs.Common.{◌≡◌, ℕ, zero, suc, ◌+◌, ◌<◌, ◌≤◌, Bool, true, false, cond, ◌||◌, ◌&&◌, not, List, [], ◌∷◌, ◌++◌, length, take, set, get_or, Option, None, refl, sym, ap, ◌∙◌, arith, ⊎_elim, get_or-set_other, get_or-set_same}
use Rattle.std.proofs.lemmas.Bool.{cases_eq, true≢false, eq-eqb, ne_eqb}
use Rattle.std.proofs.lemmas.List.{take_more}
use Rattle.std.proofs.lemmas.Map.Views.{list_any-from_Contains, Contains-from_any}
use Rattle.std.specs.Prelude.{nat_eq, nat_lt, Contains}
use Rattle.std.specs.Cmp.{nat_eq_equiv}
use Rattle.std.specs.List.{IsDistinct}
use Rattle.std.proofs.lemmas.Bool.{eqb-true}
use Rattle.model.specs.Reached.{has}
use Rattle.model.proofs.Same.{distinct_absent}
use Rattle.model.proofs.Has.{has-append, has_head, has_tail, has-filter}
use Rattle.block_pool.specs.PoolValue.{insert_rising, without}
use Rattle.nursery.proofs.Installed.{distinct_rest}

pub has-contains : (xs : List ℕ) (q : ℕ) → Contains xs q → has xs q ≡ true
has-contains xs q h = list_any-from_Contains nat_eq_equiv q xs h

pub contains-has : (xs : List ℕ) (q : ℕ) → has xs q ≡ true → Contains xs q
contains-has xs q h = Contains-from_any (λ x y e. eqb-true x y e) q xs h

pub has_at : (xs : List ℕ) (i : ℕ) → i < length xs → has xs (get_or xs i 0) ≡ true
has_at [] i lt = absurd (omega arith)
has_at (x ∷ xs) zero lt = has_head x xs
has_at (x ∷ xs) (suc i) lt = has_tail x xs (get_or xs i 0) (has_at xs i (omega arith))

or_true : (b : Bool) → (b || true) ≡ true
or_true true = refl
or_true false = refl

or_none : (b : Bool) → (b || false) ≡ b
or_none true = refl
or_none false = refl

pub has-push : (xs : List ℕ) (x q : ℕ) → has (xs ++ x ∷ []) q ≡ (has xs q || nat_eq q x)
has-push xs x q = has-append xs (x ∷ []) q ∙ ap (λ b. has xs q || b) (or_none (nat_eq q x))

-- no number stands twice, so one isn't among those before it
pub once_at : (xs : List ℕ) (i : ℕ) → IsDistinct nat_eq xs → i < length xs → has (take i xs) (get_or xs i 0) ≡ false
once_at [] i once lt = absurd (omega arith)
once_at (x ∷ xs) zero once lt = refl
once_at (x ∷ xs) (suc i) once lt =
    let there : has xs (get_or xs i 0) ≡ true = has_at xs i (omega arith) in
    let ne : nat_eq (get_or xs i 0) x ≡ false = ne_eqb (get_or xs i 0) x (λ e. true≢false (sym there ∙ ap (has xs) e ∙ distinct_absent x xs once)) in
    rw ne (once_at xs i (distinct_rest x xs once) (omega arith))

pub has-insert_rising : (x : ℕ) (xs : List ℕ) (q : ℕ) → has (insert_rising x xs) q ≡ (nat_eq q x || has xs q)
has-insert_rising x [] q = refl
has-insert_rising x (y ∷ ys) q = go (nat_lt x y) (has-insert_rising x ys q)
  where
    swap_or : (a b c : Bool) → (b || (a || c)) ≡ (a || (b || c))
    swap_or true true c = refl
    swap_or true false c = refl
    swap_or false b c = refl

    go : (b : Bool) → has (insert_rising x ys) q ≡ (nat_eq q x || has ys q) → has (cond b (x ∷ y ∷ ys) (y ∷ insert_rising x ys)) q ≡ (nat_eq q x || has (y ∷ ys) q)
    go true rest = refl
    go false rest = ap (λ b. nat_eq q y || b) rest ∙ swap_or (nat_eq q x) (nat_eq q y) (has ys q)

pub has-without : (x : ℕ) (xs : List ℕ) (q : ℕ) → has (without x xs) q ≡ (has xs q && not (nat_eq q x))
has-without x xs q = has-filter (λ n. not (nat_eq n x)) xs q

-- a slot is one more of those that were changed, each once
pub give_slot : {X : Type 0} (f : ℕ → Option X → Option X) (old now : List (Option X)) (area : List ℕ) (i : ℕ) → IsDistinct nat_eq area → i < length area → get_or area i 0 < length now → ((n : ℕ) → get_or now n None ≡ cond (has (take i area) n) (f n (get_or old n None)) (get_or old n None)) → (n : ℕ) → get_or (set now (get_or area i 0) (f (get_or area i 0) (get_or now (get_or area i 0) None))) n None ≡ cond (has (take (i + 1) area) n) (f n (get_or old n None)) (get_or old n None)
give_slot {X} f old now area i once lt room so_far n =
    let more : has (take (i + 1) area) n ≡ (has (take i area) n || nat_eq n (get_or area i 0)) = ap (λ xs. has xs n) (take_more area i 0 lt) ∙ has-push (take i area) (get_or area i 0) n in
    let x = get_or area i 0 in
    let before : get_or now x None ≡ get_or old x None = so_far x ∙ ap (λ t. cond t (f x (get_or old x None)) (get_or old x None)) (once_at area i once lt) in
    let both : (b : Bool) → nat_eq n x ≡ b → cond (has (take (i + 1) area) n) (f n (get_or old n None)) (get_or old n None) ≡ cond (has (take i area) n || b) (f n (get_or old n None)) (get_or old n None) = λ b is. ap (λ t. cond t (f n (get_or old n None)) (get_or old n None)) (more ∙ ap (λ t. has (take i area) n || t) is) in
    ⊎_elim
    (λ e. ap (λ m. get_or (set now x (f x (get_or now x None))) m None) e ∙ get_or-set_same now x (f x (get_or now x None)) None room ∙ ap (f x) before ∙ sym (both true (eq-eqb n x e) ∙ ap (λ t. cond t (f n (get_or old n None)) (get_or old n None)) (or_true (has (take i area) n)) ∙ ap (λ m. f m (get_or old m None)) e))
    (λ ne. get_or-set_other now x n (f x (get_or now x None)) None ne ∙ so_far n ∙ sym (both false (ne_eqb n x ne) ∙ ap (λ t. cond t (f n (get_or old n None)) (get_or old n None)) (or_none (has (take i area) n))))
    (cases_eq n x)

-- a number is one more of those that are free, where it passes a test
pub give_free : (p : ℕ → Bool) (before now new area : List ℕ) (i : ℕ) → i < length area → ((n : ℕ) → has new n ≡ ((p (get_or area i 0) && nat_eq n (get_or area i 0)) || has now n)) → ((n : ℕ) → has now n ≡ ((p n && has (take i area) n) || has before n)) → (n : ℕ) → has new n ≡ ((p n && has (take (i + 1) area) n) || has before n)
give_free p before now new area i lt is so_far n =
    let x = get_or area i 0 in
    let more : has (take (i + 1) area) n ≡ (has (take i area) n || nat_eq n x) = ap (λ xs. has xs n) (take_more area i 0 lt) ∙ has-push (take i area) x n in
    is n ∙ ap (λ t. (p x && nat_eq n x) || t) (so_far n) ∙ ⊎_elim
    (λ e. ap (λ t. (p x && t) || ((p n && has (take i area) n) || has before n)) (eq-eqb n x e) ∙ ap (λ m. (p m && true) || ((p n && has (take i area) n) || has before n)) (sym e) ∙ added (p n) (has (take i area) n) (has before n) ∙ sym (ap (λ t. (p n && t) || has before n) (more ∙ ap (λ t. has (take i area) n || t) (eq-eqb n x e))))
    (λ ne. ap (λ t. (p x && t) || ((p n && has (take i area) n) || has before n)) (ne_eqb n x ne) ∙ kept (p x) (p n) (has (take i area) n) (has before n) ∙ sym (ap (λ t. (p n && t) || has before n) (more ∙ ap (λ t. has (take i area) n || t) (ne_eqb n x ne))))
    (cases_eq n x)
  where
    added : (q h b : Bool) → ((q && true) || ((q && h) || b)) ≡ ((q && (h || true)) || b)
    added true true b = refl
    added true false b = refl
    added false h b = refl

    kept : (o q h b : Bool) → ((o && false) || ((q && h) || b)) ≡ ((q && (h || false)) || b)
    kept true true true b = refl
    kept true true false b = refl
    kept true false h b = refl
    kept false true true b = refl
    kept false true false b = refl
    kept false false h b = refl

-- it isn't free before it is given back
pub not_yet_free : (p : ℕ → Bool) (before now area : List ℕ) (i : ℕ) → IsDistinct nat_eq area → i < length area → has before (get_or area i 0) ≡ false → ((n : ℕ) → has now n ≡ ((p n && has (take i area) n) || has before n)) → has now (get_or area i 0) ≡ false
not_yet_free p before now area i once lt absent so_far =
    so_far (get_or area i 0) ∙ ap (λ b. (p (get_or area i 0) && b) || has before (get_or area i 0)) (once_at area i once lt) ∙ ap (λ b. (p (get_or area i 0) && false) || b) absent ∙ neither (p (get_or area i 0))
  where
    neither : (b : Bool) → ((b && false) || false) ≡ false
    neither true = refl
    neither false = refl

pub take-all : (xs : List ℕ) (i : ℕ) → length xs ≤ i → take i xs ≡ xs
take-all [] i le = take_none i
  where
    take_none : (j : ℕ) → take {A = ℕ} j [] ≡ []
    take_none zero = refl
    take_none (suc j) = refl
take-all (x ∷ xs) zero le = absurd (omega arith)
take-all (x ∷ xs) (suc i) le = ap (λ ys. x ∷ ys) (take-all xs i (omega arith))
