-- Blocks in one list, places that are held, and counts of places.
use Rattle.std.proofs.Common.{◌≡◌, ◌≢◌, ℕ, zero, suc, ◌+◌, ◌<◌, List, [], ◌∷◌, ◌++◌, length, map, Option, Some, None, refl, sym, ap, subst, ◌∙◌, ⊎_elim, arith, Bool, true, false, ◌||◌, nat_eq, eqb-true, eq-eqb, true≢false}
use Rattle.std.proofs.lemmas.Bool.{cases_eq}
use Rattle.std.specs.Prelude.{slice_index_or, IsTrue}
use Rattle.std.specs.Option.{option_map}
use Rattle.model.specs.Destination.{Shape}
use Rattle.layout.specs.Object.{Raw, raw_size}
use Rattle.block_pool.specs.BlockValue.{BlockValue}
use Rattle.forwarding.specs.declared.plain_cells.held.Held.{Held}
use Rattle.forwarding.specs.Plain.{place_of, place_held}
use Rattle.workers.specs.Joined.{Each, OnSome, somes}
use Rattle.scavenge.specs.Named.{named, named_copies}
use Rattle.scavenge.specs.Fronts.{slot_at}
use Rattle.model.specs.Reached.{has}
use Rattle.model.proofs.Has.{has_head, has_tail}
use Rattle.workers.specs.Total.{total, one_if, times}

pub somes-map : (shape : Shape) (slots : List (Option BlockValue)) → map (named shape) (somes slots) ≡ somes (map (option_map (named shape)) slots)
somes-map shape [] = refl
somes-map shape (None ∷ slots) = somes-map shape slots
somes-map shape (Some b ∷ slots) = ap (λ bs. named shape b ∷ bs) (somes-map shape slots)

pub somes_each : (P : BlockValue → Type 0) (slots : List (Option BlockValue)) (done : List BlockValue) → ((d : ℕ) → OnSome P (slot_at slots d)) → Each P done → Each P (somes slots ++ done)
somes_each P [] done h k = k
somes_each P (None ∷ slots) done h k = somes_each P slots done (λ d. h (suc d)) k
somes_each P (Some b ∷ slots) done h k = (h 0, somes_each P slots done (λ d. h (suc d)) k)

pub held_place : (held : List (Option Held)) (n : ℕ) → slice_index_or (map place_of held) n None ≡ place_held held n
held_place [] n = refl
held_place (h ∷ held) zero = refl
held_place (h ∷ held) (suc n) = held_place held n

-- an exported block has as many copies as objects
pub named_length : (number offset : ℕ) (origins : List ℕ) (raws : List Raw) → length origins ≡ length raws → length (named_copies number offset origins raws) ≡ length raws
named_length number offset [] [] e = refl
named_length number offset [] (r ∷ raws) e = absurd (omega (arith, e))
named_length number offset (o ∷ origins) [] e = absurd (omega (arith, e))
named_length number offset (o ∷ origins) (r ∷ raws) e = ap suc (named_length number (offset + raw_size r) origins raws (omega (arith, e)))

pub stands_has : (x : ℕ) (xs : List ℕ) → 0 < times x xs → IsTrue (has xs x)
stands_has x [] l = absurd (omega arith)
stands_has x (y ∷ ys) l = by_test (nat_eq y x) refl (stands_has x ys)
  where
    by_test : (b : Bool) → nat_eq y x ≡ b → (0 < times x ys → has ys x ≡ true) → has (y ∷ ys) x ≡ true
    by_test true e rest = subst (λ z. has (z ∷ ys) x ≡ true) (sym (eqb-true y x e)) (has_head x ys)
    by_test false e rest = let z : one_if (nat_eq y x) ≡ 0 = ap one_if e in has_tail y ys x (rest (omega arith))

pub has_stands : (y : ℕ) (zs : List ℕ) → has zs y ≡ true → 0 < times y zs
has_stands y [] m = absurd (true≢false (sym m))
has_stands y (z ∷ zs) m =
    ⊎_elim
    (λ (p : z ≡ y). let o : one_if (nat_eq z y) ≡ 1 = ap one_if (eq-eqb z y p) in omega arith)
    (λ (n : z ≢ y). let q = has_stands y zs (later n m) in omega arith)
    (cases_eq z y)
  where
    later : z ≢ y → has (z ∷ zs) y ≡ true → has zs y ≡ true
    later n m = go (nat_eq y z) refl m
      where
        go : (b : Bool) → nat_eq y z ≡ b → has (z ∷ zs) y ≡ true → has zs y ≡ true
        go true e m = absurd (n (sym (eqb-true y z e)))
        go false e m = sym (ap (λ t. t || has zs y) e) ∙ m

pub times-places : (place : ℕ) (won : List (ℕ × ℕ)) → times place (map (λ e. e.1) won) ≡ total (λ (q : ℕ × ℕ). one_if (nat_eq q.1 place)) won
times-places place [] = refl
times-places place (e ∷ es) = ap (λ n. one_if (nat_eq e.1 place) + n) (times-places place es)

-- one of those that make a total positive
pub total_some : {A : Type 0} (f : A → ℕ) (P : A → Type 0) (xs : List A) → Each P xs → 0 < total f xs → (x : A) × (P x × (0 < f x))
total_some f P [] h l = absurd (omega arith)
total_some f P (x ∷ xs) h l = go (f x) refl (total_some f P xs h.1)
  where
    go : (n : ℕ) → f x ≡ n → (0 < total f xs → (y : _) × (P y × (0 < f y))) → (y : _) × (P y × (0 < f y))
    go zero e rest = rest (omega arith)
    go (suc n) e rest = (x, (h.0, omega arith))

pub one_if-positive : (b : Bool) → 0 < one_if b → b ≡ true
one_if-positive true h = refl
one_if-positive false h = absurd (omega arith)

pub Each-zip : {A : Type 0} (P Q : A → Type 0) (xs : List A) → Each P xs → Each Q xs → Each (λ x. P x × Q x) xs
Each-zip P Q [] h k = tt
Each-zip P Q (x ∷ xs) h k = ((h.0, k.0), Each-zip P Q xs h.1 k.1)
