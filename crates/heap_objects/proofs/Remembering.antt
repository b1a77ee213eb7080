-- The objects with a pointer to a younger one, counted a step at a time.
use Rattle.std.proofs.Common.{◌≡◌, ℕ, zero, suc, ◌+◌, ◌<◌, Bool, true, false, cond, List, [], ◌∷◌, ◌++◌, map, length, take, get_or, Option, Some, None, refl, ap, ◌∙◌, arith}
use Rattle.std.proofs.lemmas.Bool.{or_left, or_right}
use Rattle.std.proofs.lemmas.Bool.Decides.{nat_tests}
use Rattle.std.proofs.lemmas.List.{map-append, take_more}
use Rattle.std.proofs.lemmas.List.Sums.{sum_by-cons, sum_by-append}
use Rattle.std.specs.Prelude.{nat_lt, slice_get, count_by, option_and_then}
use Rattle.std.specs.List.{list_any}
use Rattle.std.specs.Option.{option_map, option_map_or}
use Rattle.model.specs.Graph.{Object}
use Rattle.model.specs.Census.{points_to, points_younger}
use Rattle.layout.specs.Object.{Raw, raw_size}
use Rattle.layout.specs.Place.{small_word}
use Rattle.block_pool.specs.BlockValue.{BlockValue}
use Rattle.steps.specs.BlockObjects.{object_of, objects_from, block_objects}
use Rattle.steps.proofs.Values.{values_of}
use Rattle.nursery.specs.Table.{slot_objects, table_objects}
use Rattle.heap_objects.proofs.FieldSlots.{length-entries, entry_is, table-more}
use Rattle.nursery.proofs.TableCensus.{values_of-append}
use Rattle.std.proofs.lemmas.List.Folds.{list_any-append}

abbrev pub is_below : ℕ → Option ℕ → Bool
is_below bound generation = option_map_or (λ h. nat_lt h bound) generation false

pub points-below : (object : ℕ → Option Object) (bound : ℕ) (pointer : Option ℕ) → is_below bound (option_map (λ o. o.generation) (option_and_then object pointer)) ≡ points_to (λ target. nat_lt target.generation bound) object pointer
points-below object bound None = refl
points-below object bound (Some name) = go (object name)
  where
    go : (o : Option Object) → is_below bound (option_map (λ x. x.generation) o) ≡ option_map_or (λ target. nat_lt target.generation bound) o false
    go None = refl
    go (Some o) = refl

module _ {X : Type 0} (test : X → Bool) (f : ℕ → X) where
  pub any-more : (xs : List ℕ) (i d : ℕ) → i < length xs → list_any test (map f (take i xs)) ≡ false → test (f (get_or xs i d)) ≡ false → list_any test (map f (take (i + 1) xs)) ≡ false
  any-more xs i d lt none here =
      ap (λ ys. list_any test (map f ys)) (take_more xs i d lt)
      ∙ ap (list_any test) (map-append f (take i xs) (get_or xs i d ∷ []))
      ∙ list_any-append test (map f (take i xs)) (f (get_or xs i d) ∷ [])
      ∙ rw (none, here) refl

  pub any-here : (xs : List ℕ) (i d : ℕ) → i < length xs → test (f (get_or xs i d)) ≡ true → list_any test (map f xs) ≡ true
  any-here [] i d lt is = absurd (omega arith)
  any-here (x ∷ xs) zero d lt is = or_left _ _ is
  any-here (x ∷ xs) (suc i) d lt is = or_right _ _ (any-here xs i d (omega arith) is)

count-cons : (p : Object → Bool) (o : Object) (os : List Object) → count_by p (o ∷ os) ≡ cond (p o) 1 0 + count_by p os
count-cons p o os = sum_by-cons (λ x. cond (p x) 1 0) o os

count-append : (p : Object → Bool) (xs ys : List Object) → count_by p (xs ++ ys) ≡ count_by p xs + count_by p ys
count-append p xs ys = sum_by-append (λ x. cond (p x) 1 0) xs ys

-- one more object of a block
pub count-more : (p : Object → Bool) (number : ℕ) (block : BlockValue) (k : ℕ) (raw : Raw) (b : Bool) → slice_get block.objects k ≡ Some raw → k < length block.objects → p (object_of block.generation block.step raw) ≡ b
    → count_by p (values_of (take (k + 1) (block_objects number block))) ≡ count_by p (values_of (take k (block_objects number block))) + cond b 1 0
count-more p number block k raw b is lt test =
    let es = block_objects number block in
    let none : ℕ × Object = (0, object_of 0 0 raw) in
    let in_range : k < length es = omega (arith, lt, length-entries (small_word number 0) block.generation block.step block.objects) in
    ap (λ xs. count_by p (values_of xs)) (take_more es k none in_range)
    ∙ ap (count_by p) (values_of-append (take k es) (get_or es k none ∷ []))
    ∙ count-append p (values_of (take k es)) ((get_or es k none).1 ∷ [])
    ∙ ap (λ n. count_by p (values_of (take k es)) + n) (one (get_or es k none).1 (ap (λ (e : ℕ × Object). p e.1) (entry_is (small_word number 0) block.generation block.step block.objects k raw none is) ∙ test))
  where
    one : (o : Object) → p o ≡ b → count_by p (o ∷ []) ≡ cond b 1 0
    one o e = count-cons p o [] ∙ ap (λ t. cond t 1 0 + 0) e ∙ plain (cond b 1 0)
      where
        plain : (n : ℕ) → n + 0 ≡ n
        plain n = omega arith

-- one more block
pub count-blocks_more : (p : Object → Bool) (table : List (Option BlockValue)) (n : ℕ) → n < length table → count_by p (values_of (table_objects 0 (take (n + 1) table))) ≡ count_by p (values_of (table_objects 0 (take n table))) + count_by p (values_of (slot_objects n (get_or table n None)))
count-blocks_more p table n lt =
    let none : 0 + n ≡ n = omega arith in
    ap (λ es. count_by p (values_of es)) (table-more 0 table n lt ∙ ap (λ m. table_objects 0 (take n table) ++ slot_objects m (get_or table n None)) none)
    ∙ ap (count_by p) (values_of-append (table_objects 0 (take n table)) (slot_objects n (get_or table n None)))
    ∙ count-append p (values_of (table_objects 0 (take n table))) (values_of (slot_objects n (get_or table n None)))

-- no object is younger than one of generation 0
points-none : (object : ℕ → Option Object) (pointers : List (Option ℕ)) → list_any (points_to (λ target. nat_lt target.generation 0) object) pointers ≡ false
points-none object [] = refl
points-none object (None ∷ pointers) = points-none object pointers
points-none object (Some name ∷ pointers) = rw (none (object name)) (points-none object pointers)
  where
    none : (o : Option Object) → option_map_or (λ target. nat_lt target.generation 0) o false ≡ false
    none None = refl
    none (Some o) = grind (arith, nat_tests)

none_from : (object : ℕ → Option Object) (word h s : ℕ) (raws : List Raw) → h ≡ 0 → count_by (points_younger object) (values_of (objects_from word h s raws)) ≡ 0
none_from object word h s [] first = refl
none_from object word h s (r ∷ raws) first =
    let here : points_younger object (object_of h s r) ≡ false = ap (λ n. list_any (points_to (λ target. nat_lt target.generation n) object) (object_of h s r).pointers) first ∙ points-none object (object_of h s r).pointers in
    count-cons (points_younger object) (object_of h s r) (values_of (objects_from (word + raw_size r) h s raws))
    ∙ ap (λ t. cond t 1 0 + count_by (points_younger object) (values_of (objects_from (word + raw_size r) h s raws))) here
    ∙ omega (arith, none_from object (word + raw_size r) h s raws first)

pub none_younger : (object : ℕ → Option Object) (number : ℕ) (block : BlockValue) → block.generation ≡ 0 → count_by (points_younger object) (values_of (block_objects number block)) ≡ 0
none_younger object number block first = none_from object (small_word number 0) block.generation block.step block.objects first
