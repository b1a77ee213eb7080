-- The slots of fields, of objects and of generations, a step at a time.
use Rattle.std.proofs.Common.{◌≡◌, ℕ, zero, suc, ◌+◌, ◌<◌, Bool, true, false, cond, List, [], ◌∷◌, ◌++◌, map, length, take, get_or, Option, Some, None, refl, sym, ap, ◌∙◌, arith, append_assoc}
use Rattle.std.proofs.lemmas.List.{append-nil, map-append, take_more, length-map, length-take}
use Rattle.std.proofs.lemmas.List.Sums.{sum_by-cons}
use Rattle.std.proofs.lemmas.Grind.{flat_map-append}
use Rattle.std.specs.Prelude.{filter, flat_map, slice_get}
use Rattle.model.specs.Graph.{Graph, Object}
use Rattle.model.specs.Destination.{numbers_from}
use Rattle.model.specs.OldSlots.{Slot, is_young_name, slots_of_fields, slots_of_generation}
use Rattle.layout.specs.Object.{Raw, raw_size}
use Rattle.block_pool.specs.BlockValue.{BlockValue, offset_of}
use Rattle.steps.specs.CollectionValue.{SlotValue, field_slot, field_slot_of}
use Rattle.steps.specs.Words.{target_of_word}
use Rattle.steps.specs.BlockObjects.{object_of, objects_from}
use Rattle.nursery.specs.Table.{slot_objects, table_objects}

abbrev slot_of : ℕ → ℕ → ℕ → Slot
slot_of holder i target = record { holder = holder; field = i; target = target }

-- slots pushed after others
pub pushed_more : (start now new : List SlotValue) (a b c : List Slot) → now ≡ start ++ map field_slot_of a → new ≡ now ++ map field_slot_of b → c ≡ a ++ b → new ≡ start ++ map field_slot_of c
pushed_more start now new a b c so_far step is =
    step ∙ ap (λ xs. xs ++ map field_slot_of b) so_far ∙ append_assoc start (map field_slot_of a) (map field_slot_of b)
    ∙ ap (λ xs. start ++ xs) (sym (map-append field_slot_of a b) ∙ ap (map field_slot_of) (sym is))

pub pushed_none : (start : List SlotValue) (a : List Slot) → a ≡ [] → start ≡ start ++ map field_slot_of a
pushed_none start a is = sym (append-nil start) ∙ ap (λ xs. start ++ map field_slot_of xs) (sym is)

module _ (graph : Graph) (g holder : ℕ) where
  pub fields-append : (i : ℕ) (xs ys : List (Option ℕ)) → slots_of_fields graph g holder i (xs ++ ys) ≡ slots_of_fields graph g holder i xs ++ slots_of_fields graph g holder (i + length xs) ys
  fields-append i [] ys =
      let none : i ≡ i + length {A = Option ℕ} [] = omega arith in
      ap (λ j. slots_of_fields graph g holder j ys) none
  fields-append i (None ∷ xs) ys =
      let next : i + 1 + length xs ≡ i + length (None ∷ xs) = omega arith in
      fields-append (i + 1) xs ys ∙ ap (λ j. slots_of_fields graph g holder (i + 1) xs ++ slots_of_fields graph g holder j ys) next
  fields-append i (Some target ∷ xs) ys =
      let next : i + 1 + length xs ≡ i + length (Some target ∷ xs) = omega arith in
      ap (λ ss. first ++ ss) (fields-append (i + 1) xs ys ∙ ap (λ j. slots_of_fields graph g holder (i + 1) xs ++ slots_of_fields graph g holder j ys) next)
      ∙ sym (append_assoc first (slots_of_fields graph g holder (i + 1) xs) (slots_of_fields graph g holder (i + length (Some target ∷ xs)) ys))
    where
      first : List Slot
      first = map (slot_of holder i) (filter (is_young_name graph g) (target ∷ []))

  -- the field of a pointer to an object of generation at most g, and of another
  field_is : (i target : ℕ) (b : Bool) → is_young_name graph g target ≡ b → slots_of_fields graph g holder i (Some target ∷ []) ≡ cond b (slot_of holder i target ∷ []) []
  field_is i target b is = ap (λ t. map (slot_of holder i) (cond t (target ∷ []) []) ++ []) is ∙ go b
    where
      go : (t : Bool) → map (slot_of holder i) (cond t (target ∷ []) []) ++ [] ≡ cond t (slot_of holder i target ∷ []) []
      go true = refl
      go false = refl

  field_young : (i target : ℕ) (pointer : Option ℕ) → pointer ≡ Some target → is_young_name graph g target ≡ true → slots_of_fields graph g holder i (pointer ∷ []) ≡ slot_of holder i target ∷ []
  field_young i target pointer leads is = ap (λ p. slots_of_fields graph g holder i (p ∷ [])) leads ∙ field_is i target true is

  pub pushed_field : (i target : ℕ) (pointer : Option ℕ) (start : List SlotValue) → pointer ≡ Some target → is_young_name graph g target ≡ true → start ++ field_slot holder i target ∷ [] ≡ start ++ map field_slot_of (slots_of_fields graph g holder i (pointer ∷ []))
  pushed_field i target pointer start leads is = ap (λ ss. start ++ map field_slot_of ss) (sym (field_young i target pointer leads is))

  pub field_older : (i target : ℕ) (pointer : Option ℕ) → pointer ≡ Some target → is_young_name graph g target ≡ false → slots_of_fields graph g holder i (pointer ∷ []) ≡ []
  field_older i target pointer leads is = ap (λ p. slots_of_fields graph g holder i (p ∷ [])) leads ∙ field_is i target false is

  pub field_nil : (i : ℕ) (pointer : Option ℕ) → pointer ≡ None → slots_of_fields graph g holder i (pointer ∷ []) ≡ []
  field_nil i pointer is = ap (λ p. slots_of_fields graph g holder i (p ∷ [])) is

  pub fields-more : (words : List ℕ) (i : ℕ) (d : ℕ) → i < length words → slots_of_fields graph g holder 0 (map target_of_word (take (i + 1) words)) ≡ slots_of_fields graph g holder 0 (map target_of_word (take i words)) ++ slots_of_fields graph g holder i (target_of_word (get_or words i d) ∷ [])
  fields-more words i d lt =
      let count : 0 + length (map target_of_word (take i words)) ≡ i = omega (arith, length-map (take i words) target_of_word, length-take i words) in
      ap (λ ws. slots_of_fields graph g holder 0 (map target_of_word ws)) (take_more words i d lt)
      ∙ ap (slots_of_fields graph g holder 0) (map-append target_of_word (take i words) (get_or words i d ∷ []))
      ∙ fields-append 0 (map target_of_word (take i words)) (target_of_word (get_or words i d) ∷ [])
      ∙ ap (λ j. slots_of_fields graph g holder 0 (map target_of_word (take i words)) ++ slots_of_fields graph g holder j (target_of_word (get_or words i d) ∷ [])) count

-- the k-th object of a block, with its place
pub length-entries : (word g s : ℕ) (raws : List Raw) → length (objects_from word g s raws) ≡ length raws
length-entries word g s [] = refl
length-entries word g s (r ∷ raws) = ap suc (length-entries (word + raw_size r) g s raws)

pub entry_is : (word g s : ℕ) (raws : List Raw) (k : ℕ) (raw : Raw) (d : ℕ × Object) → slice_get raws k ≡ Some raw → get_or (objects_from word g s raws) k d ≡ (word + offset_of raws k, object_of g s raw)
entry_is word g s [] k raw d is = absurd (cc)
entry_is word g s (r ∷ raws) zero raw d is =
    let here : word ≡ word + offset_of (r ∷ raws) 0 = omega arith in
    let same : r ≡ raw = cc in
    λ i. (here i, object_of g s (same i))
entry_is word g s (r ∷ raws) (suc k) raw d is =
    let next : word + raw_size r + offset_of raws k ≡ word + offset_of (r ∷ raws) (suc k) = omega (arith, sum_by-cons raw_size r (take k raws)) in
    entry_is (word + raw_size r) g s raws k raw d is ∙ (λ i. (next i, object_of g s raw))

table-next : (number : ℕ) (table : List (Option BlockValue)) (n : ℕ) → n < length table → table_objects number (take (suc n) table) ≡ table_objects number (take n table) ++ slot_objects (number + n) (get_or table n None)
table-next number [] n lt = absurd (omega arith)
table-next number (slot ∷ table) zero lt =
    let none : number ≡ number + 0 = omega arith in
    append-nil (slot_objects number slot) ∙ ap (λ m. slot_objects m slot) none
table-next number (slot ∷ table) (suc n) lt =
    let next : number + 1 + n ≡ number + suc n = omega arith in
    ap (λ es. slot_objects number slot ++ es) (table-next (number + 1) table n (omega arith) ∙ ap (λ m. table_objects (number + 1) (take n table) ++ slot_objects m (get_or table n None)) next)
    ∙ sym (append_assoc (slot_objects number slot) (table_objects (number + 1) (take n table)) (slot_objects (number + suc n) (get_or table n None)))

-- one more block
pub table-more : (number : ℕ) (table : List (Option BlockValue)) (n : ℕ) → n < length table → table_objects number (take (n + 1) table) ≡ table_objects number (take n table) ++ slot_objects (number + n) (get_or table n None)
table-more number table n lt =
    let next : n + 1 ≡ suc n = omega arith in
    ap (λ m. table_objects number (take m table)) next ∙ table-next number table n lt

numbers-more : (i n : ℕ) → numbers_from i (suc n) ≡ numbers_from i n ++ (i + n) ∷ []
numbers-more i zero = let none : i ≡ i + 0 = omega arith in ap (λ j. j ∷ []) none
numbers-more i (suc n) =
    let next : i + 1 + n ≡ i + suc n = omega arith in
    ap (λ ns. i ∷ ns) (numbers-more (i + 1) n ∙ ap (λ j. numbers_from (i + 1) n ++ j ∷ []) next)

-- one more generation
pub generations-more : (graph : Graph) (g from n m h : ℕ) → m ≡ suc n → h ≡ from + n → flat_map (slots_of_generation graph g) (numbers_from from m) ≡ flat_map (slots_of_generation graph g) (numbers_from from n) ++ slots_of_generation graph g h
generations-more graph g from n m h count is =
    ap (λ k. flat_map (slots_of_generation graph g) (numbers_from from k)) count
    ∙ ap (flat_map (slots_of_generation graph g)) (numbers-more from n)
    ∙ flat_map-append (slots_of_generation graph g) (numbers_from from n) ((from + n) ∷ [])
    ∙ ap (λ ss. flat_map (slots_of_generation graph g) (numbers_from from n) ++ ss) (append-nil (slots_of_generation graph g (from + n)))
    ∙ ap (λ k. flat_map (slots_of_generation graph g) (numbers_from from n) ++ slots_of_generation graph g k) (sym is)
