-- The objects of a heap's blocks as a map.
use Rattle.std.proofs.Common.{◌≡◌, ◌≢◌, ℕ, ◌+◌, ◌<◌, ◌≤◌, List, [], ◌∷◌, ◌++◌, length, set, Option, Some, None, sum_by, refl, sym, ap, ◌∙◌, arith, ⊎_elim, get_or-set_other, get_or-set_same}
use Rattle.std.proofs.lemmas.Bool.{cases_eq}
use Rattle.std.proofs.lemmas.List.Sums.{sum_by-cons}
use Rattle.std.specs.Ordering.{nat_cmp}
use Rattle.std.specs.Cmp.{nat_cmp_total}
use Rattle.std.specs.FinMap.{find, get, insert, entries, get-from_entries}
use Rattle.model.specs.Graph.{Object}
use Rattle.model.proofs.NatMap.{find_same, find_other, same_nat_map, get-insert_same, get-insert_other}
use Rattle.model.proofs.Rising.{KeysRise, KeysBelow, KeysRise-append, KeysRise-weaker, entries-from_entries}
use Rattle.layout.specs.Object.{Raw, raw_size}
use Rattle.layout.specs.Place.{small_word}
use Rattle.block_pool.specs.BlockValue.{BlockValue, used_of}
use Rattle.steps.specs.BlockObjects.{object_of, objects_from, block_objects}
use Rattle.nursery.specs.Table.{slot_at, slot_objects, table_objects, objects_map, with_more}
use Rattle.model.proofs.Finds.{find-append, or_else, find_above}
use Rattle.nursery.proofs.TableLemmas.{SlotFits, TableFits, TableFits-rest, IsWordOf, find-at, word_cases, find-first, object_in, objects_from-within}

pub get-objects_map : (table : List (Option BlockValue)) (q : ℕ) → get (objects_map table) q ≡ object_in table q
get-objects_map table q = get-from_entries nat_cmp_total (table_objects 0 table) q

-- an object more
pub objects_from-push : (word g s : ℕ) (raws : List Raw) (raw : Raw) → objects_from word g s (raws ++ raw ∷ []) ≡ objects_from word g s raws ++ (word + sum_by raw_size raws, object_of g s raw) ∷ []
objects_from-push word g s [] raw = let none : word + sum_by raw_size [] ≡ word = omega arith in rw none refl
objects_from-push word g s (r ∷ raws) raw =
    let more : word + sum_by raw_size (r ∷ raws) ≡ word + raw_size r + sum_by raw_size raws = omega (arith, sum_by-cons raw_size r raws) in
    rw more (ap (λ es. (word, object_of g s r) ∷ es) (objects_from-push (word + raw_size r) g s raws raw))

-- the places rise
pub objects_from-rise : (word g s : ℕ) (raws : List Raw) → KeysRise word (objects_from word g s raws)
objects_from-rise word g s [] = tt
objects_from-rise word g s (r ∷ raws) = (omega arith, KeysRise-weaker (word + 1) (word + raw_size r) _ (omega arith) (objects_from-rise (word + raw_size r) g s raws))

pub objects_from-below : (word g s high : ℕ) (raws : List Raw) → word + sum_by raw_size raws ≤ high → KeysBelow high (objects_from word g s raws)
objects_from-below word g s high [] h = tt
objects_from-below word g s high (r ∷ raws) h =
    let more : sum_by raw_size (r ∷ raws) ≡ raw_size r + sum_by raw_size raws = sum_by-cons raw_size r raws in
    (omega arith, objects_from-below (word + raw_size r) g s high raws (omega arith))

slot_objects-rise : (number : ℕ) (slot : Option BlockValue) → KeysRise (small_word number 0) (slot_objects number slot)
slot_objects-rise number None = tt
slot_objects-rise number (Some block) = objects_from-rise (small_word number 0) block.generation block.step block.objects

slot_objects-below : (number : ℕ) (slot : Option BlockValue) → SlotFits slot → KeysBelow (small_word (number + 1) 0) (slot_objects number slot)
slot_objects-below number None fits = tt
slot_objects-below number (Some block) fits = objects_from-below (small_word number 0) block.generation block.step _ block.objects (omega arith)

pub table_objects-rise : (number : ℕ) (table : List (Option BlockValue)) → TableFits table → KeysRise (small_word number 0) (table_objects number table)
table_objects-rise number [] fits = tt
table_objects-rise number (slot ∷ table) fits =
    KeysRise-append (small_word number 0) (small_word (number + 1) 0) (slot_objects number slot) (table_objects (number + 1) table) (omega arith)
    (slot_objects-rise number slot) (slot_objects-below number slot (fits 0)) (table_objects-rise (number + 1) table (TableFits-rest slot table fits))

-- the map's entries are the blocks' objects in order
pub entries-objects_map : (table : List (Option BlockValue)) → TableFits table → entries (objects_map table) ≡ table_objects 0 table
entries-objects_map table fits = entries-from_entries (small_word 0 0) (table_objects 0 table) (table_objects-rise 0 table fits)

-- two tables that agree but at one block hold the same at every word of another
pub object_in-set_other : (table : List (Option BlockValue)) (n m q : ℕ) (slot : Option BlockValue) → TableFits table → TableFits (set table n slot) → IsWordOf m q → m ≢ n → object_in (set table n slot) q ≡ object_in table q
object_in-set_other table n m q slot fits fits' word ne =
    find-at (set table n slot) m q fits' word
    ∙ ap (λ s. find nat_cmp q (slot_objects m s)) (get_or-set_other table n m slot None ne)
    ∙ sym (find-at table m q fits word)

pub object_in-set_same : (table : List (Option BlockValue)) (n q : ℕ) (slot : Option BlockValue) → TableFits (set table n slot) → IsWordOf n q → n < length table → object_in (set table n slot) q ≡ find nat_cmp q (slot_objects n slot)
object_in-set_same table n q slot fits' word lt =
    find-at (set table n slot) n q fits' word
    ∙ ap (λ s. find nat_cmp q (slot_objects n s)) (get_or-set_same table n slot None lt)

module _ (table : List (Option BlockValue)) (n : ℕ) (block : BlockValue) (raw : Raw) (fits : TableFits table) (fits' : TableFits (set table n (Some (with_more block raw)))) (lt : n < length table) (here : slot_at table n ≡ Some block) (room : used_of block < 512) where
  abbrev word : ℕ
  word = small_word n 0 + used_of block

  abbrev new_table : List (Option BlockValue)
  new_table = set table n (Some (with_more block raw))

  word_is : IsWordOf n word
  word_is = record { low = omega arith; high = omega arith }

  before_none : find nat_cmp word (block_objects n block) ≡ None
  before_none = find_above word _ _ _ (objects_from-within (small_word n 0) block.generation block.step block.objects) (omega arith)

  -- nothing stood there
  pub pushed_new : get (objects_map table) word ≡ None
  pushed_new = get-objects_map table word ∙ find-at table n word fits word_is ∙ ap (λ s. find nat_cmp word (slot_objects n s)) here ∙ before_none

  after_push : (q : ℕ) → IsWordOf n q → object_in new_table q ≡ or_else (find nat_cmp q (block_objects n block)) (find nat_cmp q ((word, object_of block.generation block.step raw) ∷ []))
  after_push q at =
      object_in-set_same table n q (Some (with_more block raw)) fits' at lt
      ∙ ap (find nat_cmp q) (objects_from-push (small_word n 0) block.generation block.step block.objects raw)
      ∙ find-append q (block_objects n block) ((word, object_of block.generation block.step raw) ∷ [])

  pushed_at : (q : ℕ) → object_in new_table q ≡ get (insert (objects_map table) word (object_of block.generation block.step raw)) q
  pushed_at q =
      ⊎_elim
      (λ first.
      let ne : q ≢ word = λ e. absurd (omega arith) in
      find-first new_table q fits' first ∙ sym (get-insert_other (objects_map table) word _ q ne ∙ get-objects_map table q ∙ find-first table q fits first))
      (λ at. ⊎_elim
      (λ same.
      let own : IsWordOf n q = rw same at at.1 in
      ⊎_elim
      (λ e. rw e (after_push word word_is ∙ ap (λ o. or_else o (find nat_cmp word ((word, object_of block.generation block.step raw) ∷ []))) before_none ∙ find_same word _ [] ∙ sym (get-insert_same (objects_map table) word _)))
      (λ ne. after_push q own ∙ ap (or_else (find nat_cmp q (block_objects n block))) (find_other q word _ [] ne) ∙ or_else_none (find nat_cmp q (block_objects n block))
      ∙ sym (get-insert_other (objects_map table) word _ q ne ∙ get-objects_map table q ∙ find-at table n q fits own ∙ ap (λ s. find nat_cmp q (slot_objects n s)) here))
      (cases_eq q word))
      (λ other.
      let ne : q ≢ word = λ e. absurd (other (apart at.0 (rw e at at.1))) in
      object_in-set_other table n at.0 q (Some (with_more block raw)) fits fits' at.1 other
      ∙ sym (get-insert_other (objects_map table) word _ q ne ∙ get-objects_map table q))
      (cases_eq at.0 n))
      (word_cases q)
    where
      or_else_none : (o : Option Object) → or_else o None ≡ o
      or_else_none None = refl
      or_else_none (Some x) = refl

      apart : (m : ℕ) → IsWordOf m word → m ≡ n
      apart m at = omega (arith, at.low, at.high)

  -- an object pushed is an object more
  pub objects_map-push : objects_map new_table ≡ insert (objects_map table) word (object_of block.generation block.step raw)
  objects_map-push = same_nat_map _ _ (λ q. get-objects_map new_table q ∙ pushed_at q)
