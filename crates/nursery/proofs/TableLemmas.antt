-- Which block a place's object is in.
use Rattle.std.proofs.Common.{◌≡◌, ℕ, zero, suc, ◌+◌, ◌-◌, ◌/◌, ◌<◌, ◌≤◌, List, [], ◌∷◌, Option, Some, None, sum_by, refl, sym, ◌∙◌, arith, ⊎_elim, ◌⊎◌, inl, inr}
use Rattle.std.proofs.lemmas.Bool.{cases_lt}
use Rattle.std.proofs.lemmas.List.Sums.{sum_by-cons}
use Rattle.std.specs.Ordering.{nat_cmp}
use Rattle.std.specs.FinMap.{find}
use Rattle.model.specs.Graph.{Object}
use Rattle.layout.specs.Object.{Raw, raw_size}
use Rattle.layout.specs.Place.{small_word}
use Rattle.block_pool.specs.BlockValue.{BlockValue, used_of}
use Rattle.steps.specs.BlockObjects.{objects_from, block_objects}
use Rattle.nursery.specs.Table.{slot_at, slot_objects, table_objects}
use Rattle.model.proofs.Options.{some_not_none}
use Rattle.model.proofs.Finds.{KeysWithin, KeysWithin-weaken, find_below, find_above, find_in_first, find_in_second}

-- the objects lie between the first word and the end
pub objects_from-within : (word generation step : ℕ) (raws : List Raw) → KeysWithin word (word + sum_by raw_size raws) (objects_from word generation step raws)
objects_from-within word generation step [] = tt
objects_from-within word generation step (raw ∷ raws) =
    let rest = objects_from-within (word + raw_size raw) generation step raws in
    let all : sum_by raw_size (raw ∷ raws) ≡ raw_size raw + sum_by raw_size raws = sum_by-cons raw_size raw raws in
    (omega arith, omega arith, KeysWithin-weaken (word + raw_size raw) word (word + raw_size raw + sum_by raw_size raws) (word + sum_by raw_size (raw ∷ raws)) (objects_from (word + raw_size raw) generation step raws) (omega arith) (omega arith) rest)

-- a block's objects are at most so many words
abbrev pub SlotFits : Option BlockValue → Type 0
SlotFits None = Unit {0}
SlotFits (Some block) = used_of block ≤ 512

abbrev pub TableFits : List (Option BlockValue) → Type 0
TableFits table = (n : ℕ) → SlotFits (slot_at table n)

pub TableFits-rest : (slot : Option BlockValue) (table : List (Option BlockValue)) → TableFits (slot ∷ table) → TableFits table
TableFits-rest slot table fits = λ n. fits (suc n)

pub slot_objects-within : (number : ℕ) (slot : Option BlockValue) → SlotFits slot → KeysWithin (small_word number 0) (small_word (number + 1) 0) (slot_objects number slot)
slot_objects-within number None fits = tt
slot_objects-within number (Some block) fits =
    KeysWithin-weaken (small_word number 0) (small_word number 0) (small_word number 0 + used_of block) (small_word (number + 1) 0) _ (omega arith) (omega arith) (objects_from-within (small_word number 0) block.generation block.step block.objects)

-- a word below the first block
pub find-table_below : (number : ℕ) (table : List (Option BlockValue)) (q : ℕ) → TableFits table → q < small_word number 0 → find nat_cmp q (table_objects number table) ≡ None
find-table_below number [] q fits lt = refl
find-table_below number (slot ∷ table) q fits lt =
    find_in_second q (slot_objects number slot) (table_objects (number + 1) table) (find_below q _ _ _ (slot_objects-within number slot (fits 0)) lt)
    ∙ find-table_below (number + 1) table q (TableFits-rest slot table fits) (omega arith)

-- a word of the k-th block from the first
pub find-table : (number : ℕ) (table : List (Option BlockValue)) (k q : ℕ) → TableFits table → small_word (number + k) 0 ≤ q → q < small_word (number + k + 1) 0 → find nat_cmp q (table_objects number table) ≡ find nat_cmp q (slot_objects (number + k) (slot_at table k))
find-table number [] k q fits low high = refl
find-table number (slot ∷ table) zero q fits low high =
    let here : number + 0 ≡ number = omega arith in
    rw here (find_in_first q (slot_objects number slot) (table_objects (number + 1) table) (find-table_below (number + 1) table q (TableFits-rest slot table fits) (omega arith)))
find-table number (slot ∷ table) (suc k) q fits low high =
    let next : number + suc k ≡ number + 1 + k = omega arith in
    rw next (
    find_in_second q (slot_objects number slot) (table_objects (number + 1) table) (find_above q _ _ _ (slot_objects-within number slot (fits 0)) (omega arith))
    ∙ find-table (number + 1) table k q (TableFits-rest slot table fits) (omega arith) (omega arith))

-- what the table holds at a word
abbrev pub object_in : List (Option BlockValue) → ℕ → Option Object
object_in table q = find nat_cmp q (table_objects 0 table)

-- the words of a block
pub record IsWordOf (number q : ℕ) : Type 0 where
  pub low : small_word number 0 ≤ q
  pub high : q < small_word (number + 1) 0

pub find-at : (table : List (Option BlockValue)) (n q : ℕ) → TableFits table → IsWordOf n q → object_in table q ≡ find nat_cmp q (slot_objects n (slot_at table n))
find-at table n q fits word =
    let none : 0 + n ≡ n = omega arith in
    rw none at (find-table 0 table n q fits (omega (arith, word.low)) (omega (arith, word.high)))

-- what is found in a block is at one of its words
pub found_word : (number : ℕ) (block : BlockValue) (q : ℕ) (o : Object) → used_of block ≤ 512 → find nat_cmp q (block_objects number block) ≡ Some o → IsWordOf number q
found_word number block q o fits is =
    ⊎_elim
    (λ lt. absurd (some_not_none (sym is ∙ find_below q _ _ _ (slot_objects-within number (Some block) fits) lt)))
    (λ ge. ⊎_elim
    (λ lt. record { low = ge; high = lt })
    (λ above. absurd (some_not_none (sym is ∙ find_above q _ _ _ (slot_objects-within number (Some block) fits) above)))
    (cases_lt q (small_word (number + 1) 0)))
    (cases_lt q (small_word number 0))

-- every word is below the first block, or a word of one
pub word_cases : (q : ℕ) → (q < small_word 0 0) ⊎ ((n : ℕ) × IsWordOf n q)
word_cases q = ⊎_elim (λ lt. inl lt) (λ ge. inr (q / 65536 - 1, record { low = omega arith; high = omega arith })) (cases_lt q 65536)

pub find-first : (table : List (Option BlockValue)) (q : ℕ) → TableFits table → q < small_word 0 0 → object_in table q ≡ None
find-first table q fits lt = find-table_below 0 table q fits lt
