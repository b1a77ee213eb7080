-- The objects of a heap's blocks, block by block.
use Rattle.std.proofs.Common.{◌≡◌, ℕ, zero, suc, ◌+◌, ◌/◌, ◌≤◌, Bool, true, false, cond, List, [], ◌∷◌, ◌++◌, length, map, Option, Some, None, sum_by, replicate, refl, sym, ap, subst, ◌∙◌, arith, length-append}
use Rattle.std.proofs.lemmas.List.Sums.{sum_by-cons, sum_by-append}
use Rattle.std.specs.Ordering.{nat_cmp, eq_by_cmp}
use Rattle.std.specs.FinMap.{find, get}
use Rattle.model.specs.Graph.{Object, size_of}
use Rattle.model.specs.Config.{Config}
use Rattle.model.specs.Destination.{IsStep}
use Rattle.steps.specs.ConfigRange.{IsInRange}
use Rattle.layout.specs.Object.{Raw, raw_size}
use Rattle.layout.specs.Place.{small_word}
use Rattle.block_pool.specs.BlockValue.{BlockValue, words_of}
use Rattle.std.proofs.lemmas.List.{length-map}
use Rattle.steps.proofs.Values.{values_of}
use Rattle.steps.specs.Words.{target_of_word}
use Rattle.steps.specs.BlockObjects.{object_of, objects_from}
use Rattle.nursery.specs.Table.{slot_at, slot_objects, table_objects, slot_len, slot_words, AreSmall, IsHeapBlock, AreHeapBlocks, objects_map}
use Rattle.nursery.proofs.TableLemmas.{SlotFits, TableFits}
use Rattle.nursery.proofs.TableMap.{get-objects_map}

pub map-nil : (n : ℕ) → map target_of_word (replicate n 0) ≡ replicate n None
map-nil zero = refl
map-nil (suc n) = ap (λ xs. None ∷ xs) (map-nil n)

pub AreHeapBlocks-rest : (config : Config) (number : ℕ) (slot : Option BlockValue) (table : List (Option BlockValue)) → AreHeapBlocks config number (slot ∷ table) → AreHeapBlocks config (number + 1) table
AreHeapBlocks-rest config number slot table h = λ n block is.
    let next : number + suc n ≡ number + 1 + n = omega arith in
    let found : IsHeapBlock config (number + suc n) block = h (suc n) block is in
    rw next at found

pub AreHeapBlocks-first : (config : Config) (number : ℕ) (slot : Option BlockValue) (table : List (Option BlockValue)) → AreHeapBlocks config number (slot ∷ table) → (block : BlockValue) → slot ≡ Some block → IsHeapBlock config number block
AreHeapBlocks-first config number slot table h block is =
    let none : number + 0 ≡ number = omega arith in
    let found : IsHeapBlock config (number + 0) block = h 0 block is in
    rw none at found

-- the blocks of a heap have at most 512 words
pub blocks-fit : (config : Config) (number : ℕ) (table : List (Option BlockValue)) → IsInRange config → AreHeapBlocks config number table → TableFits table
blocks-fit config number table range blocks n = go (slot_at table n) refl
  where
    go : (slot : Option BlockValue) → slot_at table n ≡ slot → SlotFits slot
    go None is = tt
    go (Some block) is = omega (arith, (blocks n block is).fits, range.most_words)

pub values_of-append : (xs ys : List (ℕ × Object)) → values_of (xs ++ ys) ≡ values_of xs ++ values_of ys
values_of-append [] ys = refl
values_of-append (x ∷ xs) ys = ap (λ ns. x.1 ∷ ns) (values_of-append xs ys)

-- an object of a heap: small, and at one of its steps
abbrev pub IsHeapObject : Config → Object → Type 0
IsHeapObject config o = IsStep config.shape (o.generation, o.step) × (size_of o ≤ config.block_words / 4)

abbrev AreHeapObjects : Config → List (ℕ × Object) → Type 0
AreHeapObjects config [] = Unit {0}
AreHeapObjects config (e ∷ es) = IsHeapObject config e.1 × AreHeapObjects config es

AreHeapObjects-append : (config : Config) (xs ys : List (ℕ × Object)) → AreHeapObjects config xs → AreHeapObjects config ys → AreHeapObjects config (xs ++ ys)
AreHeapObjects-append config [] ys p q = q
AreHeapObjects-append config (x ∷ xs) ys p q = (p.0, AreHeapObjects-append config xs ys p.1 q)

find-heap_object : (config : Config) (q : ℕ) (es : List (ℕ × Object)) (o : Object) → AreHeapObjects config es → find nat_cmp q es ≡ Some o → IsHeapObject config o
find-heap_object config q [] o all is = absurd (cc)
find-heap_object config q (x ∷ es) o all is = go (eq_by_cmp nat_cmp q x.0) is (find-heap_object config q es o all.1)
  where
    go : (b : Bool) → cond b (Some x.1) (find nat_cmp q es) ≡ Some o → (find nat_cmp q es ≡ Some o → IsHeapObject config o) → IsHeapObject config o
    go true e rest = let same : x.1 ≡ o = cc in subst (IsHeapObject config) same all.0
    go false e rest = rest e

objects_from-sound : (config : Config) (word g s : ℕ) (raws : List Raw) → IsStep config.shape (g, s) → AreSmall config.block_words raws → AreHeapObjects config (objects_from word g s raws)
objects_from-sound config word g s [] step h = tt
objects_from-sound config word g s (r ∷ raws) step h =
    let same : size_of (object_of g s r) ≡ raw_size r = omega (arith, length-map r.pointers target_of_word) in
    ((step, omega (arith, same, h.0)), objects_from-sound config (word + raw_size r) g s raws step h.1)

slot-sound : (config : Config) (number : ℕ) (slot : Option BlockValue) → ((block : BlockValue) → slot ≡ Some block → IsHeapBlock config number block) → AreHeapObjects config (slot_objects number slot)
slot-sound config number None h = tt
slot-sound config number (Some block) h =
    let is : IsHeapBlock config number block = h block refl in
    objects_from-sound config (small_word number 0) block.generation block.step block.objects is.step is.objects

all-sound : (config : Config) (number : ℕ) (table : List (Option BlockValue)) → AreHeapBlocks config number table → AreHeapObjects config (table_objects number table)
all-sound config number [] h = tt
all-sound config number (slot ∷ table) h =
    AreHeapObjects-append config (slot_objects number slot) (table_objects (number + 1) table)
    (slot-sound config number slot (AreHeapBlocks-first config number slot table h))
    (all-sound config (number + 1) table (AreHeapBlocks-rest config number slot table h))

-- each object of the blocks is small, and stands at a step of the shape
pub table-sound : (config : Config) (table : List (Option BlockValue)) → AreHeapBlocks config 0 table → TableFits table → (name : ℕ) (o : Object) → get (objects_map table) name ≡ Some o → IsStep config.shape (o.generation, o.step) × (size_of o ≤ config.block_words / 4)
table-sound config table blocks fits name o is = find-heap_object config name (table_objects 0 table) o (all-sound config 0 table blocks) (sym (get-objects_map table name) ∙ is)

-- how many, and how many words
length-from : (word g s : ℕ) (raws : List Raw) → length (values_of (objects_from word g s raws)) ≡ length raws
length-from word g s [] = refl
length-from word g s (r ∷ raws) = ap suc (length-from (word + raw_size r) g s raws)

words-from : (word g s : ℕ) (raws : List Raw) → sum_by size_of (values_of (objects_from word g s raws)) ≡ words_of raws
words-from word g s [] = refl
words-from word g s (r ∷ raws) =
    let same : size_of (object_of g s r) ≡ raw_size r = omega (arith, length-map r.pointers target_of_word) in
    omega (arith, sum_by-cons size_of (object_of g s r) (values_of (objects_from (word + raw_size r) g s raws)), words-from (word + raw_size r) g s raws, sum_by-cons raw_size r raws)

pub slot_len-values : (number : ℕ) (slot : Option BlockValue) → length (values_of (slot_objects number slot)) ≡ slot_len slot
slot_len-values number None = refl
slot_len-values number (Some block) = length-from (small_word number 0) block.generation block.step block.objects

pub slot_words-values : (number : ℕ) (slot : Option BlockValue) → sum_by size_of (values_of (slot_objects number slot)) ≡ slot_words slot
slot_words-values number None = refl
slot_words-values number (Some block) = words-from (small_word number 0) block.generation block.step block.objects

pub length-values : (number : ℕ) (table : List (Option BlockValue)) → length (values_of (table_objects number table)) ≡ sum_by slot_len table
length-values number [] = refl
length-values number (slot ∷ table) =
    ap length (values_of-append (slot_objects number slot) (table_objects (number + 1) table))
    ∙ omega (arith, length-append (values_of (slot_objects number slot)) (values_of (table_objects (number + 1) table)), slot_len-values number slot, length-values (number + 1) table, sum_by-cons slot_len slot table)

pub words-values : (number : ℕ) (table : List (Option BlockValue)) → sum_by size_of (values_of (table_objects number table)) ≡ sum_by slot_words table
words-values number [] = refl
words-values number (slot ∷ table) =
    ap (sum_by size_of) (values_of-append (slot_objects number slot) (table_objects (number + 1) table))
    ∙ omega (arith, sum_by-append size_of (values_of (slot_objects number slot)) (values_of (table_objects (number + 1) table)), slot_words-values number slot, words-values (number + 1) table, sum_by-cons slot_words slot table)
