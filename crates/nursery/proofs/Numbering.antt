-- The objects of a heap's blocks by number.
use Rattle.std.proofs.Common.{◌≡◌, ℕ, zero, suc, ◌+◌, ◌<◌, ◌≤◌, true, false, cond, List, [], ◌∷◌, ◌++◌, length, take, map, get_or, Option, Some, None, sum_by, refl, sym, ap, ◌∙◌, arith, length-append}
use Rattle.std.proofs.lemmas.Bool.Decides.{nat_tests}
use Rattle.std.proofs.lemmas.List.Sums.{sum_by-cons, sum_by-append}
use Rattle.std.proofs.lemmas.List.{get_or-append-add, get_or_append_left}
use Rattle.std.specs.Prelude.{nat_lt}
use Rattle.model.specs.Graph.{Object}
use Rattle.layout.specs.Object.{Raw, raw_size}
use Rattle.layout.specs.Place.{small_word}
use Rattle.block_pool.specs.BlockValue.{BlockValue, offset_of}
use Rattle.steps.specs.BlockObjects.{objects_from, block_objects}
use Rattle.nursery.specs.Table.{slot_at, slot_objects, table_objects, slot_len, objects_before}
use Rattle.steps.specs.CollectionValue.{rank_below}
use Rattle.model.proofs.Finds.{KeysWithin}
use Rattle.nursery.proofs.TableLemmas.{TableFits, TableFits-rest, slot_objects-within}

abbrev pub names_of : List (ℕ × Object) → List ℕ
names_of es = map (λ e. e.0) es

pub names_of-append : (xs ys : List (ℕ × Object)) → names_of (xs ++ ys) ≡ names_of xs ++ names_of ys
names_of-append [] ys = refl
names_of-append (x ∷ xs) ys = ap (λ ns. x.0 ∷ ns) (names_of-append xs ys)

pub length-objects_from : (word g s : ℕ) (raws : List Raw) → length (names_of (objects_from word g s raws)) ≡ length raws
length-objects_from word g s [] = refl
length-objects_from word g s (r ∷ raws) = ap suc (length-objects_from (word + raw_size r) g s raws)

pub length-slot_objects : (number : ℕ) (slot : Option BlockValue) → length (names_of (slot_objects number slot)) ≡ slot_len slot
length-slot_objects number None = refl
length-slot_objects number (Some block) = length-objects_from (small_word number 0) block.generation block.step block.objects

rank-append : (word : ℕ) (xs ys : List ℕ) → rank_below word (xs ++ ys) ≡ rank_below word xs + rank_below word ys
rank-append word xs ys = sum_by-append (λ n. cond (nat_lt n word) 1 0) xs ys

rank-all : (word low high : ℕ) (es : List (ℕ × Object)) → KeysWithin low high es → high ≤ word → rank_below word (names_of es) ≡ length (names_of es)
rank-all word low high [] within le = refl
rank-all word low high (e ∷ es) within le =
    let below : nat_lt e.0 word ≡ true = grind (arith, nat_tests, within.1) in
    sum_by-cons (λ n. cond (nat_lt n word) 1 0) e.0 (names_of es) ∙ rw below (omega (arith, rank-all word low high es within.2 le))

rank-none : (word low high : ℕ) (es : List (ℕ × Object)) → KeysWithin low high es → word ≤ low → rank_below word (names_of es) ≡ 0
rank-none word low high [] within le = refl
rank-none word low high (e ∷ es) within le =
    let above : nat_lt e.0 word ≡ false = grind (arith, nat_tests, within.0) in
    sum_by-cons (λ n. cond (nat_lt n word) 1 0) e.0 (names_of es) ∙ rw above (omega (arith, rank-none word low high es within.2 le))

rank-table_none : (word number : ℕ) (table : List (Option BlockValue)) → TableFits table → word ≤ small_word number 0 → rank_below word (names_of (table_objects number table)) ≡ 0
rank-table_none word number [] fits le = refl
rank-table_none word number (slot ∷ table) fits le =
    ap (rank_below word) (names_of-append (slot_objects number slot) (table_objects (number + 1) table))
    ∙ rank-append word (names_of (slot_objects number slot)) (names_of (table_objects (number + 1) table))
    ∙ omega (arith, rank-none word _ _ _ (slot_objects-within number slot (fits 0)) le, rank-table_none word (number + 1) table (TableFits-rest slot table fits) (omega arith))

-- the names below a block are those of the blocks before it
pub rank-table : (number : ℕ) (table : List (Option BlockValue)) (b word : ℕ) → TableFits table → word ≡ small_word (number + b) 0 → rank_below word (names_of (table_objects number table)) ≡ objects_before table b
rank-table number [] zero word fits is = refl
rank-table number [] (suc b) word fits is = refl
rank-table number (slot ∷ table) zero word fits is = rank-table_none word number (slot ∷ table) fits (omega arith)
rank-table number (slot ∷ table) (suc b) word fits is =
    ap (rank_below word) (names_of-append (slot_objects number slot) (table_objects (number + 1) table))
    ∙ rank-append word (names_of (slot_objects number slot)) (names_of (table_objects (number + 1) table))
    ∙ omega (arith, rank-all word _ _ _ (slot_objects-within number slot (fits 0)) (omega arith), length-slot_objects number slot, rank-table (number + 1) table b word (TableFits-rest slot table fits) (omega arith), sum_by-cons slot_len slot (take b table))

pub length-table : (number : ℕ) (table : List (Option BlockValue)) → length (names_of (table_objects number table)) ≡ sum_by slot_len table
length-table number [] = refl
length-table number (slot ∷ table) =
    ap length (names_of-append (slot_objects number slot) (table_objects (number + 1) table))
    ∙ omega (arith, length-append (names_of (slot_objects number slot)) (names_of (table_objects (number + 1) table)), length-slot_objects number slot, length-table (number + 1) table, sum_by-cons slot_len slot table)

pub nth-objects_from : (word g s : ℕ) (raws : List Raw) (k : ℕ) → k < length raws → get_or (names_of (objects_from word g s raws)) k 0 ≡ word + offset_of raws k
nth-objects_from word g s [] k lt = absurd (omega arith)
nth-objects_from word g s (r ∷ raws) zero lt = omega arith
nth-objects_from word g s (r ∷ raws) (suc k) lt = nth-objects_from (word + raw_size r) g s raws k (omega arith) ∙ omega (arith, sum_by-cons raw_size r (take k raws))

-- the k-th object of the b-th block
pub nth-table : (number : ℕ) (table : List (Option BlockValue)) (b k : ℕ) (block : BlockValue) → slot_at table b ≡ Some block → k < length block.objects → get_or (names_of (table_objects number table)) (objects_before table b + k) 0 ≡ small_word (number + b) 0 + offset_of block.objects k
nth-table number [] b k block is lt = absurd (cc)
nth-table number (None ∷ table) zero k block is lt = absurd (cc)
nth-table number (Some first ∷ table) zero k block is lt =
    let same : first ≡ block = cc in
    let lt' : k < length first.objects = rw (sym same) at lt in
    let within : k < length (names_of (block_objects number first)) = omega (arith, length-objects_from (small_word number 0) first.generation first.step first.objects) in
    let start : objects_before (Some first ∷ table) 0 + k ≡ k = omega arith in
    ap (λ i. get_or (names_of (table_objects number (Some first ∷ table))) i 0) start
    ∙ ap (λ ns. get_or ns k 0) (names_of-append (block_objects number first) (table_objects (number + 1) table))
    ∙ get_or_append_left (names_of (block_objects number first)) (names_of (table_objects (number + 1) table)) 0 k within
    ∙ nth-objects_from (small_word number 0) first.generation first.step first.objects k lt'
    ∙ ap (λ (x : BlockValue). small_word number 0 + offset_of x.objects k) same
    ∙ omega arith
nth-table number (slot ∷ table) (suc b) k block is lt =
    let before : objects_before (slot ∷ table) (suc b) + k ≡ length (names_of (slot_objects number slot)) + (objects_before table b + k) = omega (arith, sum_by-cons slot_len slot (take b table), length-slot_objects number slot) in
    ap (λ ns. get_or ns (objects_before (slot ∷ table) (suc b) + k) 0) (names_of-append (slot_objects number slot) (table_objects (number + 1) table))
    ∙ ap (λ i. get_or (names_of (slot_objects number slot) ++ names_of (table_objects (number + 1) table)) i 0) before
    ∙ get_or-append-add (names_of (slot_objects number slot)) (names_of (table_objects (number + 1) table)) (objects_before table b + k) 0
    ∙ nth-table (number + 1) table b k block is lt
    ∙ omega arith
