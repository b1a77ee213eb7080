-- The blocks of the large objects by place.
use Rattle.std.proofs.Common.{◌≡◌, ◌≢◌, ℕ, zero, suc, ◌+◌, ◌<◌, List, [], ◌∷◌, Option, Some, None, refl, sym, ap, ◌∙◌, arith, ⊎_elim}
use Rattle.std.proofs.lemmas.Bool.{cases_eq}
use Rattle.std.specs.Prelude.{slice_index_or}
use Rattle.std.specs.Option.{option_map}
use Rattle.std.specs.Ordering.{nat_cmp}
use Rattle.std.specs.Cmp.{nat_cmp_total}
use Rattle.std.specs.FinMap.{FinMap, find, get, from_entries, get-from_entries}
use Rattle.model.proofs.NatMap.{find_same, find_other}
use Rattle.model.proofs.Options.{some_not_none}
use Rattle.layout.specs.Place.{large_word}
use Rattle.large_objects.specs.LargeValue.{LargeObject}
use Rattle.heap_objects.specs.Objects.{block_entries}

abbrev pub blocks_map : List (Option LargeObject) → FinMap nat_cmp (List ℕ)
blocks_map slots = from_entries (block_entries 0 slots)

abbrev blocks : LargeObject → List ℕ
blocks o = o.blocks

find-below : (number : ℕ) (slots : List (Option LargeObject)) (q : ℕ) → q < large_word number → find nat_cmp q (block_entries number slots) ≡ None
find-below number [] q lt = refl
find-below number (None ∷ slots) q lt = find-below (number + 1) slots q (omega arith)
find-below number (Some large ∷ slots) q lt =
    let ne : q ≢ large_word number = λ e. absurd (omega arith) in
    find_other q (large_word number) large.blocks (block_entries (number + 1) slots) ne ∙ find-below (number + 1) slots q (omega arith)

find-blocks : (number k : ℕ) (slots : List (Option LargeObject)) → find nat_cmp (large_word (number + k)) (block_entries number slots) ≡ option_map blocks (slice_index_or slots k None)
find-blocks number k [] = refl
find-blocks number zero (None ∷ slots) = find-below (number + 1) slots (large_word (number + 0)) (omega arith)
find-blocks number zero (Some large ∷ slots) =
    let here : large_word (number + 0) ≡ large_word number = omega arith in
    ap (λ w. find nat_cmp w (block_entries number (Some large ∷ slots))) here ∙ find_same (large_word number) large.blocks (block_entries (number + 1) slots)
find-blocks number (suc k) (None ∷ slots) =
    let next : large_word (number + suc k) ≡ large_word (number + 1 + k) = omega arith in
    ap (λ w. find nat_cmp w (block_entries (number + 1) slots)) next ∙ find-blocks (number + 1) k slots
find-blocks number (suc k) (Some large ∷ slots) =
    let next : large_word (number + suc k) ≡ large_word (number + 1 + k) = omega arith in
    let ne : large_word (number + suc k) ≢ large_word number = λ e. absurd (omega (arith, e)) in
    find_other (large_word (number + suc k)) (large_word number) large.blocks (block_entries (number + 1) slots) ne
    ∙ ap (λ w. find nat_cmp w (block_entries (number + 1) slots)) next ∙ find-blocks (number + 1) k slots

pub get-blocks : (slots : List (Option LargeObject)) (n : ℕ) → get (blocks_map slots) (large_word n) ≡ option_map blocks (slice_index_or slots n None)
get-blocks slots n =
    get-from_entries nat_cmp_total (block_entries 0 slots) (large_word n)
    ∙ (let from_0 : large_word n ≡ large_word (0 + n) = omega arith in ap (λ w. find nat_cmp w (block_entries 0 slots)) from_0)
    ∙ find-blocks 0 n slots

pub blocks_below : (slots : List (Option LargeObject)) (q : ℕ) → q < large_word 0 → get (blocks_map slots) q ≡ None
blocks_below slots q lt = get-from_entries nat_cmp_total (block_entries 0 slots) q ∙ find-below 0 slots q lt

-- blocks are those of a large object
pub record FoundBlocks (number q : ℕ) (slots : List (Option LargeObject)) (own : List ℕ) : Type 0 where
  pub k : ℕ
  pub large : LargeObject
  pub word : q ≡ large_word (number + k)
  pub there : slice_index_or slots k None ≡ Some large
  pub is : large.blocks ≡ own

found_from : (number q : ℕ) (slots : List (Option LargeObject)) (own : List ℕ) → find nat_cmp q (block_entries number slots) ≡ Some own → FoundBlocks number q slots own
found_from number q [] own is = absurd (some_not_none (sym is))
found_from number q (None ∷ slots) own is =
    let f = found_from (number + 1) q slots own is in
    record { k = suc f.k; large = f.large; word = omega (arith, f.word); there = f.there; is = f.is }
found_from number q (Some large ∷ slots) own is = ⊎_elim
    (λ (same : q ≡ large_word number).
    let here : Some large.blocks ≡ Some own = sym (find_same q large.blocks (block_entries (number + 1) slots)) ∙ ap (λ w. find nat_cmp q ((w, large.blocks) ∷ block_entries (number + 1) slots)) same ∙ is in
    let blocks_are : large.blocks ≡ own = cc in
    let found : FoundBlocks number q (Some large ∷ slots) own = record { k = 0; large = large; word = omega (arith, same); there = refl; is = blocks_are } in
    found)
    (λ ne.
    let f = found_from (number + 1) q slots own (sym (find_other q (large_word number) large.blocks (block_entries (number + 1) slots) ne) ∙ is) in
    let found : FoundBlocks number q (Some large ∷ slots) own = record { k = suc f.k; large = f.large; word = omega (arith, f.word); there = f.there; is = f.is } in
    found)
    (cases_eq q (large_word number))

pub found_blocks : (slots : List (Option LargeObject)) (q : ℕ) (own : List ℕ) → get (blocks_map slots) q ≡ Some own → FoundBlocks 0 q slots own
found_blocks slots q own is = found_from 0 q slots own (sym (get-from_entries nat_cmp_total (block_entries 0 slots) q) ∙ is)
