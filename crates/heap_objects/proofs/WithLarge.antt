-- Large objects beside those that stand in blocks.
use Rattle.std.proofs.Common.{◌≡◌, ◌≢◌, ℕ, zero, suc, ◌+◌, ◌<◌, List, [], ◌∷◌, ◌++◌, Option, Some, None, refl, sym, ap, ◌∙◌, arith, ⊎_elim}
use Rattle.std.proofs.lemmas.Bool.{cases_eq}
use Rattle.std.specs.Prelude.{slice_index_or}
use Rattle.std.specs.Option.{option_map}
use Rattle.std.specs.Ordering.{nat_cmp}
use Rattle.std.specs.Cmp.{nat_cmp_total}
use Rattle.std.specs.FinMap.{FinMap, find, get, entries, get-entries, get-from_entries}
use Rattle.model.specs.Graph.{Object}
use Rattle.model.proofs.NatMap.{find_same, find_other, same_nat_map}
use Rattle.model.proofs.Rising.{KeysRise, KeysRise-weaker, KeysRise-append, KeysBelow, entries-from_entries}
use Rattle.model.proofs.Finds.{or_else, find-append}
use Rattle.model.proofs.Options.{some_not_none}
use Rattle.layout.specs.Place.{large_word}
use Rattle.large_objects.specs.LargeValue.{LargeObject}
use Rattle.heap_objects.specs.WithLarge.{large_object, large_entries, with_large}

-- their places rise
pub large_entries-rise : (number : ℕ) (slots : List (Option LargeObject)) → KeysRise (large_word number) (large_entries number slots)
large_entries-rise number [] = tt
large_entries-rise number (None ∷ slots) = KeysRise-weaker (large_word number) (large_word (number + 1)) _ (omega arith) (large_entries-rise (number + 1) slots)
large_entries-rise number (Some large ∷ slots) = (omega arith, KeysRise-weaker (large_word number + 1) (large_word (number + 1)) _ (omega arith) (large_entries-rise (number + 1) slots))

-- none stands below the first
pub find-below_large : (number : ℕ) (slots : List (Option LargeObject)) (q : ℕ) → q < large_word number → find nat_cmp q (large_entries number slots) ≡ None
find-below_large number [] q lt = refl
find-below_large number (None ∷ slots) q lt = find-below_large (number + 1) slots q (omega arith)
find-below_large number (Some large ∷ slots) q lt =
    let ne : q ≢ large_word number = λ e. absurd (omega arith) in
    find_other q (large_word number) (large_object large) (large_entries (number + 1) slots) ne ∙ find-below_large (number + 1) slots q (omega arith)

-- the k-th from the first
pub find-large : (number k : ℕ) (slots : List (Option LargeObject)) → find nat_cmp (large_word (number + k)) (large_entries number slots) ≡ option_map large_object (slice_index_or slots k None)
find-large number k [] = refl
find-large number zero (None ∷ slots) = find-below_large (number + 1) slots (large_word (number + 0)) (omega arith)
find-large number zero (Some large ∷ slots) =
    let here : large_word (number + 0) ≡ large_word number = omega arith in
    ap (λ w. find nat_cmp w (large_entries number (Some large ∷ slots))) here ∙ find_same (large_word number) (large_object large) (large_entries (number + 1) slots)
find-large number (suc k) (None ∷ slots) =
    let next : large_word (number + suc k) ≡ large_word (number + 1 + k) = omega arith in
    ap (λ w. find nat_cmp w (large_entries (number + 1) slots)) next ∙ find-large (number + 1) k slots
find-large number (suc k) (Some large ∷ slots) =
    let next : large_word (number + suc k) ≡ large_word (number + 1 + k) = omega arith in
    let ne : large_word (number + suc k) ≢ large_word number = λ e. absurd (omega (arith, e)) in
    find_other (large_word (number + suc k)) (large_word number) (large_object large) (large_entries (number + 1) slots) ne
    ∙ ap (λ w. find nat_cmp w (large_entries (number + 1) slots)) next ∙ find-large (number + 1) k slots

-- one that is found has a number
pub record FoundLarge (number q : ℕ) (slots : List (Option LargeObject)) (o : Object) : Type 0 where
  pub k : ℕ
  pub large : LargeObject
  pub word : q ≡ large_word (number + k)
  pub there : slice_index_or slots k None ≡ Some large
  pub is : large_object large ≡ o

pub found_large : (number q : ℕ) (slots : List (Option LargeObject)) (o : Object) → find nat_cmp q (large_entries number slots) ≡ Some o → FoundLarge number q slots o
found_large number q [] o is = absurd (some_not_none (sym is))
found_large number q (None ∷ slots) o is = later (found_large (number + 1) q slots o is)
  where
    later : FoundLarge (number + 1) q slots o → FoundLarge number q (None ∷ slots) o
    later f = record { k = suc f.k; large = f.large; word = omega (arith, f.word); there = f.there; is = f.is }
found_large number q (Some large ∷ slots) o is = ⊎_elim
    (λ (same : q ≡ large_word number).
    let here : Some (large_object large) ≡ Some o = sym (find_same q (large_object large) (large_entries (number + 1) slots)) ∙ ap (λ w. find nat_cmp q ((w, large_object large) ∷ large_entries (number + 1) slots)) same ∙ is in
    let object : large_object large ≡ o = cc in
    let found : FoundLarge number q (Some large ∷ slots) o = record { k = 0; large = large; word = omega (arith, same); there = refl; is = object } in
    found)
    (λ ne.
    let f = found_large (number + 1) q slots o (sym (find_other q (large_word number) (large_object large) (large_entries (number + 1) slots) ne) ∙ is) in
    let found : FoundLarge number q (Some large ∷ slots) o = record { k = suc f.k; large = f.large; word = omega (arith, f.word); there = f.there; is = f.is } in
    found)
    (cases_eq q (large_word number))

pub get-with_large : (m : FinMap nat_cmp Object) (slots : List (Option LargeObject)) (q : ℕ) → get (with_large m slots) q ≡ or_else (get m q) (find nat_cmp q (large_entries 0 slots))
get-with_large m slots q =
    get-from_entries nat_cmp_total (entries m ++ large_entries 0 slots) q
    ∙ find-append q (entries m) (large_entries 0 slots)
    ∙ ap (λ o. or_else o (find nat_cmp q (large_entries 0 slots))) (sym (get-entries m q))

or_none : (o : Option Object) → or_else o None ≡ o
or_none None = refl
or_none (Some x) = refl

-- below the places of large objects stands what stands in blocks
pub get-small : (m : FinMap nat_cmp Object) (slots : List (Option LargeObject)) (q : ℕ) → q < large_word 0 → get (with_large m slots) q ≡ get m q
get-small m slots q lt = get-with_large m slots q ∙ ap (or_else (get m q)) (find-below_large 0 slots q lt) ∙ or_none (get m q)

-- and at the place of a large one that one, where nothing in a block stands there
pub get-large : (m : FinMap nat_cmp Object) (slots : List (Option LargeObject)) (n : ℕ) → get m (large_word n) ≡ None → get (with_large m slots) (large_word n) ≡ option_map large_object (slice_index_or slots n None)
get-large m slots n none =
    get-with_large m slots (large_word n)
    ∙ ap (λ o. or_else o (find nat_cmp (large_word n) (large_entries 0 slots))) none
    ∙ ap (λ w. find nat_cmp w (large_entries 0 slots)) from_0
    ∙ find-large 0 n slots
  where
    from_0 : large_word n ≡ large_word (0 + n)
    from_0 = omega arith

-- the entries are those of the blocks, and then the large ones
pub entries-with_large : (m : FinMap nat_cmp Object) (slots : List (Option LargeObject)) → KeysRise 0 (entries m) → KeysBelow (large_word 0) (entries m) → entries (with_large m slots) ≡ entries m ++ large_entries 0 slots
entries-with_large m slots rise below = entries-from_entries 0 (entries m ++ large_entries 0 slots) (KeysRise-append 0 (large_word 0) (entries m) (large_entries 0 slots) (omega arith) rise below (large_entries-rise 0 slots))

none_entries : (number : ℕ) (slots : List (Option LargeObject)) → ((n : ℕ) → slice_index_or slots n None ≡ None) → large_entries number slots ≡ []
none_entries number [] none = refl
none_entries number (None ∷ slots) none = none_entries (number + 1) slots (λ n. none (suc n))
none_entries number (Some large ∷ slots) none = absurd (some_not_none (none 0))

-- where no number is in use there are the objects of the blocks alone
pub with_none : (m : FinMap nat_cmp Object) (slots : List (Option LargeObject)) → ((n : ℕ) → slice_index_or slots n None ≡ None) → with_large m slots ≡ m
with_none m slots none = same_nat_map (with_large m slots) m (λ q. get-with_large m slots q ∙ ap (λ es. or_else (get m q) (find nat_cmp q es)) (none_entries 0 slots none) ∙ or_none (get m q))
