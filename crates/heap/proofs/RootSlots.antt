-- The root slots of a collection.
use Rattle.std.proofs.Common.{◌≡◌, ℕ, zero, suc, ◌+◌, ◌-◌, ◌<◌, List, [], ◌∷◌, ◌++◌, length, drop, get_or, map, Option, Some, None, refl, sym, ap, ◌∙◌, arith, ⊎_elim}
use Rattle.std.proofs.lemmas.Bool.{cases_lt}
use Rattle.std.proofs.lemmas.List.{append_assoc, map-append, get_or-drop, get_or_past, drop-drop}
use Rattle.std.specs.FinMap.{entries}
use Rattle.model.proofs.Options.{some_is, some_not_none}
use Rattle.heap.specs.RootsValue.{NoneFrom, IsFirstFrom}
use Rattle.layout.specs.declared.place.Place.{Place}
use Rattle.layout.specs.Place.{place_word}
use Rattle.steps.specs.CollectionValue.{SlotValue, root_slot}
use Rattle.steps.specs.SlotView.{slot_value}
use Rattle.steps.specs.declared.heap_values.collection.Slot.{Slot}
use Rattle.heap.specs.Roots.{roots_map, words_of}
use Rattle.heap.proofs.RootMap.{entries-roots, root_pairs}

-- the slots of the roots from a number on
abbrev pub slots_left : ℕ → List (Option Place) → List SlotValue
slots_left from slots = map (λ e. root_slot e.0 e.1) (root_pairs from (words_of (drop from slots)))

pub slots_are_all : (slots : List (Option Place)) → slots_left 0 slots ≡ map (λ e. root_slot e.0 e.1) (entries (roots_map slots))
slots_are_all slots = ap (map (λ e. root_slot e.0 e.1)) (sym (entries-roots slots))

pairs_none : (xs : List (Option Place)) (i : ℕ) → ((n : ℕ) → get_or xs n None ≡ None) → root_pairs i (words_of xs) ≡ []
pairs_none [] i none = refl
pairs_none (None ∷ xs) i none = pairs_none xs (i + 1) (λ n. none (suc n))
pairs_none (Some place ∷ xs) i none = absurd (some_not_none (none 0))

pairs_next : (xs : List (Option Place)) (i k : ℕ) (place : Place) → ((n : ℕ) → n < k → get_or xs n None ≡ None) → get_or xs k None ≡ Some place → root_pairs i (words_of xs) ≡ (i + k, place_word place) ∷ root_pairs (suc (i + k)) (words_of (drop (suc k) xs))
pairs_next [] i k place none is = absurd (some_not_none (sym is))
pairs_next (None ∷ xs) i zero place none is = absurd (some_not_none (sym is))
pairs_next (Some other ∷ xs) i zero place none is =
    let same : i ≡ i + 0 = omega arith in
    let next : i + 1 ≡ suc (i + 0) = omega arith in
    ap (λ p. (i, place_word p) ∷ root_pairs (i + 1) (words_of xs)) (some_is is)
    ∙ ap (λ j. (i, place_word place) ∷ root_pairs j (words_of xs)) next
    ∙ ap (λ j. (j, place_word place) ∷ root_pairs (suc (i + 0)) (words_of xs)) same
pairs_next (None ∷ xs) i (suc k) place none is =
    let shift : i + 1 + k ≡ i + suc k = omega arith in
    pairs_next xs (i + 1) k place (λ n lt. none (suc n) (omega (arith, lt))) is
    ∙ ap (λ j. (j, place_word place) ∷ root_pairs (suc j) (words_of (drop (suc k) xs))) shift
pairs_next (Some other ∷ xs) i (suc k) place none is = absurd (some_not_none (none 0 (omega arith)))

pub no_slot_left : (slots : List (Option Place)) (from : ℕ) → NoneFrom slots from → slots_left from slots ≡ []
no_slot_left slots from none =
    ap (map (λ e. root_slot e.0 e.1)) (pairs_none (drop from slots) from (λ n. get_or-drop from slots n None ∙ none (from + n) (omega arith)))

-- the first root is the first of the slots
pub slot_next : (slots : List (Option Place)) (from number : ℕ) (place : Place) → IsFirstFrom slots from number place → slots_left from slots ≡ root_slot number (place_word place) ∷ slots_left (number + 1) slots
slot_next slots from number place first =
    let k : ℕ = number - from in
    let at : from + k ≡ number = omega (arith, first.from_on) in
    let none : (n : ℕ) → n < k → get_or (drop from slots) n None ≡ None = λ n lt. get_or-drop from slots n None ∙ first.lowest (from + n) (omega arith) (omega (arith, lt, at)) in
    let leads : get_or (drop from slots) k None ≡ Some place = get_or-drop from slots k None ∙ ap (λ j. get_or slots j None) at ∙ first.leads in
    let next : suc (from + k) ≡ number + 1 = omega (arith, at) in
    let past : from + suc k ≡ number + 1 = omega (arith, at) in
    let rest : drop (suc k) (drop from slots) ≡ drop (number + 1) slots = drop-drop (suc k) from slots ∙ ap (λ j. drop j slots) past in
    ap (map (λ e. root_slot e.0 e.1)) (
    pairs_next (drop from slots) from k place none leads
    ∙ ap (λ xs. (from + k, place_word place) ∷ root_pairs (suc (from + k)) (words_of xs)) rest
    ∙ ap (λ j. (from + k, place_word place) ∷ root_pairs j (words_of (drop (number + 1) slots))) next
    ∙ ap (λ j. (j, place_word place) ∷ root_pairs (number + 1) (words_of (drop (number + 1) slots))) at)

-- a root has a slot
pub number_within : (slots : List (Option Place)) (from number : ℕ) (place : Place) → IsFirstFrom slots from number place → number < length slots
number_within slots from number place first = ⊎_elim
    (λ lt. lt)
    (λ past. absurd (some_not_none (sym first.leads ∙ get_or_past slots number None past)))
    (cases_lt number (length slots))

pub slots_more : (items : List Slot) (number : ℕ) (place : Place) (slot : Slot) (rest : List SlotValue) → slot_value slot ≡ root_slot number (place_word place) → map slot_value (items ++ slot ∷ []) ++ rest ≡ map slot_value items ++ root_slot number (place_word place) ∷ rest
slots_more items number place slot rest same =
    rw (map-append slot_value items (slot ∷ []), append_assoc (map slot_value items) (slot_value slot ∷ []) rest, same) refl
