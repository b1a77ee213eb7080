-- The roots of a heap as a map.
use Rattle.std.proofs.Common.{◌≡◌, ℕ, zero, suc, ◌+◌, cond, List, [], ◌∷◌, length, get_or, Option, Some, None, refl, sym, ap, ◌∙◌, arith, ⊎_elim}
use Rattle.std.proofs.lemmas.Bool.{cases_eq}
use Rattle.std.specs.Prelude.{is_some, count_by}
use Rattle.std.specs.Option.{option_map}
use Rattle.std.specs.FinMap.{get, insert, remove, entries, from_entries, len, len-entries, get-entries, entries_sorted}
use Rattle.model.proofs.Among.{Among}
use Rattle.model.proofs.OldSlotsExact.{entry_found}
use Rattle.std.proofs.lemmas.List.Sums.{sum_by-cons}
use Rattle.model.specs.Slots.{slots_from}
use Rattle.model.proofs.NatMap.{same_nat_map, get-insert_same, get-insert_other, get-remove_same, get-remove_other}
use Rattle.model.proofs.SlotMap.{slot_at, get-slots}
use Rattle.model.proofs.Rising.{KeysRise, KeysRise-weaker, entries-from_entries}
use Rattle.heap.specs.RootsValue.{Updates}
use Rattle.layout.specs.declared.place.Place.{Place}
use Rattle.layout.specs.Place.{place_word}
use Rattle.heap.specs.Roots.{words_of, roots_map}

slot_at-words : (slots : List (Option Place)) (q : ℕ) → slot_at (words_of slots) q ≡ option_map place_word (get_or slots q None)
slot_at-words [] q = refl
slot_at-words (s ∷ slots) zero = refl
slot_at-words (s ∷ slots) (suc q) = slot_at-words slots q

pub get-roots : (slots : List (Option Place)) (q : ℕ) → get (roots_map slots) q ≡ option_map place_word (get_or slots q None)
get-roots slots q = get-slots (words_of slots) q ∙ slot_at-words slots q

pub roots-insert : (old new : List (Option Place)) (key : ℕ) (place : Place) → Updates old new key (Some place) → roots_map new ≡ insert (roots_map old) key (place_word place)
roots-insert old new key place up =
    same_nat_map _ _ (λ q. get-roots new q ∙ ⊎_elim
    (λ e. rw e (ap (option_map place_word) up.changed ∙ sym (get-insert_same (roots_map old) key (place_word place))))
    (λ ne. ap (option_map place_word) (up.others q ne) ∙ sym (get-insert_other (roots_map old) key (place_word place) q ne ∙ get-roots old q))
    (cases_eq q key))

pub roots-remove : (old new : List (Option Place)) (key : ℕ) → Updates old new key None → roots_map new ≡ remove (roots_map old) key
roots-remove old new key up =
    same_nat_map _ _ (λ q. get-roots new q ∙ ⊎_elim
    (λ e. rw e (ap (option_map place_word) up.changed ∙ sym (get-remove_same (roots_map old) key)))
    (λ ne. ap (option_map place_word) (up.others q ne) ∙ sym (get-remove_other (roots_map old) key q ne ∙ get-roots old q))
    (cases_eq q key))

-- the roots as pairs, by rising number
abbrev pub root_pairs : ℕ → List (Option ℕ) → List (ℕ × ℕ)
root_pairs i [] = []
root_pairs i (None ∷ slots) = root_pairs (i + 1) slots
root_pairs i (Some w ∷ slots) = (i, w) ∷ root_pairs (i + 1) slots

slots-from_entries : (i : ℕ) (slots : List (Option ℕ)) → slots_from i slots ≡ from_entries (root_pairs i slots)
unfolding slots_from
slots-from_entries i [] = refl
slots-from_entries i (None ∷ slots) = slots-from_entries (i + 1) slots
slots-from_entries i (Some w ∷ slots) = ap (λ m. insert m i w) (slots-from_entries (i + 1) slots)

root_pairs-rise : (i : ℕ) (slots : List (Option ℕ)) → KeysRise i (root_pairs i slots)
root_pairs-rise i [] = tt
root_pairs-rise i (None ∷ slots) = KeysRise-weaker i (i + 1) _ (omega arith) (root_pairs-rise (i + 1) slots)
root_pairs-rise i (Some w ∷ slots) = (omega arith, root_pairs-rise (i + 1) slots)

entries-slots : (slots : List (Option ℕ)) → entries (slots_from 0 slots) ≡ root_pairs 0 slots
entries-slots slots = ap entries (slots-from_entries 0 slots) ∙ entries-from_entries 0 (root_pairs 0 slots) (root_pairs-rise 0 slots)

-- the entries of the map are the roots
pub entries-roots : (slots : List (Option Place)) → entries (roots_map slots) ≡ root_pairs 0 (words_of slots)
entries-roots slots = entries-slots (words_of slots)

length-pairs : (i : ℕ) (slots : List (Option Place)) → length (root_pairs i (words_of slots)) ≡ count_by is_some slots
length-pairs i [] = refl
length-pairs i (None ∷ slots) = omega (arith, length-pairs (i + 1) slots, sum_by-cons (λ (s : Option Place). cond (is_some s) 1 0) None slots)
length-pairs i (Some place ∷ slots) = omega (arith, length-pairs (i + 1) slots, sum_by-cons (λ (s : Option Place). cond (is_some s) 1 0) (Some place) slots)

pub len-roots : (slots : List (Option Place)) → len (roots_map slots) ≡ count_by is_some slots
len-roots slots = len-entries (roots_map slots) ∙ ap length (entries-roots slots) ∙ length-pairs 0 slots

-- an entry of the map is what its key finds
pub entry-root : (slots : List (Option Place)) (e : ℕ × ℕ) → Among e (entries (roots_map slots)) → get (roots_map slots) e.0 ≡ Some e.1
entry-root slots e h = get-entries (roots_map slots) e.0 ∙ entry_found (entries (roots_map slots)) e (entries_sorted (roots_map slots)) h
