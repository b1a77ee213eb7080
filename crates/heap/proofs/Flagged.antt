-- What the flags of the numbers in use say of the places.
use Rattle.std.proofs.Common.{◌≡◌, ◌≢◌, ℕ, ◌+◌, ◌<◌, ◌≤◌, Result, Ok, Err, count_by, Bool, true, false, List, length, get_or, set, Option, Some, None, is_some, refl, sym, ap, ◌∙◌, ⊎_elim}
use Rattle.std.proofs.lemmas.Bool.{true≢false, cases_eq, cases_lt}
use Rattle.std.proofs.lemmas.List.{get_or_past, get_or-set_same}
use Rattle.std.specs.Prelude.{OnOk}
use Rattle.std.specs.Option.{option_map}
use Rattle.layout.specs.declared.place.Place.{Place}
use Rattle.block_pool.specs.NumberSetsWords.{NoneSetFrom, NoneSetBetween}
use Rattle.heap.specs.RootsValue.{RootsValue, AreFlags, HasRoom, NoneFrom, IsFirstFrom}

unused : (slot : Option Place) → is_some slot ≡ false → slot ≡ None
unused None is = refl
unused (Some place) is = absurd (true≢false is)

module _ (slots : List (Option Place)) (flags : List Bool) (are : AreFlags slots flags) where
  pub none_from : (from : ℕ) → NoneSetFrom flags from → NoneFrom slots from
  none_from from none = λ n le. unused (get_or slots n None) (sym (are n) ∙ none n le)

  pub first_is : (from number : ℕ) (place : Place) → from ≤ number → NoneSetBetween flags from number → get_or slots number None ≡ Some place → IsFirstFrom slots from number place
  first_is from number place le none leads =
      record {
        from_on = le;
        leads = leads;
        lowest = λ n low lt. unused (get_or slots n None) (sym (are n) ∙ none n low lt);
      }

  pub flag_of_root : (number : ℕ) → get_or flags number false ≡ true → get_or slots number None ≡ None → ⊥
  flag_of_root number flag none = true≢false (sym flag ∙ are number ∙ ap is_some none)

  -- where one place and its flag change they still say the same
  pub changed_flags : (slots' : List (Option Place)) (flags' : List Bool) (number : ℕ) (slot : Option Place) → get_or slots' number None ≡ slot → ((n : ℕ) → n ≢ number → get_or slots' n None ≡ get_or slots n None)
      → get_or flags' number false ≡ is_some slot → ((n : ℕ) → n ≢ number → get_or flags' n false ≡ get_or flags n false) → AreFlags slots' flags'
  changed_flags slots' flags' number slot changed others flag others_too =
      λ n. ⊎_elim
      (λ e. rw e (flag ∙ ap is_some (sym changed)))
      (λ ne. others_too n ne ∙ are n ∙ ap is_some (sym (others n ne)))
      (cases_eq n number)

-- a root has a slot
pub number_within : (slots : List (Option Place)) (number : ℕ) (place : Place) → get_or slots number None ≡ Some place → number < length slots
number_within slots number place leads = ⊎_elim
    (λ lt. lt)
    (λ past. absurd (cc (leads, get_or_past slots number None past)))
    (cases_lt number (length slots))

pub has_room : {T E : Type 0} (r : Result T E) (roots : RootsValue) → count_by is_some roots.slots + 1 ≤ roots.capacity → OnOk r (roots.next < roots.numbers) → OnOk r (HasRoom roots)
has_room (Ok x) roots fits flagged = record { fits = fits; flagged = flagged }
has_room (Err e) roots fits flagged = tt

-- a place that is written is there where there was one
pub written : (slots : List (Option Place)) (number : ℕ) (old place : Place) → get_or slots number None ≡ Some old → get_or (set slots number (Some place)) number None ≡ option_map (λ (p : Place). place) (get_or slots number None)
written slots number old place leads =
    get_or-set_same slots number (Some place) None (number_within slots number old leads) ∙ sym (ap (option_map (λ (p : Place). place)) leads)

pub unwritten : (slots : List (Option Place)) (number : ℕ) (place : Place) → get_or slots number None ≡ None → get_or slots number None ≡ option_map (λ (p : Place). place) (get_or slots number None)
unwritten slots number place none = rw none refl
