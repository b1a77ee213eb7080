-- The fields of a set of places after a place was noted, and after one went.
use Rattle.std.proofs.Common.{◌≡◌, ◌≢◌, ℕ, inl, inr, Bool, true, false, List, [], ◌∷◌, ◌++◌, ◌||◌, map, get_or, refl, sym, ap, ◌∙◌, arith}
use Rattle.std.specs.Cmp.{nat_eq_equiv}
use Rattle.std.specs.List.{IsDistinct}
use Rattle.std.specs.List.Sorted.{IsPermutation}
use Rattle.std.proofs.lemmas.Bool.{cases_eq, eq-eqb, ne_eqb, or_left, or_right}
use Rattle.std.proofs.lemmas.List.{map-append}
use Rattle.std.proofs.lemmas.List.Sorted.{IsPermutation-map}
use Rattle.std.proofs.lemmas.Map.Keys.{IsDistinct-push}
use Rattle.layout.specs.declared.place.Place.{Place}
use Rattle.layout.specs.declared.place.Place.TheVariants.{Small, Large}
use Rattle.layout.specs.Place.{place_word}
use Rattle.layout.proofs.Pointers.{place_word-one_to_one}
use Rattle.model.specs.Reached.{has}
use Rattle.model.proofs.Has.{has-append}
use Rattle.remembered_set.specs.Marks.{mark_of, IsPlaceSet}
use Rattle.remembered_set.proofs.MemberLists.{IsWithout, is_without}

pub mark_of-one_to_one : (x y : Place) → mark_of x ≡ mark_of y → place_word x ≡ place_word y
mark_of-one_to_one (Small x) (Small y) e = omega (arith, x.offset_in_range, y.offset_in_range)
mark_of-one_to_one (Small x) (Large y) e = absurd (omega (arith, x.offset_in_range))
mark_of-one_to_one (Large x) (Small y) e = absurd (omega (arith, y.offset_in_range))
mark_of-one_to_one (Large x) (Large y) e = omega arith

pub no_places : (flags : List Bool) → flags ≡ [] → IsPlaceSet [] flags
unfolding IsDistinct
no_places flags e =
    record {
      once = tt;
      marked = λ place. ap (λ bs. get_or bs (mark_of place) false) e;
    }

-- one more place
pub noted_places : (xs : List Place) (ps qs : List Bool) (x : Place) → IsPlaceSet xs ps → get_or ps (mark_of x) false ≡ false → get_or qs (mark_of x) false ≡ true → ((k : ℕ) → k ≢ mark_of x → get_or qs k false ≡ get_or ps k false) → IsPlaceSet (xs ++ x ∷ []) qs
noted_places xs ps qs x s off on same =
    let ws : List ℕ = map place_word xs in
    let more : map place_word (xs ++ x ∷ []) ≡ ws ++ place_word x ∷ [] = map-append place_word xs (x ∷ []) in
    let absent : has ws (place_word x) ≡ false = sym (s.marked x) ∙ off in
    record {
      once = rw more (IsDistinct-push nat_eq_equiv ws (place_word x) s.once absent);
      marked =
          λ place.
          rw (more, has-append ws (place_word x ∷ []) (place_word place)) (
          elim (cases_eq (place_word place) (place_word x)) [
            | inl e ↦
                ap (λ p. get_or qs (mark_of p) false) (place_word-one_to_one place x e) ∙ on ∙ sym (or_right _ _ (or_left _ _ (eq-eqb (place_word place) (place_word x) e)))
            | inr ne ↦
                same (mark_of place) (λ e. ne (mark_of-one_to_one place x e))
                ∙ s.marked place
                ∙ sym (ap (λ b. has ws (place_word place) || (b || false)) (ne_eqb (place_word place) (place_word x) ne) ∙ or_false (has ws (place_word place)))
          ]
          );
    }
  where
    or_false : (b : Bool) → (b || (false || false)) ≡ b
    or_false true = refl
    or_false false = refl

-- one place less
pub places_without : (xs ys : List Place) (ps qs : List Bool) (x : Place) → IsPlaceSet xs ps → IsPermutation xs (x ∷ ys) → get_or qs (mark_of x) false ≡ false → ((k : ℕ) → k ≢ mark_of x → get_or qs k false ≡ get_or ps k false) → IsPlaceSet ys qs
places_without xs ys ps qs x s p off same =
    let w : IsWithout (map place_word xs) (place_word x) (map place_word ys) = is_without (map place_word xs) (place_word x) (map place_word ys) s.once (IsPermutation-map place_word xs (x ∷ ys) p) in
    record {
      once = w.once;
      marked =
          λ place.
          elim (cases_eq (place_word place) (place_word x)) [
            | inl e ↦ ap (λ p. get_or qs (mark_of p) false) (place_word-one_to_one place x e) ∙ off ∙ sym (ap (has (map place_word ys)) e ∙ w.gone)
            | inr ne ↦ same (mark_of place) (λ e. ne (mark_of-one_to_one place x e)) ∙ s.marked place ∙ sym (w.others (place_word place) ne)
          ];
    }
