use Rattle.std.proofs.Common.{◌≡◌, ◌++◌, ◌∷◌, [], List, sym, subst}
use Rattle.std.specs.List.Sorted.{IsPermutation}
use Rattle.std.proofs.lemmas.List.Sorted.{IsPermutation-to_front}
use Rattle.layout.specs.declared.place.Place.{Place}
use Rattle.remembered_set.proofs.PlaceLaws.{places_without}
use Rattle.remembered_set.proofs.place_set.PlaceSet.drop_last.Goals as goal

pub invariant_of-self : goal.invariant_of-self
invariant_of-self g c =
    let xs : List Place = c.self.inside.places.items in
    let ys : List Place = c.pop.new.self.items in
    let whole : xs ≡ ys ++ c.in-Some.place ∷ [] = c.in-Some.ensures.items in
    let moved : IsPermutation xs (c.in-Some.place ∷ ys) = subst (λ (zs : List Place). IsPermutation zs (c.in-Some.place ∷ ys)) (sym whole) (IsPermutation-to_front ys c.in-Some.place) in
    let off = rw c.mark.ensures at c.unset.ensures.flag in
    let same = rw c.mark.ensures at c.unset.ensures.others in
    places_without xs ys c.self.inside.marks c.unset.new.self c.in-Some.place c.self.invariant moved off same
