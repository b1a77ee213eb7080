use Rattle.std.proofs.Common.{◌≡◌, ◌<◌, ◌∷◌, ◌∙◌, List, length, map, sym, ap, arith}
use Rattle.std.specs.Prelude.{slice_index}
use Rattle.std.specs.List.{swap_remove}
use Rattle.std.specs.List.Sorted.{IsPermutation}
use Rattle.std.proofs.lemmas.List.{get_or-map, length-map}
use Rattle.std.proofs.lemmas.List.Sorted.{IsPermutation-swap_remove, IsPermutation-map}
use Rattle.layout.specs.declared.place.Place.{Place}
use Rattle.layout.specs.Place.{place_word}
use Rattle.remembered_set.proofs.MemberLists.{is_without, without_members, map-swap_remove, take-swap_remove, rest-swap_remove}
use Rattle.remembered_set.proofs.PlaceLaws.{places_without}
use Rattle.remembered_set.proofs.place_set.PlaceSet.remove.Goals as goal

pub invariant_of-self : goal.invariant_of-self
invariant_of-self g c =
    let xs : List Place = c.self.inside.places.items in
    let x : Place = c.swap_remove-place.result in
    let within : c.args.k < length xs = omega (arith, c.requires, ap length c.self.view_is, length-map xs place_word) in
    let moved : IsPermutation xs (x ∷ swap_remove xs c.args.k x) = IsPermutation-swap_remove xs c.args.k x within c.swap_remove-place.ensures.value in
    let off = rw c.mark.ensures at c.unset.ensures.flag in
    let same = rw c.mark.ensures at c.unset.ensures.others in
    rw c.swap_remove-place.ensures.items (places_without xs (swap_remove xs c.args.k x) c.self.inside.marks c.unset.new.self x c.self.invariant moved off same)

pub returns-clause-members : goal.returns-clause-members
returns-clause-members g c =
    let xs : List Place = c.self.inside.places.items in
    let x : Place = c.swap_remove-place.result in
    let within : c.args.k < length xs = omega (arith, c.requires, ap length c.self.view_is, length-map xs place_word) in
    let moved : IsPermutation xs (x ∷ swap_remove xs c.args.k x) = IsPermutation-swap_remove xs c.args.k x within c.swap_remove-place.ensures.value in
    let word : place_word x ≡ slice_index (map place_word xs) c.args.k = ap place_word c.swap_remove-place.ensures.value ∙ sym (get_or-map place_word xs c.args.k x 0 within) in
    let without = is_without (map place_word xs) (place_word x) (map place_word (swap_remove xs c.args.k x)) c.self.invariant.once (IsPermutation-map place_word xs (x ∷ swap_remove xs c.args.k x) moved) in
    rw (← c.self.view_is, ← word, c.swap_remove-place.ensures.items) (without_members (map place_word xs) (place_word x) (map place_word (swap_remove xs c.args.k x)) without)

pub returns-clause-before : goal.returns-clause-before
returns-clause-before g c =
    let xs : List Place = c.self.inside.places.items in
    let x : Place = c.swap_remove-place.result in
    let within : c.args.k < length xs = omega (arith, c.requires, ap length c.self.view_is, length-map xs place_word) in
    rw (← c.self.view_is, c.swap_remove-place.ensures.items, map-swap_remove place_word xs c.args.k x within) (take-swap_remove (map place_word xs) c.args.k (place_word x) (omega (arith, length-map xs place_word)))

pub returns-clause-rest : goal.returns-clause-rest
returns-clause-rest g c n =
    let xs : List Place = c.self.inside.places.items in
    let x : Place = c.swap_remove-place.result in
    let within : c.args.k < length xs = omega (arith, c.requires, ap length c.self.view_is, length-map xs place_word) in
    rw (← c.self.view_is, c.swap_remove-place.ensures.items, map-swap_remove place_word xs c.args.k x within) (λ there. rest-swap_remove (map place_word xs) c.args.k (place_word x) n (omega (arith, length-map xs place_word)) there)
