use Rattle.std.proofs.Common.{◌≡◌, ◌∙◌, List, map, sym, ap, subst, rules}
use Rattle.std.specs.Prelude.{nat_eq}
use Rattle.std.specs.List.{IsDistinct}
use Rattle.std.specs.List.Sorted.{IsPermutation, IsNonDecreasingBy}
use Rattle.std.proofs.lemmas.List.Sorted.{IsPermutation-map, IsNonDecreasingBy-from_sort_by_key, list_any-IsPermutation}
use Rattle.std.proofs.lemmas.Map.Keys.{IsStrictlyIncreasing-from_distinct, IsDistinct-IsPermutation}
use Rattle.layout.specs.declared.place.Place.{Place}
use Rattle.layout.specs.Place.{place_word}
use Rattle.model.specs.Reached.{has}
use Rattle.remembered_set.proofs.MemberLists.{flips, map_rises}
use Rattle.remembered_set.proofs.place_set.PlaceSet.rising.Goals as goal

pub returns-clause-rising : goal.returns-clause-rising
returns-clause-rising g c =
    let xs : List Place = c.self.inside.places.items in
    let ys : List Place = c.in_ok-places.places.items in
    let zs : List Place = c.sort_by_key.new.self.items in
    let copied : ys ≡ xs = c.in_ok-places.ensures.items ∙ c.deref.ensures.value in
    let moved : IsPermutation ys zs = c.in_ok-sort_by_key.ensures.permutation in
    let up : IsNonDecreasingBy place_word zs = IsNonDecreasingBy-from_sort_by_key place_word _ c.in_ok-sort_by_key.ensures.sorted (λ a r q k. search rules) in
    let once : IsDistinct nat_eq (map place_word ys) = subst (λ (ps : List Place). IsDistinct nat_eq (map place_word ps)) (sym copied) c.self.invariant.once in
    IsStrictlyIncreasing-from_distinct (map place_word zs) (map_rises place_word zs up) (IsDistinct-IsPermutation nat_eq flips (map place_word ys) (map place_word zs) (IsPermutation-map place_word ys zs moved) once)

pub returns-clause-all : goal.returns-clause-all
returns-clause-all g c n =
    let xs : List Place = c.self.inside.places.items in
    let ys : List Place = c.in_ok-places.places.items in
    let zs : List Place = c.sort_by_key.new.self.items in
    let copied : ys ≡ xs = c.in_ok-places.ensures.items ∙ c.deref.ensures.value in
    let moved : IsPermutation ys zs = c.in_ok-sort_by_key.ensures.permutation in
    sym (list_any-IsPermutation (nat_eq n) (map place_word ys) (map place_word zs) (IsPermutation-map place_word ys zs moved))
    ∙ ap (λ ps. has (map place_word ps) n) copied
    ∙ ap (λ ws. has ws n) c.self.view_is
