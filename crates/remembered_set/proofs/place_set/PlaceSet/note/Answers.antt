use Rattle.std.proofs.Common.{◌≡◌, ◌∙◌, ◌++◌, ◌∷◌, [], ℕ, Bool, true, false, cond, List, map, get_or, sym, ap}
use Rattle.std.proofs.lemmas.Bool.{false≢true}
use Rattle.std.proofs.lemmas.List.{map-append}
use Rattle.layout.specs.declared.place.Place.{Place}
use Rattle.layout.specs.Place.{place_word}
use Rattle.model.specs.Reached.{has}
use Rattle.remembered_set.specs.Marks.{mark_of, IsPlaceSet}
use Rattle.remembered_set.proofs.PlaceLaws.{noted_places}
use Rattle.remembered_set.proofs.place_set.PlaceSet.note.Goals as goal

-- a place is a member where its flag is set
member_by_flag : (xs : List Place) (flags : List Bool) (ws : List ℕ) (place : Place) (mark : ℕ) → IsPlaceSet xs flags → map place_word xs ≡ ws → mark ≡ mark_of place → has ws (place_word place) ≡ get_or flags mark false
member_by_flag xs flags ws place mark s view at =
    ap (λ us. has us (place_word place)) (sym view) ∙ sym (s.marked place) ∙ ap (λ k. get_or flags k false) (sym at)

pub invariant_of-self-2 : goal.invariant_of-self-2
invariant_of-self-2 g c =
    let place = c.args.place in
    let unset : get_or c.self.inside.marks c.mark-mark.result false ≡ false = sym c.is_set.ensures ∙ c.if-is_set.false in
    let off = rw c.mark-mark.ensures at unset in
    let on = rw c.mark-mark.ensures at c.set.ensures.flag in
    let others = rw c.mark-mark.ensures at c.set.ensures.others in
    rw c.in_ok-push.ensures.items (noted_places c.self.inside.places.items c.self.inside.marks c.set.new.self place c.self.invariant off on (λ k ne. others k ne ∙ c.reserve.ensures.kept k))

pub returns-then-is_set-clause-ok : goal.returns-then-is_set-clause-ok
returns-then-is_set-clause-ok g c =
    let there : has c.args.self.now (place_word c.args.place) ≡ true = member_by_flag c.self.inside.places.items c.self.inside.marks c.args.self.now c.args.place c.mark-mark.result c.self.invariant c.self.view_is c.mark-mark.ensures ∙ sym c.is_set.ensures ∙ c.if-is_set.true in
    sym (ap (λ b. cond b c.args.self.now (c.args.self.now ++ place_word c.args.place ∷ [])) there)

pub returns-in_err-reserve-clause-member : goal.returns-in_err-reserve-clause-member
returns-in_err-reserve-clause-member g c =
    let none : has c.args.self.now (place_word c.args.place) ≡ false = member_by_flag c.self.inside.places.items c.self.inside.marks c.args.self.now c.args.place c.mark-mark.result c.self.invariant c.self.view_is c.mark-mark.ensures ∙ sym c.is_set.ensures ∙ c.if-is_set.false in
    λ there. absurd (false≢true (sym none ∙ there))

pub returns-in_err-push-clause-member : goal.returns-in_err-push-clause-member
returns-in_err-push-clause-member g c =
    let none : has c.args.self.now (place_word c.args.place) ≡ false = member_by_flag c.self.inside.places.items c.self.inside.marks c.args.self.now c.args.place c.mark-mark.result c.self.invariant c.self.view_is c.mark-mark.ensures ∙ sym c.is_set.ensures ∙ c.if-is_set.false in
    λ there. absurd (false≢true (sym none ∙ there))

pub returns-clause-ok : goal.returns-clause-ok
returns-clause-ok g c =
    let none : has c.args.self.now (place_word c.args.place) ≡ false = member_by_flag c.self.inside.places.items c.self.inside.marks c.args.self.now c.args.place c.mark-mark.result c.self.invariant c.self.view_is c.mark-mark.ensures ∙ sym c.is_set.ensures ∙ c.if-is_set.false in
    ap (map place_word) c.in_ok-push.ensures.items
    ∙ map-append place_word c.self.inside.places.items (c.args.place ∷ [])
    ∙ ap (λ ws. ws ++ place_word c.args.place ∷ []) c.self.view_is
    ∙ sym (ap (λ b. cond b c.args.self.now (c.args.self.now ++ place_word c.args.place ∷ [])) none)
