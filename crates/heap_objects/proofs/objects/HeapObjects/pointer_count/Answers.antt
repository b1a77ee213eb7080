use Rattle.std.proofs.Common.{◌<◌, ap, arith, length, sym, ◌∙◌}
use Rattle.std.specs.Prelude.{is_some}
use Rattle.std.proofs.lemmas.List.{length-map}
use Rattle.layout.specs.Place.{place_word, large_word}
use Rattle.layout.specs.ObjectRef.{raw_of}
use Rattle.steps.specs.Words.{IsShownAs, target_of_word}
use Rattle.heap_objects.proofs.WithLarge.{get-small}
use Rattle.heap_objects.proofs.Finds.{never_none, shown_is}
use Rattle.heap_objects.proofs.objects.HeapObjects.pointer_count.Goals as goal

pub pointer_count-requires : goal.pointer_count-requires
pointer_count-requires g c =
    let there = rw (← c.self.view_is) at c.requires in
    let at = c.in-Small.field-0 in
    let lt : place_word c.args.place < large_word 0 = rw c.in-Small.is (omega (arith, at.block_in_range, at.offset_in_range)) in
    ap is_some (sym (get-small c.self.inside.space.objects c.self.inside.large.slots (place_word c.args.place) lt)) ∙ there

pub returns-in-Small : goal.returns-in-Small
returns-in-Small g c = λ o is.
    let at = c.in-Small.field-0 in
    let lt : place_word c.args.place < large_word 0 = rw c.in-Small.is (omega (arith, at.block_in_range, at.offset_in_range)) in
    c.pointer_count.ensures o (sym (get-small c.self.inside.space.objects c.self.inside.large.slots (place_word c.args.place) lt) ∙ rw (← c.self.view_is) at is)

pub returns-in-Some : goal.returns-in-Some
returns-in-Some g c = λ o is.
    let shown : IsShownAs o (raw_of c.in-Some.object) = shown_is _ _ c.self.invariant c.in-Large.number.number c.in-Some.object c.get.result c.in-Some.is c.get.ensures.raw o (rw (← c.self.view_is, c.in-Large.is) at is) in
    omega (arith, ap length shown.pointers, length-map c.in-Some.object.pointers.now target_of_word)

pub returns-in-None : goal.returns-in-None
returns-in-None g c = λ o is.
    absurd (never_none _ _ c.self.invariant c.in-Large.number.number c.get.result c.in-None.is c.get.ensures.raw (rw (← c.self.view_is, c.in-Large.is) at c.requires))
