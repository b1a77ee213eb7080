use Rattle.std.proofs.Common.{◌<◌, arith, sym, ap, ◌∙◌}
use Rattle.std.specs.Prelude.{is_some}
use Rattle.layout.specs.Place.{place_word, large_word}
use Rattle.heap_objects.proofs.WithLarge.{get-small}
use Rattle.heap_objects.proofs.Numbers.{bases_of}
use Rattle.heap_objects.proofs.Finds.{number_found}
use Rattle.heap_objects.proofs.objects.HeapObjects.find.Goals as goal

pub find-requires-clause-bases : goal.find-requires-clause-bases
find-requires-clause-bases g c =
    let numbering = rw (← c.self.view_is) at c.requires.numbering in
    rw c.blocks-in-Small.ensures (bases_of _ _ c.self.invariant c.args.generation c.args.numbering.now numbering)

pub find-requires-clause-there : goal.find-requires-clause-there
find-requires-clause-there g c =
    let there = rw (← c.self.view_is) at c.requires.there in
    let at = c.in-Small.field-0 in
    let lt : place_word c.args.place < large_word 0 = rw c.in-Small.is (omega (arith, at.block_in_range, at.offset_in_range)) in
    ap is_some (sym (get-small c.self.inside.space.objects c.self.inside.large.slots (place_word c.args.place) lt)) ∙ there

pub returns-in-Small-clause-object : goal.returns-in-Small-clause-object
returns-in-Small-clause-object g c =
    let at = c.in-Small.field-0 in
    let lt : place_word c.args.place < large_word 0 = rw c.in-Small.is (omega (arith, at.block_in_range, at.offset_in_range)) in
    rw (← c.self.view_is, get-small c.self.inside.space.objects c.self.inside.large.slots (place_word c.args.place) lt) c.find.ensures.object

pub returns-in-Small-clause-step : goal.returns-in-Small-clause-step
returns-in-Small-clause-step g c =
    let at = c.in-Small.field-0 in
    let lt : place_word c.args.place < large_word 0 = rw c.in-Small.is (omega (arith, at.block_in_range, at.offset_in_range)) in
    rw (← c.self.view_is, get-small c.self.inside.space.objects c.self.inside.large.slots (place_word c.args.place) lt) c.find.ensures.step

pub returns-in-Small-clause-number : goal.returns-in-Small-clause-number
returns-in-Small-clause-number g c =
    let at = c.in-Small.field-0 in
    let lt : place_word c.args.place < large_word 0 = rw c.in-Small.is (omega (arith, at.block_in_range, at.offset_in_range)) in
    rw (← c.self.view_is) (number_found _ _ c.self.invariant c.args.generation (place_word c.args.place) lt _ c.find.ensures.number)
