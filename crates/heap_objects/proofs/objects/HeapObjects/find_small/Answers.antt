use Rattle.std.proofs.Common.{◌<◌, arith, sym, ap, ◌∙◌}
use Rattle.std.specs.Prelude.{is_some}
use Rattle.layout.specs.Place.{small_word, large_word}
use Rattle.heap_objects.proofs.WithLarge.{get-small}
use Rattle.heap_objects.proofs.Numbers.{bases_of}
use Rattle.heap_objects.proofs.Finds.{number_found}
use Rattle.heap_objects.proofs.SoundObjects.{are_objects, small_here}
use Rattle.heap_objects.proofs.objects.HeapObjects.find_small.Goals as goal

pub find_small-requires-clause-bases : goal.find_small-requires-clause-bases
find_small-requires-clause-bases g c =
    let numbering = rw (← c.self.view_is) at c.requires.numbering in
    rw c.blocks-2.ensures (bases_of _ _ c.self.invariant c.args.generation c.args.numbering.now numbering)

pub find_small-requires-clause-there : goal.find_small-requires-clause-there
find_small-requires-clause-there g c =
    let there = rw (← c.self.view_is) at c.requires.there in
    let at = c.args.at in
    let lt : small_word at.block at.offset < large_word 0 = omega (arith, at.block_in_range, at.offset_in_range) in
    ap is_some (sym (get-small c.self.inside.space.objects c.self.inside.large.slots (small_word at.block at.offset) lt)) ∙ there

pub returns-clause-block : goal.returns-clause-block
returns-clause-block g c =
    let at = c.args.at in
    let lt : small_word at.block at.offset < large_word 0 = omega (arith, at.block_in_range, at.offset_in_range) in
    rw (← c.self.view_is, get-small c.self.inside.space.objects c.self.inside.large.slots (small_word at.block at.offset) lt) c.find_small.ensures.block

pub returns-clause-step : goal.returns-clause-step
returns-clause-step g c =
    let at = c.args.at in
    let lt : small_word at.block at.offset < large_word 0 = omega (arith, at.block_in_range, at.offset_in_range) in
    rw (← c.self.view_is, get-small c.self.inside.space.objects c.self.inside.large.slots (small_word at.block at.offset) lt) c.find_small.ensures.step

pub returns-clause-number : goal.returns-clause-number
returns-clause-number g c =
    let at = c.args.at in
    let lt : small_word at.block at.offset < large_word 0 = omega (arith, at.block_in_range, at.offset_in_range) in
    rw (← c.self.view_is) (number_found _ _ c.self.invariant c.args.generation (small_word at.block at.offset) lt _ c.find_small.ensures.number)

pub returns-clause-small : goal.returns-clause-small
returns-clause-small g c =
    let at = c.args.at in
    let lt : small_word at.block at.offset < large_word 0 = omega (arith, at.block_in_range, at.offset_in_range) in
    let there = rw (← c.self.view_is) at c.requires.there in
    rw (← c.self.view_is) (small_here _ (are_objects c.self.inside.space c.self.inside.large c.self.invariant) (small_word at.block at.offset) lt there)
