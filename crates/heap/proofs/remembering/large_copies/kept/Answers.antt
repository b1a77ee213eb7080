use Rattle.std.proofs.Common.{refl, ◌∙◌}
use Rattle.heap.proofs.LargeNoted.{kept_gone}
use Rattle.heap.proofs.remembering.large_copies.kept.Goals as goal

pub returns-then-is_none-clause-none : goal.returns-then-is_none-clause-none
returns-then-is_none-clause-none g c none o kept =
    let at = rw c.in_ok-number.was at c.find-number.ensures.number in
    let numbered = rw c.generation.ensures at at.1 in
    kept_gone c.args.objects.now c.args.collection.now.generation c.args.places.now c.args.of.number c.in_ok-number.field-0 c.place.result numbered c.place.ensures (c.is_none.ensures ∙ rw c.if-is_none.true refl) o kept
