use Rattle.std.proofs.Common.{sym, ◌∙◌}
use Rattle.layout.specs.Place.{place_word}
use Rattle.steps.specs.Remembered.{is_holder}
use Rattle.heap_objects.specs.Objects.{graph_in}
use Rattle.remembered_set.specs.Sets.{members_of}
use Rattle.heap.proofs.Pointing.{from_passed, other_than}
use Rattle.heap.proofs.remembering.holders.keep_or_remove.Goals as goal

pub returns-then-is_holder-clause-from : goal.returns-then-is_holder-clause-from
returns-then-is_holder-clause-from g c =
    from_passed (is_holder (graph_in c.args.objects.now) c.args.h) (members_of c.args.sets.now c.args.h) c.args.k (place_word c.member-place.result) c.requires.in_range c.member-place.ensures (sym c.is_holder.ensures ∙ c.if-is_holder.true)

pub returns-clause-kept : goal.returns-clause-kept
returns-clause-kept g c = λ n old holder.
    (c.remove.ensures.members n).1 (
      old,
      other_than (is_holder (graph_in c.args.objects.now) c.args.h) (members_of c.args.sets.now c.args.h) c.args.k (place_word c.member-place.result) n c.member-place.ensures (sym c.is_holder.ensures ∙ c.if-is_holder.false) holder,
    )
