use Rattle.std.proofs.Common.{List, ◌++◌, map, ap, ◌∙◌}
use Rattle.model.specs.OldSlots.{Slot}
use Rattle.steps.specs.SlotView.{slot_value}
use Rattle.heap.specs.Moves.{field_write, writes_by}
use Rattle.heap.proofs.LargeFields.{large_lead, large_named}
use Rattle.heap.proofs.heap_commit.moved_fields.moved_fields.Goals as goal

pub push_renamed-requires-2-clause-leads : goal.push_renamed-requires-2-clause-leads
push_renamed-requires-2-clause-leads g c =
    let large = c.in_ok-large.ensures in
    let found : List Slot = large.0 in
    rw (c.deref.ensures.value, large.1) (large_lead c.args.objects.now c.args.g c.args.places.now found large.2)

pub push_renamed-requires-2-clause-named : goal.push_renamed-requires-2-clause-named
push_renamed-requires-2-clause-named g c =
    let large = c.in_ok-large.ensures in
    let found : List Slot = large.0 in
    rw (c.deref.ensures.value, large.1) (large_named c.args.objects.now c.args.g c.args.places.now found large.2 c.requires.large_named)

pub returns : goal.returns
returns g c =
    let large = c.in_ok-large.ensures in
    let found : List Slot = large.0 in (
      found,
      large.2,
      λ f moves.
          c.in_ok-push_renamed-2.ensures f moves
          ∙ ap (λ ws. ws ++ writes_by f (map slot_value c.deref.result.now)) (c.in_ok-push_renamed.ensures f moves ∙ ap (λ xs. map field_write xs ++ writes_by f (map slot_value c.args.slots.now)) c.new-fields.ensures.items)
          ∙ ap (λ ss. writes_by f (map slot_value c.args.slots.now) ++ writes_by f ss) (ap (map slot_value) c.deref.ensures.value ∙ large.1),
    )
