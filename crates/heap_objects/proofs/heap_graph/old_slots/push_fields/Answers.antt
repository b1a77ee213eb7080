use Rattle.std.proofs.Common.{◌∙◌, ◌++◌, map, ap, take_all}
use Rattle.layout.specs.Place.{place_word}
use Rattle.model.specs.OldSlots.{slots_of_fields}
use Rattle.steps.specs.CollectionValue.{field_slot_of}
use Rattle.steps.specs.SlotView.{slot_value}
use Rattle.steps.specs.Words.{target_of_word}
use Rattle.heap_objects.proofs.FieldSlots.{pushed_more, fields-more}
use Rattle.heap_objects.proofs.heap_graph.old_slots.push_fields.Goals as goal

pub loop-field-preserved : goal.loop-field-preserved
loop-field-preserved g c = λ graph shows closed.
    let i = c.loop-field.field in
    pushed_more _ _ _ _ _ _ (c.loop-field.invariant graph shows closed)
    (c.in_ok-push_field.ensures graph shows (closed i 0 c.loop-field-test.true))
    (fields-more graph c.args.g (place_word c.args.holder) c.args.pointers.now i 0 c.loop-field-test.true)

pub returns : goal.returns
returns g c = λ graph shows closed.
    c.loop-field.invariant graph shows closed
    ∙ ap (λ ws. map slot_value c.args.slots.now.items ++ map field_slot_of (slots_of_fields graph c.args.g (place_word c.args.holder) 0 (map target_of_word ws))) (take_all c.loop-field.field c.args.pointers.now c.loop-field-test.false)
