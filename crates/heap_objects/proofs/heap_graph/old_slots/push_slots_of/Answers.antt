use Rattle.std.proofs.Common.{◌++◌, map, ap, sym, ◌∙◌}
use Rattle.std.proofs.lemmas.Result.{on_ok_weaker}
use Rattle.layout.specs.ObjectRef.{raw_of}
use Rattle.layout.specs.Place.{place_word}
use Rattle.steps.specs.CollectionValue.{field_slot_of}
use Rattle.steps.specs.SlotView.{slot_value}
use Rattle.heap_objects.proofs.FieldSlots.{pushed_none}
use Rattle.heap_objects.proofs.HeldObjects.{slots_shown, slots_none}
use Rattle.heap_objects.proofs.heap_graph.old_slots.push_slots_of.Goals as goal

pub returns-in-Some : goal.returns-in-Some
returns-in-Some g c =
    on_ok_weaker c.push_fields.result
    (λ pushed graph shows.
    pushed graph shows (c.in-Some.ensures.closed graph shows)
    ∙ ap (λ ss. map slot_value c.args.slots.now.items ++ map field_slot_of ss) (sym (slots_shown graph c.args.generation c.args.holder_generation (place_word c.args.place) (raw_of c.in-Some.object) (c.in-Some.ensures.object graph shows))))
    c.push_fields.ensures

pub returns-in-None : goal.returns-in-None
returns-in-None g c = λ graph shows.
    pushed_none _ _ (slots_none graph c.args.generation c.args.holder_generation (place_word c.args.place) (c.in-None.ensures.object graph shows))
