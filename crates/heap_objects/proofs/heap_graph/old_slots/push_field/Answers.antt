use Rattle.std.proofs.Common.{map, sym, ap, subst, ◌∙◌}
use Rattle.std.proofs.lemmas.List.{map-append}
use Rattle.layout.specs.Place.{place_word}
use Rattle.steps.specs.SlotView.{slot_value}
use Rattle.steps.specs.Words.{target_of_word}
use Rattle.heap_objects.specs.HeapGraph.{IsClosedWord}
use Rattle.heap_objects.proofs.GraphObjects.{target-is, target-none}
use Rattle.heap_objects.proofs.FieldSlots.{pushed_field, pushed_none, field_older, field_nil}
use Rattle.heap_objects.proofs.heap_graph.old_slots.push_field.Goals as goal

pub returns-in_ok-push-in-Some : goal.returns-in_ok-push-in-Some
returns-in_ok-push-in-Some g c = λ graph shows closed.
    let is = c.in-Some.ensures.some in
    let young = sym (c.is_at_most.ensures graph shows (subst (IsClosedWord graph) (sym is) closed)) ∙ c.if-is_at_most.true in
    ap (map slot_value) c.in_ok-push-in-Some.ensures.items ∙ map-append slot_value c.args.slots.now.items _
    ∙ pushed_field graph c.args.g (place_word c.args.holder) c.args.field (place_word c.in-Some.target) (target_of_word c.args.word) _ (target-is c.in-Some.target c.args.word is) young

pub returns-else-is_at_most : goal.returns-else-is_at_most
returns-else-is_at_most g c = λ graph shows closed.
    let is = c.in-Some.ensures.some in
    let older = sym (c.is_at_most.ensures graph shows (subst (IsClosedWord graph) (sym is) closed)) ∙ c.if-is_at_most.false in
    pushed_none _ _ (field_older graph c.args.g (place_word c.args.holder) c.args.field (place_word c.in-Some.target) (target_of_word c.args.word) (target-is c.in-Some.target c.args.word is) older)

pub returns-in-None : goal.returns-in-None
returns-in-None g c = λ graph shows closed.
    pushed_none _ _ (field_nil graph c.args.g (place_word c.args.holder) c.args.field (target_of_word c.args.word) (target-none graph c.args.table.now c.args.large.now c.requires.short shows c.args.word c.in-None.ensures.none closed))
