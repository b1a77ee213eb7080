use Rattle.std.proofs.Common.{◌++◌, map, refl, ap, ◌∙◌}
use Rattle.model.specs.OldSlots.{old_slots}
use Rattle.steps.specs.CollectionValue.{field_slot_of}
use Rattle.steps.specs.SlotView.{slot_value}
use Rattle.heap_objects.specs.Objects.{graph_in}
use Rattle.heap.proofs.OpenedHeap.{opened_is}
use Rattle.heap.proofs.opening.opened.Goals as goal

pub returns : goal.returns
returns g c =
    rw c.new.ensures (opened_is c.args.objects.now c.args.roots.now.slots c.args.sets.now c.args.g _ c.requires.in_range refl
    (c.in_ok-push_old_slots.ensures
    ∙ ap (λ n. map slot_value c.in_ok-slots.slots.items ++ map field_slot_of (old_slots (graph_in c.args.objects.now) n c.args.g)) c.requires.generations
    ∙ ap (λ ss. ss ++ map field_slot_of (old_slots (graph_in c.args.objects.now) c.args.objects.now.config.shape.generations c.args.g)) c.in_ok-slots.ensures) c.in_ok-free.ensures c.in_ok-numbering.ensures.numbering c.in_ok-numbering.ensures.all)
