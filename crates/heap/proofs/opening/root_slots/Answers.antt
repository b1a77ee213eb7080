use Rattle.std.proofs.Common.{ap, sym, ◌∙◌, refl, ◌+◌, ◌++◌, map, arith}
use Rattle.std.proofs.lemmas.List.{append-nil}
use Rattle.steps.specs.SlotView.{slot_value}
use Rattle.heap.proofs.RootSlots.{slots_left, slots_are_all, slots_more, slot_next, no_slot_left, number_within}
use Rattle.heap.proofs.opening.root_slots.Goals as goal

pub loop-root-init : goal.loop-root-init
loop-root-init g c = rw c.in_ok-slots.ensures.items (slots_are_all c.args.roots.now.slots)

pub loop-root-preserved : goal.loop-root-preserved
loop-root-preserved g c =
    rw c.in_ok-push.ensures.items (
    slots_more c.loop-root.slots.items c.in-Some.root.0 c.in-Some.root.1 _ (slots_left (c.in-Some.root.0 + 1) c.args.roots.now.slots) refl
    ∙ ap (λ ss. map slot_value c.loop-root.slots.items ++ ss) (sym (slot_next c.args.roots.now.slots c.loop-root.from c.in-Some.root.0 c.in-Some.root.1 c.in-Some.ensures.first))
    ∙ c.loop-root.invariant)

pub loop-root-smaller : goal.loop-root-smaller
loop-root-smaller g c =
    let within = number_within c.args.roots.now.slots c.loop-root.from c.in-Some.root.0 c.in-Some.root.1 c.in-Some.ensures.first in
    omega (arith, within, c.in-Some.ensures.first.from_on)

pub returns : goal.returns
returns g c =
    sym (append-nil (map slot_value c.loop-root.slots.items)) ∙ sym (ap (λ ss. map slot_value c.loop-root.slots.items ++ ss) (no_slot_left c.args.roots.now.slots c.loop-root.from c.in_default.ensures.first)) ∙ c.loop-root.invariant
