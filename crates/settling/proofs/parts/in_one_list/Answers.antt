use Rattle.std.proofs.Common.{◌∷◌, ◌++◌, refl, sym, ap, ◌∙◌, arith}
use Rattle.workers.specs.Joined.{somes}
use Rattle.settling.proofs.SettleLists.{listed_more, listed_all}
use Rattle.settling.proofs.parts.in_one_list.Goals as goal

pub loop-slot-init : goal.loop-slot-init
loop-slot-init g c = rw (c.new-blocks.ensures.items, c.into_iter-slot-iterator.ensures.into_iter_gives.0) refl

pub loop-slot-preserved-in-Continue-1 : goal.loop-slot-preserved-in-Continue-1
loop-slot-preserved-in-Continue-1 g c =
    rw c.in_ok-push.ensures.items (listed_more c.loop-slot.blocks.items c.in-Some-slot.block c.next.new.self.rest.items
    ∙ ap (λ x. c.loop-slot.blocks.items ++ somes (x ∷ c.next.new.self.rest.items)) (sym c.in-Some-slot.is)
    ∙ ap (λ xs. c.loop-slot.blocks.items ++ somes xs) (sym c.in-Some.ensures.steps.0) ∙ c.loop-slot.invariant)

pub loop-slot-preserved : goal.loop-slot-preserved
loop-slot-preserved g c =
    ap (λ x. c.loop-slot.blocks.items ++ somes (x ∷ c.next.new.self.rest.items)) (sym c.in_default.is)
    ∙ ap (λ xs. c.loop-slot.blocks.items ++ somes xs) (sym c.in-Some.ensures.steps.0) ∙ c.loop-slot.invariant

pub returns : goal.returns
returns g c =
    c.in_ok-append.ensures.items
    ∙ ap (λ xs. xs ++ c.args.done.items) (listed_all c.loop-slot.blocks.items c.loop-slot.slot-iterator.rest.items (somes c.args.allocation.items) (omega (arith, c.in-None.ensures.steps.0, c.loop-slot.slot-iterator.rest.ok)) c.loop-slot.invariant)
