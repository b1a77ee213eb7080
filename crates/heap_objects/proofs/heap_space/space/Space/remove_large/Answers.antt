use Rattle.large_objects.specs.PoolBlocks.{blocks_at}
use Rattle.heap_objects.proofs.Facts.{no_slot}
use Rattle.heap_objects.proofs.Lending.{given_back}
use Rattle.heap_objects.proofs.heap_space.space.Space.remove_large.Goals as goal

pub invariant_of-self : goal.invariant_of-self
invariant_of-self g c =
    let apart = rw (← c.self.view_is) at c.requires.apart in
    let theirs = rw (← c.self.view_is) at c.requires.blocks in
    given_back _ _ _ _ _ _ c.self.invariant (blocks_at c.args.large.now c.args.number.number) c.remove.ensures.limit c.remove.ensures.free
    (λ n h. let there = apart n h in (there.0, theirs.in_limit c.args.number.number n h, no_slot _ _ _ _ c.self.invariant.space n there.0 there.1))
