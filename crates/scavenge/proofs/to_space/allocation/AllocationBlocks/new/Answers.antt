use Rattle.std.proofs.Common.{◌≡◌, None, replicate, ap, ◌∙◌, arith}
use Rattle.scavenge.proofs.to_space.allocation.AllocationBlocks.new.Goals as goal

pub returns : goal.returns
returns g c =
    let e : c.loop.counter ≡ c.args.count = omega (arith, c.loop-test.false, c.loop.auto.counter-end) in
    c.loop.invariant.made ∙ ap (λ k. replicate k None) e
