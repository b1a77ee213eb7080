use Rattle.std.proofs.Common.{arith, ◌≡◌, [], replicate, ap, ◌∙◌}
use Rattle.pending_queues.proofs.exports.deliveries.Deliveries.untold.Goals as goal

pub returns : goal.returns
returns g c =
    let all : c.loop.counter ≡ c.args.count = (let done = c.loop-test.false in let end = c.loop.auto.counter-end in omega arith) in
    c.loop.invariant.empty ∙ ap (λ n. replicate n []) all
