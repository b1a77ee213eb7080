use Rattle.std.proofs.Common.{◌≡◌, [], replicate, ap, ◌∙◌, arith}
use Rattle.remembered_set.proofs.remembered.Remembered.new.Goals as goal

pub returns : goal.returns
returns g c =
    let all : c.loop.counter ≡ c.args.generations = omega arith in
    c.loop.invariant ∙ ap (λ n. replicate n []) all
