use Rattle.std.proofs.Common.{◌≡◌, [], length, replicate, ap, ◌∙◌, arith}
use Rattle.std.proofs.lemmas.List.{length-replicate}
use Rattle.std.specs.Prelude.{Bool, List}
use Rattle.nursery.proofs.block_table.area_flags.AreaFlags.new.Goals as goal

pub invariant_of-result : goal.invariant_of-result
invariant_of-result g c =
    let none : List Bool = [] in
    omega (arith, ap length c.loop.invariant, length-replicate c.loop.counter none)

pub returns : goal.returns
returns g c =
    let all : c.loop.counter ≡ c.args.generations = omega arith in
    c.loop.invariant ∙ ap (λ n. replicate n []) all
