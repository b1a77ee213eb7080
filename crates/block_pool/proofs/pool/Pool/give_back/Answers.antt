use Rattle.std.proofs.Common.{◌≡◌, ap}
use Rattle.block_pool.proofs.pool.Pool.give_back.Goals as goal

pub returns-clause-members : goal.returns-clause-members
returns-clause-members g c =
    let free : c.self.inside.numbers.members ≡ c.args.self.now.free = ap (λ v. v.free) c.self.view_is in
    rw (← free) c.insert.ensures.members
