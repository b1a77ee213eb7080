use Rattle.std.proofs.Common.{◌≡◌, ap, arith}
use Rattle.block_pool.specs.NumberSetsWords.{flags_of, members_of}
use Rattle.block_pool.proofs.FlagLemmas.{set_from-rises, set_from-at_most, All-below}
use Rattle.block_pool.proofs.number_sets.number_set.NumberSet.len.Goals as goal

pub returns-clause-in_limit : goal.returns-clause-in_limit
returns-clause-in_limit g c =
    let limit : c.self.inside.limit ≡ c.args.self.now.limit = ap (λ v. v.limit) c.self.view_is in
    omega (arith, c.self.invariant.count_is, set_from-at_most (flags_of c.self.inside.words.items) c.self.inside.limit c.self.invariant.none_past)

pub returns-clause-rising : goal.returns-clause-rising
returns-clause-rising g c =
    let members : members_of c.self.inside.words.items ≡ c.args.self.now.members = ap (λ v. v.members) c.self.view_is in
    rw (← members) (set_from-rises 0 (flags_of c.self.inside.words.items))

pub returns-clause-below : goal.returns-clause-below
returns-clause-below g c =
    let members : members_of c.self.inside.words.items ≡ c.args.self.now.members = ap (λ v. v.members) c.self.view_is in
    let limit : c.self.inside.limit ≡ c.args.self.now.limit = ap (λ v. v.limit) c.self.view_is in
    rw (← members, ← limit) (All-below (flags_of c.self.inside.words.items) c.self.inside.limit c.self.invariant.none_past)
