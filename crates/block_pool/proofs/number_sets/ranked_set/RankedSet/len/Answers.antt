use Rattle.std.proofs.Common.{◌≡◌}
use Rattle.block_pool.specs.NumberSetsWords.{flags_of, members_of}
use Rattle.block_pool.proofs.FlagLemmas.{set_from-rises}
use Rattle.block_pool.proofs.number_sets.ranked_set.RankedSet.len.Goals as goal

pub returns-clause-rising : goal.returns-clause-rising
returns-clause-rising g c =
    let members : members_of c.self.inside.ranks.value.words.items ≡ c.args.self.now = c.self.view_is in
    rw (← members) (set_from-rises 0 (flags_of c.self.inside.ranks.value.words.items))
