use Rattle.std.proofs.Common.{ap, arith}
use Rattle.block_pool.proofs.Ranks.{some_words, rank-zero}
use Rattle.block_pool.proofs.Groups.{some_groups}
use Rattle.block_pool.proofs.number_sets.ranked_set.RankedSet.nth.Goals as goal

pub last_at_most-group-requires-clause-some : goal.last_at_most-group-requires-clause-some
last_at_most-group-requires-clause-some g c =
    let ws = c.self.inside.ranks.value.words.items in
    let count = ap (λ r. r.count) c.deref-ranks.ensures in
    rw (c.deref.ensures.value, c.deref-ranks.ensures) (some_groups ws _ c.self.invariant.ranks (some_words ws c.args.k (omega (arith, c.if-k-ranks.false, count, c.self.invariant.count_is))))

pub last_at_most-group-requires-clause-first : goal.last_at_most-group-requires-clause-first
last_at_most-group-requires-clause-first g c =
    let ws = c.self.inside.ranks.value.words.items in
    let count = ap (λ r. r.count) c.deref-ranks.ensures in
    let some = some_groups ws _ c.self.invariant.ranks (some_words ws c.args.k (omega (arith, c.if-k-ranks.false, count, c.self.invariant.count_is))) in
    rw (c.deref.ensures.value, c.deref-ranks.ensures) (omega (arith, c.self.invariant.ranks.each 0 some, rank-zero ws))
