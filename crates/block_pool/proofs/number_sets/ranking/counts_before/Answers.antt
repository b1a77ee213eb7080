use Rattle.std.proofs.Common.{◌≡◌, ◌+◌, ◌*◌, ◌++◌, ◌∷◌, [], sym, arith, rules}
use Rattle.block_pool.proofs.Ranks.{rank-zero}
use Rattle.block_pool.proofs.Groups.{rank-group_more, rank-in_range, ranks_more}
use Rattle.block_pool.proofs.number_sets.ranking.counts_before.Goals as goal

pub loop-group-init : goal.loop-group-init
loop-group-init g c =
    record {
      room = search rules;
      as_many = search rules;
      each = λ group h. absurd (omega arith);
      count_is = sym (rank-zero c.args.words.now);
    }

pub overflow_add-count : goal.overflow_add-count
overflow_add-count g c =
    let ws = c.args.words.now in
    let more = rank-group_more ws c.words_of_group.result.now c.loop-group.group c.words_of_group.ensures in
    omega (arith, more, c.count_of_group-count.ensures, c.loop-group.invariant.count_is, rank-in_range ws (16 * (c.loop-group.group + 1)) c.requires)

pub loop-group-preserved : goal.loop-group-preserved
loop-group-preserved g c =
    let ws = c.args.words.now in
    let items : c.push_reserved.new.self.items ≡ c.loop-group.before.items ++ c.loop-group.count ∷ [] = c.push_reserved.ensures.items in
    let more = rank-group_more ws c.words_of_group.result.now c.loop-group.group c.words_of_group.ensures in
    record {
      room = search rules;
      as_many = search rules;
      each = rw items (ranks_more ws c.loop-group.before.items c.loop-group.group c.loop-group.count c.loop-group.invariant.each c.loop-group.invariant.as_many c.loop-group.invariant.count_is);
      count_is = omega (arith, more, c.count_of_group-count.ensures, c.loop-group.invariant.count_is);
    }
