use Rattle.std.proofs.Common.{rules, nat_eq}
use Rattle.std.specs.List.{IsDistinct}
use Rattle.block_pool.proofs.ClaimLemmas.{IsDistinct-rising}
use Rattle.block_pool.proofs.claims.claims.Claims.new.Goals as goal

pub deal-requires-clause-parts : goal.deal-requires-clause-parts
deal-requires-clause-parts g c = search rules

pub returns-clause-count : goal.returns-clause-count
returns-clause-count g c = search rules

pub invariant_of-result : goal.invariant_of-result
invariant_of-result g c =
    let once : IsDistinct nat_eq c.args.free = IsDistinct-rising c.args.free c.len-count.ensures.rising in
    search rules

pub returns-clause-free : goal.returns-clause-free
returns-clause-free g c = search rules

pub of_words-requires : goal.of_words-requires
of_words-requires g c = search rules
