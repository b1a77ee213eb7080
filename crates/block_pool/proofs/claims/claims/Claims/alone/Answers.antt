use Rattle.std.proofs.Common.{rules, nat_eq}
use Rattle.std.specs.List.{IsDistinct}
use Rattle.block_pool.proofs.ClaimLemmas.{IsDistinct-rising}
use Rattle.block_pool.proofs.claims.claims.Claims.alone.Goals as goal

pub invariant_of-result : goal.invariant_of-result
invariant_of-result g c =
    let once : IsDistinct nat_eq c.args.free = IsDistinct-rising c.args.free c.len-count.ensures.rising in
    search rules
