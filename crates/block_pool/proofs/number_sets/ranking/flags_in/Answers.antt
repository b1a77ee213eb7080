use Rattle.std.proofs.Common.{sym, ap, ◌∙◌}
use Rattle.std.specs.Prelude.{count_ones}
use Rattle.std.specs.Int.Count.{ones-ones}
use Rattle.block_pool.proofs.number_sets.ranking.flags_in.Goals as goal

pub returns-then-word-eq18446744073709551615 : goal.returns-then-word-eq18446744073709551615
returns-then-word-eq18446744073709551615 c = sym (ap count_ones c.if-word-eq18446744073709551615.true ∙ ones-ones 64)
