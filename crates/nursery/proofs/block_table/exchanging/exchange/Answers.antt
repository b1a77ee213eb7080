use Rattle.std.proofs.lemmas.Grind.{common_steps}
use Rattle.std.proofs.Common.{ap, cond, ◌∙◌, ◌&&◌, not, arith, rules}
use Rattle.std.specs.Prelude.{is_some}
use Rattle.nursery.specs.Installed.{installed}
use Rattle.nursery.proofs.block_table.exchanging.exchange.Goals as goal

pub returns-clause-table : goal.returns-clause-table
returns-clause-table g c = λ n.
    c.install.ensures.table n
    ∙ ap (λ o. cond (is_some (installed c.args.blocks.items n)) (installed c.args.blocks.items n) o) (c.give_up_area.ensures.table n)

pub returns-clause-free : goal.returns-clause-free
returns-clause-free g c = λ n. c.install.ensures.free n ∙ ap (λ b. b && not (is_some (installed c.args.blocks.items n))) (c.give_up_area.ensures.free n)

pub install-requires-clause-in_table : goal.install-requires-clause-in_table
install-requires-clause-in_table g c = grind (arith, common_steps)

pub install-requires-clause-free : goal.install-requires-clause-free
install-requires-clause-free g c = grind arith

pub returns-clause-limit : goal.returns-clause-limit
returns-clause-limit g c = search rules
