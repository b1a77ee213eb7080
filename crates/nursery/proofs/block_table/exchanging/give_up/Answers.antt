use Rattle.std.proofs.Common.{◌≡◌, true, sym, ap, ◌∙◌, ◌&&◌, ◌||◌, arith}
use Rattle.std.proofs.lemmas.Bool.Decides.{nat_tests}
use Rattle.std.specs.Prelude.{nat_eq, nat_le}
use Rattle.model.specs.Reached.{has}
use Rattle.nursery.proofs.Areas.{has-insert_rising}
use Rattle.nursery.proofs.block_table.exchanging.give_up.Goals as goal

pub returns-clause-free : goal.returns-clause-free
returns-clause-free g c = λ n.
    let past : nat_le c.args.count c.args.number ≡ true = grind (arith, nat_tests, c.if-number-count.false) in
    ap (λ p. has p.free n) c.give_back.ensures.given ∙ has-insert_rising c.args.number c.args.pool.now.free n ∙ sym (ap (λ t. (t && nat_eq n c.args.number) || has c.args.pool.now.free n) past)
