use Rattle.std.proofs.Common.{◌≡◌, ◌+◌, max, arith, ap, ◌∙◌, rules}
use Rattle.nursery.proofs.TableReads.{end_more, ord_max-is}
use Rattle.nursery.proofs.block_table.exchanging.end_of.Goals as goal

pub loop-block-preserved : goal.loop-block-preserved
loop-block-preserved g c =
    let more : c.max-end.result ≡ max c.loop-block.end (c.block-item.result.number + 1) = c.max-end.ensures ∙ ord_max-is c.loop-block.end (c.number.result + 1) ∙ ap (λ n. max c.loop-block.end (n + 1)) c.number.ensures.value in
    record {
      above = rw more (end_more (λ b. b.number) c.args.blocks.now c.loop-block.block-index c.loop-block.end c.block-item.result c.block-item.is c.loop-block-test.true c.loop-block.invariant.above);
      least = λ limit all. omega (arith, more, c.loop-block.invariant.least limit all, all c.loop-block.block-index c.block-item.result c.loop-block-test.true, ap (λ b. b.number) c.block-item.is);
    }

pub returns-clause-above : goal.returns-clause-above
returns-clause-above g c = search rules

pub returns-clause-least : goal.returns-clause-least
returns-clause-least g c = search rules
