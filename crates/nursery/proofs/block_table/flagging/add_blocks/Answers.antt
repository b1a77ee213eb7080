use Rattle.std.proofs.Common.{take_all, ◌||◌, ◌∙◌, sym, ap}
use Rattle.nursery.specs.Areas.{holds_young, is_flagged}
use Rattle.nursery.specs.Installed.{installed}
use Rattle.nursery.proofs.AreaTables.{block_flagged}
use Rattle.nursery.proofs.block_table.flagging.add_blocks.Goals as goal

pub loop-block-preserved : goal.loop-block-preserved
loop-block-preserved g c = record {
  flags = λ h n. block_flagged c.args.blocks.now c.requires.once c.loop-block.block-index c.block-item.result (sym c.block-item.is) c.loop-block-test.true h n
      (is_flagged c.args.areas.now h n) (is_flagged c.loop-block.areas h n) (is_flagged c.add_block.new.areas h n)
      (c.loop-block.invariant.flags h n) (c.add_block.ensures.flags h n);
  room = λ len room. c.add_block.ensures.room len (c.loop-block.invariant.room len room);
  generations = c.add_block.ensures.generations ∙ c.loop-block.invariant.generations;
}

pub returns-clause-flags : goal.returns-clause-flags
returns-clause-flags g c = λ h n.
    c.loop-block.invariant.flags h n ∙ ap (λ xs. holds_young h (installed xs n) || is_flagged c.args.areas.now h n) (take_all c.loop-block.block-index c.args.blocks.now c.loop-block-test.false)
