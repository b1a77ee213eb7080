use Rattle.std.proofs.Common.{refl, arith}
use Rattle.block_pool.proofs.WordLemmas.{is_written}
use Rattle.block_pool.proofs.words.write_object.Goals as goal

pub returns : goal.returns
returns c =
    is_written c.args.words.now _ c.copy_to.new.words c.copy_to-2.new.words c.args.at c.args.object.header.pointers c.args.object.header.plain c.args.ordinal c.to_word.result _ _ c.to_word.ensures (omega arith) (omega arith) (omega (arith, c.requires)) c.args.object.pointer_count c.args.object.plain_count refl c.copy_to.ensures.kept (rw (← c.args.object.pointer_count) c.copy_to.ensures.copied) (rw (← c.args.object.pointer_count) c.copy_to-2.ensures.kept) (rw (← c.args.object.pointer_count, ← c.args.object.plain_count) c.copy_to-2.ensures.copied)
