use Rattle.std.proofs.Common.{refl, arith}
use Rattle.block_pool.proofs.CopyLemmas.{copied_object}
use Rattle.block_pool.proofs.words.copy_object.Goals as goal

pub returns : goal.returns
returns c =
    copied_object c.args.words.now c.copy_words.new.words c.args.from.now c.args.at c.args.offset c.args.ordinal _ c.args.size c.requires.size refl (omega (arith, c.requires.room, c.requires.size)) (omega (arith, c.requires.there, c.requires.size)) c.copy_words.ensures.kept c.copy_words.ensures.copied
