use Rattle.std.proofs.Common.{refl, arith}
use Rattle.std.proofs.lemmas.List.{length-replicate}
use Rattle.block_pool.proofs.WordLemmas.{is_written}
use Rattle.block_pool.proofs.words.write_new.Goals as goal

pub returns : goal.returns
returns c =
    is_written c.args.words.now _ c.clear_from.new.words c.clear_from-2.new.words c.args.at c.args.p c.args.q c.args.ordinal c.to_word.result _ _ c.to_word.ensures (omega (arith, c.requires.room, c.requires.few)) (omega (arith, c.requires.room, c.requires.few)) (omega (arith, c.requires.room)) (length-replicate _ _) (length-replicate _ _) refl c.clear_from.ensures.kept c.clear_from.ensures.cleared c.clear_from-2.ensures.kept c.clear_from-2.ensures.cleared
