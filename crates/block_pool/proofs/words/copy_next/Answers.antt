use Rattle.block_pool.proofs.CopyLemmas.{copied_next}
use Rattle.block_pool.proofs.words.copy_next.Goals as goal

pub returns-clause-copied : goal.returns-clause-copied
returns-clause-copied c = copied_next c.args.words.now c.args.from.now c.args.at c.args.offset c.args.i c.requires.room c.requires.there c.requires.before
