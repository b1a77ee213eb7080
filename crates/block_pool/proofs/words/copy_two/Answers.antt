use Rattle.block_pool.proofs.CopyLemmas.{copied_two}
use Rattle.block_pool.proofs.words.copy_two.Goals as goal

pub returns-clause-copied : goal.returns-clause-copied
returns-clause-copied c = λ m le before. copied_two c.args.words.now c.args.from.now c.args.at c.args.offset c.args.i m c.requires.room c.requires.there le before
