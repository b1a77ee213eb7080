use Rattle.std.proofs.Common.{ℕ, refl, subst, arith}
use Rattle.block_pool.specs.Words.{AreCopied}
use Rattle.block_pool.proofs.words.copy_few.Goals as goal

pub returns-clause-copied : goal.returns-clause-copied
returns-clause-copied c =
    let first = (c.copy_two.ensures.copied 0 (omega arith) refl).1 in
    let last = (c.copy_two-2.ensures.copied 2 (omega (arith, c.requires.four)) first).1 in
    subst (λ (k : ℕ). AreCopied k c.copy_two-2.new.words c.args.at c.args.from.now c.args.offset) (omega (arith, c.requires.two)) last
