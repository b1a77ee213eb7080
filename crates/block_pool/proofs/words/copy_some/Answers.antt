use Rattle.std.proofs.Common.{ℕ, ◌-◌, ◌+◌, refl, subst, arith}
use Rattle.block_pool.specs.Words.{AreCopied}
use Rattle.block_pool.proofs.words.copy_some.Goals as goal

pub returns-clause-copied : goal.returns-clause-copied
returns-clause-copied c =
    let first = (c.copy_two.ensures.copied 0 (omega arith) refl).1 in
    let second = (c.copy_two-2.ensures.copied 2 (omega arith) first).1 in
    let third = (c.copy_two-3.ensures.copied 4 (omega (arith, c.requires.eight)) second).1 in
    let last = (c.copy_two-4.ensures.copied (c.args.count - 4 + 2) (omega (arith, c.requires.five)) third).1 in
    subst (λ (k : ℕ). AreCopied k c.copy_two-4.new.words c.args.at c.args.from.now c.args.offset) (omega (arith, c.requires.five)) last
