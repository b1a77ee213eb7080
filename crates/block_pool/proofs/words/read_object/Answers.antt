use Rattle.std.proofs.Common.{arith, get_or, rules}
use Rattle.block_pool.specs.Words.{pointers_of, plain_of, ordinal_of}
use Rattle.block_pool.proofs.WordLemmas.{header_word-parts, raw_at-parts}
use Rattle.block_pool.proofs.words.read_object.Goals as goal

pub unwrap-header-requires : goal.unwrap-header-requires
unwrap-header-requires c =
    let w = get_or c.args.words.now c.args.at 0 in
    let found = c.unpack.ensures.back (pointers_of w) (plain_of w) (ordinal_of w) (omega (arith, c.requires.room, c.requires.few)) (omega (arith, c.requires.room, c.requires.few)) (header_word-parts w) in
    search rules

pub returns-clause-object : goal.returns-clause-object
returns-clause-object c =
    raw_at-parts c.args.words.now c.args.at c.unwrap-header.result.pointers c.unwrap-header.result.plain c.unwrap-header.result.ordinal (rw c.unwrap-header.ensures at c.unpack.ensures.reads) (omega (arith, c.unwrap-header.result.pointers_in_range)) (omega (arith, c.unwrap-header.result.plain_in_range))
