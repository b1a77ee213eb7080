-- Which word has a given short one.
use Rattle.std.proofs.Common.{◌≡◌, ◌≢◌, ℕ, ◌/◌, ◌%◌, ◌<◌, ◌≤◌, true, false, nat_lt, Some, None, sym, arith}
use Rattle.std.specs.Prelude.{Option}
use Rattle.std.proofs.lemmas.Bool.Decides.{nat_tests}
use Rattle.layout.specs.declared.place.Place.{Place}
use Rattle.layout.specs.declared.place.Place.TheVariants.{Small, Large}
use Rattle.layout.specs.Place.{large_word, pointer_word}
use Rattle.forwarding.specs.ShortWords.{long_word}

pub long_of_small : (word : ℕ) → word % 65536 < 32768 → long_word word ≡ word
long_of_small word low = let small : nat_lt (word % 65536) 32768 ≡ true = grind (arith, nat_tests) in rw small

pub long_of_large : (word : ℕ) → 32768 ≤ word % 65536 → long_word word ≡ large_word (word / 65536)
long_of_large word high = let large : nat_lt (word % 65536) 32768 ≡ false = grind (arith, nat_tests) in rw large

-- a pointer's word in four bytes that is not 0 has its block's number and one in its upper half
pub has_block : (word : ℕ) (pointer : Option Place) → pointer_word pointer ≡ word → word ≢ 0 → word < 4294967296 → 1 ≤ word / 65536
has_block word None is nonzero few = absurd (nonzero (sym is))
has_block word (Some (Small at)) is nonzero few = omega arith
has_block word (Some (Large of)) is nonzero few = absurd (omega arith)
