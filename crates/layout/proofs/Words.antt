-- No two pointers have one word, and no two headers.
use Rattle.std.proofs.Common.{◌≡◌, ℕ, ◌+◌, ◌<◌, ◌≤◌, ◌/◌, ◌%◌, arith}
use Rattle.layout.specs.Place.{small_word}
use Rattle.layout.specs.Header.{header_word}

-- the parts of a small place are read back from its word
pub small_word-block : (b o : ℕ) → o < 512 → small_word b o / 65536 ≡ b + 1
small_word-block b o h = omega arith

pub small_word-offset : (b o : ℕ) → o < 512 → small_word b o % 65536 ≡ o
small_word-offset b o h = omega arith

pub small_word-one_to_one : (a b o r : ℕ) → o < 512 → r < 512 → small_word a o ≡ small_word b r → (a ≡ b) × (o ≡ r)
small_word-one_to_one a b o r h k e = (omega arith, omega arith)

pub header_word-one_to_one : (p q o p' q' o' : ℕ) → p ≤ 100000 → q ≤ 100000 → p' ≤ 100000 → q' ≤ 100000 → header_word p q o ≡ header_word p' q' o' → (p ≡ p') × (q ≡ q') × (o ≡ o')
header_word-one_to_one p q o p' q' o' a b c d e = (omega arith, omega arith, omega arith)
