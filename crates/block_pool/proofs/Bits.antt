-- The bits of a number as flags: how many, which, and what setting and clearing one does.
use Rattle.std.proofs.Common.{◌≡◌, ◌≢◌, ℕ, zero, suc, ◌+◌, ◌-◌, ◌*◌, ◌/◌, ◌%◌, ◌^◌, ◌<◌, ◌≤◌, inl, inr, Bool, true, false, eqb, List, ◌∷◌, ◌++◌, length, get_or, set, replicate, refl, sym, ap, subst, ◌∙◌, arith, w64}
use Rattle.std.specs.Prelude.{bit_and, bit_or, count_ones}
use Rattle.std.specs.Int.{bit_at, bit_not, trailing_zeros}
use Rattle.std.proofs.lemmas.Bool.{ne_eqb, eq-eqb, cases_eq, cases_lt}
use Rattle.std.proofs.lemmas.Nat.{ones_cat, ones_le_self, zero_from_ones}
use Rattle.std.proofs.lemmas.Nat.Bits.{bit_at_lowest, bit_at-suc, bit_at-lt, bit_at_set_same, bit_at_set_other, bit_at_clear_same, bit_at_clear_other, bit_at_ones, bit_at_ones_above, bit_at-trailing_zeros}
use Rattle.std.proofs.lemmas.List.{get_or-set_same, get_or-set_other, length-set, ext_get_or, length-replicate, get_or-replicate, get_or-append_right, get_or_append_left, length-append}
use Rattle.block_pool.specs.Members.{set_from}
use Rattle.block_pool.specs.NumberSetsWords.{bits_of, NoneSetBelow}

pub length-bits : (k n : ℕ) → length (bits_of k n) ≡ k
unfolding bits_of
length-bits zero n = refl
length-bits (suc k) n = ap suc (length-bits k (n / 2))

-- a flag is a bit
pub bits-at : (k n i : ℕ) → i < k → get_or (bits_of k n) i false ≡ eqb (bit_at n i) 1
unfolding bits_of
bits-at zero n i h = absurd (omega arith)
bits-at (suc k) n zero h = rw (bit_at_lowest n) refl
bits-at (suc k) n (suc i) h = rw (bit_at-suc n i) (bits-at k (n / 2) i (omega arith))

pub bit_is_set : (k n i : ℕ) → i < k → bit_at n i ≡ 1 → get_or (bits_of k n) i false ≡ true
bit_is_set k n i h e = bits-at k n i h ∙ eq-eqb (bit_at n i) 1 e

pub bit_is_clear : (k n i : ℕ) → i < k → bit_at n i ≡ 0 → get_or (bits_of k n) i false ≡ false
bit_is_clear k n i h e = bits-at k n i h ∙ ne_eqb (bit_at n i) 1 (λ s. absurd (omega arith))

-- one bit set, and one cleared
pub bits-set : (n k : ℕ) → k < 64 → bits_of 64 (bit_or n (1 * 2 ^ k % 2 ^ 64)) ≡ set (bits_of 64 n) k true
bits-set n k h =
    let m : ℕ = bit_or n (1 * 2 ^ k % 2 ^ 64) in
    ext_get_or false (bits_of 64 m) (set (bits_of 64 n) k true) (length-bits 64 m ∙ sym (length-set (bits_of 64 n) k true ∙ length-bits 64 n)) (
    λ i l.
    let within : i < 64 = omega (arith, length-bits 64 m) in
    elim (cases_eq i k) [
      | inl same ↦
          rw same (bit_is_set 64 m k h (bit_at_set_same w64 n k h) ∙ sym (get_or-set_same (bits_of 64 n) k true false (omega (arith, length-bits 64 n))))
      | inr ne ↦
          bits-at 64 m i within ∙ ap (λ b. eqb b 1) (bit_at_set_other w64 n k h i ne) ∙ sym (bits-at 64 n i within) ∙ sym (get_or-set_other (bits_of 64 n) k i true false ne)
    ]
    )

pub bits-cleared : (n k : ℕ) → k < 64 → bits_of 64 (bit_and n (bit_not w64 (1 * 2 ^ k % 2 ^ 64))) ≡ set (bits_of 64 n) k false
bits-cleared n k h =
    let m : ℕ = bit_and n (bit_not w64 (1 * 2 ^ k % 2 ^ 64)) in
    ext_get_or false (bits_of 64 m) (set (bits_of 64 n) k false) (length-bits 64 m ∙ sym (length-set (bits_of 64 n) k false ∙ length-bits 64 n)) (
    λ i l.
    let within : i < 64 = omega (arith, length-bits 64 m) in
    elim (cases_eq i k) [
      | inl same ↦
          rw same (bit_is_clear 64 m k h (bit_at_clear_same w64 n k h) ∙ sym (get_or-set_same (bits_of 64 n) k false false (omega (arith, length-bits 64 n))))
      | inr ne ↦
          bits-at 64 m i within ∙ ap (λ b. eqb b 1) (bit_at_clear_other w64 n k h i within ne) ∙ sym (bits-at 64 n i within) ∙ sym (get_or-set_other (bits_of 64 n) k i false false ne)
    ]
    )

-- the bits below one are set, the others are not
pub bits-ones : (k n : ℕ) → k ≤ n → bits_of n (2 ^ k - 1) ≡ replicate k true ++ replicate (n - k) false
bits-ones k n h =
    let m : ℕ = 2 ^ k - 1 in
    let right : length (replicate k true ++ replicate (n - k) false) ≡ n = length-append (replicate k true) (replicate (n - k) false) ∙ omega (arith, length-replicate k true, length-replicate (n - k) false) in
    ext_get_or false (bits_of n m) (replicate k true ++ replicate (n - k) false) (length-bits n m ∙ sym right) (
    λ i l.
    let within : i < n = omega (arith, length-bits n m) in
    elim (cases_lt i k) [
      | inl below ↦
          bit_is_set n m i within (bit_at_ones k i below)
          ∙ sym (get_or_append_left (replicate k true) (replicate (n - k) false) false i (omega (arith, length-replicate k true)) ∙ get_or-replicate k i true false below)
      | inr above ↦
          bit_is_clear n m i within (bit_at_ones_above k i above)
          ∙ sym (get_or-append_right (replicate k true) (replicate (n - k) false) k i false (length-replicate k true) above ∙ get_or-replicate (n - k) (i - k) false false (omega arith))
    ]
    )

-- the number of bits that are set
one_bit : (b : ℕ) → b < 2 → (first : ℕ) (bs : List Bool) → length (set_from first (eqb b 1 ∷ bs)) ≡ length (set_from (first + 1) bs) + count_ones b
one_bit zero h first bs = omega (arith, ones_le_self 0)
one_bit (suc zero) h first bs =
    let some : count_ones 1 ≢ 0 = λ e. absurd (omega (arith, zero_from_ones 1 e)) in
    omega (arith, ones_le_self 1, some)
one_bit (suc (suc b)) h first bs = absurd (omega arith)

pub count_bits : (first k n : ℕ) → n < 2 ^ k → length (set_from first (bits_of k n)) ≡ count_ones n
unfolding bits_of
count_bits first zero n h = let none : n ≡ 0 = omega arith in rw none (omega (arith, ones_le_self 0))
count_bits first (suc k) n h =
    let half : n / 2 < 2 ^ k = omega arith in
    let low : n % 2 < 2 = omega arith in
    let cut : n / 2 * 2 ^ 1 + n % 2 ≡ n = omega arith in
    let both : count_ones (n / 2 * 2 ^ 1 + n % 2) ≡ count_ones (n / 2) + count_ones (n % 2) = ones_cat 1 (n / 2) (n % 2) low in
    let both : count_ones n ≡ count_ones (n / 2) + count_ones (n % 2) = subst (λ m. count_ones m ≡ count_ones (n / 2) + count_ones (n % 2)) cut both in
    one_bit (n % 2) low first (bits_of k (n / 2)) ∙ ap (λ c. c + count_ones (n % 2)) (count_bits (first + 1) k (n / 2) half) ∙ sym both

-- the lowest bit that is set
pub record IsLowest (n : ℕ) : Type 0 where
  pub within : trailing_zeros w64 n < 64
  pub is_set : get_or (bits_of 64 n) (trailing_zeros w64 n) false ≡ true
  pub none_below : NoneSetBelow (bits_of 64 n) (trailing_zeros w64 n)

pub is_lowest : (n : ℕ) → 0 < n → n < 2 ^ 64 → IsLowest n
is_lowest n some h =
    let lowest = bit_at-trailing_zeros w64 n some h in
    record {
      within = lowest.0;
      is_set = bit_is_set 64 n (trailing_zeros w64 n) lowest.0 lowest.1;
      none_below = λ i l. bit_is_clear 64 n i (omega (arith, lowest.0)) (lowest.2 i l);
    }

bit_at_zero : (i : ℕ) → bit_at 0 i ≡ 0
bit_at_zero i = omega (arith, bit_at-lt 0 i)

-- no bit of 0 is set
pub bits-zero : (k : ℕ) → NoneSetBelow (bits_of k 0) k
bits-zero k i h = bit_is_clear k 0 i h (bit_at_zero i)
