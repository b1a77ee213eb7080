-- A flag of words that grow, and the first one that is set from a place on.
use Rattle.std.proofs.Common.{◌≡◌, ℕ, ◌+◌, ◌-◌, ◌*◌, ◌/◌, ◌%◌, ◌^◌, ◌<◌, ◌≤◌, inl, inr, Bool, true, false, eqb, List, ◌++◌, length, get_or, replicate, sym, ap, subst, ◌∙◌, arith, w64}
use Rattle.std.specs.Int.{bit_at, trailing_zeros}
use Rattle.std.proofs.lemmas.Bool.{cases_lt, eq-eqb, ne_eqb}
use Rattle.std.proofs.lemmas.List.{get_or-append_right, get_or_append_left, get_or_past, get_or-replicate, length-replicate}
use Rattle.std.proofs.lemmas.Nat.{div-add-mod', mod_below, pow_pos}
use Rattle.std.proofs.lemmas.Nat.Bits.{bit_at-trailing_zeros, bit_at_cat_high, bit_at_above, bit_at-lt}
use Rattle.block_pool.specs.NumberSetsWords.{bits_of, flags_of, NoneSetFrom, NoneSetBetween}
use Rattle.block_pool.proofs.Bits.{bits-at, bits-zero}
use Rattle.block_pool.proofs.NumberSetsWordLemmas.{length-flags, flags-append, flags-in}

-- past the words no flag is set
pub flags-past : (ws : List ℕ) (k : ℕ) → 64 * length ws ≤ k → get_or (flags_of ws) k false ≡ false
flags-past ws k h = get_or_past (flags_of ws) k false (omega (arith, length-flags ws))

-- a flag of a word that is 0
pub flags-zero_word : (ws : List ℕ) (k : ℕ) → k < 64 * length ws → get_or ws (k / 64) 0 ≡ 0 → get_or (flags_of ws) k false ≡ false
flags-zero_word ws k h e =
    let j : k % 64 < 64 = omega arith in
    let cut : k ≡ 64 * (k / 64) + k % 64 = omega arith in
    ap (λ i. get_or (flags_of ws) i false) cut
    ∙ flags-in ws (k / 64) (k % 64) (omega arith) j
    ∙ ap (λ w. get_or (bits_of 64 w) (k % 64) false) e
    ∙ bits-zero 64 (k % 64) j

flags-zeros : (m k : ℕ) → get_or (flags_of (replicate m 0)) k false ≡ false
flags-zeros m k =
    elim (cases_lt k (64 * m)) [
      | inl below ↦ flags-zero_word (replicate m 0) k (omega (arith, length-replicate {A = ℕ} m 0)) (get_or-replicate m (k / 64) 0 0 (omega arith))
      | inr above ↦ flags-past (replicate m 0) k (omega (arith, length-replicate {A = ℕ} m 0))
    ]

-- words that are 0 behind the others set no flag
pub flags-grown : (ws : List ℕ) (m k : ℕ) → get_or (flags_of (ws ++ replicate m 0)) k false ≡ get_or (flags_of ws) k false
flags-grown ws m k =
    ap (λ bs. get_or bs k false) (flags-append ws (replicate m 0)) ∙ elim (cases_lt k (64 * length ws)) [
      | inl below ↦ get_or_append_left (flags_of ws) (flags_of (replicate m 0)) false k (omega (arith, length-flags ws))
      | inr above ↦
          get_or-append_right (flags_of ws) (flags_of (replicate m 0)) (64 * length ws) k false (length-flags ws) above
          ∙ flags-zeros m (k - 64 * length ws)
          ∙ sym (flags-past ws k above)
    ]

-- the bits of a number from one on
bit_at-shifted : (n j i : ℕ) → bit_at (n / 2 ^ j) i ≡ bit_at n (j + i)
bit_at-shifted n j i =
    let whole : n / 2 ^ j * 2 ^ j + n % 2 ^ j ≡ n = div-add-mod' n (2 ^ j) in
    let low : n % 2 ^ j < 2 ^ j = mod_below n (2 ^ j) (pow_pos j) in
    let back : j + i - j ≡ i = omega arith in
    sym (ap (λ m. bit_at m (j + i)) (sym whole) ∙ bit_at_cat_high (n / 2 ^ j) j (n % 2 ^ j) (j + i) low (omega arith) ∙ ap (bit_at (n / 2 ^ j)) back)

-- a flag is a bit of what is left of its word from a place on
flags-rest : (ws : List ℕ) (from i word : ℕ) → from < 64 * length ws → word ≡ get_or ws (from / 64) 0 → from % 64 + i < 64 → get_or (flags_of ws) (from + i) false ≡ eqb (bit_at (word / 2 ^ (from % 64)) i) 1
flags-rest ws from i word h e l =
    let cut : from + i ≡ 64 * (from / 64) + (from % 64 + i) = omega arith in
    ap (λ k. get_or (flags_of ws) k false) cut
    ∙ flags-in ws (from / 64) (from % 64 + i) (omega arith) l
    ∙ bits-at 64 (get_or ws (from / 64) 0) (from % 64 + i) l
    ∙ ap (λ w. eqb (bit_at w (from % 64 + i)) 1) (sym e)
    ∙ ap (λ b. eqb b 1) (sym (bit_at-shifted word (from % 64) i))

-- the first flag that is set from a place on
pub record IsFirst (flags : List Bool) (from n : ℕ) : Type 0 where
  pub within : n < length flags
  pub is_set : get_or flags n false ≡ true
  pub none_between : NoneSetBetween flags from n

-- the first one is in the word of the place itself
pub first_in_rest : (ws : List ℕ) (from word : ℕ) → from < 64 * length ws → word ≡ get_or ws (from / 64) 0 → word < 2 ^ 64 → 0 < word / 2 ^ (from % 64) → word / 2 ^ (from % 64) < 2 ^ 64 → IsFirst (flags_of ws) from (from + trailing_zeros w64 (word / 2 ^ (from % 64)))
first_in_rest ws from word h e below some small =
    let rest : ℕ = word / 2 ^ (from % 64) in
    let bit : ℕ = trailing_zeros w64 rest in
    let lowest = bit_at-trailing_zeros w64 rest some small in
    let inside : from % 64 + bit < 64 =
    elim (cases_lt (from % 64 + bit) 64) [
      | inl l ↦ l
      | inr a ↦ absurd (omega (arith, bit_at_above word 64 (from % 64 + bit) below a, bit_at-shifted word (from % 64) bit, lowest.1))
    ]
    in
    record {
      within = omega (arith, length-flags ws);
      is_set = flags-rest ws from bit word h e inside ∙ eq-eqb (bit_at rest bit) 1 lowest.1;
      none_between =
          λ k a b.
          let i : ℕ = k - from in
          let same : from + i ≡ k = omega arith in
          let off : bit_at rest i ≡ 0 = lowest.2 i (omega arith) in
          ap (λ j. get_or (flags_of ws) j false) (sym same)
          ∙ flags-rest ws from i word h e (omega arith)
          ∙ ne_eqb (bit_at rest i) 1 (λ s. absurd (omega (arith, off, s)));
    }

-- no flag is set up to a word, where what is left of the first word is 0, and so are those between
pub none_between-words : (ws : List ℕ) (from word at : ℕ) → from < 64 * length ws → word ≡ get_or ws (from / 64) 0 → word / 2 ^ (from % 64) ≡ 0 → at ≤ length ws → ((k : ℕ) → from / 64 + 1 ≤ k → k < at → get_or ws k 0 ≡ 0) → NoneSetBetween (flags_of ws) from (64 * at)
none_between-words ws from word at h e none most zeros k a b =
    elim (cases_lt k (64 * (from / 64 + 1))) [
      | inl in_first ↦
          let i : ℕ = k - from in
          let same : from + i ≡ k = omega arith in
          let off : bit_at 0 i ≡ 0 = omega (arith, bit_at-lt 0 i) in
          ap (λ j. get_or (flags_of ws) j false) (sym same)
          ∙ flags-rest ws from i word h e (omega arith)
          ∙ ap (λ w. eqb (bit_at w i) 1) none
          ∙ ne_eqb (bit_at 0 i) 1 (λ s. absurd (omega (arith, off, s)))
      | inr later ↦ flags-zero_word ws k (omega arith) (zeros (k / 64) (omega arith) (omega arith))
    ]

-- there is none, where the words end
pub none_from-words : (ws : List ℕ) (from at : ℕ) → length ws ≤ at → NoneSetBetween (flags_of ws) from (64 * at) → NoneSetFrom (flags_of ws) from
none_from-words ws from at end none k a =
    elim (cases_lt k (64 * at)) [
      | inl below ↦ none k a below
      | inr above ↦ flags-past ws k (omega arith)
    ]

-- the first one is in a later word
pub first_in-word : (ws : List ℕ) (from at word : ℕ) → at < length ws → word ≡ get_or ws at 0 → 0 < word → word < 2 ^ 64 → from ≤ 64 * at → NoneSetBetween (flags_of ws) from (64 * at) → IsFirst (flags_of ws) from (at * 64 + trailing_zeros w64 word)
first_in-word ws from at word h e some below low none =
    let start : ℕ = 64 * at in
    let row : start / 64 ≡ at = omega arith in
    let column : start % 64 ≡ 0 = omega arith in
    let whole : word / 2 ^ (start % 64) ≡ word = rw column (omega arith) in
    let there : word ≡ get_or ws (start / 64) 0 = rw row e in
    let later : IsFirst (flags_of ws) start (start + trailing_zeros w64 (word / 2 ^ (start % 64))) = first_in_rest ws start word (omega arith) there below (omega arith) (omega arith) in
    let place : start + trailing_zeros w64 (word / 2 ^ (start % 64)) ≡ at * 64 + trailing_zeros w64 word = ap (λ w. start + trailing_zeros w64 w) whole ∙ omega arith in
    let first : IsFirst (flags_of ws) start (at * 64 + trailing_zeros w64 word) = subst (IsFirst (flags_of ws) start) place later in
    record {
      within = first.within;
      is_set = first.is_set;
      none_between =
          λ k a b.
          elim (cases_lt k start) [
            | inl before ↦ none k a before
            | inr after ↦ first.none_between k after b
          ];
    }
