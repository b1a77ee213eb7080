-- The flags of words: which they are, and what setting and clearing one leaves of a set's fields.
use Rattle.std.proofs.Common.{◌≡◌, ℕ, zero, suc, ◌+◌, ◌-◌, ◌*◌, ◌/◌, ◌%◌, ◌^◌, ◌<◌, ◌≤◌, inl, inr, Bool, true, false, eqb, List, [], ◌∷◌, ◌++◌, length, get_or, set, replicate, refl, sym, ap, subst, ◌∙◌, arith, w64}
use Rattle.std.specs.Prelude.{bit_and, bit_or}
use Rattle.std.specs.Int.{bit_at, bit_not, trailing_zeros}
use Rattle.std.proofs.lemmas.Bool.{cases_lt}
use Rattle.std.proofs.lemmas.List.{length-set, set-append_left, set-append_right, get_or-append_right, get_or_append_left, length-append, append_assoc, append-nil, length-replicate, replicate-append-replicate, take_all, take_more_set, take-replicate, get_or-replicate, get_or_past}
use Rattle.std.specs.List.{range_with_len}
use Rattle.std.proofs.lemmas.List.FromFn.{length-range_with_len}
use Rattle.block_pool.specs.Members.{set_from}
use Rattle.block_pool.specs.NumberSetsWords.{bits_of, flags_of, members_of, NoneSetBelow, IsNumberSet}
use Rattle.block_pool.proofs.FlagLemmas.{length-set_from-cleared, length-set_from-set, none_past-cleared, none_past-set, none_below-kept, none_below-set, set_from-first, set_from-none, set_from-append, set_from-all, contains-below, contains-from_is_set}
use Rattle.block_pool.proofs.Bits.{length-bits, bits-at, bits-set, bits-cleared, bits-zero, bits-ones, IsLowest, is_lowest}

pub length-flags : (ws : List ℕ) → length (flags_of ws) ≡ 64 * length ws
unfolding flags_of
length-flags [] = refl
length-flags (w ∷ ws) = length-append (bits_of 64 w) (flags_of ws) ∙ omega (arith, length-bits 64 w, length-flags ws)

pub flags-append : (ws vs : List ℕ) → flags_of (ws ++ vs) ≡ flags_of ws ++ flags_of vs
unfolding flags_of
flags-append [] vs = refl
flags-append (w ∷ ws) vs = ap (λ l. bits_of 64 w ++ l) (flags-append ws vs) ∙ sym (append_assoc (bits_of 64 w) (flags_of ws) (flags_of vs))

pub flags-cons : (w : ℕ) (ws : List ℕ) → flags_of (w ∷ ws) ≡ bits_of 64 w ++ flags_of ws
unfolding flags_of
flags-cons w ws = refl

pub flags-one : (w : ℕ) → flags_of (w ∷ []) ≡ bits_of 64 w
unfolding flags_of
flags-one w = append-nil (bits_of 64 w)

-- a flag is a bit of its word
pub flags-in : (ws : List ℕ) (q j : ℕ) → q < length ws → j < 64 → get_or (flags_of ws) (64 * q + j) false ≡ get_or (bits_of 64 (get_or ws q 0)) j false
unfolding flags_of
flags-in [] q j h l = absurd (omega arith)
flags-in (w ∷ ws) zero j h l =
    let same : 64 * zero + j ≡ j = omega arith in
    ap (λ i. get_or (bits_of 64 w ++ flags_of ws) i false) same ∙ get_or_append_left (bits_of 64 w) (flags_of ws) false j (omega (arith, length-bits 64 w))
flags-in (w ∷ ws) (suc q) j h l =
    let same : 64 * suc q + j - 64 ≡ 64 * q + j = omega arith in
    get_or-append_right (bits_of 64 w) (flags_of ws) 64 (64 * suc q + j) false (length-bits 64 w) (omega arith)
    ∙ ap (λ i. get_or (flags_of ws) i false) same
    ∙ flags-in ws q j (omega arith) l

pub flags-set_in : (ws : List ℕ) (q j w : ℕ) (b : Bool) → q < length ws → j < 64 → bits_of 64 w ≡ set (bits_of 64 (get_or ws q 0)) j b → flags_of (set ws q w) ≡ set (flags_of ws) (64 * q + j) b
unfolding flags_of
flags-set_in [] q j w b h l e = absurd (omega arith)
flags-set_in (v ∷ ws) zero j w b h l e =
    let same : j ≡ 64 * zero + j = omega arith in
    ap (λ bs. bs ++ flags_of ws) e ∙ sym (set-append_left (bits_of 64 v) (flags_of ws) j b (omega (arith, length-bits 64 v))) ∙ ap (λ i. set (bits_of 64 v ++ flags_of ws) i b) same
flags-set_in (v ∷ ws) (suc q) j w b h l e =
    let same : 64 * suc q + j - 64 ≡ 64 * q + j = omega arith in
    ap (λ bs. bits_of 64 v ++ bs) (flags-set_in ws q j w b (omega arith) l e)
    ∙ ap (λ i. bits_of 64 v ++ set (flags_of ws) i b) (sym same)
    ∙ sym (set-append_right (bits_of 64 v) (flags_of ws) 64 (64 * suc q + j) b (length-bits 64 v) (omega arith))

-- the flag of a number
cut : (n : ℕ) → 64 * (n / 64) + n % 64 ≡ n
cut n = omega arith

pub flags-at : (ws : List ℕ) (n : ℕ) → n < 64 * length ws → get_or (flags_of ws) n false ≡ eqb (bit_at (get_or ws (n / 64) 0) (n % 64)) 1
flags-at ws n h =
    let low : n % 64 < 64 = omega arith in
    ap (λ i. get_or (flags_of ws) i false) (sym (cut n)) ∙ flags-in ws (n / 64) (n % 64) (omega arith) low ∙ bits-at 64 (get_or ws (n / 64) 0) (n % 64) low

pub flags-set : (ws : List ℕ) (n word : ℕ) → n < 64 * length ws → word ≡ get_or ws (n / 64) 0 → flags_of (set ws (n / 64) (bit_or word (1 * 2 ^ (n % 64) % 2 ^ 64))) ≡ set (flags_of ws) n true
flags-set ws n word h e =
    let low : n % 64 < 64 = omega arith in
    let bits : bits_of 64 (bit_or word (1 * 2 ^ (n % 64) % 2 ^ 64)) ≡ set (bits_of 64 (get_or ws (n / 64) 0)) (n % 64) true =
    bits-set word (n % 64) low ∙ ap (λ w. set (bits_of 64 w) (n % 64) true) e
    in
    flags-set_in ws (n / 64) (n % 64) (bit_or word (1 * 2 ^ (n % 64) % 2 ^ 64)) true (omega arith) low bits ∙ ap (λ i. set (flags_of ws) i true) (cut n)

pub flags-cleared_in : (ws : List ℕ) (q j word : ℕ) → q < length ws → j < 64 → word ≡ get_or ws q 0 → flags_of (set ws q (bit_and word (bit_not w64 (1 * 2 ^ j % 2 ^ 64)))) ≡ set (flags_of ws) (64 * q + j) false
flags-cleared_in ws q j word h low e =
    flags-set_in ws q j (bit_and word (bit_not w64 (1 * 2 ^ j % 2 ^ 64))) false h low (bits-cleared word j low ∙ ap (λ w. set (bits_of 64 w) j false) e)

pub flags-cleared : (ws : List ℕ) (n word : ℕ) → n < 64 * length ws → word ≡ get_or ws (n / 64) 0 → flags_of (set ws (n / 64) (bit_and word (bit_not w64 (1 * 2 ^ (n % 64) % 2 ^ 64)))) ≡ set (flags_of ws) n false
flags-cleared ws n word h e =
    flags-cleared_in ws (n / 64) (n % 64) word (omega arith) (omega arith) e ∙ ap (λ i. set (flags_of ws) i false) (cut n)

-- no flag is set in words that are 0
pub none_in-zeros : (ws : List ℕ) (low place : ℕ) → place ≤ length ws → NoneSetBelow (flags_of ws) (64 * low) → ((k : ℕ) → low ≤ k → k < place → get_or ws k 0 ≡ 0) → NoneSetBelow (flags_of ws) (64 * place)
none_in-zeros ws low place within none zeros n h =
    elim (cases_lt n (64 * low)) [
      | inl below ↦ none n below
      | inr above ↦
          let is_zero : get_or ws (n / 64) 0 ≡ 0 = zeros (n / 64) (omega arith) (omega arith) in
          let j : n % 64 < 64 = omega arith in
          ap (λ i. get_or (flags_of ws) i false) (sym (cut n)) ∙ flags-in ws (n / 64) (n % 64) (omega arith) j ∙ ap (λ w. get_or (bits_of 64 w) (n % 64) false) is_zero ∙ bits-zero 64 (n % 64) j
    ]

-- the fields after a number went, and after one came
pub IsNumberSet-removed : (ws vs : List ℕ) (limit count lowest low n : ℕ) → IsNumberSet ws limit count lowest → flags_of vs ≡ set (flags_of ws) n false → length vs ≡ length ws → get_or (flags_of ws) n false ≡ true → NoneSetBelow (flags_of ws) (64 * low) → low ≤ length ws → IsNumberSet vs limit (count - 1) low
IsNumberSet-removed ws vs limit count lowest low n s e same is none within =
    record {
      count_is = rw e (omega (arith, s.count_is, length-set_from-cleared 0 (flags_of ws) n is));
      none_below = rw e (none_below-kept (flags_of ws) (64 * low) n none);
      none_past = rw e (none_past-cleared (flags_of ws) limit n s.none_past);
      lowest_in_words = omega arith;
      limit_in_words = omega (arith, s.limit_in_words);
      limit_in_range = s.limit_in_range;
      words_in_range = omega (arith, s.words_in_range);
    }

pub IsNumberSet-inserted : (ws vs : List ℕ) (limit count lowest low n : ℕ) → IsNumberSet ws limit count lowest → flags_of vs ≡ set (flags_of ws) n true → length vs ≡ length ws → n < limit → get_or (flags_of ws) n false ≡ false → low ≤ lowest → low ≤ n / 64 → IsNumberSet vs limit (count + 1) low
IsNumberSet-inserted ws vs limit count lowest low n s e same below is most at =
    record {
      count_is = rw e (omega (arith, s.count_is, length-set_from-set 0 (flags_of ws) n (omega (arith, length-flags ws, s.limit_in_words)) is));
      none_below = rw e (none_below-set (flags_of ws) (64 * low) (64 * lowest) n (omega arith) (omega arith) s.none_below);
      none_past = rw e (none_past-set (flags_of ws) limit n below s.none_past);
      lowest_in_words = omega (arith, s.lowest_in_words);
      limit_in_words = omega (arith, s.limit_in_words);
      limit_in_range = s.limit_in_range;
      words_in_range = omega (arith, s.words_in_range);
    }

-- the lowest number: it stands in the first word that is not 0
pub record IsFirstTaken (ws vs : List ℕ) (limit count at number : ℕ) : Type 0 where
  pub sound : IsNumberSet vs limit (count - 1) at
  pub first : members_of ws ≡ number ∷ members_of vs
  pub some : 1 ≤ count
  pub in_limit : number < limit

pub first_taken : (ws : List ℕ) (limit count lowest at word : ℕ) → IsNumberSet ws limit count lowest → ((k : ℕ) → lowest ≤ k → k < at → get_or ws k 0 ≡ 0) → at < length ws → word ≡ get_or ws at 0 → 0 < word → word < 2 ^ 64 → IsFirstTaken ws (set ws at (bit_and word (bit_not w64 (1 * 2 ^ trailing_zeros w64 word % 2 ^ 64)))) limit count at (at * 64 + trailing_zeros w64 word)
first_taken ws limit count lowest at word s passed within e some below =
    let bit : ℕ = trailing_zeros w64 word in
    let lowest_bit : IsLowest word = is_lowest word some below in
    let vs : List ℕ = set ws at (bit_and word (bit_not w64 (1 * 2 ^ bit % 2 ^ 64))) in
    let place : 64 * at + bit ≡ at * 64 + bit = omega arith in
    let flags : flags_of vs ≡ set (flags_of ws) (at * 64 + bit) false =
    flags-cleared_in ws at bit word within lowest_bit.within e ∙ ap (λ i. set (flags_of ws) i false) place
    in
    let is : get_or (flags_of ws) (at * 64 + bit) false ≡ true =
    ap (λ i. get_or (flags_of ws) i false) (sym place) ∙ flags-in ws at bit within lowest_bit.within ∙ ap (λ w. get_or (bits_of 64 w) bit false) (sym e) ∙ lowest_bit.is_set
    in
    let low : NoneSetBelow (flags_of ws) (64 * at) = none_in-zeros ws lowest at (omega arith) s.none_below passed in
    let none : NoneSetBelow (flags_of ws) (at * 64 + bit) =
    λ k h. elim (cases_lt k (64 * at)) [
      | inl before ↦ low k before
      | inr after ↦
          let same : k ≡ 64 * at + (k - 64 * at) = omega arith in
          let j : k - 64 * at < bit = omega arith in
          ap (λ i. get_or (flags_of ws) i false) same ∙ flags-in ws at (k - 64 * at) within (omega (arith, lowest_bit.within)) ∙ ap (λ w. get_or (bits_of 64 w) (k - 64 * at) false) (sym e) ∙ lowest_bit.none_below (k - 64 * at) j
    ]
    in
    let first : members_of ws ≡ (0 + (at * 64 + bit)) ∷ set_from 0 (set (flags_of ws) (at * 64 + bit) false) = set_from-first 0 (flags_of ws) (at * 64 + bit) none is in
    let zero_more : 0 + (at * 64 + bit) ≡ at * 64 + bit = omega arith in
    record {
      sound = IsNumberSet-removed ws vs limit count lowest at (at * 64 + bit) s flags (length-set ws at (bit_and word (bit_not w64 (1 * 2 ^ bit % 2 ^ 64)))) is low (omega arith);
      first = first ∙ ap (λ n. n ∷ set_from 0 (set (flags_of ws) (at * 64 + bit) false)) zero_more ∙ ap (λ bs. (at * 64 + bit) ∷ set_from 0 bs) (sym flags);
      some = omega (arith, s.count_is, length-set_from-cleared 0 (flags_of ws) (at * 64 + bit) is);
      in_limit = contains-below (flags_of ws) limit (at * 64 + bit) s.none_past (contains-from_is_set (flags_of ws) (at * 64 + bit) is);
    }

-- where all words are 0 there is no member
pub IsNumberSet-none : (ws : List ℕ) (limit count lowest at : ℕ) → IsNumberSet ws limit count lowest → ((k : ℕ) → lowest ≤ k → k < at → get_or ws k 0 ≡ 0) → at ≡ length ws → IsNumberSet ws limit count at × (members_of ws ≡ [])
IsNumberSet-none ws limit count lowest at s passed all =
    let low : NoneSetBelow (flags_of ws) (64 * at) = none_in-zeros ws lowest at (omega arith) s.none_below passed in
    let whole : 64 * at ≡ length (flags_of ws) = omega (arith, length-flags ws) in (
      record {
        count_is = s.count_is;
        none_below = low;
        none_past = s.none_past;
        lowest_in_words = omega arith;
        limit_in_words = s.limit_in_words;
        limit_in_range = s.limit_in_range;
        words_in_range = s.words_in_range;
      },
      set_from-none 0 (flags_of ws) (subst (NoneSetBelow (flags_of ws)) whole low),
    )

-- words of a full set
flags-full : (n : ℕ) → flags_of (replicate n (2 ^ 64 - 1)) ≡ replicate (64 * n) true
unfolding flags_of
flags-full zero = refl
flags-full (suc n) =
    let word : bits_of 64 (2 ^ 64 - 1) ≡ replicate 64 true ++ replicate (64 - 64) false = bits-ones 64 64 (omega arith) in
    let more : 64 + 64 * n ≡ 64 * suc n = omega arith in
    ap (λ bs. bs ++ flags_of (replicate n (2 ^ 64 - 1))) (word ∙ append-nil (replicate 64 true))
    ∙ ap (λ bs. replicate 64 true ++ bs) (flags-full n)
    ∙ replicate-append-replicate 64 (64 * n) true
    ∙ ap (λ k. replicate k true) more

pub full-flags : (limit : ℕ) → flags_of (set (replicate (limit / 64 + 1) (2 ^ 64 - 1)) (limit / 64) (2 ^ (limit % 64) - 1)) ≡ replicate limit true ++ replicate (64 - limit % 64) false
full-flags limit =
    let last : ℕ = 2 ^ (limit % 64) - 1 in
    let words : List ℕ = replicate (limit / 64 + 1) (2 ^ 64 - 1) in
    let count : length words ≡ limit / 64 + 1 = length-replicate (limit / 64 + 1) (2 ^ 64 - 1) in
    let wide : length (set words (limit / 64) last) ≤ limit / 64 + 1 = omega (arith, length-set words (limit / 64) last) in
    let cut_off : set words (limit / 64) last ≡ replicate (limit / 64) (2 ^ 64 - 1) ++ last ∷ [] =
    sym (take_all (limit / 64 + 1) (set words (limit / 64) last) wide)
    ∙ take_more_set words (limit / 64) last (omega arith)
    ∙ ap (λ l. l ++ last ∷ []) (take-replicate (limit / 64) (limit / 64 + 1) (2 ^ 64 - 1) (omega arith))
    in
    ap flags_of cut_off
    ∙ flags-append (replicate (limit / 64) (2 ^ 64 - 1)) (last ∷ [])
    ∙ ap (λ bs. bs ++ flags_of (last ∷ [])) (flags-full (limit / 64))
    ∙ ap (λ bs. replicate (64 * (limit / 64)) true ++ bs) (flags-one last ∙ bits-ones (limit % 64) 64 (omega arith))
    ∙ sym (append_assoc (replicate (64 * (limit / 64)) true) (replicate (limit % 64) true) (replicate (64 - limit % 64) false))
    ∙ ap (λ bs. bs ++ replicate (64 - limit % 64) false) (replicate-append-replicate (64 * (limit / 64)) (limit % 64) true ∙ ap (λ k. replicate k true) (cut limit))

replicate-none : (k i : ℕ) → get_or (replicate k false) i false ≡ false
replicate-none k i = elim (cases_lt i k) [ inl h ↦ get_or-replicate k i false false h | inr h ↦ get_or_past (replicate k false) i false (omega (arith, length-replicate k false)) ]

pub full-members : (limit : ℕ) (ws : List ℕ) → flags_of ws ≡ replicate limit true ++ replicate (64 - limit % 64) false → members_of ws ≡ range_with_len 0 limit
full-members limit ws e =
    let rest : List Bool = replicate (64 - limit % 64) false in
    ap (set_from 0) e
    ∙ set_from-append 0 (replicate limit true) rest
    ∙ ap (λ l. l ++ set_from (0 + length (replicate limit true)) rest) (set_from-all 0 limit)
    ∙ ap (λ l. range_with_len 0 limit ++ l) (set_from-none (0 + length (replicate limit true)) rest (λ k h. replicate-none (64 - limit % 64) k))
    ∙ append-nil (range_with_len 0 limit)

pub IsNumberSet-full : (limit : ℕ) (ws : List ℕ) → limit ≤ 65535 → length ws ≡ limit / 64 + 1 → flags_of ws ≡ replicate limit true ++ replicate (64 - limit % 64) false → IsNumberSet ws limit limit 0
IsNumberSet-full limit ws most wide e =
    record {
      count_is = sym (ap length (full-members limit ws e) ∙ length-range_with_len 0 limit);
      none_below = λ k h. absurd (omega arith);
      none_past =
          λ k h.
          ap (λ bs. get_or bs k false) e
          ∙ get_or-append_right (replicate limit true) (replicate (64 - limit % 64) false) limit k false (length-replicate limit true) h
          ∙ replicate-none (64 - limit % 64) (k - limit);
      lowest_in_words = omega arith;
      limit_in_words = omega arith;
      limit_in_range = most;
      words_in_range = omega arith;
    }
