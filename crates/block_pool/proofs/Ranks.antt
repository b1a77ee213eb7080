-- How many members stand before each word, and where a member stands by that.
use Rattle.std.proofs.Common.{◌≡◌, ℕ, zero, suc, ◌+◌, ◌-◌, ◌*◌, ◌^◌, ◌<◌, ◌≤◌, inl, inr, Bool, false, List, [], ◌∷◌, ◌++◌, length, get_or, set, take, drop, refl, sym, ap, subst, ◌∙◌, ◌%◌, arith, w64, Option, Some, None, MatchOption}
use Rattle.std.specs.Prelude.{bit_and, count_ones}
use Rattle.std.specs.Int.{bit_not, trailing_zeros}
use Rattle.std.specs.List.{slice_get, HoldsAt}
use Rattle.std.proofs.lemmas.Bool.{cases_lt}
use Rattle.std.proofs.lemmas.List.{take_more, take_all, take-append-drop, drop_more, length-take, length-drop, length-take-le, length-append, get_or-append_right, get_or_append_left, get_or-drop}
use Rattle.std.proofs.lemmas.Option.{slice_get-get_or, slice_get_within, get_or_from_slice_get}
use Rattle.block_pool.specs.Members.{set_from}
use Rattle.block_pool.specs.NumberSetsWords.{bits_of, flags_of, members_of, rank, NoneSetBelow}
use Rattle.block_pool.proofs.FlagLemmas.{set_from-append, set_from-first, set_from-none, length-set_from-le}
use Rattle.block_pool.proofs.Bits.{length-bits, bits-zero, bits-cleared, count_bits, IsLowest, is_lowest}
use Rattle.block_pool.proofs.NumberSetsWordLemmas.{length-flags, flags-append, flags-one, flags-cons}

pub rank-zero : (ws : List ℕ) → rank ws 0 ≡ 0
unfolding flags_of
rank-zero ws = refl

pub rank-all : (ws : List ℕ) (place : ℕ) → length ws ≤ place → rank ws place ≡ length (members_of ws)
rank-all ws place h = ap (λ vs. length (members_of vs)) (take_all place ws h)

pub rank-le : (ws : List ℕ) (place : ℕ) → rank ws place ≤ 64 * place
rank-le ws place = omega (arith, length-set_from-le 0 (flags_of (take place ws)), length-flags (take place ws), length-take place ws)

pub rank-more : (ws : List ℕ) (place word : ℕ) → place < length ws → word ≡ get_or ws place 0 → word < 2 ^ 64 → rank ws (place + 1) ≡ rank ws place + count_ones word
rank-more ws place word h e below =
    let front : List Bool = flags_of (take place ws) in
    let bits : flags_of (get_or ws place 0 ∷ []) ≡ bits_of 64 word = flags-one (get_or ws place 0) ∙ ap (bits_of 64) (sym e) in
    let flags : flags_of (take (place + 1) ws) ≡ front ++ bits_of 64 word =
    ap flags_of (take_more ws place 0 h) ∙ flags-append (take place ws) (get_or ws place 0 ∷ []) ∙ ap (λ bs. front ++ bs) bits
    in
    ap (λ bs. length (set_from 0 bs)) flags
    ∙ ap length (set_from-append 0 front (bits_of 64 word))
    ∙ length-append (set_from 0 front) (set_from (0 + length front) (bits_of 64 word))
    ∙ ap (λ n. length (set_from 0 front) + n) (count_bits (0 + length front) 64 word below)

-- a member's place by the rank of its word
pub member_in : (ws : List ℕ) (at word k n : ℕ) → at < length ws → word ≡ get_or ws at 0 → word < 2 ^ 64 → rank ws at ≤ k → k < rank ws at + count_ones word → get_or (set_from (64 * at) (bits_of 64 word)) (k - rank ws at) 0 ≡ n → slice_get (members_of ws) k ≡ Some n
member_in ws at word k n h e below low high is =
    let front : List Bool = flags_of (take at ws) in
    let rest : List Bool = flags_of (drop (at + 1) ws) in
    let bits : List Bool = bits_of 64 word in
    let wide : 0 + length front ≡ 64 * at = omega (arith, length-flags (take at ws), length-take-le at ws) in
    let flags : flags_of ws ≡ front ++ (bits ++ rest) =
    ap flags_of (sym (take-append-drop at ws) ∙ ap (λ vs. take at ws ++ vs) (drop_more ws at 0 h))
    ∙ flags-append (take at ws) (get_or ws at 0 ∷ drop (at + 1) ws)
    ∙ ap (λ bs. front ++ bs) (flags-cons (get_or ws at 0) (drop (at + 1) ws) ∙ ap (λ w. bits_of 64 w ++ rest) (sym e))
    in
    let ms : List ℕ = set_from (64 * at) bits in
    let after : List ℕ = set_from (64 * at + length bits) rest in
    let members : members_of ws ≡ set_from 0 front ++ (ms ++ after) =
    ap (set_from 0) flags
    ∙ set_from-append 0 front (bits ++ rest)
    ∙ ap (λ f. set_from 0 front ++ set_from f (bits ++ rest)) wide
    ∙ ap (λ l. set_from 0 front ++ l) (set_from-append (64 * at) bits rest)
    in
    let many : length ms ≡ count_ones word = count_bits (64 * at) 64 word below in
    let here : get_or (set_from 0 front ++ (ms ++ after)) k 0 ≡ n =
    get_or-append_right (set_from 0 front) (ms ++ after) (rank ws at) k 0 refl low
    ∙ get_or_append_left ms after 0 (k - rank ws at) (omega arith)
    ∙ is
    in
    let within : k < length (set_from 0 front ++ (ms ++ after)) =
    omega (arith, length-append (set_from 0 front) (ms ++ after), length-append ms after)
    in
    ap (λ l. slice_get l k) members ∙ slice_get-get_or (set_from 0 front ++ (ms ++ after)) k 0 within ∙ ap (λ m. Some m) here

-- the bits that are left after the lowest ones were cleared
abbrev pub AreLeft : ℕ → ℕ → ℕ → Type 0
AreLeft word left i = (first : ℕ) → set_from first (bits_of 64 left) ≡ drop i (set_from first (bits_of 64 word))

pub all_left : (word : ℕ) → AreLeft word word 0
all_left word first = refl

pub some_left : (word left i : ℕ) → AreLeft word left i → word < 2 ^ 64 → i < count_ones word → 0 < left
some_left word left i e below h =
    elim (cases_lt 0 left) [
      | inl some ↦ some
      | inr none ↦
          let zero_left : left ≡ 0 = omega arith in
          let whole : 64 ≡ length (bits_of 64 0) = sym (length-bits 64 0) in
          let empty : set_from 0 (bits_of 64 0) ≡ [] = set_from-none 0 (bits_of 64 0) (subst (NoneSetBelow (bits_of 64 0)) whole (bits-zero 64)) in
          let gone : [] ≡ drop i (set_from 0 (bits_of 64 word)) = sym empty ∙ ap (λ l. set_from 0 (bits_of 64 l)) (sym zero_left) ∙ e 0 in
          absurd (omega (arith, ap length gone, length-drop i (set_from 0 (bits_of 64 word)), count_bits 0 64 word below))
    ]

pub first_left : (word left i first : ℕ) → AreLeft word left i → 0 < left → left < 2 ^ 64 → get_or (set_from first (bits_of 64 word)) i 0 ≡ first + trailing_zeros w64 left
first_left word left i first e some below =
    let lowest : IsLowest left = is_lowest left some below in
    let bit : ℕ = trailing_zeros w64 left in
    let split : drop i (set_from first (bits_of 64 word)) ≡ (first + bit) ∷ set_from first (set (bits_of 64 left) bit false) =
    sym (e first) ∙ set_from-first first (bits_of 64 left) bit lowest.none_below lowest.is_set
    in
    let place : i ≡ i + 0 = omega arith in
    ap (λ j. get_or (set_from first (bits_of 64 word)) j 0) place
    ∙ sym (get_or-drop i (set_from first (bits_of 64 word)) 0 0)
    ∙ ap (λ l. get_or l 0 0) split

pub left_after : (word left i : ℕ) → AreLeft word left i → 0 < left → left < 2 ^ 64 → AreLeft word (bit_and left (bit_not w64 (1 * 2 ^ trailing_zeros w64 left % 2 ^ 64))) (i + 1)
left_after word left i e some below first =
    let lowest : IsLowest left = is_lowest left some below in
    let bit : ℕ = trailing_zeros w64 left in
    let all : List ℕ = set_from first (bits_of 64 word) in
    let split : drop i all ≡ (first + bit) ∷ set_from first (set (bits_of 64 left) bit false) =
    sym (e first) ∙ set_from-first first (bits_of 64 left) bit lowest.none_below lowest.is_set
    in
    ap (set_from first) (bits-cleared left bit lowest.within) ∙ sym (drop-next all i _ _ split)
  where
    drop-next : (xs : List ℕ) (i y : ℕ) (ys : List ℕ) → drop i xs ≡ y ∷ ys → drop (i + 1) xs ≡ ys
    drop-next [] zero y ys e = cc
    drop-next [] (suc i) y ys e = cc
    drop-next (x ∷ xs) zero y ys e = cc
    drop-next (x ∷ xs) (suc i) y ys e =
        let same : suc i + 1 ≡ suc (i + 1) = omega arith in rw same (drop-next xs i y ys e)

pub some_words : (ws : List ℕ) (k : ℕ) → k < length (members_of ws) → 0 < length ws
some_words ws k h = omega (arith, length-set_from-le 0 (flags_of ws), length-flags ws)

-- a word that has no more members before it than a member's place is there
pub word_within : (ws : List ℕ) (at k : ℕ) → rank ws at ≤ k → k < length (members_of ws) → at < length ws
word_within ws at k low h =
    elim (cases_lt at (length ws)) [ inl within ↦ within | inr past ↦ absurd (omega (arith, rank-all ws at past)) ]

-- how many members are still to be passed, at the word that a walk has come to
pub record IsLeft (ws : List ℕ) (at left k : ℕ) : Type 0 where
  pub within : at < length ws
  pub left_is : rank ws at + left ≡ k

pub word_passed : (ws : List ℕ) (at flags left k : ℕ) → IsLeft ws at left k → flags ≡ count_ones (get_or ws at 0) → get_or ws at 0 < 2 ^ 64 → flags ≤ left → k < length (members_of ws) → IsLeft ws (at + 1) (left - flags) k
word_passed ws at flags left k now e below passed h =
    let more = rank-more ws at (get_or ws at 0) now.within refl below in
    record { within = word_within ws (at + 1) k (omega (arith, more, now.left_is)) h; left_is = omega (arith, more, now.left_is) }

-- an element by its place: there is one, or the list ends before
pub cases_of : (xs : List ℕ) (k : ℕ) (found : Option ℕ) → found ≡ slice_get xs k → MatchOption found (length xs ≤ k) (λ n. (k < length xs) × HoldsAt (λ m. n ≡ m) xs k)
cases_of xs k None e =
    elim (cases_lt k (length xs)) [
      | inl h ↦ let no : None ≡ Some (get_or xs k 0) = e ∙ slice_get-get_or xs k 0 h in cc
      | inr h ↦ h
    ]
cases_of xs k (Some n) e = (slice_get_within xs k n (sym e), λ d. sym (get_or_from_slice_get xs k n d (sym e)))
