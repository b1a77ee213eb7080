-- The counts of groups of words.
use Rattle.std.proofs.Common.{◌≡◌, ℕ, zero, suc, ◌+◌, ◌-◌, ◌*◌, ◌^◌, ◌<◌, ◌≤◌, inl, inr, Bool, true, false, List, [], ◌∷◌, ◌++◌, length, get_or, take, drop, refl, sym, ap, ◌∙◌, arith}
use Rattle.std.specs.Prelude.{count_ones}
use Rattle.std.specs.Int.{div_ceil}
use Rattle.std.specs.Int.Count.{ones-ones}
use Rattle.std.specs.List.{All}
use Rattle.std.proofs.Math.Seq.{take-add}
use Rattle.std.proofs.lemmas.Bool.{cases_lt}
use Rattle.std.proofs.lemmas.List.{length-append, length-take, get_or_append_left, get_or_push}
use Rattle.block_pool.specs.Members.{set_from}
use Rattle.block_pool.specs.NumberSetsWords.{flags_of, members_of, rank, AreRanks}
use Rattle.block_pool.proofs.FlagLemmas.{set_from-append, length-set_from-le}
use Rattle.block_pool.proofs.NumberSetsWordLemmas.{length-flags, flags-append}
use Rattle.block_pool.proofs.Ranks.{rank-zero, rank-more}

-- all flags of each of the first so many words are set
abbrev pub AreFullBelow : List ℕ → ℕ → Type 0
AreFullBelow ws n = (place : ℕ) → place < n → get_or ws place 0 ≡ 2 ^ 64 - 1

-- as many members as flags
pub rank-full : (ws : List ℕ) (place : ℕ) → place ≤ length ws → All (λ word. word ≡ 2 ^ 64 - 1) ws → rank ws place ≡ 64 * place
rank-full ws zero h full = rank-zero ws
rank-full ws (suc n) h full =
    let word : get_or ws n 0 ≡ 2 ^ 64 - 1 = full n 0 (omega arith) in
    let ones : count_ones (get_or ws n 0) ≡ 64 = ap count_ones word ∙ ones-ones 64 in
    let next : suc n ≡ n + 1 = omega arith in
    rw next (omega (arith, rank-more ws n (get_or ws n 0) (omega arith) refl (omega arith), rank-full ws n (omega arith) full, ones))

-- how many numbers there are does not rest on which is the first
length-set_from : (first : ℕ) (bs : List Bool) → length (set_from first bs) ≡ length (set_from 0 bs)
length-set_from first [] = refl
length-set_from first (true ∷ bs) = omega (arith, length-set_from (first + 1) bs, length-set_from 1 bs)
length-set_from first (false ∷ bs) = length-set_from (first + 1) bs ∙ sym (length-set_from 1 bs)

-- the rank of one group more
rank-many_more : (ws : List ℕ) (place many : ℕ) → rank ws (place + many) ≡ rank ws place + length (members_of (take many (drop place ws)))
rank-many_more ws place many =
    let front : List Bool = flags_of (take place ws) in
    let group : List Bool = flags_of (take many (drop place ws)) in
    let flags : flags_of (take (place + many) ws) ≡ front ++ group = ap flags_of (take-add place many ws) ∙ flags-append (take place ws) (take many (drop place ws)) in
    ap (λ bs. length (set_from 0 bs)) flags
    ∙ ap length (set_from-append 0 front group)
    ∙ length-append (set_from 0 front) (set_from (0 + length front) group)
    ∙ ap (λ n. length (set_from 0 front) + n) (length-set_from (0 + length front) group)

pub rank-group_more : (ws group : List ℕ) (n : ℕ) → group ≡ take 16 (drop (16 * n) ws) → rank ws (16 * (n + 1)) ≡ rank ws (16 * n) + length (members_of group)
rank-group_more ws group n is =
    let next : 16 * (n + 1) ≡ 16 * n + 16 = omega arith in
    rw (is, next) (rank-many_more ws (16 * n) 16)

pub rank-in_range : (ws : List ℕ) (place : ℕ) → length ws ≤ 1024 → rank ws place ≤ 65536
rank-in_range ws place h = omega (arith, length-set_from-le 0 (flags_of (take place ws)), length-flags (take place ws), length-take place ws)

-- the ranks of the first so many groups
abbrev pub AreRanksBelow : List ℕ → List ℕ → ℕ → Type 0
AreRanksBelow ws before n = (group : ℕ) → group < n → get_or before group 0 ≡ rank ws (16 * group)

pub ranks_more : (ws before : List ℕ) (n count : ℕ) → AreRanksBelow ws before n → length before ≡ n → count ≡ rank ws (16 * n) → AreRanksBelow ws (before ++ count ∷ []) (n + 1)
ranks_more ws before n count ranks many is group h =
    elim (cases_lt group n) [
      | inl earlier ↦ get_or_append_left before (count ∷ []) 0 group (omega arith) ∙ ranks group earlier
      | inr last ↦ let same : group ≡ n = omega arith in rw same (get_or_push before count 0 n many ∙ is)
    ]

pub some_groups : (ws before : List ℕ) → AreRanks ws before → 0 < length ws → 0 < length before
some_groups ws before ranks some =
    let many : length before ≡ div_ceil (length ws) 16 = ranks.as_many in omega arith
