-- Words that are copied from one list to another, and an object among them.
use Rattle.std.proofs.Common.{◌≡◌, ℕ, ◌+◌, ◌-◌, ◌*◌, ◌%◌, zero, suc, ◌<◌, ◌≤◌, List, [], ◌∷◌, ◌++◌, length, get_or, set, take, drop, refl, sym, ap, ◌∙◌, subst, arith, length-set}
use mathlib.Core.Logic.{dite}
use native.Mathlib.Decide.{ℕ_discrete, dec_le}
use Rattle.std.proofs.lemmas.List.{drop-set-add, take_more_set, take_more, get_or-drop, get_or-take, length-drop, length-take, drop-drop}
use Rattle.layout.specs.Header.{header_word}
use Rattle.block_pool.specs.Words.{pointers_of, plain_of, span, raw_at, AreCopied, IsWritten}
use Rattle.block_pool.proofs.WordLemmas.{window-agree, take-agree, is_written}

-- one word more is the same
pub copied_next : (ws fs : List ℕ) (at offset i : ℕ) → at + i < length ws → offset + i < length fs → take i (drop at ws) ≡ take i (drop offset fs) → take (i + 1) (drop at (set ws (at + i) (get_or fs (offset + i) 0))) ≡ take (i + 1) (drop offset fs)
copied_next ws fs at offset i room there before =
    let v = get_or fs (offset + i) 0 in
    let in_ws : i < length (drop at ws) = omega (arith, length-drop at ws) in
    let in_fs : i < length (drop offset fs) = omega (arith, length-drop offset fs) in
    ap (take (i + 1)) (drop-set-add at ws i v)
    ∙ take_more_set (drop at ws) i v in_ws
    ∙ ap (λ xs. xs ++ v ∷ []) before
    ∙ ap (λ x. take i (drop offset fs) ++ x ∷ []) (sym (get_or-drop offset fs i 0))
    ∙ sym (take_more (drop offset fs) i 0 in_fs)

set_again : (xs : List ℕ) (i : ℕ) → set xs i (get_or xs i 0) ≡ xs
set_again [] i = refl
set_again (x ∷ xs) zero = refl
set_again (x ∷ xs) (suc i) = ap (λ (ys : List ℕ). x ∷ ys) (set_again xs i)

-- one of the words that are copied, or the next one
pub copied_again : (ws fs : List ℕ) (at offset i m : ℕ) → at + i < length ws → offset + i < length fs → i ≤ m → AreCopied m ws at fs offset
    → AreCopied m (set ws (at + i) (get_or fs (offset + i) 0)) at fs offset × AreCopied (i + 1) (set ws (at + i) (get_or fs (offset + i) 0)) at fs offset
copied_again ws fs at offset i m room there le before = dite (ℕ_discrete i m)
    (λ is. let next = copied_next ws fs at offset i room there (subst (λ (k : ℕ). AreCopied k ws at fs offset) (sym is) before) in
    (subst (λ (k : ℕ). AreCopied k (set ws (at + i) (get_or fs (offset + i) 0)) at fs offset) is (take-agree (drop offset fs) (drop at (set ws (at + i) (get_or fs (offset + i) 0))) (i + 1) i next (omega arith)), next))
    (λ ne. let below : i < m = omega arith in
    let word : get_or fs (offset + i) 0 ≡ get_or ws (at + i) 0 =
    sym (get_or-drop offset fs i 0) ∙ (sym (get_or-take m (drop offset fs) i 0 below) ∙ (ap (λ (xs : List ℕ). get_or xs i 0) (sym before) ∙ (get_or-take m (drop at ws) i 0 below ∙ get_or-drop at ws i 0))) in
    let same : set ws (at + i) (get_or fs (offset + i) 0) ≡ ws = ap (set ws (at + i)) word ∙ set_again ws (at + i) in
    subst (λ (us : List ℕ). AreCopied m us at fs offset × AreCopied (i + 1) us at fs offset) (sym same) (before, take-agree (drop offset fs) (drop at ws) m (i + 1) before (omega arith)))

-- the same by other names for the places
copied_at : (ws fs : List ℕ) (at offset i m to from next : ℕ) → to ≡ at + i → from ≡ offset + i → next ≡ i + 1 → to < length ws → from < length fs → i ≤ m → AreCopied m ws at fs offset
    → AreCopied m (set ws to (get_or fs from 0)) at fs offset × AreCopied next (set ws to (get_or fs from 0)) at fs offset
copied_at ws fs at offset i m to from next is_to is_from is_next room there le before =
    subst (λ (t : ℕ). AreCopied m (set ws t (get_or fs from 0)) at fs offset × AreCopied next (set ws t (get_or fs from 0)) at fs offset) (sym is_to)
    (subst (λ (f : ℕ). AreCopied m (set ws (at + i) (get_or fs f 0)) at fs offset × AreCopied next (set ws (at + i) (get_or fs f 0)) at fs offset) (sym is_from)
    (subst (λ (n : ℕ). AreCopied m (set ws (at + i) (get_or fs (offset + i) 0)) at fs offset × AreCopied n (set ws (at + i) (get_or fs (offset + i) 0)) at fs offset) (sym is_next)
    (copied_again ws fs at offset i m (omega arith) (omega arith) le before)))

-- two of them, one after the other
pub copied_two : (ws fs : List ℕ) (at offset i m : ℕ) → at + i + 2 ≤ length ws → offset + i + 2 ≤ length fs → i ≤ m → AreCopied m ws at fs offset
    → AreCopied m (set (set ws (at + i) (get_or fs (offset + i) 0)) (at + i + 1) (get_or fs (offset + i + 1) 0)) at fs offset
    × AreCopied (i + 2) (set (set ws (at + i) (get_or fs (offset + i) 0)) (at + i + 1) (get_or fs (offset + i + 1) 0)) at fs offset
copied_two ws fs at offset i m room there le before =
    let us : List ℕ = set ws (at + i) (get_or fs (offset + i) 0) in
    let first = copied_again ws fs at offset i m (omega arith) (omega arith) le before in
    let long : length us ≡ length ws = length-set ws (at + i) (get_or fs (offset + i) 0) in
    let second = copied_at us fs at offset (i + 1) (i + 1) (at + i + 1) (offset + i + 1) (i + 2) (omega arith) (omega arith) (omega arith) (omega arith) (omega arith) (omega arith) first.1 in
    dite (dec_le m (i + 1))
    (λ (low : m ≤ i + 1). (take-agree (drop offset fs) (drop at (set us (at + i + 1) (get_or fs (offset + i + 1) 0))) (i + 2) m second.1 (omega arith), second.1))
    (λ high. let third = copied_at us fs at offset (i + 1) m (at + i + 1) (offset + i + 1) (i + 2) (omega arith) (omega arith) (omega arith) (omega arith) (omega arith) (omega arith) first.0 in third)

-- the header, with another ordinal
header_again : (h ordinal : ℕ) → h % 281474976710656 + ordinal * 281474976710656 ≡ header_word (pointers_of h) (plain_of h) ordinal
header_again h ordinal = omega arith

-- an object was copied: its header with another ordinal, and the words behind
pub copied_object : (old new from : List ℕ) (at offset ordinal word size : ℕ) → size ≡ span from offset → word ≡ get_or from offset 0 % 281474976710656 + ordinal * 281474976710656 → at < length old → offset + span from offset ≤ length from → take (at + 1) new ≡ take (at + 1) (set old at word) → take (size - 1) (drop (at + 1) new) ≡ take (size - 1) (drop (offset + 1) from) → IsWritten old new at ordinal (raw_at from offset)
unfolding raw_at
copied_object old new from at offset ordinal word size is_size is_word within there kept copied =
    let h = get_or from offset 0 in
    let p = pointers_of h in
    let q = plain_of h in
    let ps = take p (drop (offset + 1) from) in
    let qs = take q (drop (offset + 1 + p) from) in
    let len_p : length ps ≡ p = omega (arith, length-take p (drop (offset + 1) from), length-drop (offset + 1) from) in
    let len_q : length qs ≡ q = omega (arith, length-take q (drop (offset + 1 + p) from), length-drop (offset + 1 + p) from) in
    let first : take p (drop (at + 1) new) ≡ ps = take-agree (drop (offset + 1) from) (drop (at + 1) new) (size - 1) p copied (omega arith) in
    let second : take q (drop (at + 1 + p) new) ≡ qs =
    ap (take q) (sym (drop-drop p (at + 1) new))
    ∙ window-agree (drop (offset + 1) from) (drop (at + 1) new) (size - 1) p q copied (omega arith)
    ∙ ap (take q) (drop-drop p (offset + 1) from)
    in
    is_written old (set old at word) new new at p q ordinal word ps qs (is_word ∙ header_again h ordinal) (omega arith) (omega arith) within len_p len_q refl kept first refl second
