-- What stays of the objects in words after a write past them, and what a row of objects tells.
use Rattle.std.proofs.Common.{◌≡◌, ℕ, zero, suc, ◌+◌, ◌-◌, ◌<◌, ◌≤◌, List, [], ◌∷◌, ◌++◌, length, get_or, set, take, drop, map, refl, sym, ap, ◌∙◌, arith}
use Rattle.std.proofs.lemmas.List.{get_or-take, drop-take, take-take, length-take, length-drop, get_or-set_same, take-set, take-map, length-replicate}
use Rattle.std.proofs.lemmas.List.Sums.{sum_by-cons}
use Rattle.layout.specs.Header.{header_word}
use Rattle.layout.specs.Object.{Raw, raw_size}
use Rattle.block_pool.specs.BlockValue.{words_of, offset_of, new_object}
use Rattle.block_pool.specs.Words.{pointers_of, plain_of, ordinal_of, span, raw_at, HasOrdinal, Tiles, IsWritten}

-- what a header word tells
pub pointers_of-header_word : (p q ordinal : ℕ) → p < 16777216 → q < 16777216 → pointers_of (header_word p q ordinal) ≡ p
pointers_of-header_word p q ordinal h k = omega arith

pub plain_of-header_word : (p q ordinal : ℕ) → p < 16777216 → q < 16777216 → plain_of (header_word p q ordinal) ≡ q
plain_of-header_word p q ordinal h k = omega arith

pub ordinal_of-header_word : (p q ordinal : ℕ) → p < 16777216 → q < 16777216 → ordinal_of (header_word p q ordinal) ≡ ordinal
ordinal_of-header_word p q ordinal h k = omega arith

pub header_word-parts : (w : ℕ) → header_word (pointers_of w) (plain_of w) (ordinal_of w) ≡ w
header_word-parts w = omega arith

-- a word and a window below the place up to which two lists of words agree
pub get_or-agree : (ws vs : List ℕ) (used k : ℕ) → take used vs ≡ take used ws → k < used → get_or vs k 0 ≡ get_or ws k 0
get_or-agree ws vs used k e h =
    sym (get_or-take used vs k 0 h) ∙ ap (λ l. get_or l k 0) e ∙ get_or-take used ws k 0 h

pub window-agree : (ws vs : List ℕ) (used n m : ℕ) → take used vs ≡ take used ws → n + m ≤ used → take m (drop n vs) ≡ take m (drop n ws)
window-agree ws vs used n m e h =
    let cut : take (n + m) vs ≡ take (n + m) ws =
    sym (take-take (n + m) used vs h) ∙ ap (λ l. take (n + m) l) e ∙ take-take (n + m) used ws h
    in sym (drop-take n m vs) ∙ ap (λ l. drop n l) cut ∙ drop-take n m ws

pub take-agree : (ws vs : List ℕ) (used n : ℕ) → take used vs ≡ take used ws → n ≤ used → take n vs ≡ take n ws
take-agree ws vs used n e h =
    sym (take-take n used vs h) ∙ ap (λ l. take n l) e ∙ take-take n used ws h

pub span-agree : (ws vs : List ℕ) (used at : ℕ) → take used vs ≡ take used ws → at < used → span vs at ≡ span ws at
span-agree ws vs used at e h = rw (get_or-agree ws vs used at e h) refl

pub raw_at-agree : (ws vs : List ℕ) (used at : ℕ) → take used vs ≡ take used ws → at + span ws at ≤ used → raw_at vs at ≡ raw_at ws at
unfolding raw_at
raw_at-agree ws vs used at e h =
    let head : get_or vs at 0 ≡ get_or ws at 0 = get_or-agree ws vs used at e (omega arith) in
    rw (head, window-agree ws vs used (at + 1) (pointers_of (get_or ws at 0)) e (omega arith), window-agree ws vs used (at + 1 + pointers_of (get_or ws at 0)) (plain_of (get_or ws at 0)) e (omega arith)) refl

-- an object that was written in three parts
pub is_written : (old ws vs us : List ℕ) (at p q ordinal word : ℕ) (ps qs : List ℕ) →
    word ≡ header_word p q ordinal → p < 16777216 → q < 16777216 → at < length old → length ps ≡ p → length qs ≡ q → ws ≡ set old at word →
    take (at + 1) vs ≡ take (at + 1) ws → take p (drop (at + 1) vs) ≡ ps →
    take (at + 1 + p) us ≡ take (at + 1 + p) vs → take q (drop (at + 1 + p) us) ≡ qs →
    IsWritten old us at ordinal (record { pointers = ps; plain = qs })
unfolding raw_at
is_written old ws vs us at p q ordinal word ps qs e hp hq within lp lq written kept copied kept' copied' =
    let first : get_or ws at 0 ≡ word = rw written (get_or-set_same old at word 0 within) in
    let head : get_or us at 0 ≡ header_word p q ordinal =
    get_or-agree vs us (at + 1 + p) at kept' (omega arith) ∙ get_or-agree ws vs (at + 1) at kept (omega arith) ∙ first ∙ e
    in
    let is_p : pointers_of (get_or us at 0) ≡ p = rw head (pointers_of-header_word p q ordinal hp hq) in
    let is_q : plain_of (get_or us at 0) ≡ q = rw head (plain_of-header_word p q ordinal hp hq) in
    record {
      kept =
          take-agree vs us (at + 1 + p) at kept' (omega arith) ∙ take-agree ws vs (at + 1) at kept (omega arith) ∙ ap (λ l. take at l) written ∙ take-set old at word;
      ordinal_is = rw head (ordinal_of-header_word p q ordinal hp hq);
      object_is = rw (is_p, is_q, window-agree vs us (at + 1 + p) (at + 1) p kept' (omega arith), copied, copied') refl;
      span_is = rw (is_p, is_q, lp, lq) refl;
    }

-- a row of objects goes up
pub Tiles-le : (ws : List ℕ) (ordinal at : ℕ) (os : List ℕ) (used : ℕ) → Tiles ws ordinal at os used → at + length os ≤ used
Tiles-le ws ordinal at [] used t = omega (arith, t)
Tiles-le ws ordinal at (o ∷ os) used t = omega (arith, Tiles-le ws (ordinal + 1) (at + span ws at) os used t.2)

-- a row of objects reads no words past its end
pub Tiles-agree : (ws vs : List ℕ) (ordinal at : ℕ) (os : List ℕ) (used : ℕ) → take used vs ≡ take used ws → Tiles ws ordinal at os used → Tiles vs ordinal at os used
Tiles-agree ws vs ordinal at [] used e t = t
Tiles-agree ws vs ordinal at (o ∷ os) used e t =
    let below : at + span ws at + length os ≤ used = Tiles-le ws (ordinal + 1) (at + span ws at) os used t.2 in
    let head : get_or vs at 0 ≡ get_or ws at 0 = get_or-agree ws vs used at e (omega arith) in
    (t.0, rw head t.1, rw head (Tiles-agree ws vs (ordinal + 1) (at + span ws at) os used e t.2))

pub map-agree : (ws vs : List ℕ) (ordinal at : ℕ) (os : List ℕ) (used : ℕ) → take used vs ≡ take used ws → Tiles ws ordinal at os used → map (raw_at vs) os ≡ map (raw_at ws) os
map-agree ws vs ordinal at [] used e t = refl
map-agree ws vs ordinal at (o ∷ os) used e t =
    let below : at + span ws at + length os ≤ used = Tiles-le ws (ordinal + 1) (at + span ws at) os used t.2 in
    let here : raw_at vs o ≡ raw_at ws o = raw_at-agree ws vs used o e (rw t.0 (omega arith)) in
    rw (here, map-agree ws vs (ordinal + 1) (at + span ws at) os used e t.2) refl

-- a row with one more object at its end
pub Tiles-push : (ws : List ℕ) (ordinal at : ℕ) (os : List ℕ) (used : ℕ) → Tiles ws ordinal at os used → HasOrdinal ws used (ordinal + length os) → Tiles ws ordinal at (os ++ used ∷ []) (used + span ws used)
Tiles-push ws ordinal at [] used t h =
    let same : at ≡ used = t in
    (sym same, rw same (h ∙ omega arith), rw same refl)
Tiles-push ws ordinal at (o ∷ os) used t h =
    (t.0, t.1, Tiles-push ws (ordinal + 1) (at + span ws at) os used t.2 (h ∙ omega arith))

-- the objects before the i-th end where it begins
pub Tiles-take : (ws : List ℕ) (ordinal at : ℕ) (os : List ℕ) (used i d : ℕ) → Tiles ws ordinal at os used → i < length os → Tiles ws ordinal at (take i os) (get_or os i d)
Tiles-take ws ordinal at [] used i d t h = absurd (omega arith)
Tiles-take ws ordinal at (o ∷ os) used zero d t h = sym t.0
Tiles-take ws ordinal at (o ∷ os) used (suc i) d t h =
    (t.0, t.1, Tiles-take ws (ordinal + 1) (at + span ws at) os used i d t.2 (omega arith))

pub Tiles-ordinal : (ws : List ℕ) (ordinal at : ℕ) (os : List ℕ) (used i d : ℕ) → Tiles ws ordinal at os used → i < length os → HasOrdinal ws (get_or os i d) (ordinal + i)
Tiles-ordinal ws ordinal at [] used i d t h = absurd (omega arith)
Tiles-ordinal ws ordinal at (o ∷ os) used zero d t h = rw t.0 (t.1 ∙ omega arith)
Tiles-ordinal ws ordinal at (o ∷ os) used (suc i) d t h =
    Tiles-ordinal ws (ordinal + 1) (at + span ws at) os used i d t.2 (omega arith) ∙ omega arith

-- the i-th object ends within the row
pub Tiles-end : (ws : List ℕ) (ordinal at : ℕ) (os : List ℕ) (used i d : ℕ) → Tiles ws ordinal at os used → i < length os → get_or os i d + span ws (get_or os i d) ≤ used
Tiles-end ws ordinal at [] used i d t h = absurd (omega arith)
Tiles-end ws ordinal at (o ∷ os) used zero d t h = rw t.0 (omega (arith, Tiles-le ws (ordinal + 1) (at + span ws at) os used t.2))
Tiles-end ws ordinal at (o ∷ os) used (suc i) d t h =
    Tiles-end ws (ordinal + 1) (at + span ws at) os used i d t.2 (omega arith)

-- an object takes as many words as its header tells
pub raw_size-raw_at : (ws : List ℕ) (at : ℕ) → at + span ws at ≤ length ws → raw_size (raw_at ws at) ≡ span ws at
unfolding raw_at
raw_size-raw_at ws at h =
    omega (arith, length-take (pointers_of (get_or ws at 0)) (drop (at + 1) ws), length-drop (at + 1) ws, length-take (plain_of (get_or ws at 0)) (drop (at + 1 + pointers_of (get_or ws at 0)) ws), length-drop (at + 1 + pointers_of (get_or ws at 0)) ws)

-- the words that the objects of a row take
pub words_of-tiles : (ws : List ℕ) (ordinal at : ℕ) (os : List ℕ) (used : ℕ) → Tiles ws ordinal at os used → used ≤ length ws → at + words_of (map (raw_at ws) os) ≡ used
words_of-tiles ws ordinal at [] used t h = omega (arith, t)
words_of-tiles ws ordinal at (o ∷ os) used t h =
    let below : at + span ws at + length os ≤ used = Tiles-le ws (ordinal + 1) (at + span ws at) os used t.2 in
    let first : raw_size (raw_at ws o) ≡ span ws at = rw t.0 (raw_size-raw_at ws at (omega arith)) in
    let rest : at + span ws at + words_of (map (raw_at ws) os) ≡ used = words_of-tiles ws (ordinal + 1) (at + span ws at) os used t.2 h in
    omega (arith, first, rest, sum_by-cons raw_size (raw_at ws o) (map (raw_at ws) os))

-- where the i-th object begins
pub offset_of-tiles : (ws : List ℕ) (os : List ℕ) (used i d : ℕ) → Tiles ws 0 0 os used → used ≤ length ws → i < length os → offset_of (map (raw_at ws) os) i ≡ get_or os i d
offset_of-tiles ws os used i d t h l =
    let row : Tiles ws 0 0 (take i os) (get_or os i d) = Tiles-take ws 0 0 os used i d t l in
    let below : get_or os i d + span ws (get_or os i d) ≤ used = Tiles-end ws 0 0 os used i d t l in
    let sum : 0 + words_of (map (raw_at ws) (take i os)) ≡ get_or os i d = words_of-tiles ws 0 0 (take i os) (get_or os i d) row (omega arith) in
    rw (take-map (raw_at ws) i os) (omega arith)

-- the two parts behind a header are the object there
pub raw_at-parts : (ws : List ℕ) (at p q ordinal : ℕ) → header_word p q ordinal ≡ get_or ws at 0 → p < 16777216 → q < 16777216 →
    let there : Raw = record { pointers = take (at + 1 + p - (at + 1)) (drop (at + 1) ws); plain = take (at + 1 + p + q - (at + 1 + p)) (drop (at + 1 + p) ws) } in there ≡ raw_at ws at
unfolding raw_at
raw_at-parts ws at p q ordinal e hp hq =
    let is_p : pointers_of (get_or ws at 0) ≡ p = rw (← e) (pointers_of-header_word p q ordinal hp hq) in
    let is_q : plain_of (get_or ws at 0) ≡ q = rw (← e) (plain_of-header_word p q ordinal hp hq) in
    let len_p : at + 1 + p - (at + 1) ≡ p = omega arith in
    let len_q : at + 1 + p + q - (at + 1 + p) ≡ q = omega arith in
    rw (is_p, is_q, len_p, len_q) refl

pub raw_size-new_object : (p q : ℕ) → raw_size (new_object p q) ≡ 1 + p + q
raw_size-new_object p q = omega (arith, length-replicate {A = ℕ} p 0, length-replicate {A = ℕ} q 0)
