-- The objects in words after one word of an object's fields was changed.
use Rattle.std.proofs.Common.{◌≡◌, ◌≢◌, ℕ, zero, suc, ◌+◌, ◌<◌, ◌≤◌, List, [], ◌∷◌, length, get_or, set, take, drop, map, refl, sym, ap, ◌∙◌, arith, Some}
use Rattle.std.proofs.Math.Seq.{take-set-lt}
use Rattle.std.specs.List.{slice_get}
use Rattle.std.proofs.lemmas.List.{take-set, drop-set-lt, drop-set-add, get_or-set_other, length-set, length-take, length-take-le, get_or-take, get_or_default, get_or_read}
use Rattle.std.proofs.lemmas.Option.{get_or_from_slice_get}
use Rattle.layout.specs.Object.{Raw}
use Rattle.block_pool.specs.BlockValue.{offset_of, with_pointer_word, with_plain_word}
use Rattle.block_pool.specs.Words.{pointers_of, plain_of, span, raw_at, Tiles, IsSoundBlock}
use Rattle.block_pool.proofs.WordLemmas.{window-agree, raw_at-agree, Tiles-le, Tiles-take}
use Rattle.block_pool.proofs.BlockLemmas.{HasObject, has_object}

-- a header that is not the changed word
head-set : (ws : List ℕ) (p w at : ℕ) → at ≢ p → get_or (set ws p w) at 0 ≡ get_or ws at 0
head-set ws p w at h = get_or-set_other ws p at w 0 h

-- a window before, after, and about the changed word
window-before : (ws : List ℕ) (p w n m : ℕ) → n + m ≤ p → take m (drop n (set ws p w)) ≡ take m (drop n ws)
window-before ws p w n m h = window-agree ws (set ws p w) p n m (take-set ws p w) h

window-after : (ws : List ℕ) (p w n m : ℕ) → p < n → take m (drop n (set ws p w)) ≡ take m (drop n ws)
window-after ws p w n m h = ap (λ l. take m l) (drop-set-lt n ws p w h)

window-about : (ws : List ℕ) (w n m i : ℕ) → i < m → take m (drop n (set ws (n + i) w)) ≡ set (take m (drop n ws)) i w
window-about ws w n m i h = ap (λ l. take m l) (drop-set-add n ws i w) ∙ take-set-lt m (drop n ws) i w h

-- the objects before and after the changed word
raw_at-before : (ws : List ℕ) (p w at : ℕ) → at + span ws at ≤ p → raw_at (set ws p w) at ≡ raw_at ws at
raw_at-before ws p w at h = raw_at-agree ws (set ws p w) p at (take-set ws p w) h

raw_at-after : (ws : List ℕ) (p w at : ℕ) → p < at → raw_at (set ws p w) at ≡ raw_at ws at
unfolding raw_at
raw_at-after ws p w at h =
    rw (head-set ws p w at (λ e. omega (arith, e)), window-after ws p w (at + 1) (pointers_of (get_or ws at 0)) (omega arith), window-after ws p w (at + 1 + pointers_of (get_or ws at 0)) (plain_of (get_or ws at 0)) (omega arith)) refl

-- the object that has the changed word
raw_at-pointer : (ws : List ℕ) (w at i : ℕ) → i < pointers_of (get_or ws at 0) → raw_at (set ws (at + 1 + i) w) at ≡ with_pointer_word (raw_at ws at) i w
unfolding raw_at
raw_at-pointer ws w at i h =
    rw (head-set ws (at + 1 + i) w at (λ e. omega (arith, e)), window-about ws w (at + 1) (pointers_of (get_or ws at 0)) i h, window-after ws (at + 1 + i) w (at + 1 + pointers_of (get_or ws at 0)) (plain_of (get_or ws at 0)) (omega arith)) refl

raw_at-plain : (ws : List ℕ) (w at i : ℕ) → i < plain_of (get_or ws at 0) → raw_at (set ws (at + 1 + pointers_of (get_or ws at 0) + i) w) at ≡ with_plain_word (raw_at ws at) i w
unfolding raw_at
raw_at-plain ws w at i h =
    let p = at + 1 + pointers_of (get_or ws at 0) + i in
    rw (head-set ws p w at (λ e. omega (arith, e)), window-before ws p w (at + 1) (pointers_of (get_or ws at 0)) (omega arith), window-about ws w (at + 1 + pointers_of (get_or ws at 0)) (plain_of (get_or ws at 0)) i h) refl

-- a row of objects after the changed word
Tiles-after : (ws : List ℕ) (p w ordinal at : ℕ) (os : List ℕ) (used : ℕ) → p < at → Tiles ws ordinal at os used → Tiles (set ws p w) ordinal at os used
Tiles-after ws p w ordinal at [] used h t = t
Tiles-after ws p w ordinal at (o ∷ os) used h t =
    let head : get_or (set ws p w) at 0 ≡ get_or ws at 0 = head-set ws p w at (λ e. omega (arith, e)) in
    (t.0, rw head t.1, rw head (Tiles-after ws p w (ordinal + 1) (at + span ws at) os used (omega arith) t.2))

map-after : (ws : List ℕ) (p w ordinal at : ℕ) (os : List ℕ) (used : ℕ) → p < at → Tiles ws ordinal at os used → map (raw_at (set ws p w)) os ≡ map (raw_at ws) os
map-after ws p w ordinal at [] used h t = refl
map-after ws p w ordinal at (o ∷ os) used h t =
    rw (raw_at-after ws p w o (rw t.0 h), map-after ws p w (ordinal + 1) (at + span ws at) os used (omega arith) t.2) refl

-- the changed word is one of the fields of the k-th object
abbrev IsFieldOf : List ℕ → List ℕ → ℕ → ℕ → Type 0
IsFieldOf ws os k p = (get_or os k 0 < p) × (p < get_or os k 0 + span ws (get_or os k 0))

-- a row of objects keeps its headers
Tiles-set : (ws : List ℕ) (p w ordinal at : ℕ) (os : List ℕ) (used k : ℕ) → Tiles ws ordinal at os used → k < length os → IsFieldOf ws os k p → Tiles (set ws p w) ordinal at os used
Tiles-set ws p w ordinal at [] used k t h f = absurd (omega arith)
Tiles-set ws p w ordinal at (o ∷ os) used zero t h f =
    let f' = rw t.0 at f in
    let head : get_or (set ws p w) at 0 ≡ get_or ws at 0 = head-set ws p w at (λ e. omega (arith, e, f'.0)) in
    (t.0, rw head t.1, rw head (Tiles-after ws p w (ordinal + 1) (at + span ws at) os used (omega (arith, f'.1)) t.2))
Tiles-set ws p w ordinal at (o ∷ os) used (suc k) t h f =
    let before : at + span ws at + length (take k os) ≤ get_or os k 0 =
    Tiles-le ws (ordinal + 1) (at + span ws at) (take k os) (get_or os k 0) (Tiles-take ws (ordinal + 1) (at + span ws at) os used k 0 t.2 (omega arith))
    in
    let head : get_or (set ws p w) at 0 ≡ get_or ws at 0 = head-set ws p w at (λ e. omega (arith, e, f.0)) in
    (t.0, rw head t.1, rw head (Tiles-set ws p w (ordinal + 1) (at + span ws at) os used k t.2 (omega arith) f))

-- and its other objects
map-set_word : (ws : List ℕ) (p w ordinal at : ℕ) (os : List ℕ) (used k : ℕ) → Tiles ws ordinal at os used → k < length os → IsFieldOf ws os k p → map (raw_at (set ws p w)) os ≡ set (map (raw_at ws) os) k (raw_at (set ws p w) (get_or os k 0))
map-set_word ws p w ordinal at [] used k t h f = absurd (omega arith)
map-set_word ws p w ordinal at (o ∷ os) used zero t h f =
    let f' = rw t.0 at f in
    ap (λ (l : List Raw). raw_at (set ws p w) o ∷ l) (map-after ws p w (ordinal + 1) (at + span ws at) os used (omega (arith, f'.1)) t.2)
map-set_word ws p w ordinal at (o ∷ os) used (suc k) t h f =
    let before : at + span ws at + length (take k os) ≤ get_or os k 0 =
    Tiles-le ws (ordinal + 1) (at + span ws at) (take k os) (get_or os k 0) (Tiles-take ws (ordinal + 1) (at + span ws at) os used k 0 t.2 (omega arith))
    in
    let ends : o + span ws o ≤ p = rw t.0 (omega (arith, f.0)) in
    rw (raw_at-before ws p w o ends, map-set_word ws p w (ordinal + 1) (at + span ws at) os used k t.2 (omega arith) f) refl

-- the block after word p, a field of its k-th object, was changed
pub record IsRewritten (ws os : List ℕ) (len used front number : ℕ) (now : List Raw) (k p w : ℕ) (change : Raw → Raw) : Type 0 where
  pub in_words : p < length ws
  pub few : p < 512
  pub sound : IsSoundBlock (set ws p w) os len used front number
  pub objects_are : (raw : Raw) → slice_get now k ≡ Some raw → map (raw_at (set ws p w)) (take len os) ≡ set now k (change raw)

is_rewritten : (ws os : List ℕ) (len used front number : ℕ) (now : List Raw) (k p w : ℕ) (change : Raw → Raw) → IsSoundBlock ws os len used front number → map (raw_at ws) (take len os) ≡ now → k < length now → IsFieldOf ws os k p → raw_at (set ws p w) (get_or os k 0) ≡ change (raw_at ws (get_or os k 0)) → IsRewritten ws os len used front number now k p w change
is_rewritten ws os len used front number now k p w change s e l f c =
    let o : HasObject ws os len now k = has_object ws os len used front number now k s e l in
    let few : length (take len os) ≡ len = length-take-le len os s.len_in_offsets in
    let within : k < length (take len os) = omega (arith, o.in_len) in
    let same : get_or (take len os) k 0 ≡ get_or os k 0 = get_or-take len os k 0 o.in_len in
    let field : IsFieldOf ws (take len os) k p = rw same f in
    record {
      in_words = omega (arith, f.1, o.ends);
      few = omega (arith, f.1, o.ends, s.words_to);
      sound =
          record {
            tiles = Tiles-set ws p w 0 0 (take len os) used k s.tiles within field;
            used_in_words = omega (arith, s.used_in_words, length-set ws p w);
            as_many_offsets = omega (arith, s.as_many_offsets, length-set ws p w);
            front_in_objects = s.front_in_objects;
            len_in_offsets = s.len_in_offsets;
            number_in_range = s.number_in_range;
            words_from = omega (arith, s.words_from, length-set ws p w);
            words_to = omega (arith, s.words_to, length-set ws p w);
          };
      objects_are = λ raw is.
          let first : get_or now k raw ≡ raw = get_or_from_slice_get now k raw raw is in
          let second : get_or now k raw ≡ raw_at ws (get_or os k 0) = get_or_from_slice_get now k (raw_at ws (get_or os k 0)) raw o.object_is in
          map-set_word ws p w 0 0 (take len os) used k s.tiles within field
          ∙ ap (λ n. set (map (raw_at ws) (take len os)) k (raw_at (set ws p w) n)) same
          ∙ ap (λ l. set l k (raw_at (set ws p w) (get_or os k 0))) e
          ∙ ap (λ r. set now k r) c
          ∙ ap (λ r. set now k (change r)) (sym second ∙ first);
    }

-- after a pointer of the k-th object was changed
pub pointer_rewritten : (ws os : List ℕ) (len used front number : ℕ) (now : List Raw) (k at i w : ℕ) → IsSoundBlock ws os len used front number → map (raw_at ws) (take len os) ≡ now → k < length now → at ≡ get_or os k at → ((raw : Raw) → slice_get now k ≡ Some raw → i < length raw.pointers) → IsRewritten ws os len used front number now k (at + 1 + i) w (λ raw. with_pointer_word raw i w)
unfolding raw_at
pointer_rewritten ws os len used front number now k at i w s e l read field =
    let o : HasObject ws os len now k = has_object ws os len used front number now k s e l in
    let is : at ≡ get_or os k 0 = get_or_read os k at o.in_offsets read 0 in
    let few : i < length (take (pointers_of (get_or ws (get_or os k 0) 0)) (drop (get_or os k 0 + 1) ws)) = field (raw_at ws (get_or os k 0)) o.object_is in
    let in_pointers : i < pointers_of (get_or ws (get_or os k 0) 0) = omega (arith, few, length-take (pointers_of (get_or ws (get_or os k 0) 0)) (drop (get_or os k 0 + 1) ws)) in
    rw is (is_rewritten ws os len used front number now k (get_or os k 0 + 1 + i) w (λ raw. with_pointer_word raw i w) s e l (omega arith, omega arith) (raw_at-pointer ws w (get_or os k 0) i in_pointers))

-- the header of the k-th object is one of the words
pub header_in_words : (ws os : List ℕ) (len used front number : ℕ) (now : List Raw) (k at : ℕ) → IsSoundBlock ws os len used front number → map (raw_at ws) (take len os) ≡ now → k < length now → at ≡ get_or os k at → at < length ws
header_in_words ws os len used front number now k at s e l read =
    let o : HasObject ws os len now k = has_object ws os len used front number now k s e l in
    omega (arith, get_or_read os k at o.in_offsets read 0, o.ends)

-- after a plain word of the k-th object was changed
pub plain_rewritten : (ws os : List ℕ) (len used front number : ℕ) (now : List Raw) (k at header i w : ℕ) → IsSoundBlock ws os len used front number → map (raw_at ws) (take len os) ≡ now → k < length now → at ≡ get_or os k at → header ≡ get_or ws at header → ((raw : Raw) → slice_get now k ≡ Some raw → i < length raw.plain) → IsRewritten ws os len used front number now k (at + 1 + pointers_of header + i) w (λ raw. with_plain_word raw i w)
unfolding raw_at
plain_rewritten ws os len used front number now k at header i w s e l read word field =
    let o : HasObject ws os len now k = has_object ws os len used front number now k s e l in
    let is : at ≡ get_or os k 0 = get_or_read os k at o.in_offsets read 0 in
    let head : header ≡ get_or ws at 0 = get_or_read ws at header (header_in_words ws os len used front number now k at s e l read) word 0 in
    let first = get_or os k 0 + 1 + pointers_of (get_or ws (get_or os k 0) 0) in
    let few : i < length (take (plain_of (get_or ws (get_or os k 0) 0)) (drop first ws)) = field (raw_at ws (get_or os k 0)) o.object_is in
    let in_plain : i < plain_of (get_or ws (get_or os k 0) 0) = omega (arith, few, length-take (plain_of (get_or ws (get_or os k 0) 0)) (drop first ws)) in
    rw (head, is) (is_rewritten ws os len used front number now k (first + i) w (λ raw. with_plain_word raw i w) s e l (omega arith, omega arith) (raw_at-plain ws w (get_or os k 0) i in_plain))

-- the same where the object is named by the offset that it begins at
module _ (ws os : List ℕ) (len used front number : ℕ) (now : List Raw) (k at : ℕ) (s : IsSoundBlock ws os len used front number) (e : map (raw_at ws) (take len os) ≡ now) (l : k < length now) (begins : offset_of now k ≡ at) where
  read : at ≡ get_or os k at
  read =
      let o : HasObject ws os len now k = has_object ws os len used front number now k s e l in
      sym begins ∙ o.offset_is ∙ get_or_default os k 0 at o.in_offsets

  pub header_from : at < length ws
  header_from = header_in_words ws os len used front number now k at s e l read

  pub pointer_from : (i w : ℕ) → ((raw : Raw) → slice_get now k ≡ Some raw → i < length raw.pointers) → IsRewritten ws os len used front number now k (at + 1 + i) w (λ raw. with_pointer_word raw i w)
  pointer_from i w field = pointer_rewritten ws os len used front number now k at i w s e l read field

  pub plain_from : (header i w : ℕ) → header ≡ get_or ws at header → ((raw : Raw) → slice_get now k ≡ Some raw → i < length raw.plain) → IsRewritten ws os len used front number now k (at + 1 + pointers_of header + i) w (λ raw. with_plain_word raw i w)
  plain_from header i w word field = plain_rewritten ws os len used front number now k at header i w s e l read word field
