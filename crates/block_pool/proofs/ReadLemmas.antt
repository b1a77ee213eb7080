-- The pointers of an object, read from a block's words.
use Rattle.std.proofs.lemmas.Option.{same_Some}
use Rattle.std.proofs.Common.{◌≡◌, ℕ, ◌+◌, ◌<◌, List, length, get_or, take, drop, map, sym, ap, ◌∙◌, arith, Some}
use Rattle.std.specs.List.{slice_get}
use Rattle.std.proofs.lemmas.List.{get_or-take, get_or-drop, get_or_read, length-take, length-drop}
use Rattle.layout.specs.Object.{Raw}
use Rattle.block_pool.specs.Words.{pointers_of, plain_of, raw_at, IsSoundBlock}
use Rattle.block_pool.proofs.BlockLemmas.{HasObject, has_object}

-- the object begins at that word, and its pointers follow
pub record HasPointers (ws : List ℕ) (at : ℕ) (raw : Raw) : Type 0 where
  pub in_words : at < length ws
  pub count : length raw.pointers ≡ pointers_of (get_or ws at 0)
  pub fits : at + 1 + length raw.pointers + plain_of (get_or ws at 0) < length ws + 1
  pub reads : (i : ℕ) → i < length raw.pointers → get_or raw.pointers i 0 ≡ get_or ws (at + 1 + i) 0

pub has_pointers : (ws os : List ℕ) (len used front number : ℕ) (now : List Raw) (k at : ℕ) (raw : Raw) → IsSoundBlock ws os len used front number → map (raw_at ws) (take len os) ≡ now → k < length now → at ≡ get_or os k at → slice_get now k ≡ Some raw → HasPointers ws at raw
unfolding raw_at
has_pointers ws os len used front number now k at raw s e l read there =
    let o : HasObject ws os len now k = has_object ws os len used front number now k s e l in
    let is : at ≡ get_or os k 0 = get_or_read os k at o.in_offsets read 0 in
    let same : raw ≡ raw_at ws at = same_Some _ _ (sym there ∙ o.object_is) ∙ ap (raw_at ws) (sym is) in
    let ends = rw (← is) at o.ends in
    let words : raw.pointers ≡ take (pointers_of (get_or ws at 0)) (drop (at + 1) ws) = ap (λ (r : Raw). r.pointers) same in
    let count : length raw.pointers ≡ pointers_of (get_or ws at 0) = omega (arith, ap length words, length-take (pointers_of (get_or ws at 0)) (drop (at + 1) ws), length-drop (at + 1) ws, ends) in
    record {
      in_words = omega (arith, ends);
      count = count;
      fits = omega (arith, count, ends);
      reads = λ i lt. ap (λ ps. get_or ps i 0) words ∙ get_or-take (pointers_of (get_or ws at 0)) (drop (at + 1) ws) i 0 (omega (arith, lt, count)) ∙ get_or-drop (at + 1) ws i 0;
    }
