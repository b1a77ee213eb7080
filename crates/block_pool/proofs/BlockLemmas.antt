-- What the fields of a block tell of its objects, and the fields after a push and after a take-back.
use Rattle.std.proofs.Common.{◌≡◌, ℕ, ◌+◌, ◌-◌, ◌<◌, ◌≤◌, List, [], ◌∷◌, ◌++◌, length, get_or, set, take, map, sym, ap, subst, ◌∙◌, arith, Some}
use Rattle.std.specs.List.{slice_get}
use Rattle.std.proofs.lemmas.List.{get_or-take, take-take, length-map, length-set, take_more_set, map-append, take-map, get_or-map, length-take-le, get_or_read}
use Rattle.std.proofs.lemmas.Option.{slice_get-get_or}
use Rattle.layout.specs.Object.{Raw, raw_size}
use Rattle.block_pool.specs.BlockValue.{words_of, offset_of, without_last}
use Rattle.block_pool.specs.Words.{ordinal_of, span, raw_at, HasOrdinal, Tiles, IsWritten, IsSoundBlock}
use Rattle.block_pool.proofs.WordLemmas.{Tiles-le, Tiles-agree, map-agree, Tiles-push, Tiles-take, Tiles-ordinal, Tiles-end, words_of-tiles, offset_of-tiles}

-- what holds of the block as a whole
pub record HasObjects (ws os : List ℕ) (len used : ℕ) (now : List Raw) : Type 0 where
  pub count : length now ≡ len
  pub used_is : words_of now ≡ used
  pub at_most_used : len ≤ used

pub has_objects : (ws os : List ℕ) (len used front number : ℕ) (now : List Raw) → IsSoundBlock ws os len used front number → map (raw_at ws) (take len os) ≡ now → HasObjects ws os len used now
has_objects ws os len used front number now s e =
    let few : length (take len os) ≡ len = length-take-le len os s.len_in_offsets in
    subst (HasObjects ws os len used) e
    (record {
      count = length-map (take len os) (raw_at ws) ∙ few;
      used_is = omega (arith, words_of-tiles ws 0 0 (take len os) used s.tiles s.used_in_words);
      at_most_used = omega (arith, Tiles-le ws 0 0 (take len os) used s.tiles, few);
    })

-- what holds of the object with the ordinal k
pub record HasObject (ws os : List ℕ) (len : ℕ) (now : List Raw) (k : ℕ) : Type 0 where
  pub in_len : k < len
  pub in_offsets : k < length os
  pub ends : get_or os k 0 + span ws (get_or os k 0) ≤ length ws
  pub ordinal_is : HasOrdinal ws (get_or os k 0) k
  pub offset_is : offset_of now k ≡ get_or os k 0
  pub object_is : slice_get now k ≡ Some (raw_at ws (get_or os k 0))

has_object_at : (ws os : List ℕ) (len used front number k : ℕ) → IsSoundBlock ws os len used front number → k < len → HasObject ws os len (map (raw_at ws) (take len os)) k
has_object_at ws os len used front number k s l =
    let few : length (take len os) ≡ len = length-take-le len os s.len_in_offsets in
    let within : k < length (take len os) = omega arith in
    let same : get_or (take len os) k 0 ≡ get_or os k 0 = get_or-take len os k 0 l in
    let ends : get_or (take len os) k 0 + span ws (get_or (take len os) k 0) ≤ used = Tiles-end ws 0 0 (take len os) used k 0 s.tiles within in
    let ordinal : HasOrdinal ws (get_or (take len os) k 0) (0 + k) = Tiles-ordinal ws 0 0 (take len os) used k 0 s.tiles within in
    let mapped : k < length (map (raw_at ws) (take len os)) = omega (arith, length-map (take len os) (raw_at ws)) in
    record {
      in_len = l;
      in_offsets = omega (arith, s.len_in_offsets);
      ends = rw (← same) (omega (arith, s.used_in_words));
      ordinal_is = rw (← same) (ordinal ∙ omega arith);
      offset_is = offset_of-tiles ws (take len os) used k 0 s.tiles s.used_in_words within ∙ same;
      object_is =
          slice_get-get_or (map (raw_at ws) (take len os)) k (raw_at ws 0) mapped
          ∙ ap (λ (o : Raw). Some o) (get_or-map (raw_at ws) (take len os) k 0 (raw_at ws 0) within)
          ∙ ap (λ (n : ℕ). Some (raw_at ws n)) same;
    }

pub has_object : (ws os : List ℕ) (len used front number : ℕ) (now : List Raw) (k : ℕ) → IsSoundBlock ws os len used front number → map (raw_at ws) (take len os) ≡ now → k < length now → HasObject ws os len now k
has_object ws os len used front number now k s e l =
    let count : length now ≡ len = (has_objects ws os len used front number now s e).count in
    subst (λ (objects : List Raw). HasObject ws os len objects k) e (has_object_at ws os len used front number k s (omega arith))

-- the block after an object was written at its end
pub record IsPushed (ws vs os : List ℕ) (len used end front number : ℕ) (object : Raw) : Type 0 where
  pub sound : IsSoundBlock vs (set os len used) (len + 1) end front number
  pub objects_are : map (raw_at vs) (take (len + 1) (set os len used)) ≡ map (raw_at ws) (take len os) ++ object ∷ []

pub is_pushed : (ws vs os : List ℕ) (len used end front number : ℕ) (object : Raw) → IsSoundBlock ws os len used front number → IsWritten ws vs used len object → length vs ≡ length ws → used + raw_size object ≡ end → end ≤ length ws → IsPushed ws vs os len used end front number object
is_pushed ws vs os len used end front number object s w same is fits =
    let few : length (take len os) ≡ len = length-take-le len os s.len_in_offsets in
    let count : 0 + length (take len os) ≤ used = Tiles-le ws 0 0 (take len os) used s.tiles in
    let room : len < length os = omega (arith, s.as_many_offsets) in
    let all : take (len + 1) (set os len used) ≡ take len os ++ used ∷ [] = take_more_set os len used room in
    let row : Tiles vs 0 0 (take len os) used = Tiles-agree ws vs 0 0 (take len os) used w.kept s.tiles in
    let ordinal : HasOrdinal vs used (0 + length (take len os)) = w.ordinal_is ∙ omega arith in
    let last : used + span vs used ≡ end = omega (arith, w.span_is) in
    record {
      sound =
          record {
            tiles = rw (all, ← last) (Tiles-push vs 0 0 (take len os) used row ordinal);
            used_in_words = omega arith;
            as_many_offsets = omega (arith, length-set os len used, s.as_many_offsets);
            front_in_objects = omega (arith, s.front_in_objects);
            len_in_offsets = omega (arith, length-set os len used);
            number_in_range = s.number_in_range;
            words_from = omega (arith, s.words_from);
            words_to = omega (arith, s.words_to);
          };
      objects_are =
          rw all (map-append (raw_at vs) (take len os) (used ∷ [])
          ∙ ap (λ (l : List Raw). l ++ raw_at vs used ∷ []) (map-agree ws vs 0 0 (take len os) used w.kept s.tiles)
          ∙ ap (λ (o : Raw). map (raw_at ws) (take len os) ++ o ∷ []) w.object_is);
    }

-- the block after its last object was taken back
pub record IsTakenBack (ws os : List ℕ) (len front number : ℕ) : Type 0 where
  pub sound : IsSoundBlock ws os (len - 1) (get_or os (len - 1) 0) front number
  pub objects_are : map (raw_at ws) (take (len - 1) os) ≡ without_last (map (raw_at ws) (take len os))

pub is_taken_back : (ws os : List ℕ) (len used front number : ℕ) → IsSoundBlock ws os len used front number → front < len → IsTakenBack ws os len front number
is_taken_back ws os len used front number s l =
    let few : length (take len os) ≡ len = length-take-le len os s.len_in_offsets in
    let within : len - 1 < length (take len os) = omega arith in
    let same : get_or (take len os) (len - 1) 0 ≡ get_or os (len - 1) 0 = get_or-take len os (len - 1) 0 (omega arith) in
    let fewer : take (len - 1) (take len os) ≡ take (len - 1) os = take-take (len - 1) len os (omega arith) in
    let ends : get_or (take len os) (len - 1) 0 + span ws (get_or (take len os) (len - 1) 0) ≤ used = Tiles-end ws 0 0 (take len os) used (len - 1) 0 s.tiles within in
    let count : length (map (raw_at ws) (take len os)) ≡ len = length-map (take len os) (raw_at ws) ∙ few in
    record {
      sound =
          record {
            tiles = rw (← same, ← fewer) (Tiles-take ws 0 0 (take len os) used (len - 1) 0 s.tiles within);
            used_in_words = omega (arith, s.used_in_words);
            as_many_offsets = s.as_many_offsets;
            front_in_objects = omega arith;
            len_in_offsets = omega (arith, s.len_in_offsets);
            number_in_range = s.number_in_range;
            words_from = s.words_from;
            words_to = s.words_to;
          };
      objects_are = rw count (sym (take-map (raw_at ws) (len - 1) (take len os) ∙ ap (map (raw_at ws)) fewer));
    }

-- the word where an object begins has its ordinal
pub ordinal_of-begin : (ws os : List ℕ) (len used front number : ℕ) (now : List Raw) (k offset word : ℕ) → IsSoundBlock ws os len used front number → map (raw_at ws) (take len os) ≡ now → k < length now → offset_of now k ≡ offset → word ≡ get_or ws offset word → ordinal_of word ≡ k
ordinal_of-begin ws os len used front number now k offset word s e l is read =
    let f : HasObject ws os len now k = has_object ws os len used front number now k s e l in
    let there : get_or os k 0 ≡ offset = sym f.offset_is ∙ is in
    let same : word ≡ get_or ws offset 0 = get_or_read ws offset word (omega (arith, f.ends)) read 0 in
    rw (same, ← there) f.ordinal_is
