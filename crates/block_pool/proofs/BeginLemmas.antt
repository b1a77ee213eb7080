-- An object that begins at an offset of a block, as the words of the block have it.
use Rattle.std.proofs.Common.{◌≡◌, ℕ, ◌+◌, ◌≤◌, List, length, get_or, take, map, sym, ap, subst, ◌∙◌}
use Rattle.std.proofs.lemmas.Option.{same_Some}
use Rattle.std.proofs.lemmas.List.{get_or_default}
use Rattle.layout.specs.Object.{Raw, raw_size}
use Rattle.block_pool.specs.BlockValue.{BlockValue, BeginsAt}
use Rattle.block_pool.specs.Words.{span, raw_at, IsSoundBlock}
use Rattle.block_pool.proofs.WordLemmas.{raw_size-raw_at}
use Rattle.block_pool.proofs.BlockLemmas.{HasObject, has_object}
use Rattle.block_pool.proofs.ReadLemmas.{HasPointers, has_pointers}

-- the words from that one on are the object's
pub record Begun (ws : List ℕ) (at : ℕ) (raw : Raw) : Type 0 where
  pub ends : at + span ws at ≤ length ws
  pub is : raw ≡ raw_at ws at
  pub size : raw_size raw ≡ span ws at
  pub pointers : HasPointers ws at raw

pub begun : (ws os : List ℕ) (len used front number : ℕ) (b : BlockValue) (at : ℕ) (raw : Raw) → IsSoundBlock ws os len used front number → map (raw_at ws) (take len os) ≡ b.objects → BeginsAt b at raw → Begun ws at raw
begun ws os len used front number b at raw s e r =
    let o : HasObject ws os len b.objects r.ordinal = has_object ws os len used front number b.objects r.ordinal s e r.within in
    let is : get_or os r.ordinal 0 ≡ at = sym o.offset_is ∙ r.begins in
    let ends : at + span ws at ≤ length ws = subst (λ n. n + span ws n ≤ length ws) is o.ends in
    let same : raw ≡ raw_at ws at = same_Some _ _ (sym r.there ∙ o.object_is) ∙ ap (raw_at ws) is in
    let read : at ≡ get_or os r.ordinal at = sym is ∙ get_or_default os r.ordinal 0 at o.in_offsets in
    record {
      ends = ends;
      is = same;
      size = ap raw_size same ∙ raw_size-raw_at ws at ends;
      pointers = has_pointers ws os len used front number b.objects r.ordinal at raw s e r.within read r.there;
    }
