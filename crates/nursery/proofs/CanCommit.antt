-- The blocks that come back may take the place of all that is there.
use Rattle.std.proofs.Common.{◌≡◌, ℕ, ◌<◌, ◌≤◌, List, [], ◌∷◌, length, get_or, Some, refl, ap, subst, ◌∙◌, arith, ◌⊎◌, inl, inr}
use Rattle.std.specs.Prelude.{All, nat_eq}
use Rattle.std.specs.List.{IsDistinct}
use Rattle.std.specs.Ordering.{nat_cmp}
use Rattle.std.specs.FinMap.{find}
use Rattle.model.specs.Graph.{Object}
use Rattle.model.specs.Config.{Config}
use Rattle.layout.specs.Object.{Raw}
use Rattle.layout.specs.Place.{small_word}
use Rattle.block_pool.specs.BlockValue.{BlockValue, used_of}
use Rattle.steps.specs.BlockObjects.{copies_of, block_objects}
use Rattle.nursery.specs.Table.{IsHeapBlock, slot_objects}
use Rattle.nursery.proofs.TableLemmas.{found_word}
use Rattle.nursery.proofs.Installed.{numbers_of, EachFits, find-copies}
use Rattle.nursery.proofs.TableCensus.{IsHeapObject}
use Rattle.nursery.proofs.SmallBlocks.{small_raws, StandsAt, installed_at}

-- what is found in one of the blocks is found in all
found_copy : (blocks : List BlockValue) (k : ℕ) (d : BlockValue) (q : ℕ) (o : Object) → EachFits blocks → IsDistinct nat_eq (numbers_of blocks) → k < length blocks → used_of (get_or blocks k d) ≤ 512 → 0 < length (get_or blocks k d).objects
    → find nat_cmp q (block_objects (get_or blocks k d).number (get_or blocks k d)) ≡ Some o → find nat_cmp q (copies_of blocks) ≡ Some o
found_copy blocks k d q o fits once lt fit some is =
    find-copies blocks (get_or blocks k d).number q fits once (found_word (get_or blocks k d).number (get_or blocks k d) q o fit is)
    ∙ ap (λ s. find nat_cmp q (slot_objects (get_or blocks k d).number s)) (installed_at blocks k d once lt some) ∙ is

heap_block : (config : Config) (block : BlockValue) → block.words ≡ config.block_words → used_of block ≤ block.words
    → ((q : ℕ) (o : Object) → 0 < length block.objects → find nat_cmp q (block_objects block.number block) ≡ Some o → IsHeapObject config o)
    → (block.objects ≡ []) ⊎ IsHeapBlock config block.number block
heap_block config block words fit each = go block.objects refl
  where
    go : (raws : List Raw) → block.objects ≡ raws → (block.objects ≡ []) ⊎ IsHeapBlock config block.number block
    go [] is = inl is
    go (r ∷ raws) is =
        let some : 0 < length block.objects = omega (arith, ap length is) in
        let all = small_raws config block.generation block.step (small_word block.number 0) block.objects (λ q o found. each q o some found) in
        let first : StandsAt config block.generation block.step (r ∷ raws) = subst (StandsAt config block.generation block.step) is all.1 in
        inr (record { number_is = refl; words = words; step = first; fits = omega (arith, words, fit); objects = all.0 })

pub heap_blocks : (config : Config) (blocks : List BlockValue) → config.block_words ≤ 512 → EachFits blocks → IsDistinct nat_eq (numbers_of blocks) → All (λ b. b.words ≡ config.block_words) blocks → All (λ b. used_of b ≤ b.words) blocks
    → ((q : ℕ) (o : Object) → find nat_cmp q (copies_of blocks) ≡ Some o → IsHeapObject config o)
    → All (λ b. (b.objects ≡ []) ⊎ IsHeapBlock config b.number b) blocks
heap_blocks config blocks most fits once words fit each = λ k d lt.
    let same : (get_or blocks k d).words ≡ config.block_words = words k d lt in
    let low : used_of (get_or blocks k d) ≤ (get_or blocks k d).words = fit k d lt in
    heap_block config (get_or blocks k d) same low
    (λ q o some is. each q o (found_copy blocks k d q o fits once lt (omega (arith, low, same, most)) some is))

pub each_block_fits : (words : ℕ) (blocks : List BlockValue) → words ≤ 512 → All (λ b. b.words ≡ words) blocks → All (λ b. used_of b ≤ b.words) blocks → All (λ b. used_of b ≤ words) blocks
each_block_fits words blocks le same fit = λ k d lt.
    let is : (get_or blocks k d).words ≡ words = same k d lt in
    let low : used_of (get_or blocks k d) ≤ (get_or blocks k d).words = fit k d lt in
    omega (arith, is, low)
