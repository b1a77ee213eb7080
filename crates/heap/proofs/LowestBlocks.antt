-- Generations by block number, a block at a time.
use Rattle.std.proofs.Common.{◌≡◌, ◌≢◌, ℕ, ◌+◌, ◌<◌, ◌≤◌, Bool, true, false, List, [], length, map, take, get_or, min, Some, None, refl, sym, ap, subst, ◌∙◌, arith, ⊎_elim}
use Rattle.std.proofs.lemmas.Bool.{cases_eq}
use Rattle.std.proofs.lemmas.Bool.Decides.{nat_tests}
use Rattle.std.proofs.lemmas.List.Elements.{All-append}
use Rattle.std.proofs.lemmas.List.Sums.{sum_by-take-le}
use Rattle.std.proofs.lemmas.Option.{slice_get-get_or, slice_get-map}
use Rattle.std.specs.Prelude.{slice_get, nat_lt, if◌then◌else◌}
use Rattle.std.specs.Option.{option_map}
use Rattle.model.specs.Graph.{Object}
use Rattle.model.proofs.Options.{some_is, some_not_none}
use Rattle.layout.specs.Object.{Raw, raw_size}
use Rattle.layout.specs.declared.place.SmallPlace.{SmallPlace}
use Rattle.layout.specs.declared.place.Place.{Place}
use Rattle.layout.specs.declared.place.Place.TheVariants.{Small, Large}
use Rattle.layout.specs.Place.{small_word, place_word}
use Rattle.block_pool.specs.BlockValue.{BlockValue, offset_of, used_of}
use Rattle.steps.specs.BlockObjects.{block_objects, copies_of}
use Rattle.steps.specs.Words.{target_of_word}
use Rattle.heap_objects.proofs.GraphObjects.{target-some}
use Rattle.heap_objects.proofs.FieldSlots.{length-entries, entry_is}
use Rattle.heap.specs.Lowest.{AreLowest}
use Rattle.heap.proofs.NotedCopies.{copies_more}

-- what is said of one block's number falls to that block's generation where it was above, and of others it is as it was
pub record Counts (block : BlockValue) (old new : ℕ → ℕ) : Type 0 where
  pub here : new block.number ≡ min (old block.number) block.generation
  pub others : (number : ℕ) → number ≢ block.number → new number ≡ old number

module _ (block : BlockValue) (old new : ℕ → ℕ) (counts : Counts block old new) where
  pub falls : (number : ℕ) → new number ≤ old number
  falls number = ⊎_elim
      (λ same. subst (λ n. new n ≤ old n) (sym same) (omega (arith, counts.here)))
      (λ differ. omega (arith, counts.others number differ))
      (cases_eq number block.number)

  pub counts_bound : (number bound : ℕ) → bound ≤ old number → (block.number ≡ number → bound ≤ block.generation) → bound ≤ new number
  counts_bound number bound le own = ⊎_elim
      (λ same. subst (λ n. bound ≤ new n) (sym same) (let low : bound ≤ old block.number = subst (λ n. bound ≤ old n) same le in omega (arith, counts.here, low, own (sym same))))
      (λ differ. omega (arith, le, counts.others number differ))
      (cases_eq number block.number)

  -- an object of the block stands in no other block
  block_lowest : used_of block ≤ 512 → AreLowest new (block_objects block.number block)
  block_lowest fits k d lt at is =
      let none : Raw = record { pointers = []; plain = [] } in
      let start = small_word block.number 0 in
      let within : k < length block.objects = omega (arith, lt, length-entries start block.generation block.step block.objects) in
      let entry = entry_is start block.generation block.step block.objects k (get_or block.objects k none) d (slice_get-get_or block.objects k none within) in
      let word : small_word at.block at.offset ≡ start + offset_of block.objects k = sym is ∙ ap (λ e. e.0) entry in
      let before : offset_of block.objects k ≤ used_of block = sum_by-take-le raw_size block.objects k in
      let same : at.block ≡ block.number = omega (arith, word, before, fits, at.offset_in_range) in
      subst (λ n. new n ≤ (get_or (block_objects block.number block) k d).1.generation) (sym same) (omega (arith, counts.here, ap (λ e. e.1.generation) entry))

  -- the copies with one block more
  pub lowest_more : (blocks : List BlockValue) (i : ℕ) → i < length blocks → get_or blocks i block ≡ block → used_of block ≤ 512 → AreLowest old (copies_of (take i blocks)) → AreLowest new (copies_of (take (i + 1) blocks))
  lowest_more blocks i lt is fits so_far =
      let more = copies_more blocks i block lt is in
      let P : ℕ × Object → Type 0 = λ e. (at : SmallPlace) → e.0 ≡ place_word (Small at) → new at.block ≤ e.1.generation in
      rw more (All-append P (copies_of (take i blocks)) (block_objects block.number block) (λ k d low at named. omega (arith, falls at.block, so_far k d low at named)) (block_lowest fits))

-- which pointer a word is
module _ (words : List ℕ) (i : ℕ) (lt : i < length words) where
  reads : slice_get (map target_of_word words) i ≡ Some (target_of_word (get_or words i 0))
  reads = slice_get-map target_of_word words i ∙ ap (option_map target_of_word) (slice_get-get_or words i 0 lt)

  pub leads_at : (place : Place) → place_word place ≡ get_or words i 0 → slice_get (map target_of_word words) i ≡ Some (Some (place_word place))
  leads_at place is = reads ∙ ap (λ w. Some (target_of_word w)) (sym is) ∙ ap Some (target-some (place_word place) (positive place))
    where
      positive : (at : Place) → 0 < place_word at
      positive (Small at) = omega arith
      positive (Large of) = omega arith

  pub word_at : (word : ℕ) → slice_get (map target_of_word words) i ≡ Some (Some word) → word ≡ get_or words i 0
  word_at word is = go (nat_lt 0 (get_or words i 0)) refl (some_is (sym reads ∙ is))
    where
      go : (b : Bool) → nat_lt 0 (get_or words i 0) ≡ b → target_of_word (get_or words i 0) ≡ Some word → word ≡ get_or words i 0
      go true p e = sym (some_is (sym (target-some (get_or words i 0) (grind (arith, nat_tests, p))) ∙ e))
      go false p e = absurd (some_not_none (sym e ∙ ap (λ b. if b then Some (get_or words i 0) else None) p))
