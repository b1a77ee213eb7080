-- One pool for all objects, as one object comes or goes.
use Rattle.std.proofs.Common.{◌≡◌, ◌≢◌, ◌⊎◌, ◌↔◌, ℕ, ◌+◌, ◌-◌, ◌/◌, ◌<◌, ◌≤◌, Bool, true, false, ◌||◌, List, [], length, take, get_or, set, replicate, Option, Some, None, IsSome, is_some, refl, sym, ap, subst, ◌∙◌, arith, inl, inr, ⊎_elim}
use Rattle.std.proofs.lemmas.Bool.{true≢false, cases_eq, or_from}
use Rattle.std.proofs.lemmas.Bool.Decides.{Decides-eqb}
use Rattle.std.proofs.lemmas.List.{get_or-set_same, get_or-set_other, get_or_past, length-take, length-replicate}
use Rattle.std.proofs.lemmas.List.Kept.{AllPairs-from_increasing}
use Rattle.std.proofs.lemmas.Map.Made.{IsDistinct-from_AllPairs}
use Rattle.std.proofs.lemmas.Nat.{le-div}
use Rattle.std.specs.Prelude.{nat_eq, Contains}
use Rattle.std.specs.List.{IsDistinct, All}
use Rattle.std.specs.List.Sorted.{IsStrictlyIncreasing}
use Rattle.model.specs.Reached.{has}
use Rattle.layout.specs.Header.{size_of}
use Rattle.block_pool.specs.PoolValue.{PoolValue}
use Rattle.large_objects.specs.LargeValue.{LargeObject, LargeValue, IsAdded, InUse, large_at, block_count, made, without_object}
use Rattle.large_objects.specs.PoolBlocks.{ArePoolBlocks, blocks_of, blocks_at}
use Rattle.large_objects.proofs.BlockSets.{has-contains, contains-has}

not_true : (b : Bool) → (b ≡ true → ⊥) → b ≡ false
not_true true never = absurd (never refl)
not_true false never = refl

rising_once : (xs : List ℕ) → IsStrictlyIncreasing xs → IsDistinct nat_eq xs
rising_once xs rising = let below = AllPairs-from_increasing xs rising in IsDistinct-from_AllPairs Decides-eqb xs (λ i j d low high is. let l = below i j d low high in absurd (omega arith))

all_has : (xs : List ℕ) (limit q : ℕ) → All (λ n. n < limit) xs → has xs q ≡ true → q < limit
all_has xs limit q all h =
    let found = contains-has xs q h in
    let low = all found.0 q found.1 in
    subst (λ n. n < limit) found.2 low

none_once : IsDistinct nat_eq []
unfolding IsDistinct
none_once = tt

-- what holds of each number's slot, where one slot changed
module _ (old new : LargeValue) (number : ℕ) (slot : Option LargeObject) (at : large_at new number ≡ slot) (others : (n : ℕ) → n ≢ number → large_at new n ≡ large_at old n) where
  slots : (P : ℕ → Option LargeObject → Type 0) → P number slot → ((n : ℕ) → n ≢ number → P n (large_at old n)) → (n : ℕ) → P n (large_at new n)
  slots P mine theirs n = ⊎_elim
      (λ e. subst (λ m. P m (large_at new m)) (sym e) (subst (P number) (sym at) mine))
      (λ ne. subst (P n) (sym (others n ne)) (theirs n ne))
      (cases_eq n number)

-- what a pool grants: the blocks rise, and none of them is free any more
pub record Granted (before after : PoolValue) (blocks : List ℕ) : Type 0 where
  pub limit : after.limit ≡ before.limit
  pub some : 0 < length blocks
  pub rising : IsStrictlyIncreasing blocks
  pub in_limit : All (λ n. n < before.limit) blocks
  pub members : (n : ℕ) → Contains before.free n ↔ (Contains blocks n ⊎ Contains after.free n)
  pub apart : (n : ℕ) → Contains blocks n → ¬ Contains after.free n

module _ (old new : LargeValue) (before after : PoolValue) (number : ℕ) (object : LargeObject) (are : ArePoolBlocks old before) (added : IsAdded old new number object) (granted : Granted before after object.blocks) where
  was_free : (block : ℕ) → has object.blocks block ≡ true → has before.free block ≡ true
  was_free block h = has-contains before.free block ((granted.members block).1 (inl (contains-has object.blocks block h)))

  not_free : (block : ℕ) → has object.blocks block ≡ true → has after.free block ≡ false
  not_free block h = not_true (has after.free block) (λ free. granted.apart block (contains-has object.blocks block h) (contains-has after.free block free))

  still_taken : (block : ℕ) → has before.free block ≡ false → has after.free block ≡ false
  still_taken block taken = not_true (has after.free block) (λ free. true≢false (sym (has-contains before.free block ((granted.members block).1 (inr (contains-has after.free block free)))) ∙ taken))

  -- a block that was taken isn't one of those that were granted
  not_mine : (block : ℕ) → has before.free block ≡ false → has object.blocks block ≡ false
  not_mine block taken = not_true (has object.blocks block) (λ mine. true≢false (sym (was_free block mine) ∙ taken))

  not_theirs : (other block : ℕ) → has object.blocks block ≡ true → has (blocks_at old other) block ≡ false
  not_theirs other block mine = not_true (has (blocks_at old other) block) (λ theirs. true≢false (sym (was_free block mine) ∙ are.taken other block theirs))

  by_slot : (P : ℕ → Option LargeObject → Type 0) → P number (Some object) → ((n : ℕ) → n ≢ number → P n (large_at old n)) → (n : ℕ) → P n (large_at new n)
  by_slot P mine theirs n = slots old new number (Some object) added.at added.others P mine theirs n

  pub add_blocks : ArePoolBlocks new after
  add_blocks = record {
    some = by_slot (λ n slot. IsSome slot → 0 < length (blocks_of slot)) (λ _. granted.some) (λ n ne. are.some n);
    in_limit = by_slot (λ n slot. (block : ℕ) → has (blocks_of slot) block ≡ true → block < after.limit)
        (λ block h. rw granted.limit (all_has object.blocks before.limit block granted.in_limit h))
        (λ n ne block h. rw granted.limit (are.in_limit n block h));
    taken = by_slot (λ n slot. (block : ℕ) → has (blocks_of slot) block ≡ true → has after.free block ≡ false)
        not_free
        (λ n ne block h. still_taken block (are.taken n block h));
    once = by_slot (λ n slot. IsDistinct nat_eq (blocks_of slot)) (rising_once object.blocks granted.rising) (λ n ne. are.once n);
    apart = by_slot (λ n slot. (other block : ℕ) → n ≢ other → has (blocks_of slot) block ≡ true → has (blocks_at new other) block ≡ false)
        (λ other block ne mine. ap (λ s. has (blocks_of s) block) (added.others other (λ e. ne (sym e))) ∙ not_theirs other block mine)
        (λ n away other block ne theirs.
        by_slot (λ m slot. n ≢ m → has (blocks_of slot) block ≡ false)
        (λ _. not_mine block (are.taken n block theirs))
        (λ m _ ne'. are.apart n m block ne' theirs)
        other ne);
  }

-- a number that is in use has a slot
within : (slots : List (Option LargeObject)) (number : ℕ) → IsSome (get_or slots number None) → number < length slots
within slots number in_use = grind (arith, get_or_past)

module _ (old : LargeValue) (before after : PoolValue) (number : ℕ) (are : ArePoolBlocks old before) (in_use : InUse old number) (free : (n : ℕ) → has after.free n ≡ (has (blocks_at old number) n || has before.free n)) (limit : after.limit ≡ before.limit) where
  by_kept : (P : ℕ → Option LargeObject → Type 0) → P number None → ((n : ℕ) → n ≢ number → P n (large_at old n)) → (n : ℕ) → P n (large_at (without_object old number) n)
  by_kept P mine theirs n =
      slots old (without_object old number) number None
      (get_or-set_same old.slots number None None (within old.slots number in_use))
      (λ m ne. get_or-set_other old.slots number m None None ne)
      P mine theirs n

  pub remove_blocks : ArePoolBlocks (without_object old number) after
  remove_blocks = record {
    some = by_kept (λ n slot. IsSome slot → 0 < length (blocks_of slot)) (λ h. absurd (true≢false (sym h))) (λ n ne. are.some n);
    in_limit = by_kept (λ n slot. (block : ℕ) → has (blocks_of slot) block ≡ true → block < after.limit)
        (λ block h. absurd (true≢false (sym h)))
        (λ n ne block h. rw limit (are.in_limit n block h));
    taken = by_kept (λ n slot. (block : ℕ) → has (blocks_of slot) block ≡ true → has after.free block ≡ false)
        (λ block h. absurd (true≢false (sym h)))
        (λ n ne block h. free block ∙ or_from _ _ (are.apart n number block ne h) (are.taken n block h));
    once = by_kept (λ n slot. IsDistinct nat_eq (blocks_of slot)) none_once (λ n ne. are.once n);
    apart = by_kept (λ n slot. (other block : ℕ) → n ≢ other → has (blocks_of slot) block ≡ true → has (blocks_at (without_object old number) other) block ≡ false)
        (λ other block ne h. absurd (true≢false (sym h)))
        (λ n away other block ne theirs.
        by_kept (λ m slot. n ≢ m → has (blocks_of slot) block ≡ false)
        (λ _. refl)
        (λ m _ ne'. are.apart n m block ne' theirs)
        other ne);
  }

pub no_blocks : (large : LargeValue) (pool : PoolValue) → large.slots ≡ [] → ArePoolBlocks large pool
no_blocks large pool empty = record {
  some = λ n in_use. absurd (true≢false (sym in_use ∙ ap is_some (none n)));
  in_limit = λ n block h. absurd (true≢false (sym h ∙ ap (λ s. has (blocks_of s) block) (none n)));
  taken = λ n block h. absurd (true≢false (sym h ∙ ap (λ s. has (blocks_of s) block) (none n)));
  once = λ n. rw none none_once;
  apart = λ n other block ne h. ap (λ s. has (blocks_of s) block) (none other);
}
  where
    none : (n : ℕ) → large_at large n ≡ None
    none n = ap (λ xs. get_or xs n None) empty

-- an object has at least one block
pub some_block : (p q w : ℕ) → 0 < w → 0 < block_count (size_of p q) w
some_block p q w pos = le-div 1 (1 + p + q + w - 1) w pos (omega arith)

-- the header's word makes up for the one that is taken off
pub same_count : (p q w : ℕ) → (p + q + w) / w ≡ block_count (size_of p q) w
same_count p q w = let same : p + q + w ≡ 1 + p + q + w - 1 = omega arith in ap (λ n. n / w) same

pub enough : (p q count w : ℕ) (free blocks : List ℕ) → blocks ≡ take count free → count ≡ block_count (size_of p q) w → 0 < w → count ≤ length free → 0 < length blocks
enough p q count w free blocks is counts pos le =
    let some = some_block p q w pos in
    let long : length blocks ≡ length (take count free) = ap length is in
    omega (arith, length-take count free)

-- the object that is made of zeros and of the blocks that were granted
pub made_of : (p q count w : ℕ) (free words blocks : List ℕ) → words ≡ replicate (p + q) 0 → blocks ≡ take count free → count ≡ block_count (size_of p q) w → made p (length words - p) blocks ≡ made p q (take (block_count (size_of p q) w) free)
made_of p q count w free words blocks zeros is counts =
    let all : length words ≡ p + q = ap length zeros ∙ length-replicate {A = ℕ} (p + q) 0 in
    let long : length words - p ≡ q = omega arith in
    rw (long, is, counts) refl

pub is_added : (old new : LargeValue) (slots : List (Option LargeObject)) (key number : ℕ) (stored object : LargeObject) → slots ≡ old.slots → key ≡ number → stored ≡ object → get_or slots key None ≡ None → get_or new.slots key None ≡ Some stored → ((n : ℕ) → n ≢ key → get_or new.slots n None ≡ get_or slots n None) → IsAdded old new number object
is_added old new slots key number stored object same k s vacant at others =
    record {
      was_vacant = cc;
      at = cc;
      others = λ n ne. others n (λ e. ne (e ∙ k)) ∙ ap (λ xs. get_or xs n None) same;
    }

value_is : (xs ys : List (Option LargeObject)) (m n : ℕ) → xs ≡ ys → m ≡ n → ◌≡◌ {A = LargeValue} (record { slots = xs; next = m }) (record { slots = ys; next = n })
value_is xs ys m n e f = cc

pub removed : (old new : LargeValue) (slots : List (Option LargeObject)) (number : ℕ) → slots ≡ old.slots → new.slots ≡ set slots number None → new.next ≡ number → new ≡ without_object old number
removed old new slots number same gone next =
    let slots_are : new.slots ≡ set old.slots number None = gone ∙ ap (λ xs. set xs number None) same in
    value_is new.slots (set old.slots number None) new.next number slots_are next

-- the blocks of an object go back to the pool
pub give_back_blocks : (old : LargeValue) (before after : PoolValue) (number : ℕ) (object : LargeObject) (blocks : List ℕ) → ArePoolBlocks old before → large_at old number ≡ Some object → blocks ≡ object.blocks
    → ((n : ℕ) → has after.free n ≡ (has blocks n || has before.free n)) → after.limit ≡ before.limit → ArePoolBlocks (without_object old number) after
give_back_blocks old before after number object blocks are is same free limit =
    let mine : blocks ≡ blocks_at old number = same ∙ ap blocks_of (sym is) in
    remove_blocks old before after number are (ap is_some is) (λ n. free n ∙ ap (λ bs. has bs n || has before.free n) mine) limit
