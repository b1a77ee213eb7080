-- Blocks of the pool that large objects take and give back.
use Rattle.std.proofs.Common.{◌≡◌, ℕ, zero, suc, ◌<◌, ◌≤◌, ◌||◌, true, false, List, [], ◌∷◌, drop, Bool, Option, None, Result, Ok, Err, refl, sym, ap, subst, ◌∙◌, ⊎_elim, ◌⊎◌, inl, inr}
use Rattle.std.specs.Result.{OnOk, OnErr}
use Rattle.model.specs.Config.{Config}
use Rattle.model.specs.Reached.{has}
use Rattle.model.proofs.Has.{has_tail}
use Rattle.block_pool.specs.BlockValue.{BlockValue}
use Rattle.block_pool.specs.PoolValue.{PoolValue}
use Rattle.steps.specs.HeapValue.{nursery_count}
use Rattle.nursery.specs.Table.{slot_at}
use Rattle.nursery.specs.NurseryValue.{NurseryValue}
use Rattle.heap_objects.specs.Space.{IsFlaggedSpace}

has_drop : (k : ℕ) (xs : List ℕ) (n : ℕ) → has (drop k xs) n ≡ true → has xs n ≡ true
has_drop zero [] n h = h
has_drop zero (x ∷ xs) n h = h
has_drop (suc k) [] n h = h
has_drop (suc k) (x ∷ xs) n h = has_tail x xs n (has_drop k xs n h)

either_of : (a b : Bool) → (a || b) ≡ true → (a ≡ true) ⊎ (b ≡ true)
either_of true b h = inl refl
either_of false b h = inr h

module _ (config : Config) (table : List (Option BlockValue)) (nurseries : List NurseryValue) (pool pool' : PoolValue) (areas : List (List Bool)) (sound : IsFlaggedSpace config table nurseries pool areas) where
  -- the blocks may be others, as long as none that is there is free
  lent : pool'.limit ≡ pool.limit → ((n : ℕ) → has pool'.free n ≡ true → (nursery_count config ≤ n) × (n < config.blocks) × (slot_at table n ≡ None)) → IsFlaggedSpace config table nurseries pool' areas
  lent limit free = record {
    space = record {
      in_range = sound.space.in_range;
      blocks = sound.space.blocks;
      short = sound.space.short;
      count = sound.space.count;
      nurseries = sound.space.nurseries;
      set_aside = sound.space.set_aside;
      young = sound.space.young;
      filled = sound.space.filled;
      limit = limit ∙ sound.space.limit;
      are_free = free;
    };
    flags = sound.flags;
    generations = sound.generations;
    room = sound.room;
  }

  -- the first free ones are lent, or none
  pub lent_first : {T E : Type 0} (r : Result T E) (k : ℕ) → OnOk r (pool' ≡ record pool { free = drop k pool.free }) → OnErr r (pool' ≡ pool) → IsFlaggedSpace config table nurseries pool' areas
  lent_first (Ok x) k ok err = lent (ap (λ p. p.limit) ok) (λ n h. sound.space.are_free n (has_drop k pool.free n (subst (λ free. has free n ≡ true) (ap (λ p. p.free) ok) h)))
  lent_first (Err x) k ok err = lent (ap (λ p. p.limit) err) (λ n h. sound.space.are_free n (subst (λ free. has free n ≡ true) (ap (λ p. p.free) err) h))

  -- some come back
  pub given_back : (blocks : List ℕ) → pool'.limit ≡ pool.limit → ((n : ℕ) → has pool'.free n ≡ (has blocks n || has pool.free n)) → ((n : ℕ) → has blocks n ≡ true → (nursery_count config ≤ n) × (n < config.blocks) × (slot_at table n ≡ None)) → IsFlaggedSpace config table nurseries pool' areas
  given_back blocks limit free theirs = lent limit (λ n h. ⊎_elim (λ a. theirs n a) (λ b. sound.space.are_free n b) (either_of (has blocks n) (has pool.free n) (sym (free n) ∙ h)))
