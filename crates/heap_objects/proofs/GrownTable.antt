-- What stays where the table of blocks only grows, and which blocks a collection gives up.
use Rattle.std.proofs.Common.{◌≡◌, ℕ, ◌+◌, ◌-◌, ◌<◌, ◌≤◌, Bool, true, false, cond, ◌&&◌, List, [], ◌∷◌, length, Option, Some, None, refl, sym, ap, ◌∙◌, arith, ⊎_elim, ◌⊎◌, inl, inr}
use Rattle.std.proofs.lemmas.Bool.Decides.{nat_tests}
use Rattle.std.specs.Prelude.{is_some, nat_le, nat_lt}
use Rattle.std.specs.Ordering.{nat_cmp}
use Rattle.std.specs.FinMap.{find}
use Rattle.model.specs.Config.{Config}
use Rattle.model.specs.Reached.{has}
use Rattle.model.specs.Room.{Room}
use Rattle.model.proofs.NatMap.{same_nat_map}
use Rattle.block_pool.specs.BlockValue.{BlockValue}
use Rattle.block_pool.specs.PoolValue.{PoolValue}
use Rattle.nursery.specs.Areas.{holds_young, is_flagged, AreAreas}
use Rattle.nursery.specs.Table.{slot_at, slot_objects, slot_words, objects_map, young_slot}
use Rattle.nursery.specs.NurseryValue.{NurseryValue, nursery_room}
use Rattle.nursery.proofs.Nurseries.{same_nursery}
use Rattle.heap_objects.specs.Space.{IsSoundSpace, IsFlaggedSpace, rooms_of}
use Rattle.nursery.proofs.TableLemmas.{TableFits, word_cases, find-at, find-first}
use Rattle.nursery.proofs.TableMap.{get-objects_map}
use Rattle.nursery.proofs.AreaTables.{young_inside}
use Rattle.heap_objects.proofs.Sound.{few_blocks}

-- two tables with the same blocks hold the same objects
pub same_objects : (a b : List (Option BlockValue)) → TableFits a → TableFits b → ((n : ℕ) → slot_at a n ≡ slot_at b n) → objects_map a ≡ objects_map b
same_objects a b fa fb same =
    same_nat_map _ _ (λ q. get-objects_map a q ∙ ⊎_elim
    (λ lt. find-first a q fa lt ∙ sym (find-first b q fb lt))
    (λ at. find-at a at.0 q fa at.1 ∙ ap (λ s. find nat_cmp q (slot_objects at.0 s)) (same at.0) ∙ sym (find-at b at.0 q fb at.1))
    (word_cases q) ∙ sym (get-objects_map b q))

-- the state that a table with the same blocks has
pub grown_sound : (config : Config) (old new : List (Option BlockValue)) (nurseries : List NurseryValue) (pool : PoolValue) → IsSoundSpace config old nurseries pool → ((n : ℕ) → slot_at new n ≡ slot_at old n) → length new ≤ config.blocks → length old ≤ length new → IsSoundSpace config new nurseries pool
grown_sound config old new nurseries pool sound same short longer = record {
  in_range = sound.in_range;
  blocks = λ n block is. sound.blocks n block (sym (same n) ∙ is);
  short = short;
  count = sound.count;
  nurseries = λ m n is. let was = sound.nurseries m n is in record { first = was.first; blocks = was.blocks; sound = same_nursery n old new (λ k lt. same (n.first + k)) config.block_words was.sound };
  set_aside = omega (arith, sound.set_aside);
  young = λ n block lt is. sound.young n block lt (sym (same n) ∙ is);
  filled = λ n block le is. sound.filled n block le (sym (same n) ∙ is);
  limit = sound.limit;
  are_free = λ n h. let old_free = sound.are_free n h in (old_free.0, old_free.1, same n ∙ old_free.2);
}

-- rooms follow the slots
pub same_rooms : (config : Config) (old new : List (Option BlockValue)) (nurseries : List NurseryValue) → ((n : ℕ) → slot_at new n ≡ slot_at old n) → rooms_of nurseries new ≡ rooms_of nurseries old
same_rooms config old new [] same = refl
same_rooms config old new (n ∷ nurseries) same =
    let here : nursery_room n new ≡ nursery_room n old = ap (λ slot. let r : Room = record { left = n.blocks - 1 - n.current; used = slot_words slot } in r) (same (n.first + n.current)) in
    rw here (ap (λ rooms. nursery_room n old ∷ rooms) (same_rooms config old new nurseries same))

pub some_or_none : (o : Option BlockValue) → ((block : BlockValue) × (o ≡ Some block)) ⊎ (o ≡ None)
some_or_none None = inr refl
some_or_none (Some block) = inl (block, refl)

-- the block where its generation is above g
abbrev pub older_slot : ℕ → Option BlockValue → Option BlockValue
older_slot g slot = cond (is_some (young_slot g slot)) None slot

-- the numbers of the blocks that are given up: those that hold an object of a generation that is collected
abbrev pub Goes : ℕ → List (Option BlockValue) → List ℕ → Type 0
Goes g table gone = (n : ℕ) → has gone n ≡ holds_young g (slot_at table n)

-- the flagged numbers are those of the blocks that go
pub goes_flagged : (g : ℕ) (table : List (Option BlockValue)) (areas : List (List Bool)) (gone : List ℕ) → AreAreas table areas → ((n : ℕ) → has gone n ≡ is_flagged areas g n) → Goes g table gone
goes_flagged g table areas gone are each n = each n ∙ are.each g n

-- a table with the same blocks, and flags that mean the same
pub grown_areas : (old new : List (Option BlockValue)) (areas areas' : List (List Bool)) → ((n : ℕ) → slot_at new n ≡ slot_at old n) → ((g n : ℕ) → is_flagged areas' g n ≡ is_flagged areas g n) → AreAreas old areas → AreAreas new areas'
grown_areas old new areas areas' same flags are = record { each = λ g n. flags g n ∙ are.each g n ∙ sym (ap (λ o. holds_young g o) (same n)) }

-- no flag is set past the last number
pub few_flagged : (config : Config) (table : List (Option BlockValue)) (nurseries : List NurseryValue) (pool : PoolValue) (areas : List (List Bool)) → IsFlaggedSpace config table nurseries pool areas → (g n : ℕ) → is_flagged areas g n ≡ true → n < 65535
few_flagged config table nurseries pool areas sound g n is = omega (arith, young_inside table g n (sym (sound.flags.each g n) ∙ is), few_blocks config table nurseries pool sound.space)

pub both_of : (a b : Bool) → (a && b) ≡ true → (a ≡ true) × (b ≡ true)
both_of true true h = (refl, refl)
both_of true false h = absurd (cc)
both_of false b h = absurd (cc)

pub both : (a b : Bool) → a ≡ true → b ≡ true → (a && b) ≡ true
both true b h e = e
both false b h e = h

pub young_some : (g : ℕ) (o : Option BlockValue) → holds_young g o ≡ true → (block : BlockValue) × (o ≡ Some block) × (block.generation ≤ g) × (0 < length block.objects)
young_some g None h = absurd (cc)
young_some g (Some block) h =
    let parts = both_of (nat_le block.generation g) (nat_lt 0 (length block.objects)) h in
    let young : nat_le block.generation g ≡ true = parts.0 in
    let some : nat_lt 0 (length block.objects) ≡ true = parts.1 in
    (block, refl, grind (arith, nat_tests, young), grind (arith, nat_tests, some))

-- a block that holds some object holds one of a generation that is collected where its own is
pub young_filled : (g : ℕ) (o : Option BlockValue) → ((block : BlockValue) → o ≡ Some block → 0 < length block.objects) → holds_young g o ≡ is_some (young_slot g o)
young_filled g None filled = refl
young_filled g (Some block) filled = go (nat_le block.generation g)
  where
    some : nat_lt 0 (length block.objects) ≡ true
    some = let lt : 0 < length block.objects = filled block refl in grind (arith, nat_tests, lt)

    go : (b : Bool) → (b && nat_lt 0 (length block.objects)) ≡ is_some (cond {A = Option BlockValue} b (Some block) None)
    go true = some
    go false = refl

pub gone_there : (table : List (Option BlockValue)) (g : ℕ) (gone : List ℕ) → Goes g table gone → (n : ℕ) → has gone n ≡ true → (block : BlockValue) × (slot_at table n ≡ Some block)
gone_there table g gone goes n h = let there = young_some g (slot_at table n) (sym (goes n) ∙ h) in (there.0, there.1)
