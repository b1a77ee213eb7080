-- Roots and remembered sets have no part in what holds of a heap's objects.
use Rattle.std.proofs.Common.{ℕ, List}
use Rattle.std.specs.Ordering.{nat_cmp}
use Rattle.std.specs.FinMap.{FinMap}
use Rattle.model.specs.Graph.{Object}
use Rattle.steps.specs.HeapValue.{HeapValue}
use Rattle.steps.specs.CollectedHeap.{HoldsObject, IsFreeBlock}
use Rattle.heap_objects.specs.Objects.{ObjectsValue}
use Rattle.heap_objects.specs.Blocks.{HasBlocks}
use Rattle.heap_objects.specs.Sound.{AreObjects}

-- the heap of these objects with roots and remembered sets
abbrev pub heap_at : ObjectsValue → FinMap nat_cmp ℕ → List (List ℕ) → HeapValue
heap_at objects roots sets =
    record {
      config = objects.config;
      graph = record { objects = objects.objects; roots = roots };
      rooms = objects.rooms;
      free = objects.free;
      large_blocks = objects.large_blocks;
      remembered = sets;
    }

holds_at : (objects : ObjectsValue) (roots roots' : FinMap nat_cmp ℕ) (sets sets' : List (List ℕ)) (block : ℕ) → HoldsObject (heap_at objects roots sets).graph block → HoldsObject (heap_at objects roots' sets').graph block
holds_at objects roots roots' sets sets' block holds = record { offset = holds.offset; object = holds.object; in_range = holds.in_range; there = holds.there }

free_at : (objects : ObjectsValue) (roots roots' : FinMap nat_cmp ℕ) (sets sets' : List (List ℕ)) (block : ℕ) → IsFreeBlock (heap_at objects roots sets) block → IsFreeBlock (heap_at objects roots' sets') block
free_at objects roots roots' sets sets' block free = record {
  in_pool = free.in_pool;
  in_range = free.in_range;
  holds_none = λ holds. free.holds_none (holds_at objects roots' roots sets' sets block holds);
  no_large = free.no_large;
}

module _ (objects : ObjectsValue) (roots roots' : FinMap nat_cmp ℕ) (sets sets' : List (List ℕ)) where
  blocks_at : (o : Object) (blocks : List ℕ) → HasBlocks (heap_at objects roots sets) o blocks → HasBlocks (heap_at objects roots' sets') o blocks
  blocks_at o blocks theirs = record {
    large = theirs.large;
    count = theirs.count;
    once = theirs.once;
    in_pool = theirs.in_pool;
    hold_none = λ block h holds. theirs.hold_none block h (holds_at objects roots' roots sets' sets block holds);
  }

  pub objects_at : AreObjects (heap_at objects roots sets) → AreObjects (heap_at objects roots' sets')
  objects_at sound = record {
    range = sound.range;
    objects = sound.objects;
    places = sound.places;
    within = sound.within;
    apart = sound.apart;
    mutators = sound.mutators;
    rooms = sound.rooms;
    free = λ block. (λ h. free_at objects roots roots' sets sets' block ((sound.free block).0 h), λ free. (sound.free block).1 (free_at objects roots' roots sets' sets block free));
    rising = sound.rising;
    large = record {
      each = sound.large.each;
      theirs = λ name blocks is. let there = sound.large.theirs name blocks is in (there.0, there.1, blocks_at there.0 blocks there.2);
      apart = sound.large.apart;
    };
  }
