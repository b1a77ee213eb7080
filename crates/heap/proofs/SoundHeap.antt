-- What holds of every heap, fact by fact.
use Rattle.std.proofs.Common.{◌≡◌, ℕ, ◌<◌, ◌≤◌, Bool, true, false, List, All, length, get_or, Option, Some, None, refl, sym, ap, subst, ◌∙◌, arith}
use Rattle.std.specs.Prelude.{IsTrue}
use Rattle.std.specs.List.Sorted.{IsStrictlyIncreasing}
use Rattle.model.specs.Graph.{Object, IsClosed, object_at, is_large}
use Rattle.model.specs.Reached.{has}
use Rattle.layout.specs.declared.place.SmallPlace.{SmallPlace}
use Rattle.layout.specs.declared.place.LargeNumber.{LargeNumber}
use Rattle.layout.specs.declared.place.Place.{Place}
use Rattle.layout.specs.declared.place.Place.TheVariants.{Small, Large}
use Rattle.layout.specs.Place.{small_word, large_word, place_word}
use Rattle.steps.specs.HeapValue.{HeapValue}
use Rattle.steps.specs.CollectedHeap.{HoldsObject}
use Rattle.steps.specs.NamesArePlaces.{NamesArePlaces}
use Rattle.nursery.proofs.Areas.{has_at}
use Rattle.nursery.proofs.TableSteps.{get_or_any}
use Rattle.heap_objects.specs.Space.{IsPlace}
use Rattle.heap_objects.specs.Sound.{IsHeapObject, IsLargePlace, AreObjects}
use Rattle.heap.specs.IsHeap.{IsHeap}

-- numbers of free blocks, rising
pub record AreFreeBlocks (blocks : ℕ) (free : List ℕ) : Type 0 where
  pub rising : IsStrictlyIncreasing free
  pub in_range : All (λ block. block < blocks) free

-- no object stands in a free block
abbrev pub FreeBlocksAreEmpty : HeapValue → Type 0
FreeBlocksAreEmpty heap = (block offset : ℕ) → IsTrue (has heap.free block) → offset < 65536 → object_at heap.graph (small_word block offset) ≡ None

pub heap_closed : (heap : HeapValue) → IsHeap heap → IsClosed heap.graph
heap_closed heap sound = sound.blocks.closed

pub heap_object : (heap : HeapValue) → IsHeap heap → (name : ℕ) (o : Object) → object_at heap.graph name ≡ Some o → IsHeapObject heap.config o
heap_object heap sound = sound.blocks.sound.objects

-- how many pointers an object has
pub heap_fields : (heap : HeapValue) → IsHeap heap → (name : ℕ) (o : Object) → object_at heap.graph name ≡ Some o → length o.pointers ≤ 100000
heap_fields heap sound name o is = (sound.blocks.sound.objects name o is).pointers

small_place : (heap : HeapValue) → AreObjects heap → (name : ℕ) → IsPlace heap.config.blocks name → (place : Place) × (place_word place ≡ name)
small_place heap sound name at =
    let place : SmallPlace = record {
      block = at.block;
      offset = at.offset;
      block_in_range = omega (arith, at.block_in_range, sound.range.most_blocks);
      offset_in_range = at.offset_in_range;
    } in
    (Small place, sym at.is)

large_place : (name : ℕ) → IsLargePlace name → (place : Place) × (place_word place ≡ name)
large_place name at = let of : LargeNumber = record { number = at.number; in_range = at.in_range } in (Large of, sym at.is)

pub objects_places : (heap : HeapValue) → AreObjects heap → NamesArePlaces heap.graph
objects_places heap sound name o is = by_size (is_large heap.config.block_words o) refl
  where
    by_size : (b : Bool) → is_large heap.config.block_words o ≡ b → (place : Place) × (place_word place ≡ name)
    by_size false small = small_place heap sound name ((sound.places name o is).small small)
    by_size true large = large_place name ((sound.places name o is).large large)

small_below : (heap : HeapValue) → AreObjects heap → (name : ℕ) → IsPlace heap.config.blocks name → name < large_word 0
small_below heap sound name at = let most = sound.range.most_blocks in omega (arith, at.is, at.block_in_range, at.offset_in_range, most)

-- an object is large exactly when its name is no word of a small place
pub heap_large_name : (heap : HeapValue) → IsHeap heap → (name : ℕ) (o : Object) → object_at heap.graph name ≡ Some o → IsTrue (is_large heap.config.block_words o) → large_word 0 ≤ name
heap_large_name heap sound name o is large = let at = (sound.blocks.sound.places name o is).large large in omega (arith, at.is)

pub heap_small_name : (heap : HeapValue) → IsHeap heap → (name : ℕ) (o : Object) → object_at heap.graph name ≡ Some o → is_large heap.config.block_words o ≡ false → name < large_word 0
heap_small_name heap sound name o is small = small_below heap sound.blocks.sound name ((sound.blocks.sound.places name o is).small small)

pub heap_places : (heap : HeapValue) → IsHeap heap → NamesArePlaces heap.graph
heap_places heap sound = objects_places heap sound.blocks.sound

pub heap_free : (heap : HeapValue) → IsHeap heap → AreFreeBlocks heap.config.blocks heap.free
heap_free heap sound = record {
  rising = sound.blocks.sound.rising;
  in_range = λ k d lt. ((sound.blocks.sound.free (get_or heap.free k d)).0 (subst (λ n. has heap.free n ≡ true) (get_or_any heap.free k 0 d lt) (has_at heap.free k lt))).in_range;
}

pub heap_empty : (heap : HeapValue) → IsHeap heap → FreeBlocksAreEmpty heap
heap_empty heap sound block offset free lt = go (object_at heap.graph (small_word block offset)) refl
  where
    go : (o : Option Object) → object_at heap.graph (small_word block offset) ≡ o → object_at heap.graph (small_word block offset) ≡ None
    go None is = is
    go (Some o) is = absurd (by_size o is (is_large heap.config.block_words o) refl)
      where
        in_small : (x : Object) → object_at heap.graph (small_word block offset) ≡ Some x → IsPlace heap.config.blocks (small_word block offset) → ⊥
        in_small x there at =
            let same : at.block ≡ block = omega (arith, at.is, at.offset_in_range, lt) in
            let here : object_at heap.graph (small_word block at.offset) ≡ Some x = subst (λ b. object_at heap.graph (small_word b at.offset) ≡ Some x) same (sym (ap (object_at heap.graph) at.is) ∙ there) in
            let holds : HoldsObject heap.graph block = record { offset = at.offset; object = x; in_range = at.offset_in_range; there = here } in
            ((sound.blocks.sound.free block).0 free).holds_none holds

        by_size : (x : Object) → object_at heap.graph (small_word block offset) ≡ Some x → (b : Bool) → is_large heap.config.block_words x ≡ b → ⊥
        by_size x there false small = in_small x there ((sound.blocks.sound.places (small_word block offset) x there).small small)
        by_size x there true large =
            let at = (sound.blocks.sound.places (small_word block offset) x there).large large in
            let below = ((sound.blocks.sound.free block).0 free).in_range in
            let most = sound.blocks.sound.range.most_blocks in
            absurd (omega (arith, at.is, below, most, lt))
