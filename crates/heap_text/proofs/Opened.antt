-- A collection of all generations.
use Rattle.std.proofs.Common.{◌≡◌, ℕ, ◌+◌, ◌≤◌, true, false, Option, Some, None, refl, sym, subst, arith}
use Rattle.std.specs.Prelude.{is_some}
use Rattle.model.specs.Graph.{Object, object_at}
use Rattle.model.specs.Live.{IsYoung}
use Rattle.heap.specs.HeapValue.{HeapValue}
use Rattle.heap.specs.IsHeap.{IsHeap}
use Rattle.heap.specs.CollectionValue.{CollectionValue, IsOpened}
use Rattle.heap.proofs.SoundHeap.{heap_closed, heap_object, heap_places}
use Rattle.heap_text.specs.Numbering.{HasAllObjects}

-- one of the generations up to the oldest has every object
pub has_all : (heap : HeapValue) (g : ℕ) (all : CollectionValue) → IsOpened heap g all → IsHeap heap → heap.config.shape.generations ≤ g + 1 → HasAllObjects heap all
has_all heap g all opened sound oldest =
    record {
      opened = subst (λ n. IsOpened heap n all) (sym opened.generation) opened;
      closed = heap_closed heap sound;
      young = λ name some. go name (object_at heap.graph name) refl some;
      places = heap_places heap sound;
    }
  where
    go : (name : ℕ) (o : Option Object) → object_at heap.graph name ≡ o → is_some o ≡ true → IsYoung heap.graph all.generation name
    go name None e h = absurd (let f : true ≡ false = sym h in cc)
    go name (Some o) e h = let below = (heap_object heap sound name o e).step.generation in record { object = o; there = e; young = omega (arith, below, oldest, opened.generation) }
