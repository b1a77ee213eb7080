use Rattle.std.proofs.Common.{◌≡◌, ◌≤◌, ◌-◌, [], length, map, take, drop}
use Rattle.std.specs.FinMap.{len}
use Rattle.model.specs.Graph.{object_at}
use Rattle.model.specs.Reached.{spread}
use Rattle.model.specs.Text.{targets_at}
use Rattle.layout.specs.Place.{place_word}
use Rattle.heap_text.specs.Numbering.{IsNumbering}
use Rattle.heap_text.proofs.numbering.Numbering.spread.Given as goal

abbrev pub invariant-loop-done : goal.invariant-loop-done
invariant-loop-done g l =
    record {
      numbering : IsNumbering l.heap l.all.generation l.self.numbers.items (map place_word l.self.places.items);
      in_found : l.done ≤ length l.self.places.items;
      in_rows : l.done ≤ len l.heap.graph.objects;
      rest : spread (targets_at (object_at l.heap.graph)) (len l.heap.graph.objects) [] (map place_word l.fn.self.places.items)
          ≡ spread (targets_at (object_at l.heap.graph)) (len l.heap.graph.objects - l.done) (take l.done (map place_word l.self.places.items)) (drop l.done (map place_word l.self.places.items));
    }

abbrev pub decreases-loop-done : goal.decreases-loop-done
decreases-loop-done g l = length l.self.numbers.items - l.done
