use Rattle.std.proofs.Common.{◌≡◌, [], map, drop}
use Rattle.layout.specs.Place.{place_word}
use Rattle.heap_text.specs.HeapLines.{name_value, named_objects}
use Rattle.heap_text.specs.Numbering.{IsNumbering, visited_all}
use Rattle.heap_text.proofs.numbering.number_objects.Given as goal

abbrev pub invariant-loop-name : goal.invariant-loop-name
invariant-loop-name g l =
    record {
      numbering : IsNumbering l.heap l.all.generation l.numbering.numbers.items (map place_word l.numbering.places.items);
      rest : visited_all (map place_word l.numbering.places.items) (map (λ e. e.1) (named_objects l.heap.graph (map name_value (drop l.name-index l.names))))
          ≡ visited_all [] (map (λ e. e.1) (named_objects l.heap.graph (map name_value l.names)));
    }
