use Rattle.std.proofs.Common.{◌≡◌, map, flat_map, drop}
use Rattle.model.specs.Store.{some_of}
use Rattle.layout.specs.Place.{place_word}
use Rattle.heap.specs.Words.{target_of_word}
use Rattle.heap_text.specs.Numbering.{IsNumbering, visited_all}
use Rattle.heap_text.proofs.numbering.Numbering.add_targets.Given as goal

abbrev pub invariant-loop-word : goal.invariant-loop-word
invariant-loop-word g l =
    record {
      numbering : IsNumbering l.heap l.all.generation l.self.numbers.items (map place_word l.self.places.items);
      rest : visited_all (map place_word l.self.places.items) (flat_map some_of (map target_of_word (drop l.word-index l.pointers)))
          ≡ visited_all (map place_word l.fn.self.places.items) (flat_map some_of (map target_of_word l.pointers));
    }
