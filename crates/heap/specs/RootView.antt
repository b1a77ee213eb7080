-- A renamed root as its number and word.
use Rattle.std.specs.Prelude.{ℕ}
use Rattle.layout.specs.Place.{place_word}
use Rattle.heap.specs.declared.heap_commit.moves.RenamedRoot.{RenamedRoot}

abbrev pub root_pair : RenamedRoot → ℕ × ℕ
root_pair root = (root.number, place_word root.place)
