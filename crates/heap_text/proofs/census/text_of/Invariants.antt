use Rattle.std.proofs.Common.{◌≡◌, take, string_bytes}
use Rattle.std.specs.Prelude.{map}
use Rattle.std.specs.List.{flat_map}
use Rattle.model.specs.Text.{step_line}
use Rattle.heap.specs.CensusView.{step_value}
use Rattle.heap_text.proofs.census.text_of.Given as goal

abbrev pub invariant-loop-count : goal.invariant-loop-count
invariant-loop-count g l = string_bytes l.text ≡ flat_map step_line (map step_value (take l.count-index l.count-items))
