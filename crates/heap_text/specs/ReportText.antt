-- The lines that a collection's report writes.
use Rattle.std.specs.Prelude.{ℕ, List, ◌++◌, length, flat_map, codes, decimal}
use Rattle.std.specs.List.{enumerate_from}
use Rattle.steps.specs.ReportValue.{WorkerLists}
use Rattle.steps.specs.declared.heap_values.report.Delivery.{Delivery}
use Rattle.model.specs.Text.{collection_line}
use Rattle.heap_text.specs.declared.cause.Cause.{Cause}
use Rattle.heap_text.specs.CollectionLine.{cause_word}

-- the worker's number, how many races it won and how many objects it scanned
abbrev pub worker_line : ℕ × WorkerLists → List ℕ
worker_line (number, lists) = codes "worker " ++ decimal number ++ codes ": " ++ decimal (length lists.won) ++ codes " won, " ++ decimal (length lists.scanned) ++ codes " scanned\n"

-- a block by its exporter and its position there, how many objects it holds, and who took it
abbrev pub delivery_line : Delivery → List ℕ
delivery_line d = codes "block " ++ decimal d.exporter ++ codes "." ++ decimal d.position ++ codes ": " ++ decimal d.objects ++ codes " objects, taken by " ++ decimal d.taker ++ codes "\n"

-- the workers in their order, and then the deliveries in theirs
abbrev pub workers_text : List WorkerLists → List Delivery → List ℕ
workers_text workers deliveries = flat_map worker_line (enumerate_from 0 workers) ++ flat_map delivery_line deliveries
