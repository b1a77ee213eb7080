use Rattle.std.proofs.Common.{◌≡◌, ◌++◌, drop, string_bytes}
use Rattle.std.specs.List.{flat_map, enumerate_from}
use Rattle.heap_text.specs.ReportText.{worker_line}
use Rattle.heap_text.proofs.report_lines.report.push_workers.Given as goal

abbrev pub invariant-loop-number : goal.invariant-loop-number
invariant-loop-number g l = string_bytes l.text ++ flat_map worker_line (enumerate_from l.number (drop l.number l.workers)) ≡ string_bytes l.fn.text ++ flat_map worker_line (enumerate_from 0 l.workers)
