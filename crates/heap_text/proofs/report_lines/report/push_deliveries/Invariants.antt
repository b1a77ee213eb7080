use Rattle.std.proofs.Common.{◌≡◌, ◌++◌, take, string_bytes}
use Rattle.std.specs.List.{flat_map}
use Rattle.heap_text.specs.ReportText.{delivery_line}
use Rattle.heap_text.proofs.report_lines.report.push_deliveries.Given as goal

abbrev pub invariant-loop-delivery : goal.invariant-loop-delivery
invariant-loop-delivery g l = string_bytes l.text ≡ string_bytes l.fn.text ++ flat_map delivery_line (take l.delivery-index l.deliveries)
