use Rattle.std.proofs.Common.{rules}
use Rattle.steps.proofs.heap_values.report.WorkerReport.new.Goals as goal

pub returns : goal.returns
returns g c = search rules
