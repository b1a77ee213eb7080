use Rattle.std.proofs.Common.{rules}
use Rattle.trace_session.proofs.SessionSteps.{StandsFor-empty}
use Rattle.trace_session.proofs.session.Session.new.Goals as goal

pub returns-clause-ok : goal.returns-clause-ok
returns-clause-ok g c = StandsFor-empty c.args.config c.in-Ok-new.heap c.new-names.result c.in-Ok-new.ensures.ok c.new-names.ensures

pub returns-in-Err-HeapFull-clause-err : goal.returns-in-Err-HeapFull-clause-err
returns-in-Err-HeapFull-clause-err g c = search rules
