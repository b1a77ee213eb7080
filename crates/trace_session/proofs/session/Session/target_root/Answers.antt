use Rattle.std.proofs.Common.{rules}
use Rattle.trace_session.proofs.session.Session.target_root.Goals as goal

pub returns-in-None-get-clause-err : goal.returns-in-None-get-clause-err
returns-in-None-get-clause-err g c = search rules
