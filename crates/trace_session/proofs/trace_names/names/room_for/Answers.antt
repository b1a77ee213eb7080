use Rattle.trace_session.proofs.NamesLemmas.{reordered_named}
use Rattle.trace_session.proofs.trace_names.names.room_for.Goals as goal

pub returns-clause-names : goal.returns-clause-names
returns-clause-names g c = reordered_named c.args.roots.now.entries c.reserve.new.self.entries c.reserve.ensures.entries.0 c.reserve.ensures.unique
