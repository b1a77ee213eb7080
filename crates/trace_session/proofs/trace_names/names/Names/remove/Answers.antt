use Rattle.std.proofs.Common.{map, sym, ◌∙◌}
use Rattle.trace_session.specs.NamesView.{name_entry}
use Rattle.trace_session.proofs.InOrder.{find-in_order}
use Rattle.trace_session.proofs.NamesLemmas.{lookup_named, taken_named}
use Rattle.trace_session.proofs.trace_names.names.Names.remove.Goals as goal

pub returns-clause-root : goal.returns-clause-root
returns-clause-root g c =
    let entries = c.self.inside.roots.entries in
    rw (c.remove.ensures.value, ← c.self.view_is)
    (lookup_named c.args.name.now entries ∙ sym (find-in_order (map name_entry entries) c.args.name.now))

pub returns-clause-names : goal.returns-clause-names
returns-clause-names g c =
    rw (← c.self.view_is)
    (taken_named c.self.inside.roots.entries c.remove.new.self.entries c.args.name.now c.remove.ensures.entries c.len-count.ensures.unique c.remove.ensures.unique)
