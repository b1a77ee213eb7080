use Rattle.std.proofs.Common.{map, sym, ◌∙◌}
use Rattle.trace_session.specs.NamesView.{name_entry}
use Rattle.trace_session.proofs.InOrder.{find-in_order}
use Rattle.trace_session.proofs.NamesLemmas.{lookup_named}
use Rattle.trace_session.proofs.trace_names.names.Names.get.Goals as goal

pub returns : goal.returns
returns g c =
    let entries = c.self.inside.roots.entries in
    rw (c.copied.ensures, c.get.ensures.value, ← c.self.view_is)
    (lookup_named c.args.name.now entries ∙ sym (find-in_order (map name_entry entries) c.args.name.now))
