use Rattle.std.proofs.Common.{◌≡◌, ◌++◌, map}
use Rattle.heap_text.specs.HeapLines.{name_value}
use Rattle.trace_session.specs.NamesView.{name_entry}
use Rattle.trace_session.proofs.trace_names.names.Names.list.Given as goal

abbrev pub invariant-loop-text : goal.invariant-loop-text
invariant-loop-text g l = map name_value l.list.items ++ map name_entry l.text-iterator ≡ map name_entry l.initial.text-iterator
