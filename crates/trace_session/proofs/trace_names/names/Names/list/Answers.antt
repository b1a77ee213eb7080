use Rattle.std.proofs.Common.{rules, ◌++◌, map, ap, ◌∙◌}
use Rattle.std.proofs.lemmas.List.Sorted.{answers_always}
use Rattle.std.proofs.lemmas.Map.Iter.{rest_more, rest_all}
use Rattle.std.specs.Map.Iter.{deref_pair}
use Rattle.heap_text.specs.HeapLines.{name_value}
use Rattle.trace_session.specs.NamesView.{name_entry}
use Rattle.trace_session.proofs.NamesOrder.{name_listed, all_listed, listed_in_order, in_order_rises}
use Rattle.trace_session.proofs.trace_names.names.Names.list.Goals as goal

pub loop-text-init : goal.loop-text-init
loop-text-init g c = ap (λ l. map name_value l ++ map name_entry c.into_iter-text-iterator.result) c.new-list.ensures.items

pub loop-text-preserved : goal.loop-text-preserved
loop-text-preserved g c =
    name_listed name_value name_entry c.loop-text.list.items c.push.new.self.items _ (c.in-Some.text.now, c.in-Some.root.now) c.loop-text.text-iterator c.next.new.self _
    c.in_ok-push.ensures.items
    (ap (λ t. (t, c.in-Some.root.now.number)) c.as_slice.ensures.value)
    (rest_more deref_pair _ _ _ (c.in-Some.text, c.in-Some.root) c.in-Some.is c.next.ensures.steps)
    c.loop-text.invariant

pub returns-clause-names : goal.returns-clause-names
returns-clause-names g c =
    let gone = c.into_iter-text-iterator.ensures.into_iter_gives ∙ c.iter-text-items.ensures.rest in
    let listed = all_listed name_value name_entry c.loop-text.list.items c.loop-text.text-iterator _ (rest_all deref_pair _ _ _ c.in-None.is c.next.ensures.steps) c.loop-text.invariant in
    let up = c.sort_unstable_by_key.ensures.sorted (λ name. name.text) (answers_always _ _ _ (λ f a r h called. search rules)) in
    listed_in_order c.self.inside.roots.entries c.loop-text.list.items c.sort_unstable_by_key.new.self.items (listed ∙ ap (map name_entry) gone) c.sort_unstable_by_key.ensures.permutation up c.iter-text-items.ensures.unique
    ∙ c.self.view_is

pub returns-clause-sorted : goal.returns-clause-sorted
returns-clause-sorted g c = rw (← c.self.view_is) (in_order_rises c.self.inside.roots.entries)
