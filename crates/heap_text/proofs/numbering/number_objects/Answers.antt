use Rattle.std.proofs.Common.{◌≡◌, [], map, sym, ap, ◌∙◌, arith}
use Rattle.std.specs.Option.{option_map}
use Rattle.std.specs.FinMap.{len}
use Rattle.model.specs.Graph.{object_at}
use Rattle.model.specs.Reached.{fresh_of, spread}
use Rattle.model.specs.Text.{targets_at}
use Rattle.layout.specs.Place.{place_word}
use Rattle.heap_text.proofs.Steps.{start_more, starts_done}
use Rattle.heap_text.proofs.Started.{starts, started, has_start}
use Rattle.heap_text.proofs.InOrder.{order_started, order_closed}
use Rattle.heap_text.proofs.numbering.number_objects.Goals as goal

pub loop-name-preserved : goal.loop-name-preserved
loop-name-preserved g c =
    record {
      numbering = c.in_ok-add.ensures.numbering;
      rest = start_more c.args.heap.now.graph _ _ c.args.names.now c.loop-name.name-index _ _ c.loop-name-test.true (sym c.target.ensures ∙ ap (option_map place_word) c.unwrap-place.ensures) c.in_ok-add.ensures.order ∙ c.loop-name.invariant.rest;
    }

pub returns-clause-closed : goal.returns-clause-closed
returns-clause-closed g c =
    let begun : map place_word c.loop-name.numbering.places.items ≡ fresh_of [] (starts c.args.heap.now.graph c.args.names.now) =
    starts_done c.args.heap.now.graph _ _ c.args.names.now c.loop-name.name-index (omega arith) c.loop-name.invariant.rest in
    let is = c.in_ok-spread.ensures.order ∙ ap (spread (targets_at (object_at c.args.heap.now.graph)) (len c.args.heap.now.graph.objects) []) begun in
    order_closed c.args.heap.now.graph c.requires.all.closed (starts c.args.heap.now.graph c.args.names.now) (started c.args.heap.now.graph c.requires.all.closed c.args.names.now c.requires.rooted) _ is

pub returns-clause-named : goal.returns-clause-named
returns-clause-named g c =
    let begun : map place_word c.loop-name.numbering.places.items ≡ fresh_of [] (starts c.args.heap.now.graph c.args.names.now) =
    starts_done c.args.heap.now.graph _ _ c.args.names.now c.loop-name.name-index (omega arith) c.loop-name.invariant.rest in
    let is = c.in_ok-spread.ensures.order ∙ ap (spread (targets_at (object_at c.args.heap.now.graph)) (len c.args.heap.now.graph.objects) []) begun in
    λ k d lt.
    order_started c.args.heap.now.graph c.requires.all.closed (starts c.args.heap.now.graph c.args.names.now) (started c.args.heap.now.graph c.requires.all.closed c.args.names.now c.requires.rooted) _ is _ (has_start c.args.heap.now.graph c.args.names.now k d lt)
