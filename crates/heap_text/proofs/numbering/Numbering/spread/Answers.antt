use Rattle.std.proofs.Common.{◌≡◌, ℕ, List, ◌<◌, ◌≤◌, ◌++◌, length, map, get_or, refl, sym, ap, subst, ◌∙◌, arith, length-append}
use Rattle.std.proofs.lemmas.List.{length-map}
use Rattle.std.specs.Prelude.{IsSome}
use Rattle.std.specs.FinMap.{len}
use Rattle.model.specs.Graph.{object_at}
use Rattle.model.specs.Reached.{fresh_of}
use Rattle.model.specs.Text.{targets_at}
use Rattle.model.proofs.SpreadLemmas.{spread_more, spread_ended}
use Rattle.layout.specs.Place.{place_word}
use Rattle.heap_text.proofs.Shown.{shows, some_shown, shown_lead, shown_targets}
use Rattle.heap_text.proofs.Steps.{word_at}
use Rattle.heap_text.proofs.InOrder.{all_young}
use Rattle.heap_text.proofs.numbering.Numbering.spread.Goals as goal

pub unwrap-object-requires : goal.unwrap-object-requires
unwrap-object-requires g c =
    let lt : c.loop-done.done < length c.loop-done.self.places.items = omega (arith, c.loop-done.self.places.ok.0) in
    let lt' : c.loop-done.done < length (map place_word c.loop-done.self.places.items) = omega (arith, length-map c.loop-done.self.places.items place_word) in
    let at = word_at c.loop-done.self.places.items c.loop-done.done c.index.result.now lt c.index.ensures in
    some_shown c.object.result _ _ c.object.ensures (subst (λ n. IsSome (object_at c.args.heap.now.graph n)) at (c.loop-done.invariant.numbering.there c.loop-done.done 0 lt'))

pub add_targets-requires-clause-lead : goal.add_targets-requires-clause-lead
add_targets-requires-clause-lead g c =
    shown_lead c.args.heap.now.graph _ _ (shows c.args.heap.now.graph _ c.object.result c.unwrap-object.result c.object.ensures c.unwrap-object.ensures) c.requires.all.closed

pub loop-done-preserved : goal.loop-done-preserved
loop-done-preserved g c =
    let next : ℕ → List ℕ = targets_at (object_at c.args.heap.now.graph) in
    let found : List ℕ = map place_word c.loop-done.self.places.items in
    let new : List ℕ = map place_word c.add_targets.new.self.places.items in
    let lt : c.loop-done.done < length c.loop-done.self.places.items = omega (arith, c.loop-done.self.places.ok.0) in
    let lt' : c.loop-done.done < length found = omega (arith, length-map c.loop-done.self.places.items place_word) in
    let left : c.loop-done.done < len c.args.heap.now.graph.objects =
    omega (arith, c.loop-done.self.numbers.ok.0, c.loop-done.invariant.numbering.count, all_young c.args.heap.now.graph c.args.all.now.generation c.requires.all.young) in
    let shown = shows c.args.heap.now.graph _ c.object.result c.unwrap-object.result c.object.ensures c.unwrap-object.ensures in
    let at = word_at c.loop-done.self.places.items c.loop-done.done c.index.result.now lt c.index.ensures in
    let grown : new ≡ found ++ fresh_of found (next (get_or found c.loop-done.done 0)) =
    c.in_ok-add_targets.ensures.order ∙ ap (λ ts. found ++ fresh_of found ts) (sym (ap next at ∙ shown_targets c.args.heap.now.graph _ _ shown)) in
    record {
      numbering = c.in_ok-add_targets.ensures.numbering;
      in_found = omega (arith, length-map c.add_targets.new.self.places.items place_word, ap length grown, length-append found (fresh_of found (next (get_or found c.loop-done.done 0))));
      in_rows = omega arith;
      rest = spread_more next (len c.args.heap.now.graph.objects) c.loop-done.done 0 found new (fresh_of found (next (get_or found c.loop-done.done 0))) _ lt' left refl grown c.loop-done.invariant.rest;
    }

pub returns-else-done-len-clause-order : goal.returns-else-done-len-clause-order
returns-else-done-len-clause-order g c =
    let found : List ℕ = map place_word c.loop-done.self.places.items in
    let many : len c.args.heap.now.graph.objects ≤ c.loop-done.done =
    omega (arith, c.loop-done.self.numbers.ok.0, c.loop-done.invariant.numbering.count, all_young c.args.heap.now.graph c.args.all.now.generation c.requires.all.young) in
    sym (c.loop-done.invariant.rest ∙ spread_ended (targets_at (object_at c.args.heap.now.graph)) (len c.args.heap.now.graph.objects) c.loop-done.done found (omega (arith, length-map c.loop-done.self.places.items place_word)) c.loop-done.invariant.in_rows (λ a b. absurd (omega arith)))

pub returns-after-loop-done-clause-order : goal.returns-after-loop-done-clause-order
returns-after-loop-done-clause-order g c =
    let found : List ℕ = map place_word c.loop-done.self.places.items in
    let all : length found ≤ c.loop-done.done = omega (arith, c.loop-done.self.places.ok.0, length-map c.loop-done.self.places.items place_word) in
    sym (c.loop-done.invariant.rest ∙ spread_ended (targets_at (object_at c.args.heap.now.graph)) (len c.args.heap.now.graph.objects) c.loop-done.done found (omega (arith, length-map c.loop-done.self.places.items place_word)) c.loop-done.invariant.in_rows (λ a b. absurd (omega arith)))
