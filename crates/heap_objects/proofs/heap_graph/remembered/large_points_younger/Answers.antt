use Rattle.std.proofs.Common.{◌≡◌, map, sym, ap, subst, ◌∙◌}
use Rattle.std.specs.Prelude.{nat_lt, All}
use Rattle.std.specs.List.{list_any}
use Rattle.std.specs.Option.{option_map}
use Rattle.model.specs.Graph.{object_at}
use Rattle.model.specs.Census.{points_to}
use Rattle.layout.specs.Object.{Raw}
use Rattle.layout.specs.ObjectRef.{raw_of}
use Rattle.steps.specs.Words.{target_of_word}
use Rattle.large_objects.specs.LargeValue.{LargeObject}
use Rattle.model.proofs.Options.{some_is, some_not_none}
use Rattle.heap_objects.specs.HeapGraph.{IsClosedWord}
use Rattle.heap_objects.proofs.GraphObjects.{closed_large}
use Rattle.heap_objects.proofs.heap_graph.remembered.large_points_younger.Goals as goal

pub returns-in_default : goal.returns-in_default
returns-in_default g c = λ graph object shows there.
    absurd (some_not_none (ap (option_map (λ (o : LargeObject). (o.generation, o.step))) (sym there) ∙ sym c.step_of.ensures ∙ c.in_default.is))

pub returns-in-Some-get : goal.returns-in-Some-get
returns-in-Some-get g c = λ graph object shows there.
    let raw : raw_of c.in-Some-get.object ≡ object.raw = some_is (sym (ap (option_map raw_of) c.in-Some-get.is) ∙ c.get.ensures.raw ∙ ap (option_map (λ (o : LargeObject). o.raw)) there) in
    let generation : c.in-Some.generation ≡ object.generation = ap (λ p. p.0) (some_is (sym c.in-Some.is ∙ c.step_of.ensures ∙ ap (option_map (λ (o : LargeObject). (o.generation, o.step))) there)) in
    let closed = closed_large graph c.args.table.now c.args.large.now c.requires.short shows c.args.number.number object there in
    c.points_below.ensures graph shows (subst (λ (r : Raw). All (IsClosedWord graph) r.pointers) (sym raw) closed)
    ∙ ap (λ (r : Raw). list_any (points_to (λ target. nat_lt target.generation c.in-Some.generation) (object_at graph)) (map target_of_word r.pointers)) raw
    ∙ ap (λ h. list_any (points_to (λ target. nat_lt target.generation h) (object_at graph)) (map target_of_word object.raw.pointers)) generation

pub returns-in-None : goal.returns-in-None
returns-in-None g c = λ graph object shows there.
    absurd (some_not_none (ap (option_map (λ (o : LargeObject). o.raw)) (sym there) ∙ sym c.get.ensures.raw ∙ ap (option_map raw_of) c.in-None.is))
