use Rattle.std.proofs.Common.{sym, ap, subst, ◌∙◌}
use Rattle.std.specs.Prelude.{IsSome}
use Rattle.steps.specs.HeapValue.{HeapValue}
use Rattle.steps.specs.CollectionValue.{CollectionValue, young_names}
use Rattle.model.specs.Live.{IsYoung}
use Rattle.scavenge.specs.Shown.{name_of}
use Rattle.workers.specs.System.{Race}
use Rattle.one_worker.specs.SerialValue.{SerialValue, Goes}
use Rattle.one_worker.proofs.Raced.{young_of, race_goes, race_keeps, on_ok}
use Rattle.one_worker.proofs.MaySteps.{may_race}
use Rattle.one_worker.proofs.serial.SerialCollection.race.Goals as goal

pub race-requires-clause-names : goal.race-requires-clause-names
race-requires-clause-names g c =
    c.self.invariant.names ∙ ap (λ (h : HeapValue). young_names h.graph c.self.inside.collection.value.generation) (sym (c.requires.heap ∙ ap (λ (v : SerialValue). v.heap) (sym c.self.view_is)))
    ∙ ap (λ (d : CollectionValue). young_names c.args.heap.now.graph d.generation) (sym (c.requires.collection ∙ ap (λ (v : SerialValue). v.collection) (sym c.self.view_is)))

pub race-requires-clause-young : goal.race-requires-clause-young
race-requires-clause-young g c =
    let heap = c.requires.heap ∙ ap (λ (v : SerialValue). v.heap) (sym c.self.view_is) in
    let collection = c.requires.collection ∙ ap (λ (v : SerialValue). v.collection) (sym c.self.view_is) in
    let some = subst (λ (v : SerialValue). IsSome v.workspace.worker.proposal) (sym c.self.view_is) c.requires.proposal in
    subst (λ (h : HeapValue). IsYoung h.graph c.args.collection.now.generation (name_of c.self.inside.workspace.worker.proposal)) (sym heap)
    (subst (λ (d : CollectionValue). IsYoung c.self.inside.heap.value.graph d.generation (name_of c.self.inside.workspace.worker.proposal)) (sym collection) (young_of _ c.self.invariant some))

pub race-requires-clause-worker : goal.race-requires-clause-worker
race-requires-clause-worker g c = may_race _ c.self.invariant (subst (λ (v : SerialValue). IsSome v.workspace.worker.proposal) (sym c.self.view_is) c.requires.proposal)

pub invariant_of-self : goal.invariant_of-self
invariant_of-self g c =
    race_keeps _ c.self.invariant (subst (λ (v : SerialValue). IsSome v.workspace.worker.proposal) (sym c.self.view_is) c.requires.proposal) c.args.heap.now c.args.collection.now
    (c.requires.heap ∙ ap (λ (v : SerialValue). v.heap) (sym c.self.view_is)) (c.requires.collection ∙ ap (λ (v : SerialValue). v.collection) (sym c.self.view_is))
    c.race.new.cells c.race.new.pass c.race.new.workspace c.race.ensures.keeps.pass c.race.ensures.keeps.limit c.race.result c.race.ensures.ok c.race.ensures.err

pub returns-clause-ok : goal.returns-clause-ok
returns-clause-ok g c =
    on_ok c.race.result
    (λ r. subst (λ (v : SerialValue). Goes (Race 0) v (record { heap = c.self.inside.heap.value; collection = c.self.inside.collection.value; cells = c.race.new.cells; pass = c.race.new.pass; claims = c.self.inside.claims; draws = c.self.inside.draws; queues = c.self.inside.queues; seat = c.self.inside.seat; workspace = c.race.new.workspace })) c.self.view_is
    (race_goes _ c.self.invariant (subst (λ (v : SerialValue). IsSome v.workspace.worker.proposal) (sym c.self.view_is) c.requires.proposal) c.args.heap.now c.args.collection.now
    (c.requires.heap ∙ ap (λ (v : SerialValue). v.heap) (sym c.self.view_is)) (c.requires.collection ∙ ap (λ (v : SerialValue). v.collection) (sym c.self.view_is))
    c.race.new.cells c.race.new.pass c.race.new.workspace c.race.ensures.keeps.pass c.race.ensures.keeps.limit r).1)
    c.race.ensures.ok
