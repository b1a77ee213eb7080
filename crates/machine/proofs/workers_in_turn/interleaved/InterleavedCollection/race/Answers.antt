use Rattle.std.proofs.Common.{sym, ap, subst, ◌∙◌}
use Rattle.steps.specs.HeapValue.{HeapValue}
use Rattle.steps.specs.CollectionValue.{CollectionValue, young_names}
use Rattle.model.specs.Live.{IsYoung}
use Rattle.scavenge.specs.Shown.{name_of}
use Rattle.workers.specs.System.{Race}
use Rattle.machine.specs.InterleavedValue.{InterleavedValue}
use Rattle.machine.proofs.Members.{lawful_as, goes_as, behind, is_in, on_ok}
use Rattle.machine.proofs.Readiness.{ready_of, young_of, few_of}
use Rattle.machine.proofs.Raced.{race_does, race_keeps}
use Rattle.machine.proofs.workers_in_turn.interleaved.InterleavedCollection.race.Goals as goal

pub race-requires-clause-names : goal.race-requires-clause-names
race-requires-clause-names g c =
    let v : InterleavedValue = record { heap = c.self.inside.heap.value; collection = c.self.inside.collection.value; cells = c.self.inside.cells; pass = c.self.inside.pass; claims = c.self.inside.claims; draws = c.self.inside.draws; queues = c.self.inside.queues; workers = c.self.inside.workers; idlers = c.self.inside.idlers; members = c.self.inside.members.items } in
    let i = is_in _ v c.args.t _ (behind c.self.inside.members.items c.args.t c.behind-self.view_is c.index_mut.ensures.value) (lawful_as (Race c.args.t) c.self.view_is c.requires.lawful) in
    (c.self.invariant.each c.args.t _ i.there).names
    ∙ ap (λ (h : HeapValue). young_names h.graph v.collection.generation) (sym (c.requires.heap ∙ ap (λ (x : InterleavedValue). x.heap) (sym c.self.view_is)))
    ∙ ap (λ (d : CollectionValue). young_names c.args.heap.now.graph d.generation) (sym (c.requires.collection ∙ ap (λ (x : InterleavedValue). x.collection) (sym c.self.view_is)))

pub race-requires-clause-young : goal.race-requires-clause-young
race-requires-clause-young g c =
    let v : InterleavedValue = record { heap = c.self.inside.heap.value; collection = c.self.inside.collection.value; cells = c.self.inside.cells; pass = c.self.inside.pass; claims = c.self.inside.claims; draws = c.self.inside.draws; queues = c.self.inside.queues; workers = c.self.inside.workers; idlers = c.self.inside.idlers; members = c.self.inside.members.items } in
    let i = is_in _ v c.args.t _ (behind c.self.inside.members.items c.args.t c.behind-self.view_is c.index_mut.ensures.value) (lawful_as (Race c.args.t) c.self.view_is c.requires.lawful) in
    let heap = c.requires.heap ∙ ap (λ (x : InterleavedValue). x.heap) (sym c.self.view_is) in
    let collection = c.requires.collection ∙ ap (λ (x : InterleavedValue). x.collection) (sym c.self.view_is) in
    subst (λ (h : HeapValue). IsYoung h.graph c.args.collection.now.generation (name_of c.behind-self.inside.workspace.worker.proposal)) (sym heap)
    (subst (λ (d : CollectionValue). IsYoung v.heap.graph d.generation (name_of c.behind-self.inside.workspace.worker.proposal)) (sym collection)
    (young_of v.heap v.collection c.self.invariant.ready v.workers c.args.t _ (c.self.invariant.each c.args.t _ i.there) i.can))

pub race-requires-clause-worker : goal.race-requires-clause-worker
race-requires-clause-worker g c =
    let v : InterleavedValue = record { heap = c.self.inside.heap.value; collection = c.self.inside.collection.value; cells = c.self.inside.cells; pass = c.self.inside.pass; claims = c.self.inside.claims; draws = c.self.inside.draws; queues = c.self.inside.queues; workers = c.self.inside.workers; idlers = c.self.inside.idlers; members = c.self.inside.members.items } in
    let i = is_in _ v c.args.t _ (behind c.self.inside.members.items c.args.t c.behind-self.view_is c.index_mut.ensures.value) (lawful_as (Race c.args.t) c.self.view_is c.requires.lawful) in
    record {
      proposal = i.can;
      slot = (ready_of v.heap v.collection c.self.invariant.ready v.workers c.args.t _ (c.self.invariant.each c.args.t _ i.there)).race i.can;
      few = few_of v.heap v.collection c.self.invariant.ready v.workers c.args.t _ (c.self.invariant.each c.args.t _ i.there);
    }

pub invariant_of-self : goal.invariant_of-self
invariant_of-self g c =
    let v : InterleavedValue = record { heap = c.self.inside.heap.value; collection = c.self.inside.collection.value; cells = c.self.inside.cells; pass = c.self.inside.pass; claims = c.self.inside.claims; draws = c.self.inside.draws; queues = c.self.inside.queues; workers = c.self.inside.workers; idlers = c.self.inside.idlers; members = c.self.inside.members.items } in
    race_keeps v c.self.invariant c.args.t _ (behind c.self.inside.members.items c.args.t c.behind-self.view_is c.index_mut.ensures.value) (lawful_as (Race c.args.t) c.self.view_is c.requires.lawful)
    c.args.heap.now c.args.collection.now (c.requires.heap ∙ ap (λ (x : InterleavedValue). x.heap) (sym c.self.view_is)) (c.requires.collection ∙ ap (λ (x : InterleavedValue). x.collection) (sym c.self.view_is))
    c.race.new.cells c.race.new.pass c.race.new.workspace c.race.ensures.keeps.pass c.race.ensures.keeps.limit c.race.result c.race.ensures.ok c.race.ensures.err

pub returns-clause-ok : goal.returns-clause-ok
returns-clause-ok g c =
    let v : InterleavedValue = record { heap = c.self.inside.heap.value; collection = c.self.inside.collection.value; cells = c.self.inside.cells; pass = c.self.inside.pass; claims = c.self.inside.claims; draws = c.self.inside.draws; queues = c.self.inside.queues; workers = c.self.inside.workers; idlers = c.self.inside.idlers; members = c.self.inside.members.items } in
    on_ok c.race.result
    (λ r. goes_as c.self.view_is (race_does v c.self.invariant c.args.t _ (behind c.self.inside.members.items c.args.t c.behind-self.view_is c.index_mut.ensures.value) (lawful_as (Race c.args.t) c.self.view_is c.requires.lawful)
    c.args.heap.now c.args.collection.now (c.requires.heap ∙ ap (λ (x : InterleavedValue). x.heap) (sym c.self.view_is)) (c.requires.collection ∙ ap (λ (x : InterleavedValue). x.collection) (sym c.self.view_is))
    c.race.new.cells c.race.new.pass c.race.new.workspace c.race.ensures.keeps.pass c.race.ensures.keeps.limit r).1)
    c.race.ensures.ok
