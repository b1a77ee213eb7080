use Rattle.workers.specs.System.{Scan}
use Rattle.machine.specs.InterleavedValue.{InterleavedValue}
use Rattle.machine.proofs.Members.{lawful_as, goes_as, behind, is_in, either_alone, on_ok}
use Rattle.machine.proofs.Alone.{scan_does}
use Rattle.machine.proofs.Readiness.{ready_of}
use Rattle.machine.proofs.workers_in_turn.interleaved.InterleavedCollection.scan.Goals as goal

pub scan-requires-clause-hand : goal.scan-requires-clause-hand
scan-requires-clause-hand g c =
    let v : InterleavedValue = record { heap = c.self.inside.heap.value; collection = c.self.inside.collection.value; cells = c.self.inside.cells; pass = c.self.inside.pass; claims = c.self.inside.claims; draws = c.self.inside.draws; queues = c.self.inside.queues; workers = c.self.inside.workers; idlers = c.self.inside.idlers; members = c.self.inside.members.items } in
    let i = is_in _ v c.args.t _ (behind c.self.inside.members.items c.args.t c.behind-self.view_is c.index_mut.ensures.value) (lawful_as (Scan c.args.t) c.self.view_is c.requires) in
    (ready_of _ _ c.self.invariant.ready _ c.args.t _ (c.self.invariant.each c.args.t _ i.there)).scan i.can

pub invariant_of-self : goal.invariant_of-self
invariant_of-self g c =
    let v : InterleavedValue = record { heap = c.self.inside.heap.value; collection = c.self.inside.collection.value; cells = c.self.inside.cells; pass = c.self.inside.pass; claims = c.self.inside.claims; draws = c.self.inside.draws; queues = c.self.inside.queues; workers = c.self.inside.workers; idlers = c.self.inside.idlers; members = c.self.inside.members.items } in
    let i = is_in _ v c.args.t _ (behind c.self.inside.members.items c.args.t c.behind-self.view_is c.index_mut.ensures.value) (lawful_as (Scan c.args.t) c.self.view_is c.requires) in
    either_alone v c.self.invariant c.args.t _ i.there c.scan.new.self c.scan.result c.scan.ensures.ok c.scan.ensures.err
    (λ is. (scan_does v c.self.invariant c.args.t _ (behind c.self.inside.members.items c.args.t c.behind-self.view_is c.index_mut.ensures.value) c.scan.new.self (lawful_as (Scan c.args.t) c.self.view_is c.requires) is).0)

pub returns-clause-ok : goal.returns-clause-ok
returns-clause-ok g c =
    let v : InterleavedValue = record { heap = c.self.inside.heap.value; collection = c.self.inside.collection.value; cells = c.self.inside.cells; pass = c.self.inside.pass; claims = c.self.inside.claims; draws = c.self.inside.draws; queues = c.self.inside.queues; workers = c.self.inside.workers; idlers = c.self.inside.idlers; members = c.self.inside.members.items } in
    on_ok c.scan.result
    (λ is. goes_as c.self.view_is (scan_does v c.self.invariant c.args.t _ (behind c.self.inside.members.items c.args.t c.behind-self.view_is c.index_mut.ensures.value) c.scan.new.self (lawful_as (Scan c.args.t) c.self.view_is c.requires) is).1)
    c.scan.ensures.ok
