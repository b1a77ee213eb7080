use Rattle.std.proofs.Common.{length, sym, subst, arith}
use Rattle.pending_queues.specs.PlainValue.{lane_at, next_of}
use Rattle.scavenge.specs.Handed.{IsHandedFor}
use Rattle.workers.specs.System.{Export}
use Rattle.machine.specs.InterleavedValue.{InterleavedValue}
use Rattle.machine.proofs.Members.{lawful_as, goes_as, stays_as, behind, is_in}
use Rattle.machine.proofs.Lanes.{handed_for}
use Rattle.machine.proofs.Handing.{has_lane, export_does, put_back}
use Rattle.scavenge.proofs.PutBack.{back_again}
use Rattle.machine.proofs.workers_in_turn.interleaved.InterleavedCollection.export.Goals as goal

pub export-requires-clause-seat : goal.export-requires-clause-seat
export-requires-clause-seat g c =
    let v : InterleavedValue = record { heap = c.self.inside.heap.value; collection = c.self.inside.collection.value; cells = c.self.inside.cells; pass = c.self.inside.pass; claims = c.self.inside.claims; draws = c.self.inside.draws; queues = c.self.inside.queues; workers = c.self.inside.workers; idlers = c.self.inside.idlers; members = c.self.inside.members.items } in
    let i = is_in _ v c.args.t _ (behind c.self.inside.members.items c.args.t c.member.view_is c.index_mut-member.ensures.value) (lawful_as (Export c.args.t) c.self.view_is c.requires) in
    let l = has_lane v c.self.invariant c.args.t _ (behind c.self.inside.members.items c.args.t c.member.view_is c.index_mut-member.ensures.value) i.there in
    let s = (c.self.invariant.each c.args.t _ i.there).seat in
    let q = c.self.invariant.queue.count in
    omega (arith, l, s, q)

pub export-requires-clause-fact : goal.export-requires-clause-fact
export-requires-clause-fact g c =
    let v : InterleavedValue = record { heap = c.self.inside.heap.value; collection = c.self.inside.collection.value; cells = c.self.inside.cells; pass = c.self.inside.pass; claims = c.self.inside.claims; draws = c.self.inside.draws; queues = c.self.inside.queues; workers = c.self.inside.workers; idlers = c.self.inside.idlers; members = c.self.inside.members.items } in
    let i = is_in _ v c.args.t _ (behind c.self.inside.members.items c.args.t c.member.view_is c.index_mut-member.ensures.value) (lawful_as (Export c.args.t) c.self.view_is c.requires) in
    subst (λ j. IsHandedFor c.self.inside.queues.key (next_of c.self.inside.queues j c.in-Some.block)) (sym (c.self.invariant.each c.args.t _ i.there).seat)
    (handed_for v.heap v.collection v.workers v.queues c.self.invariant.queue c.args.t _ (c.self.invariant.each c.args.t _ i.there) c.self.invariant.ready c.in-Some.block (length (lane_at c.self.inside.queues c.args.t).sent) c.in-Some.ensures.whole c.in-Some.ensures.block)

pub invariant_of-self-in-Ok : goal.invariant_of-self-in-Ok
invariant_of-self-in-Ok g c =
    let v : InterleavedValue = record { heap = c.self.inside.heap.value; collection = c.self.inside.collection.value; cells = c.self.inside.cells; pass = c.self.inside.pass; claims = c.self.inside.claims; draws = c.self.inside.draws; queues = c.self.inside.queues; workers = c.self.inside.workers; idlers = c.self.inside.idlers; members = c.self.inside.members.items } in
    (export_does v c.self.invariant c.args.t _ (behind c.self.inside.members.items c.args.t c.member.view_is c.index_mut-member.ensures.value) (lawful_as (Export c.args.t) c.self.view_is c.requires) c.in-Some.block c.in-Some.ensures.block c.in-Some.ensures.whole.noted c.aside.new.self c.export.new.self c.export.new.seat c.in-Some.ensures.worker c.in-Ok.ensures.pending c.export.ensures.seat).0

pub returns-in-Ok-clause-ok : goal.returns-in-Ok-clause-ok
returns-in-Ok-clause-ok g c =
    let v : InterleavedValue = record { heap = c.self.inside.heap.value; collection = c.self.inside.collection.value; cells = c.self.inside.cells; pass = c.self.inside.pass; claims = c.self.inside.claims; draws = c.self.inside.draws; queues = c.self.inside.queues; workers = c.self.inside.workers; idlers = c.self.inside.idlers; members = c.self.inside.members.items } in
    goes_as c.self.view_is
    (export_does v c.self.invariant c.args.t _ (behind c.self.inside.members.items c.args.t c.member.view_is c.index_mut-member.ensures.value) (lawful_as (Export c.args.t) c.self.view_is c.requires) c.in-Some.block c.in-Some.ensures.block c.in-Some.ensures.whole.noted c.aside.new.self c.export.new.self c.export.new.seat c.in-Some.ensures.worker c.in-Ok.ensures.pending c.export.ensures.seat).1

pub invariant_of-self-in-Err : goal.invariant_of-self-in-Err
invariant_of-self-in-Err g c =
    let v : InterleavedValue = record { heap = c.self.inside.heap.value; collection = c.self.inside.collection.value; cells = c.self.inside.cells; pass = c.self.inside.pass; claims = c.self.inside.claims; draws = c.self.inside.draws; queues = c.self.inside.queues; workers = c.self.inside.workers; idlers = c.self.inside.idlers; members = c.self.inside.members.items } in
    let i = is_in _ v c.args.t _ (behind c.self.inside.members.items c.args.t c.member.view_is c.index_mut-member.ensures.value) (lawful_as (Export c.args.t) c.self.view_is c.requires) in
    (put_back v c.self.invariant c.args.t _ (behind c.self.inside.members.items c.args.t c.member.view_is c.index_mut-member.ensures.value) i.there c.unaside.new.self c.export.new.self c.export.new.seat
    (back_again c.member.inside.workspace c.in-Some.block c.in-Err.block c.aside.new.self c.unaside.new.self c.in-Some.ensures.block c.in-Some.ensures.worker c.in-Err.ensures.pending.0 c.unaside.ensures)
    c.in-Err.ensures.pending.1 c.export.ensures.seat).0

pub returns-in-Err-clause-err : goal.returns-in-Err-clause-err
returns-in-Err-clause-err g c =
    let v : InterleavedValue = record { heap = c.self.inside.heap.value; collection = c.self.inside.collection.value; cells = c.self.inside.cells; pass = c.self.inside.pass; claims = c.self.inside.claims; draws = c.self.inside.draws; queues = c.self.inside.queues; workers = c.self.inside.workers; idlers = c.self.inside.idlers; members = c.self.inside.members.items } in
    let i = is_in _ v c.args.t _ (behind c.self.inside.members.items c.args.t c.member.view_is c.index_mut-member.ensures.value) (lawful_as (Export c.args.t) c.self.view_is c.requires) in
    stays_as c.self.view_is
    (put_back v c.self.invariant c.args.t _ (behind c.self.inside.members.items c.args.t c.member.view_is c.index_mut-member.ensures.value) i.there c.unaside.new.self c.export.new.self c.export.new.seat
    (back_again c.member.inside.workspace c.in-Some.block c.in-Err.block c.aside.new.self c.unaside.new.self c.in-Some.ensures.block c.in-Some.ensures.worker c.in-Err.ensures.pending.0 c.unaside.ensures)
    c.in-Err.ensures.pending.1 c.export.ensures.seat).1
