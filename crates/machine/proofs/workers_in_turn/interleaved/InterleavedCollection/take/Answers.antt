use Rattle.std.proofs.Common.{[], ◌∷◌, ◌++◌, sym, ap, subst, ◌∙◌}
use Rattle.std.specs.Prelude.{IfSome}
use Rattle.pending_queues.specs.PlainValue.{after_take}
use Rattle.scavenge.specs.Handed.{IsHandedFor}
use Rattle.workers.specs.System.{Take}
use Rattle.machine.specs.InterleavedValue.{InterleavedValue}
use Rattle.machine.proofs.Members.{lawful_as, goes_as, behind, is_in}
use Rattle.machine.proofs.Lanes.{taken_whole}
use Rattle.machine.proofs.Handing.{from, label_is, take_does}
use Rattle.machine.proofs.workers_in_turn.interleaved.InterleavedCollection.take.Goals as goal

pub invariant_of-self-in_default : goal.invariant_of-self-in_default
invariant_of-self-in_default g c =
    let v : InterleavedValue = record { heap = c.self.inside.heap.value; collection = c.self.inside.collection.value; cells = c.self.inside.cells; pass = c.self.inside.pass; claims = c.self.inside.claims; draws = c.self.inside.draws; queues = c.self.inside.queues; workers = c.self.inside.workers; idlers = c.self.inside.idlers; members = c.self.inside.members.items } in
    absurd ((from v c.self.invariant c.args.t _ (behind c.self.inside.members.items c.args.t c.member.view_is c.index_mut-member.ensures.value) c.args.u (lawful_as (Take c.args.t c.args.u) c.self.view_is c.requires)).waits (sym c.in_ok-block.ensures.front ∙ c.in_default.is))

pub unreachable-requires : goal.unreachable-requires
unreachable-requires g c =
    let v : InterleavedValue = record { heap = c.self.inside.heap.value; collection = c.self.inside.collection.value; cells = c.self.inside.cells; pass = c.self.inside.pass; claims = c.self.inside.claims; draws = c.self.inside.draws; queues = c.self.inside.queues; workers = c.self.inside.workers; idlers = c.self.inside.idlers; members = c.self.inside.members.items } in
    (from v c.self.invariant c.args.t _ (behind c.self.inside.members.items c.args.t c.member.view_is c.index_mut-member.ensures.value) c.args.u (lawful_as (Take c.args.t c.args.u) c.self.view_is c.requires)).waits (sym c.in_ok-block.ensures.front ∙ c.in_default.is)

pub invariant_of-self-in_default-sent : goal.invariant_of-self-in_default-sent
invariant_of-self-in_default-sent g c =
    let v : InterleavedValue = record { heap = c.self.inside.heap.value; collection = c.self.inside.collection.value; cells = c.self.inside.cells; pass = c.self.inside.pass; claims = c.self.inside.claims; draws = c.self.inside.draws; queues = c.self.inside.queues; workers = c.self.inside.workers; idlers = c.self.inside.idlers; members = c.self.inside.members.items } in
    absurd (let x = sym (label_is v c.self.invariant c.args.t _ (behind c.self.inside.members.items c.args.t c.member.view_is c.index_mut-member.ensures.value) c.args.u (lawful_as (Take c.args.t c.args.u) c.self.view_is c.requires) c.in-Some.block (sym c.in_ok-block.ensures.front ∙ c.in-Some.is) (subst (λ o. IfSome o (IsHandedFor c.self.inside.queues.key)) c.in-Some.is c.in_ok-block.ensures.fact)) ∙ sym c.sent.ensures ∙ c.in_default-sent.is in cc)

pub unreachable-requires-in_default-sent : goal.unreachable-requires-in_default-sent
unreachable-requires-in_default-sent g c =
    let v : InterleavedValue = record { heap = c.self.inside.heap.value; collection = c.self.inside.collection.value; cells = c.self.inside.cells; pass = c.self.inside.pass; claims = c.self.inside.claims; draws = c.self.inside.draws; queues = c.self.inside.queues; workers = c.self.inside.workers; idlers = c.self.inside.idlers; members = c.self.inside.members.items } in
    (let x = sym (label_is v c.self.invariant c.args.t _ (behind c.self.inside.members.items c.args.t c.member.view_is c.index_mut-member.ensures.value) c.args.u (lawful_as (Take c.args.t c.args.u) c.self.view_is c.requires) c.in-Some.block (sym c.in_ok-block.ensures.front ∙ c.in-Some.is) (subst (λ o. IfSome o (IsHandedFor c.self.inside.queues.key)) c.in-Some.is c.in_ok-block.ensures.fact)) ∙ sym c.sent.ensures ∙ c.in_default-sent.is in cc)

pub taken-requires-clause-free : goal.taken-requires-clause-free
taken-requires-clause-free g c =
    let v : InterleavedValue = record { heap = c.self.inside.heap.value; collection = c.self.inside.collection.value; cells = c.self.inside.cells; pass = c.self.inside.pass; claims = c.self.inside.claims; draws = c.self.inside.draws; queues = c.self.inside.queues; workers = c.self.inside.workers; idlers = c.self.inside.idlers; members = c.self.inside.members.items } in
    let i = is_in _ v c.args.t _ (behind c.self.inside.members.items c.args.t c.member.view_is c.index_mut-member.ensures.value) (lawful_as (Take c.args.t c.args.u) c.self.view_is c.requires).0 in
    i.can

pub taken-requires-clause-whole : goal.taken-requires-clause-whole
taken-requires-clause-whole g c =
    let v : InterleavedValue = record { heap = c.self.inside.heap.value; collection = c.self.inside.collection.value; cells = c.self.inside.cells; pass = c.self.inside.pass; claims = c.self.inside.claims; draws = c.self.inside.draws; queues = c.self.inside.queues; workers = c.self.inside.workers; idlers = c.self.inside.idlers; members = c.self.inside.members.items } in
    let i = is_in _ v c.args.t _ (behind c.self.inside.members.items c.args.t c.member.view_is c.index_mut-member.ensures.value) (lawful_as (Take c.args.t c.args.u) c.self.view_is c.requires).0 in
    taken_whole v.heap v.collection v.workers v.queues c.self.invariant.queue c.args.t _ (c.self.invariant.each c.args.t _ i.there) c.in-Some.block (subst (λ o. IfSome o (IsHandedFor c.self.inside.queues.key)) c.in-Some.is c.in_ok-block.ensures.fact)

pub invariant_of-self-2 : goal.invariant_of-self-2
invariant_of-self-2 g c =
    let v : InterleavedValue = record { heap = c.self.inside.heap.value; collection = c.self.inside.collection.value; cells = c.self.inside.cells; pass = c.self.inside.pass; claims = c.self.inside.claims; draws = c.self.inside.draws; queues = c.self.inside.queues; workers = c.self.inside.workers; idlers = c.self.inside.idlers; members = c.self.inside.members.items } in
    (take_does v c.self.invariant c.args.t _ (behind c.self.inside.members.items c.args.t c.member.view_is c.index_mut-member.ensures.value) c.args.u (lawful_as (Take c.args.t c.args.u) c.self.view_is c.requires) c.in-Some.block (sym c.in_ok-block.ensures.front ∙ c.in-Some.is) (subst (λ o. IfSome o (IsHandedFor c.self.inside.queues.key)) c.in-Some.is c.in_ok-block.ensures.fact)
    c.taken.new.self c.take.new.self c.take.new.seat c.in-Some-sent.label c.push_reserved.new.self.items c.taken.ensures (c.in_ok-block.ensures.pending ∙ ap (λ o. after_take c.self.inside.queues c.args.u c.member.inside.seat o) c.in-Some.is) c.take.ensures.seat
    (sym c.sent.ensures ∙ c.in-Some-sent.is) (c.push_reserved.ensures.items ∙ ap (λ es. es ++ c.in-Some-sent.label ∷ []) c.reserve.ensures.items)).0

pub returns-clause-ok : goal.returns-clause-ok
returns-clause-ok g c =
    let v : InterleavedValue = record { heap = c.self.inside.heap.value; collection = c.self.inside.collection.value; cells = c.self.inside.cells; pass = c.self.inside.pass; claims = c.self.inside.claims; draws = c.self.inside.draws; queues = c.self.inside.queues; workers = c.self.inside.workers; idlers = c.self.inside.idlers; members = c.self.inside.members.items } in
    goes_as c.self.view_is
    (take_does v c.self.invariant c.args.t _ (behind c.self.inside.members.items c.args.t c.member.view_is c.index_mut-member.ensures.value) c.args.u (lawful_as (Take c.args.t c.args.u) c.self.view_is c.requires) c.in-Some.block (sym c.in_ok-block.ensures.front ∙ c.in-Some.is) (subst (λ o. IfSome o (IsHandedFor c.self.inside.queues.key)) c.in-Some.is c.in_ok-block.ensures.fact)
    c.taken.new.self c.take.new.self c.take.new.seat c.in-Some-sent.label c.push_reserved.new.self.items c.taken.ensures (c.in_ok-block.ensures.pending ∙ ap (λ o. after_take c.self.inside.queues c.args.u c.member.inside.seat o) c.in-Some.is) c.take.ensures.seat
    (sym c.sent.ensures ∙ c.in-Some-sent.is) (c.push_reserved.ensures.items ∙ ap (λ es. es ++ c.in-Some-sent.label ∷ []) c.reserve.ensures.items)).1
