use Rattle.std.proofs.Common.{◌≡◌, false, Ok, Err, sym, ap, subst, ◌∙◌, rules}
use Rattle.block_pool.specs.ClaimsValue.{SeatValue}
use Rattle.scavenge.specs.Slots.{seen}
use Rattle.workers.specs.System.{Look}
use Rattle.workers.specs.Lawful.{IsRefused}
use Rattle.scavenge.proofs.AllDrawn.{none_left}
use Rattle.machine.specs.InterleavedValue.{InterleavedValue, WantsDraw, setting_in, system_of}
use Rattle.scavenge.proofs.Destinations.{numbers_below}
use Rattle.machine.proofs.Members.{lawful_as, goes_as, behind, is_in}
use Rattle.machine.proofs.Readiness.{ready_of, few_of}
use Rattle.machine.proofs.Looked.{closed_of, places_of, config_of, can_of, untouched_of, rooms_of, wants_draw, is_refused, look_does, look_keeps, has_slot, is_there, same_error}
use Rattle.machine.proofs.workers_in_turn.interleaved.InterleavedCollection.look.Goals as goal

pub look-requires-clause-open : goal.look-requires-clause-open
look-requires-clause-open g c =
    let v : InterleavedValue = record { heap = c.self.inside.heap.value; collection = c.self.inside.collection.value; cells = c.self.inside.cells; pass = c.self.inside.pass; claims = c.self.inside.claims; draws = c.self.inside.draws; queues = c.self.inside.queues; workers = c.self.inside.workers; idlers = c.self.inside.idlers; members = c.self.inside.members.items } in
    let i = is_in _ v c.args.t _ (behind c.self.inside.members.items c.args.t c.behind-self.view_is c.index_mut.ensures.value) (lawful_as (Look c.args.t) c.self.view_is c.requires.lawful) in
    record {
      opened = search rules;
      closed = closed_of v c.self.invariant c.args.t _ i.there c.args.heap.now c.args.collection.now (c.requires.heap ∙ ap (λ (x : InterleavedValue). x.heap) (sym c.self.view_is)) (c.requires.collection ∙ ap (λ (x : InterleavedValue). x.collection) (sym c.self.view_is));
      places = places_of v c.self.invariant c.args.t _ i.there c.args.heap.now c.args.collection.now (c.requires.heap ∙ ap (λ (x : InterleavedValue). x.heap) (sym c.self.view_is)) (c.requires.collection ∙ ap (λ (x : InterleavedValue). x.collection) (sym c.self.view_is));
      config = config_of v c.self.invariant c.args.t _ i.there c.args.heap.now c.args.collection.now (c.requires.heap ∙ ap (λ (x : InterleavedValue). x.heap) (sym c.self.view_is)) (c.requires.collection ∙ ap (λ (x : InterleavedValue). x.collection) (sym c.self.view_is));
    }

pub look-requires-clause-worker : goal.look-requires-clause-worker
look-requires-clause-worker g c =
    let v : InterleavedValue = record { heap = c.self.inside.heap.value; collection = c.self.inside.collection.value; cells = c.self.inside.cells; pass = c.self.inside.pass; claims = c.self.inside.claims; draws = c.self.inside.draws; queues = c.self.inside.queues; workers = c.self.inside.workers; idlers = c.self.inside.idlers; members = c.self.inside.members.items } in
    let i = is_in _ v c.args.t _ (behind c.self.inside.members.items c.args.t c.behind-self.view_is c.index_mut.ensures.value) (lawful_as (Look c.args.t) c.self.view_is c.requires.lawful) in
    record {
      proposal = i.can.no_proposal;
      slot = λ _. (ready_of v.heap v.collection c.self.invariant.ready v.workers c.args.t _ (c.self.invariant.each c.args.t _ i.there)).look i.can;
      few = few_of v.heap v.collection c.self.invariant.ready v.workers c.args.t _ (c.self.invariant.each c.args.t _ i.there);
      untouched = untouched_of v c.self.invariant c.args.t _ i.there c.args.heap.now c.args.collection.now (c.requires.heap ∙ ap (λ (x : InterleavedValue). x.heap) (sym c.self.view_is)) (c.requires.collection ∙ ap (λ (x : InterleavedValue). x.collection) (sym c.self.view_is));
    }

pub look-requires-clause-draws : goal.look-requires-clause-draws
look-requires-clause-draws g c = record { seat = search rules; numbers = numbers_below _ _ c.self.invariant.ready _ c.self.invariant.draws.free }

pub look-requires-clause-room : goal.look-requires-clause-room
look-requires-clause-room g c =
    let v : InterleavedValue = record { heap = c.self.inside.heap.value; collection = c.self.inside.collection.value; cells = c.self.inside.cells; pass = c.self.inside.pass; claims = c.self.inside.claims; draws = c.self.inside.draws; queues = c.self.inside.queues; workers = c.self.inside.workers; idlers = c.self.inside.idlers; members = c.self.inside.members.items } in
    let i = is_in _ v c.args.t _ (behind c.self.inside.members.items c.args.t c.behind-self.view_is c.index_mut.ensures.value) (lawful_as (Look c.args.t) c.self.view_is c.requires.lawful) in
    rooms_of v c.self.invariant c.args.t _ i.there c.args.heap.now c.args.collection.now (c.requires.heap ∙ ap (λ (x : InterleavedValue). x.heap) (sym c.self.view_is)) (c.requires.collection ∙ ap (λ (x : InterleavedValue). x.collection) (sym c.self.view_is))

pub invariant_of-self : goal.invariant_of-self
invariant_of-self g c =
    let v : InterleavedValue = record { heap = c.self.inside.heap.value; collection = c.self.inside.collection.value; cells = c.self.inside.cells; pass = c.self.inside.pass; claims = c.self.inside.claims; draws = c.self.inside.draws; queues = c.self.inside.queues; workers = c.self.inside.workers; idlers = c.self.inside.idlers; members = c.self.inside.members.items } in
    let i = is_in _ v c.args.t _ (behind c.self.inside.members.items c.args.t c.behind-self.view_is c.index_mut.ensures.value) (lawful_as (Look c.args.t) c.self.view_is c.requires.lawful) in
    let there : c.look.result ≡ Ok false → ⊥ = has_slot (seen c.args.heap.now c.args.collection.now) _ c.look.result (can_of v c.self.invariant c.args.t _ i.there c.args.heap.now c.args.collection.now (c.requires.heap ∙ ap (λ (x : InterleavedValue). x.heap) (sym c.self.view_is)) (c.requires.collection ∙ ap (λ (x : InterleavedValue). x.collection) (sym c.self.view_is)) i.can) c.look.ensures.none.0 in
    look_keeps v c.self.invariant c.args.t _ (behind c.self.inside.members.items c.args.t c.behind-self.view_is c.index_mut.ensures.value) (lawful_as (Look c.args.t) c.self.view_is c.requires.lawful)
    c.args.heap.now c.args.collection.now (c.requires.heap ∙ ap (λ (x : InterleavedValue). x.heap) (sym c.self.view_is)) (c.requires.collection ∙ ap (λ (x : InterleavedValue). x.collection) (sym c.self.view_is))
    c.look.new.pass c.look.new.cells c.look.ensures.looks.cells c.look.new.seat c.look.new.workspace c.look.ensures.keeps.pass c.look.ensures.looks.won c.look.ensures.draws.seat c.look.ensures.draws.fresh c.look.result there c.look.ensures.ok (λ is. (c.look.ensures.full is).0.out) c.look.ensures.memory c.look.ensures.err

pub invariant_of-self-2 : goal.invariant_of-self-2
invariant_of-self-2 g c =
    let v : InterleavedValue = record { heap = c.self.inside.heap.value; collection = c.self.inside.collection.value; cells = c.self.inside.cells; pass = c.self.inside.pass; claims = c.self.inside.claims; draws = c.self.inside.draws; queues = c.self.inside.queues; workers = c.self.inside.workers; idlers = c.self.inside.idlers; members = c.self.inside.members.items } in
    let i = is_in _ v c.args.t _ (behind c.self.inside.members.items c.args.t c.behind-self.view_is c.index_mut.ensures.value) (lawful_as (Look c.args.t) c.self.view_is c.requires.lawful) in
    let there : c.look.result ≡ Ok false → ⊥ = has_slot (seen c.args.heap.now c.args.collection.now) _ c.look.result (can_of v c.self.invariant c.args.t _ i.there c.args.heap.now c.args.collection.now (c.requires.heap ∙ ap (λ (x : InterleavedValue). x.heap) (sym c.self.view_is)) (c.requires.collection ∙ ap (λ (x : InterleavedValue). x.collection) (sym c.self.view_is)) i.can) c.look.ensures.none.0 in
    look_keeps v c.self.invariant c.args.t _ (behind c.self.inside.members.items c.args.t c.behind-self.view_is c.index_mut.ensures.value) (lawful_as (Look c.args.t) c.self.view_is c.requires.lawful)
    c.args.heap.now c.args.collection.now (c.requires.heap ∙ ap (λ (x : InterleavedValue). x.heap) (sym c.self.view_is)) (c.requires.collection ∙ ap (λ (x : InterleavedValue). x.collection) (sym c.self.view_is))
    c.look.new.pass c.look.new.cells c.look.ensures.looks.cells c.look.new.seat c.look.new.workspace c.look.ensures.keeps.pass c.look.ensures.looks.won c.look.ensures.draws.seat c.look.ensures.draws.fresh c.look.result there c.look.ensures.ok (λ is. (c.look.ensures.full is).0.out) c.look.ensures.memory c.look.ensures.err

pub returns-clause-ok : goal.returns-clause-ok
returns-clause-ok g c =
    let v : InterleavedValue = record { heap = c.self.inside.heap.value; collection = c.self.inside.collection.value; cells = c.self.inside.cells; pass = c.self.inside.pass; claims = c.self.inside.claims; draws = c.self.inside.draws; queues = c.self.inside.queues; workers = c.self.inside.workers; idlers = c.self.inside.idlers; members = c.self.inside.members.items } in
    let i = is_in _ v c.args.t _ (behind c.self.inside.members.items c.args.t c.behind-self.view_is c.index_mut.ensures.value) (lawful_as (Look c.args.t) c.self.view_is c.requires.lawful) in
    let there : c.look.result ≡ Ok false → ⊥ = has_slot (seen c.args.heap.now c.args.collection.now) _ c.look.result (can_of v c.self.invariant c.args.t _ i.there c.args.heap.now c.args.collection.now (c.requires.heap ∙ ap (λ (x : InterleavedValue). x.heap) (sym c.self.view_is)) (c.requires.collection ∙ ap (λ (x : InterleavedValue). x.collection) (sym c.self.view_is)) i.can) c.look.ensures.none.0 in
    goes_as c.self.view_is (look_does v c.self.invariant c.args.t _ (behind c.self.inside.members.items c.args.t c.behind-self.view_is c.index_mut.ensures.value) (lawful_as (Look c.args.t) c.self.view_is c.requires.lawful)
    c.args.heap.now c.args.collection.now (c.requires.heap ∙ ap (λ (x : InterleavedValue). x.heap) (sym c.self.view_is)) (c.requires.collection ∙ ap (λ (x : InterleavedValue). x.collection) (sym c.self.view_is))
    c.look.new.pass c.look.new.cells c.look.ensures.looks.cells c.look.new.seat c.look.new.workspace c.look.ensures.keeps.pass c.look.ensures.looks.won c.look.ensures.draws.seat c.look.ensures.draws.fresh (c.look.ensures.ok (is_there c.look.result _ c.in_default.is there))).1

pub returns-in-Err-clause-full : goal.returns-in-Err-clause-full
returns-in-Err-clause-full g c =
    let v : InterleavedValue = record { heap = c.self.inside.heap.value; collection = c.self.inside.collection.value; cells = c.self.inside.cells; pass = c.self.inside.pass; claims = c.self.inside.claims; draws = c.self.inside.draws; queues = c.self.inside.queues; workers = c.self.inside.workers; idlers = c.self.inside.idlers; members = c.self.inside.members.items } in
    λ is. (
      subst (λ (x : InterleavedValue). WantsDraw x c.args.t) c.self.view_is
          (wants_draw v c.self.invariant c.args.t _ (behind c.self.inside.members.items c.args.t c.behind-self.view_is c.index_mut.ensures.value) (lawful_as (Look c.args.t) c.self.view_is c.requires.lawful)
          c.args.heap.now c.args.collection.now (c.requires.heap ∙ ap (λ (x : InterleavedValue). x.heap) (sym c.self.view_is)) (c.requires.collection ∙ ap (λ (x : InterleavedValue). x.collection) (sym c.self.view_is)) c.look.new.pass (c.look.ensures.full (c.in-Err.is ∙ ap Err (same_error is))).1),
      ap (λ (s : SeatValue). s.out) (c.look.ensures.full (c.in-Err.is ∙ ap Err (same_error is))).0.out,
    )

pub returns-in-Err-clause-refused : goal.returns-in-Err-clause-refused
returns-in-Err-clause-refused g c =
    let v : InterleavedValue = record { heap = c.self.inside.heap.value; collection = c.self.inside.collection.value; cells = c.self.inside.cells; pass = c.self.inside.pass; claims = c.self.inside.claims; draws = c.self.inside.draws; queues = c.self.inside.queues; workers = c.self.inside.workers; idlers = c.self.inside.idlers; members = c.self.inside.members.items } in
    λ is. subst (λ (x : InterleavedValue). IsRefused (setting_in x) (system_of x) (Look c.args.t)) c.self.view_is
    (is_refused v c.args.t (lawful_as (Look c.args.t) c.self.view_is c.requires.lawful)
    (wants_draw v c.self.invariant c.args.t _ (behind c.self.inside.members.items c.args.t c.behind-self.view_is c.index_mut.ensures.value) (lawful_as (Look c.args.t) c.self.view_is c.requires.lawful)
    c.args.heap.now c.args.collection.now (c.requires.heap ∙ ap (λ (x : InterleavedValue). x.heap) (sym c.self.view_is)) (c.requires.collection ∙ ap (λ (x : InterleavedValue). x.collection) (sym c.self.view_is)) c.look.new.pass (c.look.ensures.full (c.in-Err.is ∙ ap Err (same_error is))).1)
    (none_left v.claims.source.free v.draws.drawn ((c.look.ensures.full (c.in-Err.is ∙ ap Err (same_error is))).0.used_up c.self.invariant.draws.seats)))
