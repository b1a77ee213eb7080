use Rattle.std.proofs.Common.{◌≡◌, false, Ok, None, sym, ap, subst, ◌∙◌, rules}
use Rattle.std.specs.Prelude.{◌↔◌}
use Rattle.block_pool.specs.ClaimsValue.{SeatValue}
use Rattle.workers.specs.WorkerSteps.{current_slot}
use Rattle.workers.specs.System.{Look}
use Rattle.one_worker.specs.SerialValue.{SerialValue, Goes, WantsDraw, setting_in}
use Rattle.one_worker.proofs.Looked.{rooms_of, wants_draw, look_goes, look_keeps, can_look, some_slot, none_here}
use Rattle.scavenge.proofs.Destinations.{numbers_below}
use Rattle.one_worker.proofs.MaySteps.{open_for, may_look}
use Rattle.one_worker.proofs.serial.SerialCollection.look.Goals as goal

pub look-requires-clause-open : goal.look-requires-clause-open
look-requires-clause-open g c = open_for _ c.self.invariant c.args.heap.now c.args.collection.now (c.requires.heap ∙ ap (λ (v : SerialValue). v.heap) (sym c.self.view_is)) (c.requires.collection ∙ ap (λ (v : SerialValue). v.collection) (sym c.self.view_is))

pub look-requires-clause-draws : goal.look-requires-clause-draws
look-requires-clause-draws g c = record {
  seat = search rules;
  numbers = numbers_below _ _ c.self.invariant.ready _ c.self.invariant.draws.free;
}

pub look-requires-clause-worker : goal.look-requires-clause-worker
look-requires-clause-worker g c =
    may_look _ c.self.invariant c.args.heap.now c.args.collection.now (c.requires.heap ∙ ap (λ (v : SerialValue). v.heap) (sym c.self.view_is)) (c.requires.collection ∙ ap (λ (v : SerialValue). v.collection) (sym c.self.view_is))
    (subst (λ (v : SerialValue). v.workspace.worker.proposal ≡ None) (sym c.self.view_is) c.requires.proposal)

pub look-requires-clause-room : goal.look-requires-clause-room
look-requires-clause-room g c =
    rooms_of _ c.self.invariant c.args.heap.now c.args.collection.now
    (c.requires.heap ∙ ap (λ (v : SerialValue). v.heap) (sym c.self.view_is)) (c.requires.collection ∙ ap (λ (v : SerialValue). v.collection) (sym c.self.view_is))

pub invariant_of-self : goal.invariant_of-self
invariant_of-self g c =
    let heap = c.requires.heap ∙ ap (λ (v : SerialValue). v.heap) (sym c.self.view_is) in
    let collection = c.requires.collection ∙ ap (λ (v : SerialValue). v.collection) (sym c.self.view_is) in
    look_keeps _ c.self.invariant c.args.heap.now c.args.collection.now heap collection
    c.look.new.pass c.look.new.cells c.look.ensures.looks.cells c.look.new.seat c.look.new.workspace c.look.ensures.keeps.pass c.look.ensures.draws.seat c.look.ensures.draws.fresh c.look.result
    (λ is. can_look _ c.self.invariant c.args.heap.now c.args.collection.now heap collection c.look.new.pass (subst (λ (v : SerialValue). v.workspace.worker.proposal ≡ None) (sym c.self.view_is) c.requires.proposal)
    (some_slot _ c.self.invariant c.args.heap.now c.args.collection.now heap collection c.look.new.pass c.look.result is c.look.ensures.none.1))
    c.look.ensures.ok (λ is. (c.look.ensures.nothing is).0) c.look.ensures.err

pub returns-clause-none : goal.returns-clause-none
returns-clause-none g c =
    subst (λ (v : SerialValue). (c.look.result ≡ Ok false) ↔ (current_slot (setting_in v) v.workspace.worker ≡ None)) c.self.view_is
    (none_here _ c.self.invariant c.args.heap.now c.args.collection.now
    (c.requires.heap ∙ ap (λ (v : SerialValue). v.heap) (sym c.self.view_is)) (c.requires.collection ∙ ap (λ (v : SerialValue). v.collection) (sym c.self.view_is)) c.look.new.pass c.look.result c.look.ensures.none)

pub returns-clause-ok : goal.returns-clause-ok
returns-clause-ok g c = λ is.
    let heap = c.requires.heap ∙ ap (λ (v : SerialValue). v.heap) (sym c.self.view_is) in
    let collection = c.requires.collection ∙ ap (λ (v : SerialValue). v.collection) (sym c.self.view_is) in
    subst
    (λ (v : SerialValue). Goes (Look 0) v (record { heap = c.self.inside.heap.value; collection = c.self.inside.collection.value; cells = c.look.new.cells; pass = c.look.new.pass; claims = c.self.inside.claims; draws = c.look.new.seat; queues = c.self.inside.queues; seat = c.self.inside.seat; workspace = c.look.new.workspace }))
    c.self.view_is
    (look_goes _ c.self.invariant c.args.heap.now c.args.collection.now heap collection
    c.look.new.pass c.look.new.cells c.look.ensures.looks.cells c.look.new.seat c.look.new.workspace c.look.ensures.keeps.pass c.look.ensures.draws.seat
    (can_look _ c.self.invariant c.args.heap.now c.args.collection.now heap collection c.look.new.pass (subst (λ (v : SerialValue). v.workspace.worker.proposal ≡ None) (sym c.self.view_is) c.requires.proposal)
    (some_slot _ c.self.invariant c.args.heap.now c.args.collection.now heap collection c.look.new.pass c.look.result is c.look.ensures.none.1))
    c.look.ensures.draws.fresh (c.look.ensures.ok is)).1

pub returns-clause-full : goal.returns-clause-full
returns-clause-full g c = λ is. (
  subst WantsDraw c.self.view_is (wants_draw _ c.self.invariant c.args.heap.now c.args.collection.now
      (c.requires.heap ∙ ap (λ (v : SerialValue). v.heap) (sym c.self.view_is)) (c.requires.collection ∙ ap (λ (v : SerialValue). v.collection) (sym c.self.view_is)) c.look.new.pass (c.look.ensures.full is).1),
  ap (λ (s : SeatValue). s.out) (c.look.ensures.full is).0.out,
)
