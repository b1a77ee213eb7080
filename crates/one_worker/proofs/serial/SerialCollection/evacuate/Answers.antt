use Rattle.std.proofs.Common.{◌≡◌, None, sym, ap, subst, ◌∙◌, inl, inr}
use Rattle.std.specs.Prelude.{IsSome}
use Rattle.steps.specs.HeapValue.{HeapValue}
use Rattle.steps.specs.CollectionValue.{CollectionValue, young_names}
use Rattle.workers.specs.WorkerSteps.{current_slot}
use Rattle.workers.specs.System.{Look}
use Rattle.one_worker.specs.SerialValue.{SerialValue, Goes, Stays, IsUncopied, LooksThenRaces, setting_in}
use Rattle.one_worker.proofs.Looked.{slot_here}
use Rattle.one_worker.proofs.Evacuation.{goes_once, goes_twice, stays, left_why, evacuated_keeps}
use Rattle.scavenge.specs.Shown.{WorkspaceValue}
use Rattle.scavenge.specs.declared.evacuating.Evacuated.{Evacuated}
use Rattle.scavenge.specs.declared.evacuating.Evacuated.TheVariants.{Looked, Raced}
use Rattle.one_worker.proofs.MaySteps.{open_for, may_look, starts_in}
use Rattle.one_worker.proofs.serial.SerialCollection.evacuate.Goals as goal

two_ways : {r : Evacuated} → r ≡ Looked → r ≡ Raced → ⊥
two_ways p q = cc

pub evacuate-requires-clause-names : goal.evacuate-requires-clause-names
evacuate-requires-clause-names g c =
    c.self.invariant.names ∙ ap (λ (h : HeapValue). young_names h.graph c.self.inside.collection.value.generation) (sym (c.requires.heap ∙ ap (λ (v : SerialValue). v.heap) (sym c.self.view_is)))
    ∙ ap (λ (d : CollectionValue). young_names c.args.heap.now.graph d.generation) (sym (c.requires.collection ∙ ap (λ (v : SerialValue). v.collection) (sym c.self.view_is)))

pub evacuate-requires-clause-open : goal.evacuate-requires-clause-open
evacuate-requires-clause-open g c = open_for _ c.self.invariant c.args.heap.now c.args.collection.now (c.requires.heap ∙ ap (λ (v : SerialValue). v.heap) (sym c.self.view_is)) (c.requires.collection ∙ ap (λ (v : SerialValue). v.collection) (sym c.self.view_is))

pub evacuate-requires-clause-worker : goal.evacuate-requires-clause-worker
evacuate-requires-clause-worker g c =
    may_look _ c.self.invariant c.args.heap.now c.args.collection.now (c.requires.heap ∙ ap (λ (v : SerialValue). v.heap) (sym c.self.view_is)) (c.requires.collection ∙ ap (λ (v : SerialValue). v.collection) (sym c.self.view_is))
    (subst (λ (v : SerialValue). v.workspace.worker.proposal ≡ None) (sym c.self.view_is) c.requires.proposal)

pub evacuate-requires-clause-starts : goal.evacuate-requires-clause-starts
evacuate-requires-clause-starts g c =
    starts_in _ c.self.invariant c.args.heap.now c.args.collection.now (c.requires.heap ∙ ap (λ (v : SerialValue). v.heap) (sym c.self.view_is)) (c.requires.collection ∙ ap (λ (v : SerialValue). v.collection) (sym c.self.view_is))

pub invariant_of-self : goal.invariant_of-self
invariant_of-self g c =
    let heap = c.requires.heap ∙ ap (λ (v : SerialValue). v.heap) (sym c.self.view_is) in
    let collection = c.requires.collection ∙ ap (λ (v : SerialValue). v.collection) (sym c.self.view_is) in
    let none = subst (λ (v : SerialValue). v.workspace.worker.proposal ≡ None) (sym c.self.view_is) c.requires.proposal in
    evacuated_keeps _ c.self.invariant c.args.heap.now c.args.collection.now heap collection none c.evacuate.new.cells c.evacuate.new.pass c.evacuate.new.workspace c.evacuate.ensures.keeps.pass c.evacuate.ensures.keeps.limit
    c.evacuate.result (λ is. (c.evacuate.ensures.left is).0) (λ is. (c.evacuate.ensures.none is).0) (λ ne. (c.evacuate.ensures.looks ne).cells) (λ is. c.evacuate.ensures.slot (inl is)) (λ is. c.evacuate.ensures.slot (inr is)) c.evacuate.ensures.looked c.evacuate.ensures.raced

pub returns-clause-left : goal.returns-clause-left
returns-clause-left g c = λ is.
    let heap = c.requires.heap ∙ ap (λ (v : SerialValue). v.heap) (sym c.self.view_is) in
    let collection = c.requires.collection ∙ ap (λ (v : SerialValue). v.collection) (sym c.self.view_is) in
    let none = subst (λ (v : SerialValue). v.workspace.worker.proposal ≡ None) (sym c.self.view_is) c.requires.proposal in
    subst (λ (v : SerialValue). Stays v (record { heap = c.self.inside.heap.value; collection = c.self.inside.collection.value; cells = c.evacuate.new.cells; pass = c.evacuate.new.pass; claims = c.self.inside.claims; draws = c.self.inside.draws; queues = c.self.inside.queues; seat = c.self.inside.seat; workspace = c.evacuate.new.workspace })) c.self.view_is
    (stays _ c.self.invariant c.args.heap.now c.args.collection.now heap collection none c.evacuate.new.cells c.evacuate.new.pass c.evacuate.new.workspace c.evacuate.ensures.keeps.pass c.evacuate.ensures.keeps.limit (c.evacuate.ensures.left is).0)

pub returns-clause-left_why : goal.returns-clause-left_why
returns-clause-left_why g c = λ is.
    let heap = c.requires.heap ∙ ap (λ (v : SerialValue). v.heap) (sym c.self.view_is) in
    let collection = c.requires.collection ∙ ap (λ (v : SerialValue). v.collection) (sym c.self.view_is) in
    let none = subst (λ (v : SerialValue). v.workspace.worker.proposal ≡ None) (sym c.self.view_is) c.requires.proposal in
    subst IsUncopied c.self.view_is
    (left_why _ c.self.invariant c.args.heap.now c.args.collection.now heap collection none c.evacuate.new.cells c.evacuate.new.pass c.evacuate.new.workspace c.evacuate.ensures.keeps.pass c.evacuate.ensures.keeps.limit (c.evacuate.ensures.left is).1)

pub returns-clause-none : goal.returns-clause-none
returns-clause-none g c = λ is.
    let heap = c.requires.heap ∙ ap (λ (v : SerialValue). v.heap) (sym c.self.view_is) in
    let collection = c.requires.collection ∙ ap (λ (v : SerialValue). v.collection) (sym c.self.view_is) in
    let none = subst (λ (v : SerialValue). v.workspace.worker.proposal ≡ None) (sym c.self.view_is) c.requires.proposal in
    subst (λ (v : SerialValue). Stays v (record { heap = c.self.inside.heap.value; collection = c.self.inside.collection.value; cells = c.evacuate.new.cells; pass = c.evacuate.new.pass; claims = c.self.inside.claims; draws = c.self.inside.draws; queues = c.self.inside.queues; seat = c.self.inside.seat; workspace = c.evacuate.new.workspace })) c.self.view_is
    (stays _ c.self.invariant c.args.heap.now c.args.collection.now heap collection none c.evacuate.new.cells c.evacuate.new.pass c.evacuate.new.workspace c.evacuate.ensures.keeps.pass c.evacuate.ensures.keeps.limit (c.evacuate.ensures.none is).0)

pub returns-clause-looked : goal.returns-clause-looked
returns-clause-looked g c = λ is.
    let heap = c.requires.heap ∙ ap (λ (v : SerialValue). v.heap) (sym c.self.view_is) in
    let collection = c.requires.collection ∙ ap (λ (v : SerialValue). v.collection) (sym c.self.view_is) in
    let none = subst (λ (v : SerialValue). v.workspace.worker.proposal ≡ None) (sym c.self.view_is) c.requires.proposal in
    subst (λ (v : SerialValue). Goes (Look 0) v (record { heap = c.self.inside.heap.value; collection = c.self.inside.collection.value; cells = c.evacuate.new.cells; pass = c.evacuate.new.pass; claims = c.self.inside.claims; draws = c.self.inside.draws; queues = c.self.inside.queues; seat = c.self.inside.seat; workspace = c.evacuate.new.workspace })) c.self.view_is
    ((goes_once _ c.self.invariant c.args.heap.now c.args.collection.now heap collection none c.evacuate.new.cells c.evacuate.new.pass c.evacuate.new.workspace c.evacuate.ensures.keeps.pass c.evacuate.ensures.keeps.limit (c.evacuate.ensures.looks (λ e. two_ways is e)).cells (c.evacuate.ensures.slot (inl is)) (c.evacuate.ensures.looked is)).1)

pub returns-clause-raced : goal.returns-clause-raced
returns-clause-raced g c = λ is.
    let heap = c.requires.heap ∙ ap (λ (v : SerialValue). v.heap) (sym c.self.view_is) in
    let collection = c.requires.collection ∙ ap (λ (v : SerialValue). v.collection) (sym c.self.view_is) in
    let none = subst (λ (v : SerialValue). v.workspace.worker.proposal ≡ None) (sym c.self.view_is) c.requires.proposal in
    subst (λ (v : SerialValue). LooksThenRaces v (record { heap = c.self.inside.heap.value; collection = c.self.inside.collection.value; cells = c.evacuate.new.cells; pass = c.evacuate.new.pass; claims = c.self.inside.claims; draws = c.self.inside.draws; queues = c.self.inside.queues; seat = c.self.inside.seat; workspace = c.evacuate.new.workspace })) c.self.view_is
    ((goes_twice _ c.self.invariant c.args.heap.now c.args.collection.now heap collection none c.evacuate.new.cells c.evacuate.new.pass c.evacuate.new.workspace c.evacuate.ensures.keeps.pass c.evacuate.ensures.keeps.limit (c.evacuate.ensures.slot (inr is)) (c.evacuate.ensures.raced is)).1)

pub returns-clause-looked_slot : goal.returns-clause-looked_slot
returns-clause-looked_slot g c = λ is.
    let heap = c.requires.heap ∙ ap (λ (v : SerialValue). v.heap) (sym c.self.view_is) in
    let collection = c.requires.collection ∙ ap (λ (v : SerialValue). v.collection) (sym c.self.view_is) in
    let none = subst (λ (v : SerialValue). v.workspace.worker.proposal ≡ None) (sym c.self.view_is) c.requires.proposal in
    subst (λ (v : SerialValue). IsSome (current_slot (setting_in v) v.workspace.worker)) c.self.view_is
    (subst IsSome (slot_here _ c.self.invariant c.args.heap.now c.args.collection.now heap collection c.evacuate.new.pass) (c.evacuate.ensures.slot (inl is)))

pub returns-clause-raced_slot : goal.returns-clause-raced_slot
returns-clause-raced_slot g c = λ is.
    let heap = c.requires.heap ∙ ap (λ (v : SerialValue). v.heap) (sym c.self.view_is) in
    let collection = c.requires.collection ∙ ap (λ (v : SerialValue). v.collection) (sym c.self.view_is) in
    let none = subst (λ (v : SerialValue). v.workspace.worker.proposal ≡ None) (sym c.self.view_is) c.requires.proposal in
    subst (λ (v : SerialValue). IsSome (current_slot (setting_in v) v.workspace.worker)) c.self.view_is
    (subst IsSome (slot_here _ c.self.invariant c.args.heap.now c.args.collection.now heap collection c.evacuate.new.pass) (c.evacuate.ensures.slot (inr is)))

pub returns-clause-no_slot : goal.returns-clause-no_slot
returns-clause-no_slot g c = λ is.
    let heap = c.requires.heap ∙ ap (λ (v : SerialValue). v.heap) (sym c.self.view_is) in
    let collection = c.requires.collection ∙ ap (λ (v : SerialValue). v.collection) (sym c.self.view_is) in
    let none = subst (λ (v : SerialValue). v.workspace.worker.proposal ≡ None) (sym c.self.view_is) c.requires.proposal in
    ap (λ (w : WorkspaceValue). current_slot (setting_in (record { heap = c.self.inside.heap.value; collection = c.self.inside.collection.value; cells = c.evacuate.new.cells; pass = c.evacuate.new.pass; claims = c.self.inside.claims; draws = c.self.inside.draws; queues = c.self.inside.queues; seat = c.self.inside.seat; workspace = w })) w.worker) (c.evacuate.ensures.none is).0
    ∙ sym (slot_here _ c.self.invariant c.args.heap.now c.args.collection.now heap collection c.evacuate.new.pass) ∙ (c.evacuate.ensures.none is).1
