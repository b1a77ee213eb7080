use Rattle.std.proofs.Common.{◌≡◌, false, sym, ap, subst, ◌∙◌, Some}
use Rattle.std.specs.Prelude.{slice_get}
use Rattle.workers.specs.WorkerSteps.{CanLook}
use Rattle.workers.specs.Lawful.{MayAct}
use Rattle.machine.specs.InterleavedValue.{InterleavedValue, system_of, setting_in}
use Rattle.machine.proofs.Laws.{may_there, may_says, look_as, says_as, closed_there, places_there, untouched_there}
use Rattle.machine.proofs.workers_in_turn.interleaved.InterleavedCollection.may_look.Goals as goal

pub can_look-requires-clause-closed : goal.can_look-requires-clause-closed
can_look-requires-clause-closed g c =
    let v : InterleavedValue = record { heap = c.self.inside.heap.value; collection = c.self.inside.collection.value; cells = c.self.inside.cells; pass = c.self.inside.pass; claims = c.self.inside.claims; draws = c.self.inside.draws; queues = c.self.inside.queues; workers = c.self.inside.workers; idlers = c.self.inside.idlers; members = c.self.inside.members.items } in
    closed_there v c.self.invariant c.args.t c.index.result.now (may_there (CanLook (setting_in v)) v c.args.t c.index.result.now c.index.ensures (subst (λ (x : InterleavedValue). slice_get (system_of x).idle c.args.t ≡ Some false) (sym c.self.view_is) (c.is_awake.ensures.0 c.if-is_awake.true))) c.args.heap.now (c.requires ∙ ap (λ (x : InterleavedValue). x.heap) (sym c.self.view_is))

pub can_look-requires-clause-places : goal.can_look-requires-clause-places
can_look-requires-clause-places g c =
    let v : InterleavedValue = record { heap = c.self.inside.heap.value; collection = c.self.inside.collection.value; cells = c.self.inside.cells; pass = c.self.inside.pass; claims = c.self.inside.claims; draws = c.self.inside.draws; queues = c.self.inside.queues; workers = c.self.inside.workers; idlers = c.self.inside.idlers; members = c.self.inside.members.items } in
    places_there v c.self.invariant c.args.t c.index.result.now (may_there (CanLook (setting_in v)) v c.args.t c.index.result.now c.index.ensures (subst (λ (x : InterleavedValue). slice_get (system_of x).idle c.args.t ≡ Some false) (sym c.self.view_is) (c.is_awake.ensures.0 c.if-is_awake.true))) c.args.heap.now (c.requires ∙ ap (λ (x : InterleavedValue). x.heap) (sym c.self.view_is))

pub can_look-requires-clause-untouched : goal.can_look-requires-clause-untouched
can_look-requires-clause-untouched g c =
    let v : InterleavedValue = record { heap = c.self.inside.heap.value; collection = c.self.inside.collection.value; cells = c.self.inside.cells; pass = c.self.inside.pass; claims = c.self.inside.claims; draws = c.self.inside.draws; queues = c.self.inside.queues; workers = c.self.inside.workers; idlers = c.self.inside.idlers; members = c.self.inside.members.items } in
    untouched_there v c.self.invariant c.args.t c.index.result.now (may_there (CanLook (setting_in v)) v c.args.t c.index.result.now c.index.ensures (subst (λ (x : InterleavedValue). slice_get (system_of x).idle c.args.t ≡ Some false) (sym c.self.view_is) (c.is_awake.ensures.0 c.if-is_awake.true))) c.args.heap.now (c.requires ∙ ap (λ (x : InterleavedValue). x.heap) (sym c.self.view_is))

pub returns-then-is_awake : goal.returns-then-is_awake
returns-then-is_awake g c =
    let v : InterleavedValue = record { heap = c.self.inside.heap.value; collection = c.self.inside.collection.value; cells = c.self.inside.cells; pass = c.self.inside.pass; claims = c.self.inside.claims; draws = c.self.inside.draws; queues = c.self.inside.queues; workers = c.self.inside.workers; idlers = c.self.inside.idlers; members = c.self.inside.members.items } in
    says_as (λ x. MayAct (CanLook (setting_in x)) (system_of x) c.args.t) c.can_look.result c.self.view_is
    (may_says (CanLook (setting_in v)) v c.args.t c.index.result.now c.index.ensures (subst (λ (x : InterleavedValue). slice_get (system_of x).idle c.args.t ≡ Some false) (sym c.self.view_is) (c.is_awake.ensures.0 c.if-is_awake.true)) c.can_look.result (look_as v c.index.result.now.workspace.worker c.args.heap.now (c.requires ∙ ap (λ (x : InterleavedValue). x.heap) (sym c.self.view_is)) c.can_look.result c.can_look.ensures))
