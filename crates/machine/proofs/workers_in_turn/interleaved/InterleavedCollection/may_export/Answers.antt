use Rattle.std.proofs.Common.{◌≡◌, ◌≢◌, false, [], sym, subst, Some}
use Rattle.std.specs.Prelude.{slice_get}
use Rattle.workers.specs.Lawful.{MayAct}
use Rattle.machine.specs.InterleavedValue.{InterleavedValue, system_of}
use Rattle.machine.proofs.Members.{behind}
use Rattle.machine.proofs.Laws.{may_says, says_as}
use Rattle.machine.proofs.workers_in_turn.interleaved.InterleavedCollection.may_export.Goals as goal

pub returns-then-is_awake : goal.returns-then-is_awake
returns-then-is_awake g c =
    let v : InterleavedValue = record { heap = c.self.inside.heap.value; collection = c.self.inside.collection.value; cells = c.self.inside.cells; pass = c.self.inside.pass; claims = c.self.inside.claims; draws = c.self.inside.draws; queues = c.self.inside.queues; workers = c.self.inside.workers; idlers = c.self.inside.idlers; members = c.self.inside.members.items } in
    says_as (λ x. MayAct (λ w. w.aside ≢ []) (system_of x) c.args.t) c.has_aside.result c.self.view_is
    (may_says (λ w. w.aside ≢ []) v c.args.t _ (behind v.members c.args.t c.behind-self.view_is c.index.ensures) (subst (λ (x : InterleavedValue). slice_get (system_of x).idle c.args.t ≡ Some false) (sym c.self.view_is) (c.is_awake.ensures.0 c.if-is_awake.true)) c.has_aside.result c.has_aside.ensures)
