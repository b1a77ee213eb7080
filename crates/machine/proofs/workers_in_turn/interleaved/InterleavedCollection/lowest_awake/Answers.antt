use Rattle.std.proofs.Common.{◌≡◌, true, false, map, Some, None, sym, ap, subst, ◌∙◌, arith}
use Rattle.std.specs.Prelude.{slice_get}
use Rattle.machine.specs.InterleavedValue.{InterleavedValue, MemberValue, system_of}
use Rattle.workers.specs.Lawful.{lowest_unset}
use Rattle.machine.proofs.Members.{behind}
use Rattle.machine.proofs.Choosing.{set_next, flag_at, all_flags, at_first}
use Rattle.machine.proofs.workers_in_turn.interleaved.InterleavedCollection.lowest_awake.Goals as goal

pub returns-then-not-index-clause-lowest : goal.returns-then-not-index-clause-lowest
returns-then-not-index-clause-lowest g c =
    let v : InterleavedValue = record { heap = c.self.inside.heap.value; collection = c.self.inside.collection.value; cells = c.self.inside.cells; pass = c.self.inside.pass; claims = c.self.inside.claims; draws = c.self.inside.draws; queues = c.self.inside.queues; workers = c.self.inside.workers; idlers = c.self.inside.idlers; members = c.self.inside.members.items } in
    at_first (map (λ (m : MemberValue). m.idle) c.args.self.now.members) c.loop-t.t c.loop-t.invariant.set
    (subst (λ (x : InterleavedValue). slice_get (system_of x).idle c.loop-t.t ≡ Some false) c.self.view_is
    (flag_at (λ (m : MemberValue). m.idle) v c.self.invariant c.loop-t.t _ c.loop-t-test.true (behind v.members c.loop-t.t c.behind-self.view_is c.index.ensures) ∙ ap (λ b. Some b) c.if-not-index.true))

pub loop-t-preserved : goal.loop-t-preserved
loop-t-preserved g c =
    let v : InterleavedValue = record { heap = c.self.inside.heap.value; collection = c.self.inside.collection.value; cells = c.self.inside.cells; pass = c.self.inside.pass; claims = c.self.inside.claims; draws = c.self.inside.draws; queues = c.self.inside.queues; workers = c.self.inside.workers; idlers = c.self.inside.idlers; members = c.self.inside.members.items } in
    record {
      set = set_next (map (λ (m : MemberValue). m.idle) c.args.self.now.members) c.loop-t.t c.loop-t.invariant.set
          (subst (λ (x : InterleavedValue). slice_get (system_of x).idle c.loop-t.t ≡ Some true) c.self.view_is
          (flag_at (λ (m : MemberValue). m.idle) v c.self.invariant c.loop-t.t _ c.loop-t-test.true (behind v.members c.loop-t.t c.behind-self.view_is c.index.ensures) ∙ ap (λ b. Some b) c.if-not-index.false));
    }

pub returns-clause-lowest : goal.returns-clause-lowest
returns-clause-lowest g c =
    let v : InterleavedValue = record { heap = c.self.inside.heap.value; collection = c.self.inside.collection.value; cells = c.self.inside.cells; pass = c.self.inside.pass; claims = c.self.inside.claims; draws = c.self.inside.draws; queues = c.self.inside.queues; workers = c.self.inside.workers; idlers = c.self.inside.idlers; members = c.self.inside.members.items } in
    sym (subst (λ (x : InterleavedValue). lowest_unset 0 (system_of x).idle ≡ None) c.self.view_is
    (all_flags (λ (m : MemberValue). m.idle) v c.self.invariant (λ e l. subst (λ (x : InterleavedValue). slice_get (system_of x).idle e ≡ Some true) (sym c.self.view_is) (c.loop-t.invariant.set e (let z = c.loop-t-test.false in omega (arith, l, z))))))
