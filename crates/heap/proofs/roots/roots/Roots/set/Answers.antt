use Rattle.std.proofs.Common.{sym}
use Rattle.heap.proofs.Flagged.{written, unwritten}
use Rattle.heap.proofs.roots.roots.Roots.set.Goals as goal
use Rattle.heap.proofs.roots.roots.Roots.set.Goals.{in-Some, in_default}

pub returns-clause-changed : goal.returns-clause-changed
returns-clause-changed g c =
    elim c.match-get_mut.branch [
      | in-Some w ↦ rw (w.self-inside-is, ← c.self.view_is) (written c.self.inside.slab.slots c.args.number w.in-Some.root.now c.args.place (sym w.in-Some.ensures.value))
      | in_default w ↦ rw (w.self-inside-is, ← c.self.view_is) (unwritten c.self.inside.slab.slots c.args.number c.args.place (sym w.in_default.ensures.value))
    ]
