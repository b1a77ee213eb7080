use Rattle.std.proofs.Common.{◌≡◌, ◌↔◌, Result, Ok, Err, IfOk, subst}
use Rattle.machine.specs.declared.interleaved_settling.settle_error.SettleError.TheVariants.{NotEnded}
use Rattle.workers.specs.Lawful.{AllEnded}
use Rattle.machine.specs.MachineValue.{MachineValue}
use Rattle.machine.specs.Settles.{Settles}
use Rattle.machine.proofs.Ordered.{taken, in_order}
use Rattle.machine.proofs.machine.Machine.settle.Goals as goal

-- what holds of a result in four ways
of_ok : {T E : Type 0} (r : Result T E) (P Q R S U : T → Type 0) → ((x : T) → P x → Q x → R x → S x → U x) → IfOk r P → IfOk r Q → IfOk r R → IfOk r S → IfOk r U
of_ok (Ok x) P Q R S U f p q r s = f x p q r s
of_ok (Err e) P Q R S U f p q r s = tt

pub returns-clause-ended : goal.returns-clause-ended
returns-clause-ended g c = subst (λ (m : MachineValue). (c.settle.result ≡ Err NotEnded) ↔ ¬ AllEnded m.system) c.self.view_is c.settle.ensures.ended

pub returns-clause-ok : goal.returns-clause-ok
returns-clause-ok g c =
    subst (λ (m : MachineValue). IfOk c.settle.result (λ s. Settles m s.collection s.places s.blocks.items s.workers.items s.deliveries.items)) c.self.view_is
    (of_ok c.settle.result _ _ _ _ _ (λ s collection settled once reports. record {
      collection_is = collection;
      may_commit = settled;
      once = once;
      in_order = in_order c.self.inside.heap.now c.self.inside.collection c.self.inside.workers c.self.invariant reports.ended;
      taken = taken c.self.inside.heap.now c.self.inside.collection c.self.inside.workers c.self.invariant;
      reports_are = reports;
    })
    c.settle.ensures.collection c.settle.ensures.settled c.settle.ensures.once c.settle.ensures.reports)
