use Rattle.std.proofs.Common.{◌≤◌, sym, ap, subst, arith}
use Rattle.one_worker.specs.SerialValue.{SerialValue}
use Rattle.one_worker.specs.Stepping.{IsOf, HasStepped, left_to_do}
use Rattle.one_worker.proofs.serial_steps.sweeping.swept.Goals as goal

pub returns-in-Err-clause-less : goal.returns-in-Err-clause-less
returns-in-Err-clause-less g c = let same = ap left_to_do c.in-Err.ensures.err in omega (arith, same)

pub loop-init : goal.loop-init
loop-init g c =
    let same = ap left_to_do c.in-Ok.ensures.ok in
    record {
      same = subst (λ (v : SerialValue). IsOf c.args.heap.now c.args.collection.now v) (sym c.in-Ok.ensures.ok) (record { heap_is = c.requires.same.heap_is; collection_is = c.requires.same.collection_is });
      stepped = subst HasStepped (sym c.in-Ok.ensures.ok) (record { count = c.requires.stepped.count; run = c.requires.stepped.run });
      proposal = c.in-Ok.ensures.proposal;
      less = omega (arith, same);
    }

pub loop-smaller : goal.loop-smaller
loop-smaller g c = c.sweep_once.ensures.some c.loop-test.true

pub loop-preserved : goal.loop-preserved
loop-preserved g c = record { same = c.sweep_once.ensures.same; stepped = c.sweep_once.ensures.stepped; proposal = c.sweep_once.ensures.proposal; less = omega (arith, c.sweep_once.ensures.some c.loop-test.true, c.loop.invariant.less) }

pub returns-clause-less : goal.returns-clause-less
returns-clause-less g c =
    subst (λ v. left_to_do v ≤ left_to_do c.args.serial) (sym c.closed.ensures) (omega (arith, c.sweep_once.ensures.none c.loop-test.false, c.loop.invariant.less))
