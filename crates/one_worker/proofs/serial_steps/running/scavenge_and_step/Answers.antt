use Rattle.std.proofs.Common.{subst, inr, arith}
use Rattle.std.proofs.lemmas.Result.{IfOk-at_ok, on_err_weaker}
use Rattle.steps.specs.HeapValue.{HeapValue}
use Rattle.scavenge.specs.ReadyToCollect.{IsReadyToCollect}
use Rattle.one_worker.specs.Stepping.{IsLeftToStep}
use Rattle.one_worker.proofs.Going.{less_left, stepped_on, left_to_step_still}
use Rattle.one_worker.proofs.serial_steps.running.scavenge_and_step.Goals as goal

pub returns-clause-stepped : goal.returns-clause-stepped
returns-clause-stepped g c = stepped_on c.step.result c.scavenge.new.serial c.step.new.serial c.step.ensures.some c.step.ensures.none c.step.ensures.err c.scavenge.ensures.stepped

pub returns-clause-less : goal.returns-clause-less
returns-clause-less g c = λ is.
    let ready = subst (λ (h : HeapValue). IsReadyToCollect h c.scavenge.new.serial.collection) c.scavenge.ensures.same.heap_is (subst (IsReadyToCollect c.args.heap.now) c.scavenge.ensures.same.collection_is c.requires.ready) in
    let less = less_left c.scavenge.new.serial c.step.new.serial ready c.scavenge.ensures.stepped (c.step.ensures.some is) in
    omega (arith, less, c.scavenge.ensures.less)

pub returns-clause-some : goal.returns-clause-some
returns-clause-some g c = λ is.
    record {
      between = c.scavenge.new.serial;
      stepped = c.scavenge.ensures.stepped;
      less = c.scavenge.ensures.less;
      is_left = IfOk-at_ok (λ _. IsLeftToStep c.scavenge.new.serial) c.in_ok-scavenge.was c.scavenge.ensures.ok;
      goes = c.step.ensures.some is;
    }

pub returns-clause-err : goal.returns-clause-err
returns-clause-err g c =
    let is_left = IfOk-at_ok (λ _. IsLeftToStep c.scavenge.new.serial) c.in_ok-scavenge.was c.scavenge.ensures.ok in
    on_err_weaker c.step.result (λ s. inr (left_to_step_still c.scavenge.new.serial c.step.new.serial s is_left)) c.step.ensures.err
