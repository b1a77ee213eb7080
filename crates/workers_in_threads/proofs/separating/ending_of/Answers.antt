use Rattle.std.proofs.Common.{◌≡◌, ◌≢◌, sym, ◌∙◌, arith}
use Rattle.scavenge.specs.declared.looking.LookError.{LookError}
use Rattle.workers_in_threads.specs.declared.sharing_worker.resting.Outcome.{Outcome}
use Rattle.workers_in_threads.specs.declared.sharing_worker.resting.Outcome.TheVariants.{Ended, Left, Refused}
use Rattle.workers_in_threads.specs.CameBack.{IsNotRefused}
use Rattle.workers_in_threads.proofs.Endings.{below_none, below_more, below_all, one_of, first_refusal}
use Rattle.workers_in_threads.proofs.separating.ending_of.Goals.{in-Left, in-Ended}
use Rattle.workers_in_threads.proofs.separating.ending_of.Goals as goal

refusal_is : {x y : LookError} → Refused x ≡ Refused y → x ≡ y
refusal_is e = cc

left_no : {o : Outcome} → o ≡ Left → (e : LookError) → o ≢ Refused e
left_no l e q = absurd (let z : Left ≡ Refused e = sym l ∙ q in cc)

ended_no : {o : Outcome} → o ≡ Ended → (e : LookError) → o ≢ Refused e
ended_no l e q = absurd (let z : Ended ≡ Refused e = sym l ∙ q in cc)

pub loop-worker-init : goal.loop-worker-init
loop-worker-init g c = record {
  ended = λ e. below_none c.args.brought.now (λ r. r.outcome ≡ Ended);
  left = λ e. absurd (let q : Ended ≡ Left = e in cc);
  none_refused = below_none c.args.brought.now IsNotRefused;
  not_refused = λ x e. absurd (let q : Ended ≡ Refused x = e in cc);
}

pub returns-in-Refused-clause-ended : goal.returns-in-Refused-clause-ended
returns-in-Refused-clause-ended g c = λ e. absurd (let q : Refused _ ≡ Ended = e in cc)

pub returns-in-Refused-clause-left : goal.returns-in-Refused-clause-left
returns-in-Refused-clause-left g c = λ e. absurd (let q : Refused _ ≡ Left = e in cc)

pub returns-in-Refused-clause-refused : goal.returns-in-Refused-clause-refused
returns-in-Refused-clause-refused g c = λ x e. first_refusal c.args.brought.now c.loop-worker.worker-index c.worker-item.result x c.loop-worker-test.true c.worker-item.is (c.in-Refused.is ∙ e) c.loop-worker.invariant.none_refused

pub loop-worker-preserved : goal.loop-worker-preserved
loop-worker-preserved g c = elim c.match-worker.branch [
  | in-Left w ↦ record {
    ended = λ e. absurd (let q : Left ≡ Ended = sym w.ending-is ∙ e in cc);
    left = λ e. one_of c.args.brought.now (λ r. r.outcome ≡ Left) c.loop-worker.worker-index c.worker-item.result c.loop-worker-test.true c.worker-item.is w.in-Left.is;
    none_refused = below_more c.args.brought.now IsNotRefused c.loop-worker.worker-index c.worker-item.result c.loop-worker-test.true c.worker-item.is (left_no w.in-Left.is) c.loop-worker.invariant.none_refused;
    not_refused = λ x e. absurd (let q : Left ≡ Refused x = sym w.ending-is ∙ e in cc);
  }
  | in-Ended w ↦ record {
    ended = λ e. below_more c.args.brought.now (λ r. r.outcome ≡ Ended) c.loop-worker.worker-index c.worker-item.result c.loop-worker-test.true c.worker-item.is w.in-Ended.is (c.loop-worker.invariant.ended (sym w.ending-is ∙ e));
    left = λ e. c.loop-worker.invariant.left (sym w.ending-is ∙ e);
    none_refused = below_more c.args.brought.now IsNotRefused c.loop-worker.worker-index c.worker-item.result c.loop-worker-test.true c.worker-item.is (ended_no w.in-Ended.is) c.loop-worker.invariant.none_refused;
    not_refused = λ x e. c.loop-worker.invariant.not_refused x (sym w.ending-is ∙ e);
  }
]

pub returns-clause-ended : goal.returns-clause-ended
returns-clause-ended g c = λ e. below_all c.args.brought.now (λ r. r.outcome ≡ Ended) c.loop-worker.worker-index (omega (arith, c.loop-worker-test.false)) (c.loop-worker.invariant.ended e)

pub returns-clause-left : goal.returns-clause-left
returns-clause-left g c = λ e. record {
  one = c.loop-worker.invariant.left e;
  none_refused = below_all c.args.brought.now IsNotRefused c.loop-worker.worker-index (omega (arith, c.loop-worker-test.false)) c.loop-worker.invariant.none_refused;
}

pub returns-clause-refused : goal.returns-clause-refused
returns-clause-refused g c = λ x e. absurd (c.loop-worker.invariant.not_refused x e)
