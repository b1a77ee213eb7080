use Rattle.std.proofs.Common.{◌≡◌, ◌<◌, ◌≤◌, inl, inr, refl, sym, ap, subst, ◌∙◌, ⊎_elim, arith}
use Rattle.steps.specs.CollectionValue.{IsOpened}
use Rattle.scavenge.specs.ReadyToCollect.{IsReadyToCollect}
use Rattle.machine.specs.InterleavedValue.{destinations_in, targets_in}
use Rattle.workers.specs.System.{opening}
use Rattle.machine.proofs.Going.{begins, opens}
use Rattle.machine.proofs.machine.Machine.open.Given as given
use Rattle.machine.proofs.machine.Machine.open.Goals as goal
use Rattle.machine.proofs.machine.Machine.open.Goals.{In_ok-workers}

ready : (g : given.Over) → (c : In_ok-workers g) → IsReadyToCollect c.args.heap.now c.in_ok-collection.collection
ready g c =
    let e = c.in_ok-collection.ensures in
    record { opened = subst (λ k. IsOpened c.args.heap.now k c.in_ok-collection.collection) (sym e.ok.generation) e.ok; sound = e.sound; range = e.range }

few : (g : given.Over) → (c : In_ok-workers g) → (0 < c.args.n) × (c.args.n ≤ 16)
few g c = (omega arith, omega arith)

pub invariant_of-result : goal.invariant_of-result
invariant_of-result g c =
    let e = c.in_ok-workers.ensures in
    let w = c.in_ok-workers.workers in
    let l = (few g c).0 in
    begins c.args.heap.now c.in_ok-collection.collection w (sym e.heap) (sym e.collection) (ready g c) (let n = e.workers in omega (arith, l, n))
    (e.first ∙ ap (λ n. opening (destinations_in w) n (targets_in w) w.heap.free) (sym e.workers))

pub returns-clause-ok : goal.returns-clause-ok
returns-clause-ok g c =
    let e = c.in_ok-workers.ensures in
    opens c.args.heap.now c.args.generation c.args.n c.in_ok-collection.collection c.in_ok-workers.workers e.heap e.collection e.workers (ready g c) c.in_ok-collection.ensures.ok.generation e.first

pub returns-clause-config : goal.returns-clause-config
returns-clause-config g c = let f = few g c in (
  λ is. absurd (cc),
  λ bad. absurd (⊎_elim (λ (e : c.args.n ≡ 0). let l = f.0 in omega (arith, e, l)) (λ (m : 16 < c.args.n). let l = f.1 in omega (arith, m, l)) bad),
)

pub returns-then-n-eq0-clause-config : goal.returns-then-n-eq0-clause-config
returns-then-n-eq0-clause-config g c = (λ _. ⊎_elim (λ (e : c.args.n ≡ 0). inl e) (λ p. inr p.1) c.then-n-eq0.either, λ _. refl)

pub returns-then-n-eq0-clause-generation : goal.returns-then-n-eq0-clause-generation
returns-then-n-eq0-clause-generation g c = (
  λ e. absurd (cc),
  λ p. absurd (⊎_elim (λ (e : c.args.n ≡ 0). let l = p.0 in omega (arith, e, l)) (λ q. let l = p.1 in let m = q.1 in omega (arith, l, m)) c.then-n-eq0.either),
)
