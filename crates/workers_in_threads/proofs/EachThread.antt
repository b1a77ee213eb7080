-- What threads bring back, as the joined law asks for it.
use Rattle.std.proofs.Common.{◌≡◌, ℕ, suc, ◌+◌, List, [], ◌∷◌, map, Option, Some, refl, subst, arith}
use Rattle.std.specs.Prelude.{slice_get}
use Rattle.layout.specs.declared.place.Place.{Place}
use Rattle.block_pool.specs.ClaimsValue.{ClaimsValue}
use Rattle.steps.specs.HeapValue.{HeapValue}
use Rattle.steps.specs.CollectionValue.{CollectionValue}
use Rattle.pending_queues.specs.PendingValue.{Source}
use Rattle.scavenge.specs.Handed.{CopiesKeyValue}
use Rattle.workers.specs.Joined.{Each}
use Rattle.workers_in_threads.specs.declared.sharing_worker.resting.Outcome.TheVariants.{Ended}
use Rattle.workers_in_threads.specs.Threads.{IsThread, AreThreads, HasEnded}
use Rattle.workers_in_threads.specs.declared.kit.Brought.{Brought}
use Rattle.workers_in_threads.specs.Kits.{IsBroughtBack, AreBroughtBack, thread_of}

module _ {P A : Type 0} (is_pass : ℕ → P → Type 0) (known : P → ℕ → Option Place) (won : P → List (ℕ × Place)) (heap : HeapValue) (c : CollectionValue) (claims : ClaimsValue) (queues : Source A CopiesKeyValue) (n : ℕ) where
  abbrev Is : ℕ → Brought P A → Type 0
  Is t r = IsBroughtBack is_pass known won heap c claims queues n t r

  from : (t : ℕ) (rs : List (Brought P A)) → ((i : ℕ) (r : Brought P A) → slice_get rs i ≡ Some r → Is (t + i) r) → AreThreads known won heap c n t (map thread_of rs)
  from t [] h = tt
  from t (r ∷ rs) h = (
    subst (λ s. IsThread known won heap c n s (thread_of r)) (let z : t + 0 ≡ t = omega arith in z) (h 0 r refl).thread,
    from (t + 1) rs (λ i x e. subst (λ s. Is s x) (let z : t + suc i ≡ t + 1 + i = omega arith in z) (h (suc i) x e)),
  )

  pub are_threads : (rs : List (Brought P A)) → AreBroughtBack is_pass known won heap c claims queues n rs → AreThreads known won heap c n 0 (map thread_of rs)
  are_threads rs h = from 0 rs (λ i r e. subst (λ s. Is s r) (let z : i ≡ 0 + i = omega arith in z) (h i r e))

  -- where each says that it ended, each did
  pub have_ended : (rs : List (Brought P A)) → AreBroughtBack is_pass known won heap c claims queues n rs → Each (λ (r : Brought P A). r.outcome ≡ Ended) rs → Each HasEnded (map thread_of rs)
  have_ended rs h all = by rs 0 (λ i r e. subst (λ s. Is s r) (let z : i ≡ 0 + i = omega arith in z) (h i r e)) all
    where
      by : (rs : List (Brought P A)) (t : ℕ) → ((i : ℕ) (r : Brought P A) → slice_get rs i ≡ Some r → Is (t + i) r) → Each (λ (r : Brought P A). r.outcome ≡ Ended) rs → Each HasEnded (map thread_of rs)
      by [] t h a = tt
      by (r ∷ rs) t h a = ((h 0 r refl).ended a.0, by rs (t + 1) (λ i x e. subst (λ s. Is s x) (let z : t + suc i ≡ t + 1 + i = omega arith in z) (h (suc i) x e)) a.1)
