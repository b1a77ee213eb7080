-- One step more of the lists that the worker brings.
use Rattle.std.proofs.Common.{◌≡◌, ℕ, ◌+◌, ◌<◌, ◌≤◌, List, [], ◌∷◌, ◌++◌, length, map, take, get_or, min, Option, Some, Result, Ok, Err, refl, sym, ap, ◌∙◌, ⊎_elim, arith}
use Rattle.std.proofs.lemmas.Bool.{cases_lt}
use Rattle.std.proofs.lemmas.List.{append-nil, take_more, take_all, map-append, append_assoc}
use Rattle.std.proofs.lemmas.List.FromFn.{length-enumerate_from, get_or-enumerate_from}
use Rattle.std.specs.Result.{OkIff, result_unwrap_or}
use Rattle.std.specs.List.{enumerate_from}
use Rattle.block_pool.specs.BlockValue.{BlockValue}
use Rattle.pending_queues.specs.declared.exports.deliveries.Delivery.{Delivery as Outcome}
use Rattle.pending_queues.specs.PlainValue.{PlainLane, empty_lane, outcomes, outcomes_of}
use Rattle.steps.specs.declared.heap_values.report.Delivery.{Delivery}
use Rattle.workers.specs.Joined.{somes}
use Rattle.settling.specs.OwnDeliveries.{own_delivery, deliveries_of_sizes}

-- a block more in the list, or none
pub listed_more : {X : Type 0} (done : List X) (x : X) (rest : List (Option X)) → (done ++ x ∷ []) ++ somes rest ≡ done ++ somes (Some x ∷ rest)
listed_more done x rest = append_assoc done (x ∷ []) (somes rest)

-- deliveries
pub delivered_more : (sizes : List ℕ) (done : List Delivery) (d : Delivery) (i : ℕ) → i < length sizes → d ≡ own_delivery (i, get_or sizes i 0) → done ≡ map own_delivery (take i (enumerate_from 0 sizes))
    → done ++ d ∷ [] ≡ map own_delivery (take (i + 1) (enumerate_from 0 sizes))
delivered_more sizes done d i lt is before =
    let numbered : List (ℕ × ℕ) = enumerate_from 0 sizes in
    let from_zero : i ≡ 0 + i = omega arith in
    let lt' : i < length numbered = omega (arith, length-enumerate_from 0 sizes) in
    ap (λ xs. xs ++ d ∷ []) before
    ∙ ap (λ x. map own_delivery (take i numbered) ++ x ∷ []) (is ∙ ap (λ k. own_delivery (k, get_or sizes i 0)) from_zero ∙ ap own_delivery (sym (get_or-enumerate_from 0 sizes i (0, 0) lt)))
    ∙ sym (ap (map own_delivery) (take_more numbered i (0, 0) lt') ∙ map-append own_delivery (take i numbered) (get_or numbered i (0, 0) ∷ []))

pub delivered_all : (sizes : List ℕ) (i : ℕ) → length sizes ≤ i → map own_delivery (take i (enumerate_from 0 sizes)) ≡ deliveries_of_sizes sizes
delivered_all sizes i le = ap (map own_delivery) (take_all i (enumerate_from 0 sizes) (omega (arith, length-enumerate_from 0 sizes)))

-- the number, or the greatest that has room
pub saturated : {E : Type 0} (n : ℕ) (r : Result ℕ E) → OkIff r (n < 4294967296) n → result_unwrap_or r 4294967295 ≡ min n 4294967295
saturated n (Ok x) (lt, is) = is ∙ (omega arith)
saturated n (Err e) not = ⊎_elim (λ (lt : n < 4294967296). absurd (not lt)) (λ (le : 4294967296 ≤ n). omega arith) (cases_lt n 4294967296)

-- no block is left
pub listed_all : {X : Type 0} (done : List X) (rest : List (Option X)) (all : List X) → length rest ≡ 0 → done ++ somes rest ≡ all → done ≡ all
listed_all done [] all none is = sym (append-nil done) ∙ is
listed_all done (x ∷ rest) all none is = absurd (omega arith)

-- an export's outcome has its size
outcome_sizes : (sent : List BlockValue) (takers : List ℕ) → map (λ (e : Outcome). e.objects) (outcomes sent takers) ≡ map (λ (b : BlockValue). length b.objects) sent
outcome_sizes [] takers = refl
outcome_sizes (b ∷ sent) [] = ap (λ ns. length b.objects ∷ ns) (outcome_sizes sent [])
outcome_sizes (b ∷ sent) (t ∷ takers) = ap (λ ns. length b.objects ∷ ns) (outcome_sizes sent takers)

pub told_sizes : (lanes : List PlainLane) → map (λ (e : Outcome). e.objects) (get_or (map outcomes_of lanes) 0 []) ≡ map (λ (b : BlockValue). length b.objects) (get_or lanes 0 empty_lane).sent
told_sizes [] = refl
told_sizes (l ∷ lanes) = outcome_sizes l.sent l.takers
