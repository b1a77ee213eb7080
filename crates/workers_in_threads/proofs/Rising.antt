-- The positions of what a worker takes of each queue rise.
use Rattle.std.proofs.Common.{◌≡◌, ℕ, ◌<◌, Bool, true, false, cond, List, [], ◌∷◌, ◌++◌, Option, Some, None, refl, sym, ap, subst, ◌∙◌, nat_eq, eqb-true, All}
use Rattle.block_pool.specs.BlockValue.{BlockValue}
use Rattle.workers.specs.Joined.{Each}
use Rattle.workers.specs.Ordered.{IsRising}
use Rattle.workers_in_threads.specs.Queued.{position_first, positions_in}
use Rattle.workers_in_threads.proofs.Knowing.{each_more}
use Rattle.workers_in_threads.proofs.Lists.{all_each}

first_append : (u : ℕ) (o : Option (ℕ × ℕ)) (xs ys : List ℕ) → position_first u o (xs ++ ys) ≡ position_first u o xs ++ ys
first_append u None xs ys = refl
first_append u (Some l) xs ys = by (nat_eq l.0 u)
  where
    by : (b : Bool) → cond b (l.1 ∷ xs ++ ys) (xs ++ ys) ≡ cond b (l.1 ∷ xs) xs ++ ys
    by true = refl
    by false = refl

positions_more : (u : ℕ) (bs : List BlockValue) (b : BlockValue) → positions_in u (bs ++ b ∷ []) ≡ positions_in u bs ++ position_first u b.sent []
positions_more u [] b = refl
positions_more u (x ∷ bs) b = ap (position_first u x.sent) (positions_more u bs b) ∙ first_append u x.sent (positions_in u bs) (position_first u b.sent [])

rising_more : (xs : List ℕ) (p : ℕ) → IsRising xs → Each (λ x. x < p) xs → IsRising (xs ++ p ∷ [])
rising_more [] p h k = (tt, tt)
rising_more (x ∷ xs) p h k = (each_more (λ y. x < y) xs p h.0 k.0, rising_more xs p h.1 k.1)

below : (u p : ℕ) (bs : List BlockValue) → Each (λ (b : BlockValue). (q : ℕ) → b.sent ≡ Some (u, q) → q < p) bs → Each (λ x. x < p) (positions_in u bs)
below u p [] h = tt
below u p (b ∷ bs) h = by b.sent refl (below u p bs h.1)
  where
    by : (o : Option (ℕ × ℕ)) → b.sent ≡ o → Each (λ x. x < p) (positions_in u bs) → Each (λ x. x < p) (position_first u o (positions_in u bs))
    by None e rest = rest
    by (Some l) e rest = go (nat_eq l.0 u) refl
      where
        go : (t : Bool) → nat_eq l.0 u ≡ t → Each (λ x. x < p) (cond t (l.1 ∷ positions_in u bs) (positions_in u bs))
        go true is = (h.0 l.1 (e ∙ ap (λ k. Some (k, l.1)) (eqb-true l.0 u is)), rest)
        go false is = rest

-- one more block, whose position is above those that were taken of its queue before
pub rises_more : (bs : List BlockValue) (b : BlockValue) (exporter position : ℕ) → b.sent ≡ Some (exporter, position) → All (λ (t : BlockValue). (q : ℕ) → t.sent ≡ Some (exporter, q) → q < position) bs
    → ((u : ℕ) → IsRising (positions_in u bs)) → (u : ℕ) → IsRising (positions_in u (bs ++ b ∷ []))
rises_more bs b exporter position label above rises u =
    subst IsRising (sym (positions_more u bs b ∙ ap (λ o. positions_in u bs ++ position_first u o []) label)) (go (nat_eq exporter u) refl)
  where
    append-nil : (xs : List ℕ) → xs ≡ xs ++ []
    append-nil [] = refl
    append-nil (x ∷ xs) = ap (λ ys. x ∷ ys) (append-nil xs)

    go : (t : Bool) → nat_eq exporter u ≡ t → IsRising (positions_in u bs ++ cond t (position ∷ []) [])
    go true is =
        rising_more (positions_in u bs) position (rises u)
        (subst (λ k. Each (λ x. x < position) (positions_in k bs)) (eqb-true exporter u is)
        (below exporter position bs (all_each (λ (t : BlockValue). (q : ℕ) → t.sent ≡ Some (exporter, q) → q < position) bs above)))
    go false is = subst IsRising (append-nil (positions_in u bs)) (rises u)
