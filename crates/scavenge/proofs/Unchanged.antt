-- What stays what was won while a worker goes on.
use Rattle.std.proofs.Common.{◌≡◌, ℕ, cond, List, [], ◌∷◌, ◌++◌, Option, Some, None, refl, sym, ◌∙◌, true≢false, Bool, true, false}
use Rattle.std.specs.Prelude.{IsSome}
use Rattle.workers.specs.Worker.{Worker, Hand, Nothing, Open, Holding, HoldingLarge, allocation_at, current_object}
use Rattle.workers.specs.WorkerSteps.{write_hand, finish_first, finish_slot, after_own_large, claim_first, after_scan, log_scan, scan_hand, scan_open}
use Rattle.std.specs.Option.{option_and_then}
use Rattle.workers.specs.Block.{Block, has_unscanned, with_front_moved}

pub some_there : {A : Type 0} (o : Option A) → IsSome o → (x : A) × (o ≡ Some x)
some_there None e = absurd (true≢false (sym e))
some_there (Some x) e = (x, refl)

pub finish_won : (value : Option ℕ) (w : Worker) → (finish_slot value w).won ≡ w.won
finish_won value w = first w.starts
  where
    hand : (h : Hand) → (write_hand value w h).won ≡ w.won
    hand Nothing = refl
    hand (Open d) = refl
    hand (Holding block) = refl
    hand (HoldingLarge name) = refl

    first : (targets : List ℕ) → (finish_first value w targets).won ≡ w.won
    first [] = hand w.hand
    first (target ∷ targets) = refl

-- what was won is so still
pub large_won : (w : Worker) → (after_own_large w).won ≡ w.won
large_won w = go w.large
  where
    go : (names : List ℕ) → (claim_first w names).won ≡ w.won
    go [] = refl
    go (name ∷ names) = refl

pub scan_won : (w : Worker) → (after_scan w).won ≡ w.won
scan_won w = hand (log_scan w (current_object w)) w.hand ∙ log (current_object w)
  where
    log : (o : Option (ℕ × ℕ)) → (log_scan w o).won ≡ w.won
    log None = refl
    log (Some c) = refl

    more : (x : Worker) (block : Block) (b : Bool) → (cond b (record x { hand = Holding block }) (record x { hand = Nothing; done = x.done ++ block ∷ [] })).won ≡ x.won
    more x block true = refl
    more x block false = refl

    opened : (x : Worker) (d : ℕ) (o : Option Block) → (scan_open x d o).won ≡ x.won
    opened x d None = refl
    opened x d (Some block) = refl

    hand : (x : Worker) (h : Hand) → (scan_hand x h).won ≡ x.won
    hand x Nothing = refl
    hand x (Open d) = opened x d (option_and_then (λ b. Some (with_front_moved b)) (allocation_at x d))
    hand x (Holding block) = more x (with_front_moved block) (has_unscanned (with_front_moved block))
    hand x (HoldingLarge name) = refl
