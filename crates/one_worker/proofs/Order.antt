-- Which event of one worker by itself comes next.
use Rattle.std.proofs.Common.{◌≡◌, ◌≢◌, ℕ, Bool, true, false, List, [], ◌∷◌, Option, Some, None, refl, sym, ap, ◌∙◌, true≢false}
use Rattle.std.specs.Prelude.{IsSome}
use Rattle.workers.specs.Block.{Block}
use Rattle.workers.specs.Setting.{Setting}
use Rattle.workers.specs.Worker.{Worker, Proposal, Hand, Nothing, Open, Holding, HoldingLarge, current_object}
use Rattle.workers.specs.WorkerSteps.{current_slot, slot_of_starts, IsFree}
use Rattle.workers.specs.System.{Event, Race, Look, Scan, Export, Take, Own, OwnLarge, Idle}
use Rattle.workers.specs.Lawful.{race_or, look_or, scan_or, export_or, take_or, own_or, large_or, lowest_open, next_of_one}

pub none_of : {X : Type 0} (o : Option X) → (IsSome o → ⊥) → o ≡ None
none_of None h = refl
none_of (Some x) h = absurd (h refl)

pub some_of : {X : Type 0} (o : Option X) → IsSome o → (x : X) × (o ≡ Some x)
some_of None h = absurd (true≢false (sym h))
some_of (Some x) h = (x, refl)

module _ (setting : Setting) (w : Worker) (queue : List Block) where
  own_rest : Event
  own_rest = own_or 0 (lowest_open 0 w.allocation) (large_or 0 w.large (Idle 0))

  pub next_race : IsSome w.proposal → next_of_one setting 0 w queue ≡ Race 0
  next_race h = go w.proposal h
    where
      go : (o : Option Proposal) → IsSome o → race_or 0 o (look_or 0 (current_slot setting w) (scan_or 0 w.hand (export_or 0 w.aside (take_or 0 queue (own_or 0 (lowest_open 0 w.allocation) (large_or 0 w.large (Idle 0))))))) ≡ Race 0
      go None h = absurd (true≢false (sym h))
      go (Some p) h = refl

  module _ (no_proposal : w.proposal ≡ None) where
    unproposed : next_of_one setting 0 w queue ≡ look_or 0 (current_slot setting w) (scan_or 0 w.hand (export_or 0 w.aside (take_or 0 queue (own_or 0 (lowest_open 0 w.allocation) (large_or 0 w.large (Idle 0))))))
    unproposed = ap (λ o. race_or 0 o (look_or 0 (current_slot setting w) (scan_or 0 w.hand (export_or 0 w.aside (take_or 0 queue (own_or 0 (lowest_open 0 w.allocation) (large_or 0 w.large (Idle 0)))))))) no_proposal

    pub next_look : IsSome (current_slot setting w) → next_of_one setting 0 w queue ≡ Look 0
    next_look h = let s = some_of (current_slot setting w) h in unproposed ∙ ap (λ o. look_or 0 o (scan_or 0 w.hand (export_or 0 w.aside (take_or 0 queue (own_or 0 (lowest_open 0 w.allocation) (large_or 0 w.large (Idle 0))))))) s.1

    module _ (no_slot : current_slot setting w ≡ None) where
      unlooked : next_of_one setting 0 w queue ≡ scan_or 0 w.hand (export_or 0 w.aside (take_or 0 queue (own_or 0 (lowest_open 0 w.allocation) (large_or 0 w.large (Idle 0)))))
      unlooked = unproposed ∙ ap (λ o. look_or 0 o (scan_or 0 w.hand (export_or 0 w.aside (take_or 0 queue (own_or 0 (lowest_open 0 w.allocation) (large_or 0 w.large (Idle 0))))))) no_slot

      pub next_scan : w.hand ≢ Nothing → next_of_one setting 0 w queue ≡ Scan 0
      next_scan ne = unlooked ∙ go w.hand ne
        where
          go : (h : Hand) → h ≢ Nothing → scan_or 0 h (export_or 0 w.aside (take_or 0 queue (own_or 0 (lowest_open 0 w.allocation) (large_or 0 w.large (Idle 0))))) ≡ Scan 0
          go Nothing ne = absurd (ne refl)
          go (Open d) ne = refl
          go (Holding b) ne = refl
          go (HoldingLarge n) ne = refl

      module _ (no_hand : w.hand ≡ Nothing) where
        unscanned : next_of_one setting 0 w queue ≡ export_or 0 w.aside (take_or 0 queue (own_or 0 (lowest_open 0 w.allocation) (large_or 0 w.large (Idle 0))))
        unscanned = unlooked ∙ ap (λ h. scan_or 0 h (export_or 0 w.aside (take_or 0 queue (own_or 0 (lowest_open 0 w.allocation) (large_or 0 w.large (Idle 0)))))) no_hand

        pub next_export : w.aside ≢ [] → next_of_one setting 0 w queue ≡ Export 0
        next_export ne = unscanned ∙ go w.aside ne
          where
            go : (bs : List Block) → bs ≢ [] → export_or 0 bs (take_or 0 queue (own_or 0 (lowest_open 0 w.allocation) (large_or 0 w.large (Idle 0)))) ≡ Export 0
            go [] ne = absurd (ne refl)
            go (b ∷ bs) ne = refl

        -- its start list is finished too
        pub nothing_left : IsFree w
        nothing_left = record { no_proposal = no_proposal; no_starts = go w.starts no_slot; no_hand = no_hand }
          where
            go : (ts : List ℕ) → slot_of_starts setting (current_object w) w.fields ts ≡ None → ts ≡ []
            go [] e = refl
            go (t ∷ ts) e = absurd (cc)

        module _ (no_aside : w.aside ≡ []) where
          unexported : next_of_one setting 0 w queue ≡ take_or 0 queue (own_or 0 (lowest_open 0 w.allocation) (large_or 0 w.large (Idle 0)))
          unexported = unscanned ∙ ap (λ bs. export_or 0 bs (take_or 0 queue (own_or 0 (lowest_open 0 w.allocation) (large_or 0 w.large (Idle 0))))) no_aside

          pub next_take : queue ≢ [] → next_of_one setting 0 w queue ≡ Take 0 0
          next_take ne = unexported ∙ go queue ne
            where
              go : (bs : List Block) → bs ≢ [] → take_or 0 bs (own_or 0 (lowest_open 0 w.allocation) (large_or 0 w.large (Idle 0))) ≡ Take 0 0
              go [] ne = absurd (ne refl)
              go (b ∷ bs) ne = refl

          module _ (no_queue : queue ≡ []) where
            untaken : next_of_one setting 0 w queue ≡ own_or 0 (lowest_open 0 w.allocation) (large_or 0 w.large (Idle 0))
            untaken = unexported ∙ ap (λ bs. take_or 0 bs (own_or 0 (lowest_open 0 w.allocation) (large_or 0 w.large (Idle 0)))) no_queue

            pub next_own : (d : ℕ) → lowest_open 0 w.allocation ≡ Some d → next_of_one setting 0 w queue ≡ Own 0 d
            next_own d e = untaken ∙ ap (λ o. own_or 0 o (large_or 0 w.large (Idle 0))) e

            pub next_large : lowest_open 0 w.allocation ≡ None → w.large ≢ [] → next_of_one setting 0 w queue ≡ OwnLarge 0
            next_large e ne = untaken ∙ ap (λ o. own_or 0 o (large_or 0 w.large (Idle 0))) e ∙ go w.large ne
              where
                go : (ns : List ℕ) → ns ≢ [] → large_or 0 ns (Idle 0) ≡ OwnLarge 0
                go [] ne = absurd (ne refl)
                go (n ∷ ns) ne = refl

pub empty_of : {X : Type 0} (xs : List X) (b : Bool) → (xs ≢ [] → b ≡ true) → b ≡ false → xs ≡ []
empty_of [] b h e = refl
empty_of (x ∷ xs) b h e = absurd (true≢false (sym (h (λ k. cc)) ∙ e))
