-- In a run of the system all copies are of live objects, if the slots lead to such.
use Rattle.std.proofs.Common.{◌≡◌, ℕ, zero, suc, true, List, [], ◌∷◌, ◌++◌, Some, sym, subst, set, replicate, length}
use Rattle.std.specs.Prelude.{slice_get}
use Rattle.workers.specs.Block.{Block}
use Rattle.workers.specs.Setting.{Setting, old_field, is_collected}
use Rattle.workers.specs.Worker.{Worker}
use Rattle.workers.specs.WorkerSteps.{cell_wanted}
use Rattle.workers.specs.WorkerRun.{Act, Looked, Raced, Scanned, Exported, Took, Owned, OwnedLarge, after, proposed_name}
use Rattle.workers.specs.System.{System, Event, Look, Race, Scan, Export, Take, Own, OwnLarge, Idle, Wake, End, cell_of, opening, opening_workers}
use Rattle.workers.specs.Steps.{Step}
use Rattle.workers.specs.Steps as steps
use Rattle.workers.specs.Joined.{Each, Part}
use Rattle.workers.proofs.Lists.{Each-append, Each-at, Each-map, Each-set, Each-updated}
use Rattle.workers.proofs.OwnLive.{OwnLive, BlockLive, TakesLive, act_live}
use Rattle.workers.proofs.SystemQueues.{Queues, Sent}

module _ (L : ℕ → Type 0) where
  abbrev BlocksLive : List Block → Type 0
  BlocksLive blocks = Each (BlockLive L) blocks

  pub record AllLive (s : System) : Type 0 where
    pub workers : Each (OwnLive L) s.workers
    pub queues : Each BlocksLive s.queues
    pub exported : Each BlocksLive s.exported

  -- what is taken was exported
  pub taken_live : (s : System) (parts : List Part) → Queues s parts → AllLive s → Each (λ (p : Part). Each (BlockLive L) p.history.taken) parts
  taken_live s parts q k =
      Each-map (λ (p : Part). Each (Sent s.exported) p.history.taken) (λ (p : Part). BlocksLive p.history.taken)
      (λ p h. Each-map (Sent s.exported) (BlockLive L) (λ b x. Each-at (BlockLive L) x.blocks x.i b x.there (Each-at BlocksLive s.exported x.u x.blocks x.exporter k.exported)) p.history.taken h) parts q.sent

  module _ (setting : Setting) (keep : (name i target : ℕ) → L name → old_field setting name i ≡ Some (Some target) → is_collected setting target ≡ true → L target) where
    acts : (s : System) → AllLive s → (t : ℕ) (w : Worker) → slice_get s.workers t ≡ Some w → (act : Act) → TakesLive L setting keep act → Each (OwnLive L) (set s.workers t (after setting w act))
    acts s k t w e act l = Each-set (OwnLive L) s.workers t (after setting w act) (act_live L setting keep w act l (Each-at (OwnLive L) s.workers t w e k.workers)) k.workers

    step_live : (s s' : System) (event : Event) → Step setting s event s' → AllLive s → AllLive s'
    step_live s s' (Look t) r k = subst AllLive (sym r.change) (record { workers = acts s k t r.worker r.at.is (Looked (cell_of s (cell_wanted setting r.worker)) r.number) tt; queues = k.queues; exported = k.exported })
    step_live s s' (Race t) r k = subst AllLive (sym r.change) (record { workers = acts s k t r.worker r.at.is (Raced (cell_of s (Some (proposed_name r.proposal)))) tt; queues = k.queues; exported = k.exported })
    step_live s s' (Scan t) r k = subst AllLive (sym r.change) (record { workers = acts s k t r.worker r.at.is Scanned tt; queues = k.queues; exported = k.exported })
    step_live s s' (Export t) r k =
        let b : BlocksLive (r.block ∷ r.rest) = subst BlocksLive r.oldest (Each-at (OwnLive L) s.workers t r.worker r.at.is k.workers).aside in
        let x : Block = record r.block { sent = Some (t, length r.sent) } in
        let more : (blocks : List Block) → BlocksLive blocks → BlocksLive (blocks ++ x ∷ []) = λ blocks h. Each-append (BlockLive L) blocks (x ∷ []) h (b.0, tt) in
        subst AllLive (sym r.change) (record {
          workers = acts s k t r.worker r.at.is Exported tt;
          queues = Each-updated BlocksLive (λ q. q ++ x ∷ []) more s.queues t k.queues;
          exported = Each-updated BlocksLive (λ q. q ++ x ∷ []) more s.exported t k.exported;
        })
    step_live s s' (Take t u) r k =
        let b : BlocksLive (r.block ∷ r.rest) = Each-at BlocksLive s.queues u (r.block ∷ r.rest) r.front k.queues in
        subst AllLive (sym r.change) (record { workers = acts s k t r.worker r.at.is (Took r.block) b.0; queues = Each-set BlocksLive s.queues u r.rest b.1 k.queues; exported = k.exported })
    step_live s s' (Own t d) r k = subst AllLive (sym r.change) (record { workers = acts s k t r.worker r.at.is (Owned d) tt; queues = k.queues; exported = k.exported })
    step_live s s' (OwnLarge t) r k = subst AllLive (sym r.change) (record { workers = acts s k t r.worker r.at.is OwnedLarge tt; queues = k.queues; exported = k.exported })
    step_live s s' (Idle t) r k = subst AllLive (sym r.change) (record { workers = k.workers; queues = k.queues; exported = k.exported })
    step_live s s' (Wake t) r k = subst AllLive (sym r.change) (record { workers = k.workers; queues = k.queues; exported = k.exported })
    step_live s s' (End t) r k = subst AllLive (sym r.change) (record { workers = k.workers; queues = k.queues; exported = k.exported })

    pub run_all_live : {s s' : System} {events : List Event} → steps.Run setting s events s' → AllLive s → AllLive s'
    run_all_live steps.stay k = k
    run_all_live {s = s} (steps.go {mid = m} {event = event} e rest) k = run_all_live rest (step_live s m event e k)

  pub opening_all_live : (d n : ℕ) (slots free : List ℕ) → Each (OwnLive L) (opening_workers d n slots 0 n) → AllLive (opening d n slots free)
  opening_all_live d n slots free h = record { workers = h; queues = nothing n; exported = nothing n }
    where
      nothing : (k : ℕ) → Each BlocksLive (replicate k [])
      nothing zero = tt
      nothing (suc k) = (tt, nothing k)
