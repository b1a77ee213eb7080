-- What a worker's start slots lead to.
use Rattle.std.proofs.Common.{ℕ, List, map, ap, inl, inr}
use Rattle.std.specs.Prelude.{IsSome, is_some}
use Rattle.model.specs.Graph.{object_at}
use Rattle.model.specs.Live.{Live}
use Rattle.model.specs.Collected.{IsLiveOrOlder}
use Rattle.model.proofs.LiveLemmas.{Live-young}
use Rattle.steps.specs.HeapValue.{HeapValue}
use Rattle.steps.specs.CollectionValue.{CollectionValue, target_of_slot}
use Rattle.workers.specs.Block.{Block, Copy}
use Rattle.workers.specs.Setting.{setting_of}
use Rattle.workers.specs.Worker.{Worker}
use Rattle.workers.specs.WorkerRun.{WorkerRun, History}
use Rattle.workers.specs.System.{opening_worker}
use Rattle.workers.specs.Joined.{Each}
use Rattle.workers.specs.Ready.{IsHanded}
use Rattle.workers.proofs.Kept.{keep, opening_live}
use Rattle.workers.proofs.Lists.{Each-map}
use Rattle.workers.proofs.OwnLive.{OwnLive, BlockLive, run_live}
use Rattle.workers.proofs.Starts.{opens, opening_each}
use Rattle.scavenge.specs.MayStep.{AreThere}
use Rattle.scavenge.specs.ReadyToCollect.{IsReadyToCollect}
use Rattle.scavenge.proofs.Starts.{targets_live}

live_there : (heap : HeapValue) (g name : ℕ) → IsLiveOrOlder heap.graph g name → IsSome (object_at heap.graph name)
live_there heap g name (inl live) = ap is_some (Live-young heap.graph g name live).there
live_there heap g name (inr older) = ap is_some older.there

-- a worker's start slots lead to objects, as those with which it began do
module _ (heap : HeapValue) (c : CollectionValue) (ready : IsReadyToCollect heap c) (d n t : ℕ) where
  handed_live : (blocks : List Block) → Each (IsHanded heap.graph c.generation heap.config.shape heap.config.block_words n) blocks → Each (BlockLive (IsLiveOrOlder heap.graph c.generation)) blocks
  handed_live blocks handed =
      Each-map (IsHanded heap.graph c.generation heap.config.shape heap.config.block_words n) (BlockLive (IsLiveOrOlder heap.graph c.generation))
      (λ b h. Each-map (λ (x : Copy). Live heap.graph c.generation x.name) (λ (x : Copy). IsLiveOrOlder heap.graph c.generation x.name) (λ x live. inl live) b.copies h.live) blocks handed

  pub starts_there : (w : Worker) (h : History) → WorkerRun (setting_of heap.graph c.generation heap.config.shape heap.config.block_words n) (opening_worker d n (map target_of_slot c.slots) t) w h
      → Each (IsHanded heap.graph c.generation heap.config.shape heap.config.block_words n) h.taken → AreThere heap w.starts
  starts_there w h run taken =
      let setting = setting_of heap.graph c.generation heap.config.shape heap.config.block_words n in
      let L : ℕ → Type 0 = IsLiveOrOlder heap.graph c.generation in
      let start : Worker = opening_worker d n (map target_of_slot c.slots) t in
      let begun : Each L start.starts = (opening_each setting L d n (map target_of_slot c.slots) (targets_live heap c ready) t 1).0 in
      let own : OwnLive L w =
      run_live L setting (keep heap.graph c.generation heap.config.shape heap.config.block_words n) run (handed_live h.taken taken)
      (opening_live heap.graph c.generation heap.config.shape heap.config.block_words n start (opens d n (map target_of_slot c.slots) t) begun)
      in
      Each-map L (λ name. IsSome (object_at heap.graph name)) (λ name live. live_there heap c.generation name live) w.starts own.starts
