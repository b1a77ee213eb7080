-- What workers on threads of their own leave and report.
use Rattle.std.specs.Prelude.{◌≡◌, ◌⊎◌, ℕ, ◌+◌, ◌<◌, true, List, [], ◌∷◌, length, map, flat_map, Option, Some, None, slice_get}
use Rattle.model.specs.LiveCount.{LiveWords}
use Rattle.model.specs.SpaceBound.{space_bound}
use Rattle.model.specs.Destination.{dest_count}
use Rattle.steps.specs.HeapValue.{HeapValue}
use Rattle.steps.specs.ReportValue.{WorkerLists}
use Rattle.steps.specs.CollectionValue.{slots_of, target_of_slot}
use Rattle.steps.specs.declared.heap_values.report.Delivery.{Delivery}
use Rattle.workers.specs.Block.{Block, has_unscanned}
use Rattle.workers.specs.Joined.{Each, Part}
use Rattle.workers.specs.Kept.{won_lists}
use Rattle.workers.specs.Refused.{Refused}
use Rattle.workers.specs.Ordered.{TurnRun}
use Rattle.workers.specs.Scans.{ScansInBlocks}
use Rattle.workers.specs.System.{System, opening_worker}
use Rattle.workers.specs.Taken.{AreTakenInOrder}
use Rattle.workers.specs.Worker.{Worker}
use Rattle.workers.specs.WorkerSteps.{CanLook}
use Rattle.scavenge.specs.Waiting.{left_of}
use Rattle.settling.specs.Collects.{Collects, ScansAlone, setting_at, IsStuckAlone}
use Rattle.settling.specs.Together.{Reports}
use Rattle.workers_in_threads.specs.SharingValue.{labelled_from}
use Rattle.workers_in_threads.specs.LastPlaces.{last_places, StandInOrder}

-- all workers' exports, each with its label, from worker u on
abbrev pub exports_from : ℕ → List Part → List (List Block)
exports_from u [] = []
exports_from u (p ∷ ps) = labelled_from u 0 p.history.exported ∷ exports_from (u + 1) ps

-- a label in front of labels, where there is one
abbrev pub label_first : Option (ℕ × ℕ) → List (ℕ × ℕ) → List (ℕ × ℕ)
label_first None labels = labels
label_first (Some label) labels = label ∷ labels

-- the labels of blocks
abbrev pub labels_on : List Block → List (ℕ × ℕ)
labels_on [] = []
labels_on (b ∷ bs) = label_first b.sent (labels_on bs)

-- the workers as each ended
abbrev pub finals_of : List Part → List Worker
finals_of parts = map (λ (p : Part). p.final) parts

-- where workers stand who joined with these parts: each ended, and no queue holds a block
abbrev pub state_of : HeapValue → List Part → System
state_of heap parts =
    record {
      forwarded = won_lists parts;
      free = left_of heap.free (flat_map (λ (p : Part). p.history.drawn) parts);
      workers = finals_of parts;
      queues = map (λ (p : Part). []) parts;
      exported = exports_from 0 parts;
      taken = map (λ (p : Part). labels_on p.history.taken) parts;
      idle = map (λ (p : Part). true) parts;
      ended = map (λ (p : Part). true) parts;
    }

-- n workers on threads of their own report: each went on by itself from its share of the start; the lists and deliveries are those of where they stand together; each copy was scanned in the order of its block; each export was taken once, in its order; and of the blocks that one worker took, each with a copy not yet scanned, the last places stand in its scanned list in the order in which it took them
pub record ReportsApart (heap : HeapValue) (g n : ℕ) (reports : List WorkerLists) (deliveries : List Delivery) : Type 0 where
  pub parts : List Part
  pub many : length parts ≡ n
  pub starts : (t : ℕ) (part : Part) → slice_get parts t ≡ Some part → part.start ≡ opening_worker (dest_count heap.config.shape g) n (map target_of_slot (slots_of heap g)) t
  pub runs : (t : ℕ) (part : Part) → slice_get parts t ≡ Some part → TurnRun (setting_at heap g n) t part
  pub reports_are : Reports heap g (state_of heap parts) reports deliveries
  pub in_order : ScansInBlocks (finals_of parts) heap.free
  pub taken : AreTakenInOrder (state_of heap parts)
  pub unscanned : (t : ℕ) (part : Part) → slice_get parts t ≡ Some part → Each (λ (b : Block). has_unscanned b ≡ true) part.history.taken
  pub lasts_in_order : (t : ℕ) (part : Part) → slice_get parts t ≡ Some part → StandInOrder (last_places part.history.taken) part.final.scanned

-- fewer blocks were free than the space bound of the live words for n workers
abbrev pub IsShortOfBlocksFor : HeapValue → ℕ → ℕ → Type 0
IsShortOfBlocksFor heap g n = (words : ℕ) → LiveWords heap.graph g heap.config.block_words words → length heap.free < space_bound words heap.config.block_words n (dest_count heap.config.shape g)

-- of n workers on threads of their own, each of which went on from its share of the start and stands anywhere, one can look at a slot whose copy wants a block, and each block that was free was drawn
pub record IsStuckApart (heap : HeapValue) (g n : ℕ) : Type 0 where
  pub parts : List Part
  pub many : length parts ≡ n
  pub starts : (t : ℕ) (part : Part) → slice_get parts t ≡ Some part → part.start ≡ opening_worker (dest_count heap.config.shape g) n (map target_of_slot (slots_of heap g)) t
  pub refused : Refused heap.graph g heap.config.shape heap.config.block_words n (dest_count heap.config.shape g) (length heap.free) parts
  pub can : CanLook (setting_at heap g n) refused.part.final

-- n workers came to that; or, where one left early though none was refused anything, one worker by itself did
abbrev pub IsStuckFor : HeapValue → ℕ → ℕ → Type 0
IsStuckFor heap g n = IsStuckApart heap g n ⊎ IsStuckAlone heap g

-- n workers on threads of their own collected the generations 0 to g and report so; or, where one left early though none was refused anything, one worker did it by itself
pub record CollectsApart (old : HeapValue) (g n kept freed : ℕ) (workers : List WorkerLists) (deliveries : List Delivery) (new : HeapValue) : Type 0 where
  pub collects : Collects old g kept freed workers new
  pub told : ReportsApart old g n workers deliveries ⊎ ScansAlone old g workers deliveries
