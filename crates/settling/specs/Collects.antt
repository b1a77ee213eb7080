-- What a collection leaves and reports, and what one worker by itself does.
use Rattle.std.specs.Prelude.{◌≡◌, ℕ, ◌+◌, ◌<◌, ◌≤◌, Bool, List, [], ◌∷◌, length, map, flat_map, filter, not, nat_lt, sum_by}
use Rattle.model.specs.LiveCount.{LiveCount, LiveWords}
use Rattle.model.specs.SpaceBound.{space_bound}
use Rattle.model.specs.Destination.{dest_count}
use Rattle.layout.specs.Place.{large_word}
use Rattle.heap.specs.HeapValue.{HeapValue}
use Rattle.heap.specs.ReportValue.{WorkerLists, all_won, renaming_of}
use Rattle.heap.specs.CollectionValue.{young_names, slots_of, target_of_slot}
use Rattle.heap.specs.CollectedHeap.{CollectedHeap}
use Rattle.steps.specs.declared.heap_values.report.Delivery.{Delivery}
use Rattle.workers.specs.Block.{Block}
use Rattle.workers.specs.Setting.{Setting, setting_of}
use Rattle.workers.specs.Worker.{Worker}
use Rattle.workers.specs.System.{System, opening}
use Rattle.workers.specs.Total.{times, wins_of}
use Rattle.workers.specs.Lawful.{AllEnded, next_alone}
use Rattle.workers.specs.Finish.{Stepped, IsStuck}
use Rattle.settling.specs.OwnDeliveries.{own_deliveries}

-- the word of a small place is below those of the large ones
abbrev pub is_small_word : ℕ → Bool
is_small_word word = nat_lt word (large_word 0)

-- the places that were won, in order
abbrev pub won_places : WorkerLists → List ℕ
won_places lists = map (λ e. e.1) lists.won

-- the places scanned are the places won, the small ones in the same order, and likewise the large ones
pub record ScansInOrder (lists : WorkerLists) : Type 0 where
  pub small : filter is_small_word lists.scanned ≡ filter is_small_word (won_places lists)
  pub large : filter (λ w. not (is_small_word w)) lists.scanned ≡ filter (λ w. not (is_small_word w)) (won_places lists)

-- what n workers see of the heap
abbrev pub setting_at : HeapValue → ℕ → ℕ → Setting
setting_at heap g n = setting_of heap.graph g heap.config.shape heap.config.block_words n

-- how n workers begin: at the targets of the roots and of the old slots
abbrev pub opening_at : HeapValue → ℕ → ℕ → System
opening_at heap g n = opening (dest_count heap.config.shape g) n (map target_of_slot (slots_of heap g)) heap.free

-- the lists and the deliveries are those of a run of one worker, each event the next in its order, to its end
pub record RunsAlone (heap : HeapValue) (g : ℕ) (lists : WorkerLists) (deliveries : List Delivery) : Type 0 where
  pub count : ℕ
  pub last : System
  pub run : Stepped (setting_at heap g 1) (next_alone (setting_at heap g 1)) (opening_at heap g 1) count last
  pub ended : AllEnded last
  pub worker : Worker
  pub worker_is : last.workers ≡ worker ∷ []
  pub won : renaming_of (young_names heap.graph g) lists.won ≡ worker.won
  pub scanned : lists.scanned ≡ worker.scanned
  pub exports : List Block
  pub exports_are : last.exported ≡ exports ∷ []
  pub deliveries_are : deliveries ≡ own_deliveries exports

-- one worker reports what it did by itself, and with one destination it scanned in order
pub record ScansAlone (heap : HeapValue) (g : ℕ) (workers : List WorkerLists) (deliveries : List Delivery) : Type 0 where
  pub lists : WorkerLists
  pub alone : workers ≡ lists ∷ []
  pub runs : RunsAlone heap g lists deliveries
  pub order : dest_count heap.config.shape g ≡ 1 → ScansInOrder lists

-- each name is won at most once, and each place that is won is scanned as often as it is won, by all workers together
pub record ScansOnce (heap : HeapValue) (g : ℕ) (workers : List WorkerLists) : Type 0 where
  pub won_once : (name : ℕ) → wins_of name (renaming_of (young_names heap.graph g) (all_won workers)) ≤ 1
  pub scanned_once : (place : ℕ) → times place (flat_map (λ (w : WorkerLists). w.scanned) workers) ≡ times place (map (λ (e : ℕ × ℕ). e.1) (all_won workers))

-- fewer blocks were free than the space bound of the live words for one worker
abbrev pub IsShortOfBlocks : HeapValue → ℕ → Type 0
IsShortOfBlocks heap g = (words : ℕ) → LiveWords heap.graph g heap.config.block_words words → length heap.free < space_bound words heap.config.block_words 1 (dest_count heap.config.shape g)

-- one worker by itself, each event the next in its order, came to a look that wants a block where none is free
pub record IsStuckAlone (heap : HeapValue) (g : ℕ) : Type 0 where
  pub count : ℕ
  pub last : System
  pub run : Stepped (setting_at heap g 1) (next_alone (setting_at heap g 1)) (opening_at heap g 1) count last
  pub stuck : IsStuck (setting_at heap g 1) (next_alone (setting_at heap g 1)) last

-- workers collected the generations 0 to g, and report so: what they won is the renaming of the live objects
pub record Collects (old : HeapValue) (g : ℕ) (kept freed : ℕ) (workers : List WorkerLists) (new : HeapValue) : Type 0 where
  pub heap : CollectedHeap old g (renaming_of (young_names old.graph g) (all_won workers)) new
  pub kept_is : LiveCount old.graph g kept
  pub kept_sum : kept ≡ sum_by (λ (w : WorkerLists). length w.won) workers
  pub freed_is : kept + freed ≡ length (young_names old.graph g)
  pub once : ScansOnce old g workers

-- one worker did, by itself
pub record CollectsAlone (old : HeapValue) (g : ℕ) (kept freed : ℕ) (workers : List WorkerLists) (deliveries : List Delivery) (new : HeapValue) : Type 0 where
  pub collects : Collects old g kept freed workers new
  pub scans : ScansAlone old g workers deliveries
