-- Where a worker on a thread of its own is refused a block.
use Rattle.std.specs.Prelude.{◌≡◌, ℕ, ◌≤◌, true, List, length, Option, Some, None, slice_get}
use Rattle.layout.specs.declared.place.Place.{Place}
use Rattle.block_pool.specs.ClaimsValue.{all_drawn}
use Rattle.forwarding.specs.Settled.{all_pairs, wins_of}
use Rattle.steps.specs.HeapValue.{HeapValue}
use Rattle.steps.specs.CollectionValue.{CollectionValue}
use Rattle.workers.specs.WorkerSteps.{draw_wanted, CanLook}
use Rattle.scavenge.specs.ReadyToCollect.{IsReadyToCollect}
use Rattle.workers_in_threads.specs.SharingValue.{setting_for}
use Rattle.workers_in_threads.specs.Threads.{ThreadValue, AreThreads, passes_of, draws_of}

-- n workers, wherever each stopped: all free blocks were drawn, nothing was won twice, and one can look and wants a block
pub record Refusing (P A : Type 0) (known : P → ℕ → Option Place) (won : P → List (ℕ × Place)) : Type 0 where
  pub heap : HeapValue
  pub collection : CollectionValue
  pub workers : ℕ
  pub threads : List (ThreadValue P A)
  pub ready : IsReadyToCollect heap collection
  pub count : length threads ≡ workers
  pub each : AreThreads known won heap collection workers 0 threads
  pub won_least : (number : ℕ) → wins_of number (all_pairs won (passes_of threads)) ≤ 1
  pub drawn : length (all_drawn (draws_of threads)) ≡ length heap.free
  pub t : ℕ
  pub thread : ThreadValue P A
  pub there : slice_get threads t ≡ Some thread
  pub can : CanLook (setting_for heap collection workers) thread.workspace.worker
  pub wanted : draw_wanted (setting_for heap collection workers) thread.workspace.worker None ≡ true
