-- What is made of what threads brought: reports, blocks and places.
use Rattle.std.specs.Prelude.{◌≡◌, ℕ, ◌<◌, List, All, map, flat_map, length, Option}
use Rattle.layout.specs.declared.place.Place.{Place}
use Rattle.block_pool.specs.BlockValue.{BlockValue}
use Rattle.steps.specs.ReportValue.{WorkerLists, all_won, renaming_of}
use Rattle.steps.specs.CollectionValue.{young_names}
use Rattle.workers.specs.Worker.{Worker}
use Rattle.workers.specs.Joined.{Each, blocks_of}
use Rattle.scavenge.specs.Named.{named, IsWhole}
use Rattle.settling.specs.Shown.{AreShown}
use Rattle.workers_in_threads.specs.Threads.{ThreadValue, Gathered}

-- the workers of all threads
abbrev pub workers_of : {P A : Type 0} → List (ThreadValue P A) → List Worker
workers_of rs = map (λ r. r.workspace.worker) rs

-- each reports what it won, by number, and what it scanned; the blocks are those that they leave; and each number has its place, a large object its own
pub record Reported {P A : Type 0} {known : P → ℕ → Option Place} {won : P → List (ℕ × Place)} (all : Gathered P A known won) (reports : List WorkerLists) (blocks : List BlockValue) (places : List (Option Place)) : Type 0 where
  pub won_are : map (λ (l : WorkerLists). renaming_of (young_names all.heap.graph all.collection.generation) l.won) reports ≡ map (λ (w : Worker). w.won) (workers_of all.threads)
  pub scanned_are : map (λ (l : WorkerLists). l.scanned) reports ≡ map (λ (w : Worker). w.scanned) (workers_of all.threads)
  pub numbers : All (λ (e : ℕ × ℕ). e.0 < all.collection.cells) (all_won reports)
  pub left : map (named all.heap.config.shape) blocks ≡ flat_map blocks_of (workers_of all.threads)
  pub whole : Each (IsWhole all.heap.config.shape all.heap.config.block_words) blocks
  pub count : length places ≡ all.collection.cells
  pub shown : AreShown all.heap all.collection (flat_map (λ (w : Worker). w.large_done) (workers_of all.threads)) all.places places
