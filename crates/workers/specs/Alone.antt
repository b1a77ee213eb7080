-- What a run that ended brings, and in which order one worker scans.
use Rattle.std.specs.Prelude.{◌≡◌, ℕ, ◌+◌, ◌<◌, Bool, true, false, not, List, None, map, filter}
use Rattle.std.specs.Ordering.{nat_cmp}
use Rattle.std.specs.FinMap.{find}
use Rattle.model.specs.Graph.{Graph, object_at}
use Rattle.model.specs.Live.{IsStart}
use Rattle.model.specs.Destination.{Shape}
use Rattle.layout.specs.Place.{small_word}
use Rattle.workers.specs.Setting.{Setting, is_large_name}
use Rattle.workers.specs.Worker.{Worker}
use Rattle.workers.specs.System.{System, opening_workers}
use Rattle.workers.specs.Total.{times}
use Rattle.workers.specs.Joined.{Part}
use Rattle.workers.specs.Kept.{Brought}
use Rattle.workers.specs.Ordered.{draws_of}

-- each start of the collection is among the slots
abbrev pub HasStarts : Graph → ℕ → List ℕ → Type 0
HasStarts graph g slots = (target : ℕ) → IsStart graph g target → 0 < times target slots

-- nothing stands in a free block
abbrev pub AreEmpty : Graph → List ℕ → Type 0
AreEmpty graph free = (number offset : ℕ) → 0 < times number free → offset < 65536 → object_at graph (small_word number offset) ≡ None

-- its workers' parts, which brought together what a collection keeps, each name at the place that its cell holds
pub record RunBrings (graph : Graph) (g : ℕ) (shape : Shape) (block_words d n : ℕ) (slots free : List ℕ) (s : System) : Type 0 where
  pub parts : List Part
  pub brought : Brought graph g shape block_words n (λ name. find nat_cmp name s.forwarded) parts
  pub starts : map (λ (p : Part). p.start) parts ≡ opening_workers d n slots 0 n
  pub workers : map (λ (p : Part). p.final) parts ≡ s.workers
  pub drawn : (number : ℕ) → 0 < draws_of number parts → 0 < times number free
  pub not_drawn : (number : ℕ) → draws_of number parts + times number s.free ≡ times number free

-- a test of places: those in free blocks are small, and the names of large objects, which are their places, aren't
pub record TellsSmall (setting : Setting) (free : List ℕ) (small : ℕ → Bool) : Type 0 where
  pub in_block : (number offset : ℕ) → 0 < times number free → offset < 65536 → small (small_word number offset) ≡ true
  pub large : (name : ℕ) → is_large_name setting name ≡ true → small name ≡ false

-- small objects were scanned in the order in which they were copied, and large ones in the order in which they were claimed
pub record ScannedInOrder (small : ℕ → Bool) (w : Worker) : Type 0 where
  pub small_ones : filter small w.scanned ≡ filter small (map (λ (q : ℕ × ℕ). q.1) w.won)
  pub large_ones : filter (λ place. not (small place)) w.scanned ≡ filter (λ place. not (small place)) (map (λ (q : ℕ × ℕ). q.1) w.won)
