-- In which order the places of a block are scanned, and by whom.
use Rattle.std.specs.Prelude.{◌≡◌, ◌≢◌, ℕ, ◌<◌, List, [], ◌++◌, Option, Some, None, length, map, slice_get}
use Rattle.std.specs.Option.{option_map_or}
use Rattle.workers.specs.Worker.{Worker}
use Rattle.workers.specs.Total.{times}
use Rattle.workers.specs.Ordered.{IsRising, places_in}

-- the places in that block that worker v won, in order
abbrev pub won_by : ℕ → List Worker → ℕ → List ℕ
won_by number workers v = option_map_or (λ (w : Worker). places_in number (map (λ (q : ℕ × ℕ). q.1) w.won)) (slice_get workers v) []

-- the places in that block that worker v scanned, in order
abbrev pub scanned_by : ℕ → List Worker → ℕ → List ℕ
scanned_by number workers v = option_map_or (λ (w : Worker). places_in number w.scanned) (slice_get workers v) []

-- what that other worker scanned in it, if there is one
abbrev pub scanned_next : ℕ → List Worker → Option ℕ → List ℕ
scanned_next number workers None = []
scanned_next number workers (Some v) = scanned_by number workers v

-- in that block only worker t won places, rising ones, which were scanned in that order, the first by t and the rest, if any, by one other
pub record ScansInBlock (number : ℕ) (workers : List Worker) : Type 0 where
  pub t : ℕ
  pub worker : t < length workers
  pub other : Option ℕ
  pub another : other ≢ Some t
  pub wins : (v : ℕ) → v ≢ t → won_by number workers v ≡ []
  pub scans : (v : ℕ) → v ≢ t → other ≢ Some v → scanned_by number workers v ≡ []
  pub rising : IsRising (won_by number workers t)
  pub in_order : scanned_by number workers t ++ scanned_next number workers other ≡ won_by number workers t

-- so it is with each of these blocks
abbrev pub ScansInBlocks : List Worker → List ℕ → Type 0
ScansInBlocks workers free = (number : ℕ) → 0 < times number free → ScansInBlock number workers
