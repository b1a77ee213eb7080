-- All workers, and what they share.
use Rattle.std.specs.Prelude.{ℕ, zero, suc, ◌+◌, ◌%◌, cond, Bool, false, not, List, [], ◌∷◌, Option, Some, None, replicate, filter, nat_eq, count_by}
use Rattle.std.specs.Ordering.{nat_cmp}
use Rattle.std.specs.FinMap.{find}
use Rattle.workers.specs.Block.{Block}
use Rattle.workers.specs.Worker.{Worker, Nothing}

-- all workers of a collection, and what they share
pub record System : Type 0 where
  pub forwarded : List (ℕ × ℕ)  -- (name, place) of each object that was won
  pub free : List ℕ  -- blocks not yet drawn
  pub workers : List Worker
  pub queues : List (List Block)  -- by exporter, front first
  pub exported : List (List Block)  -- by exporter, each block as it was exported
  pub taken : List (List (ℕ × ℕ))  -- by taker, (exporter, position)
  pub idle : List Bool
  pub ended : List Bool

-- the place that the cell of a name shows
abbrev pub cell_of : System → Option ℕ → Option ℕ
cell_of system None = None
cell_of system (Some name) = find nat_cmp name system.forwarded

-- how many workers are idle
abbrev pub idle_count : System → ℕ
idle_count system = count_by (λ b. b) system.idle

-- the free blocks without that number
abbrev pub without_number : ℕ → List ℕ → List ℕ
without_number number free = filter (λ x. not (nat_eq x number)) free

-- what can come: an action of worker t
pub data Event : Type 0 where
  Look : (t : ℕ) → Event
  Race : (t : ℕ) → Event
  Scan : (t : ℕ) → Event
  Export : (t : ℕ) → Event
  Take : (t u : ℕ) → Event
  Own : (t d : ℕ) → Event
  OwnLarge : (t : ℕ) → Event
  Idle : (t : ℕ) → Event
  Wake : (t : ℕ) → Event
  End : (t : ℕ) → Event

-- every n-th of the slots, from the one at place i on
abbrev pub every : ℕ → ℕ → ℕ → List ℕ → List ℕ
every n t i [] = []
every n t i (x ∷ xs) = cond (nat_eq (i % n) t) (x ∷ every n t (i + 1) xs) (every n t (i + 1) xs)

-- worker t of n as it begins, with every n-th start slot
abbrev pub opening_worker : ℕ → ℕ → List ℕ → ℕ → Worker
opening_worker destinations n slots t =
    record {
      starts = every n t 0 slots;
      fields = 0;
      proposal = None;
      hand = Nothing;
      allocation = replicate destinations None;
      aside = [];
      done = [];
      large = [];
      large_done = [];
      won = [];
      scanned = [];
    }

-- the workers from t on as they begin, so many
abbrev pub opening_workers : ℕ → ℕ → List ℕ → ℕ → ℕ → List Worker
opening_workers destinations n slots t zero = []
opening_workers destinations n slots t (suc k) = opening_worker destinations n slots t ∷ opening_workers destinations n slots (t + 1) k

-- the system as it begins
abbrev pub opening : ℕ → ℕ → List ℕ → List ℕ → System
opening destinations n slots free =
    record {
      forwarded = [];
      free = free;
      workers = opening_workers destinations n slots 0 n;
      queues = replicate n [];
      exported = replicate n [];
      taken = replicate n [];
      idle = replicate n false;
      ended = replicate n false;
    }
