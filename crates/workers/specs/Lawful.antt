-- Which events are lawful, and which one comes next by itself.
use Rattle.std.specs.Prelude.{◌≡◌, ◌≢◌, ℕ, zero, suc, ◌+◌, ◌<◌, ◌⊎◌, Bool, true, false, List, [], ◌∷◌, length, Option, Some, None, IsSome, is_some, if◌then◌else◌, slice_get, option_and_then}
use Rattle.std.specs.Option.{option_map, option_map_or}
use Rattle.workers.specs.Block.{Block, has_unscanned}
use Rattle.workers.specs.Setting.{Setting}
use Rattle.workers.specs.Worker.{Worker, Proposal, Hand, Nothing, Open, Holding, HoldingLarge}
use Rattle.workers.specs.WorkerSteps.{current_slot, cell_wanted, draw_wanted, CanLook, CanScan, IsFree, IsOutOfWork, has_open_work}
use Rattle.workers.specs.System.{System, Event, Look, Race, Scan, Export, Take, Own, OwnLarge, Idle, Wake, End, cell_of, idle_count}
use Rattle.workers.specs.Steps.{IsAwake}

-- worker t isn't idle, and is in such a state
pub record MayAct (P : Worker → Type 0) (system : System) (t : ℕ) : Type 0 where
  pub worker : Worker
  pub at : IsAwake system t worker
  pub can : P worker

-- there is a block at the front of that queue
pub record HasQueued (system : System) (u : ℕ) : Type 0 where
  pub block : Block
  pub rest : List Block
  pub front : slice_get system.queues u ≡ Some (block ∷ rest)

-- the worker is idle, hasn't ended, and some worker is not idle
pub record MayWake (system : System) (t : ℕ) : Type 0 where
  pub is_idle : slice_get system.idle t ≡ Some true
  pub not_ended : slice_get system.ended t ≡ Some false
  pub some_work : idle_count system < length system.workers

-- the worker is idle, hasn't ended, and all are idle
pub record MayEnd (system : System) (t : ℕ) : Type 0 where
  pub is_idle : slice_get system.idle t ≡ Some true
  pub not_ended : slice_get system.ended t ≡ Some false
  pub all_idle : idle_count system ≡ length system.workers

-- the event may come now
abbrev pub IsLawful : Setting → System → Event → Type 0
IsLawful setting system (Look t) = MayAct (CanLook setting) system t
IsLawful setting system (Race t) = MayAct (λ w. IsSome w.proposal) system t
IsLawful setting system (Scan t) = MayAct (CanScan setting) system t
IsLawful setting system (Export t) = MayAct (λ w. w.aside ≢ []) system t
IsLawful setting system (Take t u) = MayAct IsFree system t × HasQueued system u
IsLawful setting system (Own t d) = MayAct (λ w. IsFree w × (has_open_work w d ≡ true)) system t
IsLawful setting system (OwnLarge t) = MayAct (λ w. IsFree w × (w.large ≢ [])) system t
IsLawful setting system (Idle t) = MayAct IsOutOfWork system t × (slice_get system.queues t ≡ Some [])
IsLawful setting system (Wake t) = MayWake system t
IsLawful setting system (End t) = MayEnd system t

-- a lawful look that wants a block where none is free
pub record IsRefused (setting : Setting) (system : System) (event : Event) : Type 0 where
  pub t : ℕ
  pub worker : Worker
  pub look : event ≡ Look t
  pub at : IsAwake system t worker
  pub can : CanLook setting worker
  pub wanted : draw_wanted setting worker (cell_of system (cell_wanted setting worker)) ≡ true
  pub none_free : system.free ≡ []

-- an event of worker t where there is cause for it, else the rest
abbrev pub race_or : ℕ → Option Proposal → Event → Event
race_or t None rest = rest
race_or t (Some p) rest = Race t

abbrev pub look_or : ℕ → Option (Option ℕ) → Event → Event
look_or t None rest = rest
look_or t (Some o) rest = Look t

abbrev pub scan_or : ℕ → Hand → Event → Event
scan_or t Nothing rest = rest
scan_or t (Open d) rest = Scan t
scan_or t (Holding b) rest = Scan t
scan_or t (HoldingLarge n) rest = Scan t

abbrev pub export_or : ℕ → List Block → Event → Event
export_or t [] rest = rest
export_or t (b ∷ bs) rest = Export t

abbrev pub own_or : ℕ → Option ℕ → Event → Event
own_or t None rest = rest
own_or t (Some d) rest = Own t d

abbrev pub large_or : ℕ → List ℕ → Event → Event
large_or t [] rest = rest
large_or t (n ∷ ns) rest = OwnLarge t

abbrev pub take_or : ℕ → List Block → Event → Event
take_or t [] rest = rest
take_or t (b ∷ bs) rest = Take t t

abbrev pub is_open : Option Block → Bool
is_open o = is_some (option_and_then (λ b. if has_unscanned b then Some b else None) o)

-- the lowest destination whose block has something to scan, the first being number d
abbrev pub lowest_open : ℕ → List (Option Block) → Option ℕ
lowest_open d [] = None
lowest_open d (o ∷ os) = if is_open o then Some d else lowest_open (d + 1) os

-- the next event of worker t that isn't idle, whose queue is this
abbrev pub next_of_worker : Setting → ℕ → Worker → List Block → Event
next_of_worker setting t w queue =
    race_or t w.proposal (look_or t (current_slot setting w) (scan_or t w.hand (export_or t w.aside
    (own_or t (lowest_open 0 w.allocation) (large_or t w.large (take_or t queue (Idle t)))))))

-- that of a worker by itself, which first takes back what it exported
abbrev pub next_of_one : Setting → ℕ → Worker → List Block → Event
next_of_one setting t w queue =
    race_or t w.proposal (look_or t (current_slot setting w) (scan_or t w.hand (export_or t w.aside
    (take_or t queue (own_or t (lowest_open 0 w.allocation) (large_or t w.large (Idle t)))))))

abbrev pub lowest_unset : ℕ → List Bool → Option ℕ
lowest_unset t [] = None
lowest_unset t (false ∷ bs) = Some t
lowest_unset t (true ∷ bs) = lowest_unset (t + 1) bs

abbrev pub queue_at : System → ℕ → List Block
queue_at system t = option_map_or (λ q. q) (slice_get system.queues t) []

-- of the lowest worker that isn't idle, else an end
abbrev pub next_from : System → (ℕ → Worker → List Block → Event) → Option ℕ → Option Event
next_from system next (Some t) = option_map (λ w. next t w (queue_at system t)) (slice_get system.workers t)
next_from system next None = option_map End (lowest_unset 0 system.ended)

abbrev pub next_lawful : Setting → System → Option Event
next_lawful setting system = next_from system (next_of_worker setting) (lowest_unset 0 system.idle)

abbrev pub next_alone : Setting → System → Option Event
next_alone setting system = next_from system (next_of_one setting) (lowest_unset 0 system.idle)

-- every worker ended
abbrev pub AllEnded : System → Type 0
AllEnded system = (t : ℕ) → t < length system.workers → slice_get system.ended t ≡ Some true

-- what comes next is lawful, and nothing comes where all ended
abbrev pub IsNext : Setting → System → Option Event → Type 0
IsNext setting system None = AllEnded system
IsNext setting system (Some event) = IsLawful setting system event

abbrev pub IsEnd : Event → Type 0
IsEnd (End t) = Unit {0}
IsEnd _ = ⊥

-- the first event of the list with the property
abbrev pub IsFirst : (Event → Type 0) → List Event → Event → Type 0
IsFirst P [] event = ⊥
IsFirst P (e ∷ es) event = (P e × (event ≡ e)) ⊎ ((P e → ⊥) × IsFirst P es event)

-- so many destinations from number d on
abbrev pub own_events : ℕ → ℕ → ℕ → List Event → List Event
own_events t d zero rest = rest
own_events t d (suc k) rest = Own t d ∷ own_events t (d + 1) k rest

abbrev pub order_of_worker : ℕ → ℕ → List Event
order_of_worker t destinations = Race t ∷ Look t ∷ Scan t ∷ Export t ∷ own_events t 0 destinations (OwnLarge t ∷ Take t t ∷ Idle t ∷ [])

abbrev pub order_of_one : ℕ → ℕ → List Event
order_of_one t destinations = Race t ∷ Look t ∷ Scan t ∷ Export t ∷ Take t t ∷ own_events t 0 destinations (OwnLarge t ∷ Idle t ∷ [])

-- the first lawful event in the order, of the lowest worker that isn't idle
pub record IsFirstAwake (setting : Setting) (order : ℕ → ℕ → List Event) (system : System) (event : Event) : Type 0 where
  pub t : ℕ
  pub worker : Worker
  pub at : IsAwake system t worker
  pub lower_idle : (v : ℕ) → v < t → slice_get system.idle v ≡ Some true
  pub first : IsFirst (IsLawful setting system) (order t (length worker.allocation)) event

-- all are idle, and it ends the lowest that hasn't ended
pub record IsFirstEnd (system : System) (event : Event) : Type 0 where
  pub t : ℕ
  pub all_idle : idle_count system ≡ length system.workers
  pub not_ended : slice_get system.ended t ≡ Some false
  pub lower_ended : (v : ℕ) → v < t → slice_get system.ended v ≡ Some true
  pub ends : event ≡ End t

abbrev pub IsChosen : Setting → (ℕ → ℕ → List Event) → System → Option Event → Type 0
IsChosen setting order system None = AllEnded system
IsChosen setting order system (Some event) = IsFirstAwake setting order system event ⊎ IsFirstEnd system event
