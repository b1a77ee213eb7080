-- How much is left to do. Each event but a wake makes it less.
use Rattle.std.specs.Prelude.{◌≡◌, ℕ, zero, suc, ◌+◌, ◌-◌, ◌*◌, ◌<◌, true, not, cond, List, [], ◌∷◌, length, Option, Some, None, is_some, map, filter, nat_le}
use Rattle.std.specs.Ordering.{nat_cmp}
use Rattle.std.specs.FinMap.{find, entries}
use Rattle.model.specs.Graph.{Graph, Object}
use Rattle.workers.specs.Block.{Block, Copy}
use Rattle.workers.specs.Setting.{Setting, old_pointers, is_collected}
use Rattle.workers.specs.Worker.{Worker, Proposal, Hand, Nothing, Open, Holding, HoldingLarge}
use Rattle.workers.specs.System.{System, Event, Wake}
use Rattle.workers.specs.Total.{total, one_if, times}

-- two events for each pointer of an object, and what scanning it may add
abbrev pub weight : Setting → ℕ → ℕ
weight setting name = 4 * length (old_pointers setting name) + 2

-- over all but the first so many
abbrev pub rest_total : {A : Type 0} → (A → ℕ) → ℕ → List A → ℕ
rest_total f n [] = 0
rest_total f zero (x ∷ xs) = f x + rest_total f zero xs
rest_total f (suc n) (x ∷ xs) = rest_total f n xs

abbrev pub unscanned_weight : Setting → Block → ℕ
unscanned_weight setting block = rest_total (λ (c : Copy). weight setting c.name) block.front block.copies

abbrev pub hand_weight : Setting → Hand → ℕ
hand_weight setting Nothing = 1
hand_weight setting (Open d) = 0
hand_weight setting (Holding block) = unscanned_weight setting block
hand_weight setting (HoldingLarge name) = weight setting name

abbrev pub proposal_weight : Option Proposal → ℕ
proposal_weight None = 3
proposal_weight (Some p) = 0

abbrev pub open_weight : Setting → Option Block → ℕ
open_weight setting None = 0
open_weight setting (Some block) = unscanned_weight setting block

-- with each pointer of its current object
abbrev pub worker_weight : Setting → Worker → ℕ
worker_weight setting w =
    4 * length w.starts + proposal_weight w.proposal + hand_weight setting w.hand + total (open_weight setting) w.allocation
    + total (λ b. unscanned_weight setting b + 2) w.aside + total (weight setting) w.large

-- less the pointers that are finished
abbrev pub worker_left : Setting → Worker → ℕ
worker_left setting w = worker_weight setting w - 4 * w.fields

abbrev pub queue_weight : Setting → List Block → ℕ
queue_weight setting queue = total (λ b. unscanned_weight setting b + 1) queue

-- what wasn't won yet, of those names
abbrev pub unwon_weight : Setting → List (ℕ × ℕ) → List ℕ → ℕ
unwon_weight setting forwarded names = total (λ n. cond (is_some (find nat_cmp n forwarded)) 0 (weight setting n)) names

abbrev pub work_left : Setting → List ℕ → System → ℕ
work_left setting names s = total (worker_left setting) s.workers + total (queue_weight setting) s.queues + unwon_weight setting s.forwarded names

-- the workers not idle and those not ended
abbrev pub flags_left : System → ℕ
flags_left s = total (λ b. one_if (not b)) s.idle + total (λ b. one_if (not b)) s.ended

abbrev pub measure : Setting → List ℕ → System → ℕ
measure setting names s = work_left setting names s + flags_left s

-- every collected object is among them
abbrev pub Covers : Setting → List ℕ → Type 0
Covers setting names = (name : ℕ) → is_collected setting name ≡ true → 0 < times name names

abbrev pub IsWake : Event → Type 0
IsWake (Wake t) = Unit {0}
IsWake _ = ⊥

-- how many of the events are wakes
abbrev pub one_wake : Event → ℕ
one_wake (Wake t) = 1
one_wake _ = 0

abbrev pub wakes : List Event → ℕ
wakes events = total one_wake events

-- n workers, those slots and objects
abbrev pub measure_bound : Setting → ℕ → List ℕ → List ℕ → ℕ
measure_bound setting n slots names = 6 * n + 4 * length slots + total (weight setting) names

-- the names of a graph's objects that are collected
abbrev pub young_names_of : Graph → ℕ → List ℕ
young_names_of graph g = map (λ (e : ℕ × Object). e.0) (filter (λ (e : ℕ × Object). nat_le e.1.generation g) (entries graph.objects))
