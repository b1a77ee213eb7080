-- Queues of one thread, as callers see them.
use Rattle.std.specs.Prelude.{ℕ, List, [], ◌∷◌, ◌++◌, length, replicate, slice_get, slice_set, slice_index_or, Option, Some, None}
use Rattle.block_pool.specs.BlockValue.{BlockValue}
use Rattle.pending_queues.specs.Labelled.{labelled}
use Rattle.pending_queues.specs.declared.exports.deliveries.Delivery.{Delivery}

-- one exporter's queue
pub record PlainLane : Type 0 where
  -- the blocks that were exported, in order, each with its label
  pub sent : List BlockValue
  -- the numbers of the seats that took the first of them, in order
  pub takers : List ℕ

pub record PlainValue (K : Type 0) : Type 0 where
  pub key : K
  pub lanes : List PlainLane

abbrev pub empty_lane : PlainLane
empty_lane = record { sent = []; takers = [] }

-- the block at the front of a queue, if it has one: the first that nobody took
abbrev pub front_of : PlainLane → Option BlockValue
front_of lane = slice_get lane.sent (length lane.takers)

abbrev pub with_export : PlainLane → ℕ → BlockValue → PlainLane
with_export lane exporter block = record lane { sent = lane.sent ++ labelled exporter (length lane.sent) block ∷ [] }

-- the lane after a take that found this at its front
abbrev pub with_taker : PlainLane → ℕ → Option BlockValue → PlainLane
with_taker lane taker None = lane
with_taker lane taker (Some block) = record lane { takers = lane.takers ++ taker ∷ [] }

-- what became of the blocks that were sent: the first were taken, each by its taker, and the others are left
abbrev pub outcomes : List BlockValue → List ℕ → List Delivery
outcomes [] takers = []
outcomes (block ∷ blocks) [] = record { objects = length block.objects; taker = None } ∷ outcomes blocks []
outcomes (block ∷ blocks) (taker ∷ takers) = record { objects = length block.objects; taker = Some taker } ∷ outcomes blocks takers

abbrev pub outcomes_of : PlainLane → List Delivery
outcomes_of lane = outcomes lane.sent lane.takers

module _ {K : Type 0} where
  -- empty queues
  abbrev pub new_pending : K → ℕ → PlainValue K
  new_pending key count = record { key = key; lanes = replicate count empty_lane }

  abbrev pub lane_at : PlainValue K → ℕ → PlainLane
  lane_at pending exporter = slice_index_or pending.lanes exporter empty_lane

  -- the exporter's next export, labelled
  abbrev pub next_of : PlainValue K → ℕ → BlockValue → BlockValue
  next_of pending exporter block = labelled exporter (length (lane_at pending exporter).sent) block

  abbrev pub after_export : PlainValue K → ℕ → BlockValue → PlainValue K
  after_export pending exporter block =
      record pending { lanes = slice_set pending.lanes exporter (with_export (lane_at pending exporter) exporter block) }

  -- the queues after a take that gave this
  abbrev pub after_take : PlainValue K → ℕ → ℕ → Option BlockValue → PlainValue K
  after_take pending exporter taker given =
      record pending { lanes = slice_set pending.lanes exporter (with_taker (lane_at pending exporter) taker given) }
