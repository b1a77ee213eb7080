-- What a seat knows of one exporter's queue, and what each call changes of it.
use Rattle.std.specs.Prelude.{◌≡◌, ℕ, ◌+◌, ◌-◌, ◌<◌, Bool, List, [], ◌∷◌, ◌++◌, All, length, nat_lt, slice_get, Option, Some, None, if◌then◌else◌}
use Rattle.crossbeam_queue.specs.SegTies.{SegId}
use Rattle.block_pool.specs.BlockValue.{BlockValue}
use Rattle.model.specs.Total.{one_if}
use Rattle.pending_queues.specs.Labelled.{times_at}

-- what a queue is about: the key, its exporter, and how many seats there are
pub record About (K : Type 0) : Type 0 where
  pub key : K
  pub exporter : ℕ
  pub seats : ℕ

pub record PassValue (A K : Type 0) : Type 0 where
  -- which queue
  pub lane : SegId A
  pub about : About K
  -- how many of the queue's parts it has. Each seat has one
  pub parts : ℕ
  -- 1 where it may send, else 0
  pub senders : ℕ
  -- what was sent, in order, where it may send
  pub sent : List BlockValue
  -- what it took, in order
  pub taken : List BlockValue

-- the position on a label
abbrev pub position_on : Option (ℕ × ℕ) → ℕ
position_on None = 0
position_on (Some label) = label.1

abbrev pub position_of : BlockValue → ℕ
position_of block = position_on block.sent

-- the block has the exporter's label at this position, and meets the fact with the key
pub record Meets {K : Type 0} (fits : K → BlockValue → Type 0) (about : About K) (position : ℕ) (block : BlockValue) : Type 0 where
  pub label : block.sent ≡ Some (about.exporter, position)
  pub fact : fits about.key block

module _ {A K : Type 0} where
  -- the first pass, which has all parts and may send
  abbrev pub first_pass : SegId A → K → ℕ → ℕ → PassValue A K
  first_pass lane key exporter seats = record { lane = lane; about = record { key = key; exporter = exporter; seats = seats }; parts = seats; senders = 1; sent = []; taken = [] }

  -- what is left of a pass that deals a part, and with it the right to send or not
  abbrev pub after_deal : PassValue A K → Bool → PassValue A K
  after_deal p sends = record p { parts = p.parts - 1; senders = if sends then 0 else p.senders }

  abbrev pub dealt : PassValue A K → Bool → PassValue A K
  dealt p sends = record p { parts = 1; senders = one_if sends }

  -- what two passes of one queue know together
  abbrev pub both : PassValue A K → PassValue A K → PassValue A K
  both p q = record p { parts = p.parts + q.parts; senders = p.senders + q.senders; sent = p.sent ++ q.sent; taken = p.taken ++ q.taken }

  -- the pass took a block, whose position is above those that it took before
  pub record Took (fits : K → BlockValue → Type 0) (old : PassValue A K) (block : BlockValue) (new : PassValue A K) : Type 0 where
    pub after : new ≡ record old { taken = old.taken ++ block ∷ [] }
    pub meets : Meets fits old.about (position_of block) block
    pub rises : All (λ b. position_of b < position_of block) old.taken
    -- who sends knows it as the one that was sent there
    pub own : old.senders ≡ 1 → slice_get old.sent (position_of block) ≡ Some block

  -- All parts together: one pass may send; the first blocks were taken, each once, as they were sent
  pub record IsWhole (p : PassValue A K) : Type 0 where
    pub one_sender : p.senders ≡ 1
    pub as_sent : All (λ b. slice_get p.sent (position_of b) ≡ Some b) p.taken
    pub once : (position : ℕ) → times_at p.about.exporter position p.taken ≡ one_if (nat_lt position (length p.taken))
