-- The rule of one queue: what was sent is what was taken, each block by one seat, and behind it what the queue holds.
use Rattle.std.specs.Prelude.{◌≡◌, ℕ, ◌+◌, ◌-◌, ◌<◌, Option, Some, None, List, [], ◌∷◌, ◌++◌, All, length, nat_lt, slice_get, is_some, true, ⊤}
use mathlib.Core.Option.{some}
use mathlib.Core.Bool.{true≢false}
use mathlib.Core.Path.{sym}
use lib.ListN.{get_elem?}
use Rattle.crossbeam_queue.specs.SegTies.{SegId}
use Rattle.model.specs.Total.{total, one_if}
use Rattle.block_pool.specs.BlockValue.{BlockValue}
use Rattle.pending_queues.specs.Labelled.{times_at}
use Rattle.pending_queues.specs.PassValue.{About, PassValue, Meets, position_of}
use Rattle.pending_queues.specs.declared.lanes.view.View.{View}

-- the block is in the list at its position
abbrev pub StandsIn : List BlockValue → BlockValue → Type 0
StandsIn blocks block = slice_get blocks (position_of block) ≡ Some block

module _ {K : Type 0} where
  -- a queue's key, exporter and number of seats
  abbrev pub about_of : K × ℕ × ℕ → About K
  about_of a = record { key = a.0; exporter = a.1; seats = a.2 }

  -- how many parts there are: one for each seat, and one until the queue is named
  abbrev pub parts_of : Option (K × ℕ × ℕ) → ℕ
  parts_of None = 1
  parts_of (Some a) = a.2

  -- whose labels the blocks carry
  abbrev pub exporter_of : Option (K × ℕ × ℕ) → ℕ
  exporter_of None = 0
  exporter_of (Some a) = a.1

  -- what a queue that is named is about
  abbrev pub about_in : (about : Option (K × ℕ × ℕ)) → is_some about ≡ true → About K
  about_in None named = absurd (true≢false (sym named))
  about_in (Some a) named = about_of a

  -- a block that may be sent at this position
  abbrev pub MeetsIn : (K → BlockValue → Type 0) → Option (K × ℕ × ℕ) → ℕ → BlockValue → Type 0
  MeetsIn fits None position block = ⊥
  MeetsIn fits (Some a) position block = Meets fits (about_of a) position block

module _ {K A : Type 0} where
  -- a view as callers see it
  abbrev pub pass_value : SegId A → (v : View K A) → is_some v.about ≡ true → PassValue A K
  pass_value lane v named = record { lane = lane; about = about_in v.about named; parts = v.parts; senders = v.senders; sent = v.sent; taken = v.taken }

  -- the first pass
  abbrev pub opening : View K A
  opening = record { about = None; parts = 1; senders = 1; sent = []; taken = [] }

  -- nothing is known, and nothing may be done
  abbrev pub spent : View K A
  spent = record { about = None; parts = 0; senders = 0; sent = []; taken = [] }

  -- the first pass says what the queue is about, and has a part for each seat
  abbrev pub named : Option (K × ℕ × ℕ) → View K A → View K A
  named about v = record v { about = about; parts = parts_of about }

  -- a part is given away
  abbrev pub less_one : View K A → View K A
  less_one v = record v { parts = v.parts - 1 }

  -- the pass that got it
  abbrev pub part_of : View K A → View K A
  part_of v = record v { parts = 1; senders = 0; sent = []; taken = [] }

  -- a part is given away, and the right to send with it
  abbrev pub kept : View K A → View K A
  kept v = record v { parts = v.parts - 1; senders = 0; sent = [] }

  -- the pass that got both
  abbrev pub handed : View K A → View K A
  handed v = record v { parts = 1; taken = [] }

  -- two passes become one
  abbrev pub gathered : View K A → View K A → View K A
  gathered v w = record v { parts = v.parts + w.parts; senders = v.senders + w.senders; sent = v.sent ++ w.sent; taken = v.taken ++ w.taken }

  -- the block joined the list of what was sent
  abbrev pub Sent : View K A → BlockValue → View K A → Type 0
  Sent v block w = w ≡ record v { sent = v.sent ++ block ∷ [] }

  -- the block joined the list of what was taken
  pub record TookIn (fits : K → BlockValue → Type 0) (v : View K A) (block : BlockValue) (w : View K A) : Type 0 where
    pub after : w ≡ record v { taken = v.taken ++ block ∷ [] }
    pub meets : MeetsIn fits v.about (position_of block) block
    pub rises : All (λ b. position_of b < position_of block) v.taken
    pub own : v.senders ≡ 1 → StandsIn v.sent block

  -- what a pass learns where it finds nothing
  abbrev pub Nothing : View K A → List BlockValue → Type 0
  Nothing v items = ⊤

  -- what a pass that has all parts learns, where these blocks are left
  pub record SettledAs (v : View K A) (items : List BlockValue) : Type 0 where
    pub one_sender : v.senders ≡ 1
    pub as_sent : All (StandsIn v.sent) v.taken
    pub once : (position : ℕ) → times_at (exporter_of v.about) position v.taken ≡ one_if (nat_lt position (length v.taken))
    pub left : length v.taken + length items ≡ length v.sent

  abbrev pub Settled : View K A → List BlockValue → Type 0
  Settled v items = v.parts ≡ parts_of v.about → 0 < v.parts → SettledAs v items

  -- one view fits what was sent, and what was taken of it
  pub record FitsIn (about : Option (K × ℕ × ℕ)) (sent front : List BlockValue) (v : View K A) : Type 0 where
    pub about_is : 0 < v.parts → v.about ≡ about
    -- who may send knows all that was sent, and nobody else any of it
    pub writer : v.senders ≡ 1 → v.sent ≡ sent
    pub reader : v.senders ≡ 0 → v.sent ≡ []
    -- what it took is what was sent there
    pub took : All (StandsIn front) v.taken
    -- without a part it knows nothing, and may not send
    pub idle_taken : v.parts ≡ 0 → v.taken ≡ []
    pub idle_senders : 0 < parts_of about → v.parts ≡ 0 → v.senders ≡ 0

  -- the queue holds these blocks, and its passes have these views
  pub record IsKeptLane (fits : K → BlockValue → Type 0) (items : List BlockValue) (views : List (View K A)) : Type 0 where
    pub about : Option (K × ℕ × ℕ)
    -- what was sent, and the front of it that was taken
    pub sent : List BlockValue
    pub front : List BlockValue
    pub rest : sent ≡ front ++ items
    -- each block has its label, and meets the fact
    pub labels : (position : ℕ) (block : BlockValue) → slice_get sent position ≡ Some block → MeetsIn fits about position block
    -- one pass may send
    pub senders : total (λ (v : View K A). v.senders) views ≡ 1
    -- each part is with one pass
    pub parts : total (λ (v : View K A). v.parts) views ≡ parts_of about
    -- each block below the front's end was taken once, and no other was
    pub once : (position : ℕ) → total (λ (v : View K A). times_at (exporter_of about) position v.taken) views ≡ one_if (nat_lt position (length front))
    pub count : total (λ (v : View K A). length v.taken) views ≡ length front
    pub each : (seat : ℕ) (v : View K A) → get_elem? views seat ≡ some v → FitsIn about sent front v
