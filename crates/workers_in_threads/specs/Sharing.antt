-- What one step changes of a worker among several.
use Rattle.std.specs.Prelude.{◌≡◌, ℕ, true, None, Option, length}
use Rattle.workers.specs.WorkerSteps.{draw_wanted, CanLook, IsOutOfWork, current_slot}
use Rattle.workers.specs.WorkerRun.{Act, Looked, Raced, after}
use Rattle.workers.specs.Worker.{Nothing}
use Rattle.workers_in_threads.specs.SharingValue.{SharingValue, setting_in, worker_of}

module _ {C P A : Type 0} where
  -- the same worker of the same collection, sharing the same
  pub record IsSame (at_home : C → P → Type 0) (old new : SharingValue C P A) : Type 0 where
    pub heap : new.heap ≡ old.heap
    pub collection : new.collection ≡ old.collection
    pub claims : new.claims ≡ old.claims
    pub queues : new.queues ≡ old.queues
    pub workers : new.workers ≡ old.workers
    pub number : new.seat.index ≡ old.seat.index
    pub home : (cells : C) → at_home cells old.pass → at_home cells new.pass

  -- it did this
  abbrev pub Acts : Act → SharingValue C P A → SharingValue C P A → Type 0
  Acts act old new = worker_of new ≡ after (setting_in old) (worker_of old) act

  -- it looked at its slot, and a cell showed what it showed
  pub record Looks (old new : SharingValue C P A) : Type 0 where
    pub cell : Option ℕ
    pub number : ℕ
    pub acts : Acts (Looked cell number) old new

  -- it raced, and won or lost
  pub record Races (old new : SharingValue C P A) : Type 0 where
    pub lost : Option ℕ
    pub acts : Acts (Raced lost) old new

  -- it can look, its copy wants a block, and a draw found none
  pub record IsRefusedBlock (v : SharingValue C P A) : Type 0 where
    pub can : CanLook (setting_in v) (worker_of v)
    pub wanted : draw_wanted (setting_in v) (worker_of v) None ≡ true
    pub out : v.draws.out ≡ true

  -- nothing is proposed, in hand or at hand
  pub record HasNothingInHand (v : SharingValue C P A) : Type 0 where
    pub no_proposal : (worker_of v).proposal ≡ None
    pub no_slot : current_slot (setting_in v) (worker_of v) ≡ None
    pub no_hand : (worker_of v).hand ≡ Nothing

  -- nothing of its own is left to it, and each of its exports was taken
  pub record IsDone (v : SharingValue C P A) : Type 0 where
    pub out : IsOutOfWork (worker_of v)
    pub cleared : v.seat.cleared ≡ length v.seat.sent
