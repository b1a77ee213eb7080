-- What the worker's calls may rely on.
use Rattle.std.proofs.Common.{◌≡◌, ℕ, ◌<◌, true}
use Rattle.workers.specs.Setting.{is_collected, destination_of}
use Rattle.workers.specs.System.{opening_worker}
use Rattle.workers.specs.Joined.{Roomy}
use Rattle.workers.specs.Ready.{IsReady}
use Rattle.workers.proofs.Starts.{opens, opens_roomy}
use Rattle.workers.proofs.ReadyRuns.{run_ready}
use Rattle.one_worker.specs.SerialValue.{SerialValue, setting_in, targets_in, destinations_in}
use Rattle.one_worker.specs.IsSerial.{IsSerial}
use Rattle.scavenge.specs.ReadyToCollect.{IsReadyToCollect}
use Rattle.scavenge.proofs.Destinations.{destination_below}

pub room_of : (v : SerialValue) → IsReadyToCollect v.heap v.collection → (name : ℕ) → is_collected (setting_in v) name ≡ true → destination_of (setting_in v) name < destinations_in v
room_of v r name is = destination_below v.heap v.collection r 1 name is

pub start_roomy : (v : SerialValue) → IsReadyToCollect v.heap v.collection → Roomy (setting_in v) (opening_worker (destinations_in v) 1 (targets_in v) 0)
start_roomy v r = opens_roomy (setting_in v) (destinations_in v) 1 (targets_in v) 0 (room_of v r)

pub ready_of : (v : SerialValue) → IsSerial v → IsReady (setting_in v) v.workspace.worker
ready_of v k =
    run_ready v.heap.graph v.collection.generation v.heap.config.shape v.heap.config.block_words 1
    (opening_worker (destinations_in v) 1 (targets_in v) 0) v.workspace.worker k.worked.history (opens (destinations_in v) 1 (targets_in v) 0) (start_roomy v k.ready) k.worked.taken k.worked.run
