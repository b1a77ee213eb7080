-- Each state is reached by a run.
use Rattle.std.proofs.Common.{◌≡◌, ℕ, ◌+◌, ◌<◌, cond, nat_eq, List, [], ◌∷◌, map, refl, sym, ap, subst, arith}
use Rattle.block_pool.specs.Drawn.{times_in}
use Rattle.block_pool.proofs.ClaimLemmas.{IsDistinct-rising, times-distinct}
use Rattle.model.specs.Destination.{dest_count}
use Rattle.steps.specs.HeapValue.{HeapValue}
use Rattle.steps.specs.CollectionValue.{CollectionValue, target_of_slot}
use Rattle.heap.proofs.SoundHeap.{heap_free}
use Rattle.workers.specs.System.{System, Event, opening}
use Rattle.workers.specs.Steps.{Run, stay}
use Rattle.workers.specs.Total.{times}
use Rattle.workers.specs.Finish.{IsReached}
use Rattle.workers.proofs.OneMore.{reached_more}
use Rattle.scavenge.specs.ReadyToCollect.{IsReadyToCollect}
use Rattle.machine.specs.InterleavedValue.{InterleavedValue, Goes, Stays, setting_for, setting_in, destinations_in, targets_in, system_of}
use Rattle.machine.specs.IsInterleaved.{HasReached}
use Rattle.machine.proofs.Readiness.{room_of}

-- the same of a heap, a collection and so many workers
abbrev pub Reaches : HeapValue → CollectionValue → ℕ → System → Type 0
Reaches heap c n s = IsReached (setting_for heap c n) (dest_count heap.config.shape c.generation) n (map target_of_slot c.slots) heap.free s

moved_over : (old new : InterleavedValue) → new.heap ≡ old.heap → new.collection ≡ old.collection → new.workers ≡ old.workers → Reaches old.heap old.collection old.workers (system_of new) → HasReached new
moved_over old new heap collection workers r =
    subst (λ h. Reaches h new.collection new.workers (system_of new)) (sym heap)
    (subst (λ c. Reaches old.heap c new.workers (system_of new)) (sym collection) (subst (λ n. Reaches old.heap old.collection n (system_of new)) (sym workers) r))

pub reached_by : (event : Event) (old new : InterleavedValue) → HasReached old → Goes event old new → HasReached new
reached_by event old new r goes =
    moved_over old new goes.heap goes.collection goes.workers (reached_more (setting_in old) (destinations_in old) old.workers (targets_in old) old.heap.free (system_of old) (system_of new) event r goes.step)

pub reached_still : (old new : InterleavedValue) → HasReached old → Stays old new → HasReached new
reached_still old new r stays = moved_over old new stays.heap stays.collection stays.workers (subst (Reaches old.heap old.collection old.workers) (sym stays.system) r)

same_times : (n : ℕ) (xs : List ℕ) → times n xs ≡ times_in n xs
same_times n [] = refl
same_times n (x ∷ xs) = ap (λ k. cond (nat_eq x n) 1 0 + k) (same_times n xs)

-- no event came yet
pub reached_first : (v : InterleavedValue) → IsReadyToCollect v.heap v.collection → 0 < v.workers → system_of v ≡ opening (destinations_in v) v.workers (targets_in v) v.heap.free → HasReached v
reached_first v ready some first =
    record {
      some = some;
      room = room_of v.heap v.collection ready v.workers;
      distinct = λ k. (let d = times-distinct v.heap.free (IsDistinct-rising v.heap.free (heap_free v.heap ready.sound).rising) k in let s = same_times k v.heap.free in omega (arith, d, s));
      events = [];
      run = subst (Run (setting_in v) (opening (destinations_in v) v.workers (targets_in v) v.heap.free) []) (sym first) stay;
    }
