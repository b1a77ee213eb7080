-- What holds of a machine lasts, and what comes next in it.
use Rattle.std.proofs.Common.{◌≡◌, ℕ, ◌<◌, map, Option, Some, None, Result, Ok, Err, refl, sym, ap, subst, ◌∙◌}
use Rattle.std.specs.Prelude.{IfSome, OnOk, OnErr}
use Rattle.std.specs.Option.{option_map}
use Rattle.steps.specs.HeapValue.{HeapValue}
use Rattle.steps.specs.CollectionValue.{CollectionValue, IsOpened, target_of_slot, slots_of}
use Rattle.model.specs.Destination.{dest_count}
use Rattle.workers.specs.System.{System, opening}
use Rattle.workers.specs.System as system
use Rattle.workers.specs.Lawful.{IsLawful, IsRefused, IsNext, AllEnded, next_lawful}
use Rattle.workers.proofs.Reached.{reached_next, reached_none}
use Rattle.workers.proofs.RunBrings.{refused_below}
use Rattle.scavenge.specs.ReadyToCollect.{IsReadyToCollect}
use Rattle.scavenge.proofs.Starts.{targets_live}
use Rattle.machine.specs.declared.workers_in_turn.event.Event.{Event}
use Rattle.machine.specs.SystemEvents.{event_of}
use Rattle.machine.specs.InterleavedValue.{InterleavedValue, Goes, Stays, system_of, destinations_in, targets_in}
use Rattle.machine.specs.InterleavedValue as interleaved
use Rattle.machine.proofs.Reaching.{reached_by, reached_still, reached_first}
use Rattle.machine.specs.MachineValue.{MachineValue, IsMachine, HasReached, machine_of, setting_in}
use Rattle.machine.specs.Events.{IsFullForEvent, Opens}

ready_of : (old new : InterleavedValue) → new.heap ≡ old.heap → new.collection ≡ old.collection → IsReadyToCollect old.heap old.collection → IsReadyToCollect new.heap new.collection
ready_of old new heap collection ready = subst (λ h. IsReadyToCollect h new.collection) (sym heap) (subst (IsReadyToCollect old.heap) (sym collection) ready)

-- whether an event came or not
pub lasts : {T E : Type 0} (event : system.Event) (heap : HeapValue) (c : CollectionValue) (old new : InterleavedValue) → IsMachine heap c old → (r : Result T E) → OnOk r (Goes event old new) → OnErr r (Stays old new) → IsMachine heap c new
lasts event heap c old new k (Ok x) goes stays =
    record { heap_is = k.heap_is ∙ sym goes.heap; collection_is = k.collection_is ∙ sym goes.collection; ready = ready_of old new goes.heap goes.collection k.ready; reached = reached_by event old new k.reached goes }
lasts event heap c old new k (Err x) goes stays =
    record { heap_is = k.heap_is ∙ sym stays.heap; collection_is = k.collection_is ∙ sym stays.collection; ready = ready_of old new stays.heap stays.collection k.ready; reached = reached_still old new k.reached stays }

-- a look that was refused a block
pub is_full : (heap : HeapValue) (c : CollectionValue) (v : InterleavedValue) → IsMachine heap c v → (event : system.Event) → IsRefused (interleaved.setting_in v) (system_of v) event → IsFullForEvent event (machine_of v)
is_full heap c v k event refused =
    record {
      refused = refused;
      short = λ words live.
          refused_below v.heap.graph v.collection.generation v.heap.config.shape v.heap.config.block_words (destinations_in v) v.workers (targets_in v) v.heap.free (system_of v) k.reached (targets_live v.heap v.collection k.ready) event refused words live;
    }

-- what comes next is lawful, and nothing comes exactly where all ended
module _ (m : MachineValue) (r : HasReached m) where
  is_next : (o : Option Event) → option_map event_of o ≡ next_lawful (setting_in m) m.system → IsNext (setting_in m) m.system (option_map event_of o)
  is_next o e = subst (IsNext (setting_in m) m.system) (sym e) (reached_next (setting_in m) _ m.workers _ m.heap.free m.system r).0

  pub next_is_lawful : (o : Option Event) → option_map event_of o ≡ next_lawful (setting_in m) m.system → IfSome o (λ event. IsLawful (setting_in m) m.system (event_of event))
  next_is_lawful None e = tt
  next_is_lawful (Some event) e = is_next (Some event) e

  pub none_is_end : (o : Option Event) → option_map event_of o ≡ next_lawful (setting_in m) m.system → (o ≡ None → AllEnded m.system) × (AllEnded m.system → o ≡ None)
  none_is_end None e = (λ _. is_next None e, λ _. refl)
  none_is_end (Some event) e = (λ is. absurd (cc), λ ended. absurd (let none = e ∙ (reached_none (setting_in m) _ m.workers _ m.heap.free m.system r ended).0 in cc))

-- how a machine opens
pub begins : (heap : HeapValue) (c : CollectionValue) (v : InterleavedValue) → heap ≡ v.heap → c ≡ v.collection → IsReadyToCollect heap c → 0 < v.workers → system_of v ≡ opening (destinations_in v) v.workers (targets_in v) v.heap.free → IsMachine heap c v
begins heap c v heap_is collection_is ready some first =
    let there : IsReadyToCollect v.heap v.collection = subst (λ h. IsReadyToCollect h v.collection) heap_is (subst (IsReadyToCollect heap) collection_is ready) in
    record { heap_is = heap_is; collection_is = collection_is; ready = there; reached = reached_first v there some first }

pub opens : (heap : HeapValue) (g n : ℕ) (c : CollectionValue) (v : InterleavedValue) → v.heap ≡ heap → v.collection ≡ c → v.workers ≡ n → IsReadyToCollect heap c → c.generation ≡ g → system_of v ≡ opening (destinations_in v) n (targets_in v) v.heap.free → Opens heap g n (machine_of v)
opens heap g n c v heap_is collection_is workers_are ready generation first =
    record {
      heap_is = heap_is;
      opened = subst (λ k. IsOpened heap k v.collection) generation (subst (λ d. IsOpened heap c.generation d) (sym collection_is) ready.opened);
      workers_are = workers_are;
      first = first ∙ ap (λ h. opening (dest_count h.config.shape v.collection.generation) n (map target_of_slot v.collection.slots) h.free) heap_is
          ∙ ap (λ (d : CollectionValue). opening (dest_count heap.config.shape d.generation) n (map target_of_slot d.slots) heap.free) collection_is
          ∙ ap (λ k. opening (dest_count heap.config.shape k) n (map target_of_slot c.slots) heap.free) generation
          ∙ ap (λ slots. opening (dest_count heap.config.shape g) n (map target_of_slot slots) heap.free) (ready.opened.slots ∙ ap (slots_of heap) generation);
    }
