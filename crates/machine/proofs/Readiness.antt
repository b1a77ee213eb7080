-- What the calls of each worker may rely on.
use Rattle.std.proofs.Common.{◌≡◌, ℕ, ◌<◌, ◌≤◌, true, [], length, map, Option, Some, None, refl, sym, subst, arith}
use Rattle.std.specs.Prelude.{IsSome}
use Rattle.std.specs.Option.{option_map_or}
use Rattle.model.specs.Graph.{Object, object_at}
use Rattle.model.specs.Live.{IsYoung}
use Rattle.model.specs.Destination.{dest_count}
use Rattle.steps.specs.HeapValue.{HeapValue}
use Rattle.steps.specs.CollectionValue.{CollectionValue, target_of_slot}
use Rattle.heap.proofs.SoundHeap.{heap_fields}
use Rattle.workers.specs.Setting.{is_collected, destination_of, old_pointers}
use Rattle.workers.specs.Joined.{Roomy}
use Rattle.workers.specs.Ready.{IsReady}
use Rattle.workers.specs.WorkerRun.{proposed_name}
use Rattle.workers.proofs.Starts.{opens, opens_roomy}
use Rattle.workers.proofs.ReadyRuns.{run_ready}
use Rattle.workers.proofs.ReadyLemmas.{few_fields}
use Rattle.workers.proofs.Kept.{collected-young}
use Rattle.workers.proofs.SystemFalls.{Sound, run_sound}
use Rattle.scavenge.specs.Shown.{name_of}
use Rattle.scavenge.specs.ReadyToCollect.{IsReadyToCollect}
use Rattle.scavenge.proofs.Destinations.{destination_below}
use Rattle.scavenge.proofs.Unchanged.{some_there}
use Rattle.machine.specs.InterleavedValue.{MemberValue, setting_for}
use Rattle.machine.specs.IsInterleaved.{IsMember, begins}

module _ (heap : HeapValue) (c : CollectionValue) (ready : IsReadyToCollect heap c) (n : ℕ) where
  abbrev destinations : ℕ
  destinations = dest_count heap.config.shape c.generation

  pub room_of : (name : ℕ) → is_collected (setting_for heap c n) name ≡ true → destination_of (setting_for heap c n) name < destinations
  room_of name is = destination_below heap c ready n name is

  pub start_roomy : (t : ℕ) → Roomy (setting_for heap c n) (begins heap c n t)
  start_roomy t = opens_roomy (setting_for heap c n) destinations n (map target_of_slot c.slots) t room_of

  module _ (t : ℕ) (m : MemberValue) (k : IsMember heap c n t m) where
    pub ready_of : IsReady (setting_for heap c n) m.workspace.worker
    ready_of =
        run_ready heap.graph c.generation heap.config.shape heap.config.block_words n
        (begins heap c n t) m.workspace.worker k.worked.history (opens destinations n _ t) (start_roomy t) k.worked.taken k.worked.run

    -- what every worker of a run has
    pub sound_of : Sound (setting_for heap c n) m.workspace.worker
    sound_of = run_sound (setting_for heap c n) (begins heap c n t) m.workspace.worker k.worked.history (opens destinations n _ t) (start_roomy t) k.worked.run

    pub few_of : m.workspace.worker.fields < 4294967296
    few_of =
        let l : m.workspace.worker.fields ≤ 100000 = few_fields (setting_for heap c n) m.workspace.worker ready_of 100000 few in
        omega arith
      where
        few : (name : ℕ) → length (old_pointers (setting_for heap c n) name) ≤ 100000
        few name = go (object_at heap.graph name) refl
          where
            go : (o : Option Object) → object_at heap.graph name ≡ o → length (option_map_or (λ (x : Object). x.pointers) o []) ≤ 100000
            go None e = omega arith
            go (Some o) e = heap_fields heap ready.sound name o e

    -- what is proposed is young
    pub young_of : IsSome m.workspace.worker.proposal → IsYoung heap.graph c.generation (name_of m.workspace.worker.proposal)
    young_of some =
        let p = some_there m.workspace.worker.proposal some in
        subst (λ o. IsYoung heap.graph c.generation (name_of o)) (sym p.1)
        (collected-young heap.graph c.generation heap.config.shape heap.config.block_words n (proposed_name p.0) (ready_of.young p.0 p.1))
