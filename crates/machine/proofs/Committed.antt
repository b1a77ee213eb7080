-- What a commit makes of what a machine settled.
use Rattle.std.proofs.Common.{◌≡◌, ℕ, ◌+◌, List, length, map, Option, sym, ap, subst, ◌∙◌}
use Rattle.std.specs.Prelude.{sum_by}
use Rattle.layout.specs.declared.place.Place.{Place}
use Rattle.model.specs.LiveCount.{LiveCount}
use Rattle.model.specs.Destination.{dest_count}
use Rattle.block_pool.specs.BlockValue.{BlockValue}
use Rattle.steps.specs.HeapValue.{HeapValue}
use Rattle.steps.specs.CollectionValue.{CollectionValue, young_names, target_of_slot, slots_of}
use Rattle.steps.specs.CollectedHeap.{CollectedHeap}
use Rattle.steps.specs.ReportValue.{WorkerLists, all_won, renaming_of}
use Rattle.steps.specs.declared.heap_values.report.Delivery.{Delivery}
use Rattle.workers.specs.System.{opening}
use Rattle.workers.specs.Steps.{Run}
use Rattle.settling.specs.Collects.{setting_at, opening_at}
use Rattle.settling.specs.Together.{RunsTogether, CollectsTogether}
use Rattle.machine.specs.MachineValue.{MachineValue, HasReached, setting_in}
use Rattle.machine.specs.Settles.{Settles}

module _ (m : MachineValue) (collection : CollectionValue) (places : List (Option Place)) (blocks : List BlockValue) (workers : List WorkerLists) (deliveries : List Delivery) (s : Settles m collection places blocks workers deliveries) where
  same : collection.generation ≡ m.collection.generation
  same = ap (λ (c : CollectionValue). c.generation) s.collection_is

  runs : HasReached m → RunsTogether m.heap m.collection.generation m.workers workers deliveries
  runs r =
      record {
        last = m.system;
        events = r.events;
        run = subst (λ slots. Run (setting_in m) (opening (dest_count m.heap.config.shape m.collection.generation) m.workers (map target_of_slot slots) m.heap.free) r.events m.system)
            (ap (λ (c : CollectionValue). c.slots) (sym s.collection_is) ∙ s.may_commit.opened.slots ∙ ap (slots_of m.heap) same) r.run;
        reports_are = s.reports_are;
      }

  -- a collection by all workers together
  pub collects_together : HasReached m → (kept freed : ℕ) (new : HeapValue)
      → CollectedHeap m.heap collection.generation (renaming_of (young_names m.heap.graph collection.generation) (all_won workers)) new
      → LiveCount m.heap.graph collection.generation kept → kept ≡ sum_by (λ (w : WorkerLists). length w.won) workers → kept + freed ≡ length (young_names m.heap.graph collection.generation)
      → CollectsTogether m.heap m.collection.generation m.workers kept freed workers deliveries new
  collects_together r kept freed new heap live sum count =
      record {
        collects = record {
          heap = subst (λ g. CollectedHeap m.heap g (renaming_of (young_names m.heap.graph g) (all_won workers)) new) same heap;
          kept_is = subst (λ g. LiveCount m.heap.graph g kept) same live;
          kept_sum = sum;
          freed_is = subst (λ g. kept + freed ≡ length (young_names m.heap.graph g)) same count;
          once = s.once;
        };
        runs = runs r;
      }
