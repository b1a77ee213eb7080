-- What a collection for a new object does to a session that stands for a store.
use Rattle.std.proofs.Common.{◌≡◌, ℕ, ◌+◌, List, ◌++◌, length, Option, codes, ap, ◌∙◌}
use Rattle.std.specs.Prelude.{sum_by}
use Rattle.heap_text.specs.Streams.{Output, Appends}
use Rattle.layout.specs.declared.place.Place.{Place}
use Rattle.block_pool.specs.BlockValue.{BlockValue}
use Rattle.model.specs.Config.{Config}
use Rattle.model.specs.LiveCount.{LiveCount}
use Rattle.model.specs.Text.{collection_line}
use Rattle.model.specs.Store.{Store, collected, kept_count}
use Rattle.steps.specs.HeapValue.{HeapValue}
use Rattle.steps.specs.CollectionValue.{CollectionValue, young_names}
use Rattle.steps.specs.CollectedHeap.{CollectedHeap}
use Rattle.steps.specs.ReportValue.{WorkerLists, all_won, renaming_of}
use Rattle.steps.specs.declared.heap_values.report.Delivery.{Delivery}
use Rattle.workers.proofs.OneMore.{stepped_run}
use Rattle.settling.specs.Collects.{Collects, setting_at}
use Rattle.settling.specs.Together.{CollectsTogether}
use Rattle.heap_text.specs.ReportText.{workers_text}
use Rattle.trace_session.specs.Stepped.{Writes}
use Rattle.trace_session.specs.Made as made_by
use Rattle.trace_session.specs.Stands.{StandsFor}
use Rattle.trace_session.proofs.StandsCollected.{stands_collected, kept_same, freed_same}
use Rattle.trace_replay.specs.Brought.{ComesToCommit}
use Rattle.trace_replay.specs.Replays.{MakesRoom}
use Rattle.trace_replay.proofs.BySchedule.{is_collected}

module _ (heap : HeapValue) (n : ℕ) (collection : CollectionValue) (places : List (Option Place)) (blocks : List BlockValue) (workers : List WorkerLists) (deliveries : List Delivery) (b : ComesToCommit heap 0 n collection places blocks workers deliveries)
    (kept freed : ℕ) (heap' : HeapValue) (moves : CollectedHeap heap collection.generation (renaming_of (young_names heap.graph collection.generation) (all_won workers)) heap')
    (live : LiveCount heap.graph collection.generation kept) (sum : kept ≡ sum_by (λ (w : WorkerLists). length w.won) workers) (count : kept + freed ≡ length (young_names heap.graph collection.generation)) where
  collects : Collects heap 0 kept freed workers heap'
  collects = is_collected heap 0 b.last collection places blocks workers deliveries b.brought kept freed heap' moves live sum count

  together : CollectsTogether heap 0 n kept freed workers deliveries heap'
  together =
      let run = stepped_run (setting_at heap 0 n) b.finishes.run in
      record { collects = collects; runs = record { last = b.last; events = run.0; run = run.1; reports_are = b.brought.reports_are } }

  pub room_made : (names : List (List ℕ × ℕ)) (config : Config) (store : Store) (stands : StandsFor heap names config store) (printed printed' : Output)
      → Appends printed printed' (collection_line (codes "auto") 0 kept freed ++ workers_text workers deliveries)
      → StandsFor heap' names config (collected config 0 store) × Writes (λ written. MakesRoom n (record { heap = heap; names = names; store = store }) written heap') printed printed'
  room_made names config store stands printed printed' held = (
    stands_collected heap names config store stands 0 kept freed workers heap' collects (made_by.collected_together 0 n kept freed workers deliveries stands.made together),
    record {
      written = collection_line (codes "auto") 0 kept freed ++ workers_text workers deliveries;
      held = held;
      holds = record {
        kept = kept;
        freed = freed;
        workers = workers;
        deliveries = deliveries;
        collects = collects;
        last = b.last;
        finishes = b.finishes;
        reports_are = b.brought.reports_are;
        written_is =
            ap (λ k. collection_line (codes "auto") 0 k freed ++ workers_text workers deliveries) (kept_same heap names config store stands 0 kept freed workers heap' collects)
            ∙ ap (λ f. collection_line (codes "auto") 0 (kept_count store 0) f ++ workers_text workers deliveries) (freed_same heap names config store stands 0 kept freed workers heap' collects);
      };
    },
  )
