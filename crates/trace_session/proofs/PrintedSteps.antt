-- What a census and a collection do to a session that stands for a store.
use Rattle.std.proofs.Common.{◌≡◌, ℕ, ◌<◌, ◌≤◌, true, false, Err, arith, List, refl, ap, subst, ◌∙◌, codes}
use Rattle.std.specs.Prelude.{nat_lt}
use Rattle.heap_text.specs.Streams.{Output, Appends}
use Rattle.std.proofs.lemmas.Bool.{lt-ltb}
use Rattle.std.proofs.lemmas.Bool.Decides.{nat_tests}
use Rattle.model.specs.Config.{Config}
use Rattle.model.specs.Text.{census_text, collection_line}
use Rattle.model.specs.Store.{Store, collected, kept_count, freed_count, store_census}
use Rattle.model.specs.declared.kind.Kind.TheVariants.{NoGeneration}
use Rattle.model.specs.Commands.{Collect, Census}
use Rattle.heap.specs.HeapValue.{HeapValue}
use Rattle.heap.specs.Commands.{heap_census}
use Rattle.heap.specs.ReportValue.{WorkerLists}
use Rattle.settling.specs.Collects.{Collects}
use Rattle.trace_session.specs.CollectsFirst.{auto_line}
use Rattle.trace_session.specs.Outcome.{command_step}
use Rattle.trace_session.specs.Sound.{IsSoundCommand}
use Rattle.trace_session.specs.Stepped.{StepsTo}
use Rattle.trace_session.specs.Refusals.{CommandMayBeFull, IsFullToCollect}
use Rattle.trace_session.specs.Made.{MadeByCalls}
use Rattle.trace_session.specs.Stands.{StandsFor}
use Rattle.trace_session.proofs.CountsSame.{same_census}
use Rattle.trace_session.proofs.StandsCollected.{stands_collected, kept_same, freed_same}

module _ (heap : HeapValue) (names : List (List ℕ × ℕ)) (config : Config) (store : Store) (stands : StandsFor heap names config store) where
  pub steps_census : (old new : Output) → Appends old new (census_text (heap_census heap)) → StepsTo (StandsFor heap names) config (command_step config store Census) old new
  steps_census old new held =
      let same : heap_census heap ≡ store_census config store = ap (λ c. heap_census (record heap { config = c })) stands.config_is ∙ same_census store stands.place heap.graph stands.placed config _ stands.names_are.count in
      record {
        next = store;
        out = census_text (store_census config store);
        steps = refl;
        stands' = stands;
        held = subst (λ c. Appends old new (census_text c)) same held;
      }

  pub steps_collect : (g kept freed : ℕ) (workers : List WorkerLists) (heap' : HeapValue) (old new : Output) → Collects heap g kept freed workers heap' → MadeByCalls heap' → g < heap.config.shape.generations → Appends old new (collection_line (codes "collected") g kept freed) → StepsTo (StandsFor heap' names) config (command_step config store (Collect g)) old new
  steps_collect g kept freed workers heap' old new collects by_calls in_range held =
      let known : nat_lt g config.shape.generations ≡ true = lt-ltb g config.shape.generations (rw (← stands.config_is) in_range) in
      record {
        next = collected config g store;
        out = collection_line (codes "collected") g (kept_count store g) (freed_count store g);
        steps = rw known refl;
        stands' = stands_collected heap names config store stands g kept freed workers heap' collects by_calls;
        held =
            subst (λ k. Appends old new (collection_line (codes "collected") g k (freed_count store g))) (kept_same heap names config store stands g kept freed workers heap' collects)
            (subst (λ f. Appends old new (collection_line (codes "collected") g kept f)) (freed_same heap names config store stands g kept freed workers heap' collects) held);
      }

  pub collect_sound : (g : ℕ) → g < heap.config.shape.generations → IsSoundCommand config store (Collect g)
  collect_sound g in_range =
      let known : nat_lt g config.shape.generations ≡ true = lt-ltb g config.shape.generations (rw (← stands.config_is) in_range) in
      rw known refl

  -- past the last generation it is a fault
  pub collect_nowhere : (g : ℕ) → heap.config.shape.generations ≤ g → command_step config store (Collect g) ≡ Err NoGeneration
  collect_nowhere g past =
      let known : nat_lt g config.shape.generations ≡ false = grind (arith, nat_tests, past, ap (λ (c : Config). c.shape.generations) stands.config_is) in
      rw known refl

  -- where the heap is full for a collection it may be refused
  pub collect_full : (n g : ℕ) → g < heap.config.shape.generations → IsFullToCollect heap g n → CommandMayBeFull n config store (Collect g)
  collect_full n g in_range short =
      let known : nat_lt g config.shape.generations ≡ true = lt-ltb g config.shape.generations (rw (← stands.config_is) in_range) in
      record {
        sound = rw known refl;
        wants = record { heap = heap; names = names; stands = stands; full = short };
      }

  -- generation 0 is collected for a new object
  pub room_made : (kept freed : ℕ) (workers : List WorkerLists) (heap' : HeapValue) (old new : Output) → Collects heap 0 kept freed workers heap' → MadeByCalls heap' → Appends old new (collection_line (codes "auto") 0 kept freed) → StandsFor heap' names config (collected config 0 store) × Appends old new (auto_line store)
  room_made kept freed workers heap' old new collects by_calls held = (
    stands_collected heap names config store stands 0 kept freed workers heap' collects by_calls,
    subst (λ k. Appends old new (collection_line (codes "auto") 0 k (freed_count store 0))) (kept_same heap names config store stands 0 kept freed workers heap' collects)
        (subst (λ f. Appends old new (collection_line (codes "auto") 0 kept f)) (freed_same heap names config store stands 0 kept freed workers heap' collects) held),
  )
