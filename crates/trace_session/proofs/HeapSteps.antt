-- What the text of the heap is where a session stands for a store.
use Rattle.std.proofs.Common.{◌≡◌, ℕ, true, List, map, IsTrue, refl, sym, ap, subst, ◌∙◌}
use Rattle.std.specs.Prelude.{is_some}
use Rattle.std.specs.Ordering.{nat_cmp}
use Rattle.std.specs.Cmp.Lexicographic.{slice_cmp}
use Rattle.std.specs.List.{list_all}
use Rattle.std.specs.FinMap.{is_sorted}
use Rattle.heap_text.specs.Streams.{Output, Appends}
use Rattle.std.proofs.lemmas.List.Folds.{list_all-map}
use Rattle.model.specs.Graph.{root_at}
use Rattle.model.specs.Config.{Config}
use Rattle.model.specs.Text.{heap_text}
use Rattle.model.specs.Store.{Store}
use Rattle.model.specs.Commands.{Heap}
use Rattle.heap.specs.HeapValue.{HeapValue}
use Rattle.heap_text.specs.HeapLines.{heap_lines}
use Rattle.trace_session.specs.Outcome.{command_step}
use Rattle.trace_session.specs.Stepped.{StepsTo}
use Rattle.trace_session.specs.Stands.{StandsFor}
use Rattle.trace_session.proofs.NamedLemmas.{sorted_of}
use Rattle.trace_session.proofs.NameLists.{each_named}
use Rattle.trace_session.proofs.TextSame.{same_text}

module _ (heap : HeapValue) (names : List (List ℕ × ℕ)) (config : Config) (store : Store) (stands : StandsFor heap names config store) (rise : IsTrue (is_sorted (slice_cmp nat_cmp) names)) where
  -- each name, however it is written, has a root
  pub all_rooted : {X : Type 0} (shown : X → List ℕ × ℕ) (list : List X) → map shown list ≡ names → list_all (λ x. is_some (root_at heap.graph (shown x).1)) list ≡ true
  all_rooted shown list is =
      sym (list_all-map (λ (e : List ℕ × ℕ). is_some (root_at heap.graph e.1)) shown list)
      ∙ ap (list_all (λ (e : List ℕ × ℕ). is_some (root_at heap.graph e.1))) is
      ∙ each_named (λ root. is_some (root_at heap.graph root)) names (sorted_of names rise) (λ text root found. ap is_some (stands.names_are.leads text root found).root_is)

  pub steps_heap : (old new : Output) → Appends old new (heap_lines heap.graph names) → StepsTo (StandsFor heap names) config (command_step config store Heap) old new
  steps_heap old new held =
      let same : heap_lines heap.graph names ≡ heap_text store = same_text store stands.place heap.graph names stands.placed stands.names_are (sorted_of names rise) in
      record {
        next = store;
        out = heap_text store;
        steps = refl;
        stands' = stands;
        held = subst (Appends old new) same held;
      }
