-- A heap that stands for a store, after a collection: it stands for the collected store, and as many objects were kept and freed.
use Rattle.std.proofs.Common.{◌≡◌, ℕ, List, ap, subst, ◌∙◌}
use Rattle.model.specs.Config.{Config}
use Rattle.model.specs.Collected.{Collected}
use Rattle.model.specs.Store.{Store, full_rooms, collected, kept_count, freed_count}
use Rattle.heap.specs.HeapValue.{HeapValue}
use Rattle.heap.specs.CollectionValue.{young_names}
use Rattle.heap.specs.ReportValue.{WorkerLists, all_won, renaming_of}
use Rattle.settling.specs.Collects.{Collects}
use Rattle.trace_session.specs.Made.{MadeByCalls}
use Rattle.trace_session.specs.Stands.{StandsFor}
use Rattle.trace_session.proofs.PlacedCollected.{placed_collected, named_collected, place'}
use Rattle.trace_session.proofs.CountsSame as counts

module _ (heap : HeapValue) (names : List (List ℕ × ℕ)) (config : Config) (store : Store) (stands : StandsFor heap names config store) (g kept freed : ℕ) (workers : List WorkerLists) (heap' : HeapValue) (collects : Collects heap g kept freed workers heap') where
  moved : Collected config.shape config.block_words heap.graph g (renaming_of (young_names heap.graph g) (all_won workers)) heap'.graph
  moved = subst (λ c. Collected c.shape c.block_words heap.graph g (renaming_of (young_names heap.graph g) (all_won workers)) heap'.graph) stands.config_is collects.heap.graph

  pub stands_collected : MadeByCalls heap' → StandsFor heap' names config (collected config g store)
  stands_collected made =
      record {
        made = made;
        config_is = collects.heap.config ∙ stands.config_is;
        rooms_are = collects.heap.rooms ∙ ap full_rooms stands.config_is;
        place = place' config g store stands.place heap.graph heap'.graph names stands.placed stands.names_are _ moved;
        placed = placed_collected config g store stands.place heap.graph heap'.graph names stands.placed stands.names_are _ moved;
        names_are = named_collected config g store stands.place heap.graph heap'.graph names stands.placed stands.names_are _ moved;
      }

  pub kept_same : kept ≡ kept_count store g
  kept_same = counts.kept_is store stands.place heap.graph names stands.placed stands.names_are g kept collects.kept_is

  pub freed_same : freed ≡ freed_count store g
  freed_same = counts.freed_is store stands.place heap.graph names stands.placed stands.names_are g kept freed collects.kept_is collects.freed_is
