-- A free name that leads to a new object.
use Rattle.std.proofs.Common.{◌≡◌, ℕ, List, length, Some, None, sym, ap, ◌∙◌}
use Rattle.model.specs.Graph as graph
use Rattle.model.specs.Graph.{Graph, root_at, with_root, fresh_object}
use Rattle.model.specs.Store.{Store}
use Rattle.trace_session.specs.NamesView.{named}
use Rattle.trace_session.specs.Stands.{IsPlaced, IsNamed}
use Rattle.trace_session.proofs.StoreObjects.{with_object, object_at-new}
use Rattle.trace_session.proofs.PlacedNew.{place_with, place_with-same, keeps_place, keeps_object}
use Rattle.trace_session.proofs.NamedAdded.{named_added}
use Rattle.trace_session.proofs.NamedLemmas.{added}

-- a name that was free leads to a new object
module _ (store : Store) (place : ℕ → ℕ) (heap : Graph) (names : List (List ℕ × ℕ)) (placed : IsPlaced store place heap) (before : IsNamed store place heap names) (p q at : ℕ) (absent : graph.object_at heap at ≡ None) (root : ℕ) (new_root : root_at heap root ≡ None) (text : List ℕ) (free : named names text ≡ None) where
  abbrev store' : Store
  store' = record (with_object store (fresh_object p q)) { names = added store.names text (length store.objects) }

  abbrev heap' : Graph
  heap' = with_root (graph.with_object heap at (fresh_object p q)) root at

  abbrev place' : ℕ → ℕ
  place' = place_with place (length store.objects) at

  -- the names lead where they led, beside the new object
  kept : IsNamed (with_object store (fresh_object p q)) place' (graph.with_object heap at (fresh_object p q)) names
  kept = record {
    leads = λ s r found.
        let leads = before.leads s r found in
        record {
          name = leads.name;
          object = leads.object;
          named_is = leads.named_is;
          there = keeps_object store place heap placed p q at absent leads.name leads.object leads.there;
          root_is = leads.root_is ∙ ap (λ k. Some k) (sym (keeps_place store place heap placed p q at absent leads.name leads.object leads.there));
        };
    free = before.free;
    apart = before.apart;
    no_others = before.no_others;
    sorted = before.sorted;
    count = before.count;
  }

  pub named_new : IsNamed store' place' heap' (added names text root)
  named_new = named_added (with_object store (fresh_object p q)) place' (graph.with_object heap at (fresh_object p q)) names kept (length store.objects) (fresh_object p q) (object_at-new store (fresh_object p q)) at (place_with-same place (length store.objects) at) root new_root text free
