-- How many objects a collection keeps.
use Rattle.std.proofs.Common.{◌≡◌, ℕ, ◌<◌, ◌≤◌, true, List, [], ◌∷◌, length, map, Option, Some, sum_by, refl, sym, ap, subst, ◌∙◌, arith, ⊎_elim}
use Rattle.std.proofs.lemmas.Bool.{cases_eq}
use Rattle.std.proofs.lemmas.List.Concat.{length-flat_map}
use Rattle.std.proofs.lemmas.List.Elements.{All-head, All-tail}
use Rattle.std.proofs.lemmas.Map.Steps.{length-le_from_distinct_below}
use Rattle.std.specs.Prelude.{All, nat_eq, slice_index}
use Rattle.std.specs.List.{IsDistinct}
use Rattle.std.specs.Ordering.{nat_cmp}
use Rattle.std.specs.FinMap.{find}
use Rattle.model.specs.Graph.{IsClosed}
use Rattle.model.specs.LiveCount.{LiveCount}
use Rattle.model.specs.Reached.{has}
use Rattle.model.proofs.Has.{has_none, has_head, has_tail, has-cons}
use Rattle.model.proofs.NatMap.{find_same, find_other}
use Rattle.model.proofs.Same.{IsDistinct-map}
use Rattle.layout.specs.declared.place.Place.{Place}
use Rattle.block_pool.specs.BlockValue.{BlockValue}
use Rattle.heap.specs.HeapView.{heap_of}
use Rattle.heap_objects.specs.Objects.{ObjectsValue, heap_in}
use Rattle.heap_objects.specs.Sound.{AreObjects}
use Rattle.steps.specs.ReportValue.{WorkerLists, all_won, renaming_of}
use Rattle.steps.specs.CollectionValue.{CollectionValue, young_names}
use Rattle.steps.specs.SettledValue.{IsSettled}
use Rattle.std.proofs.lemmas.List.{length-map}
use Rattle.heap.proofs.SettledLemmas.{named_once, numbers_named}
use Rattle.model.proofs.Options.{some_not_none}

abbrev first_of : List (ℕ × ℕ) → List ℕ
first_of es = map (λ e. e.0) es

has_all : (P : ℕ → Type 0) (es : List (ℕ × ℕ)) (q : ℕ) → All (λ e. P e.0) es → has (first_of es) q ≡ true → P q
has_all P [] q all h = has_none q h
has_all P (e ∷ es) q all h =
    ⊎_elim (λ same. subst P (sym same) (All-head (λ x. P x.0) e es all)) (λ rest. has_all P es q (All-tail (λ x. P x.0) e es all) rest) (has-cons e.0 (first_of es) q h)

has_find : (es : List (ℕ × ℕ)) (q : ℕ) → has (first_of es) q ≡ true → (v : ℕ) × (find nat_cmp q es ≡ Some v)
has_find [] q h = has_none q h
has_find (e ∷ es) q h =
    ⊎_elim
    (λ same. (e.1, ap (λ k. find nat_cmp k (e ∷ es)) same ∙ find_same e.0 e.1 es))
    (λ ne. ⊎_elim
    (λ same. absurd (ne same))
    (λ rest. let found = has_find es q rest in (found.0, find_other q e.0 e.1 es ne ∙ found.1))
    (has-cons e.0 (first_of es) q h))
    (cases_eq q e.0)

find_has : (es : List (ℕ × ℕ)) (q v : ℕ) → find nat_cmp q es ≡ Some v → has (first_of es) q ≡ true
find_has [] q v is = absurd (some_not_none (sym is))
find_has (e ∷ es) q v is =
    ⊎_elim
    (λ same. subst (λ k. has (first_of (e ∷ es)) k ≡ true) (sym same) (has_head e.0 (first_of es)))
    (λ ne. has_tail e.0 (first_of es) q (find_has es q v (sym (find_other q e.0 e.1 es ne) ∙ is)))
    (cases_eq q e.0)

names-renaming : (names : List ℕ) (won : List (ℕ × ℕ)) → first_of (renaming_of names won) ≡ map (slice_index names) (first_of won)
names-renaming names [] = refl
names-renaming names (e ∷ won) = ap (λ ns. slice_index names e.0 ∷ ns) (names-renaming names won)

module _ (objects : ObjectsValue) (slots : List (Option Place)) (collection : CollectionValue) (places : List (Option Place)) (blocks : List BlockValue) (workers : List WorkerLists)
    (sound : AreObjects (heap_in objects))
    (closed : IsClosed (heap_of objects slots).graph)
    (settled : IsSettled (heap_of objects slots) collection places blocks (all_won workers)) where
  low : (q : ℕ) → has (first_of (all_won workers)) q ≡ true → q < length (young_names (heap_of objects slots).graph collection.generation)
  low q h = has_all (λ n. n < length (young_names (heap_of objects slots).graph collection.generation)) (all_won workers) q (numbers_named objects slots collection places blocks (all_won workers) sound closed settled) h

  pub won_is : sum_by (λ (w : WorkerLists). length w.won) workers ≡ length (all_won workers)
  won_is = sym (length-flat_map (λ (w : WorkerLists). w.won) workers)

  pub won_within : sum_by (λ (w : WorkerLists). length w.won) workers ≤ collection.cells
  won_within =
      let few = length-le_from_distinct_below (first_of (all_won workers)) collection.cells settled.once (λ q h. has_all (λ n. n < collection.cells) (all_won workers) q settled.numbers h) in
      omega (arith, won_is, length-map (all_won workers) (λ (e : ℕ × ℕ). e.0), few)

  pub kept_count : LiveCount (heap_of objects slots).graph collection.generation (sum_by (λ (w : WorkerLists). length w.won) workers)
  kept_count = record {
    names = first_of (renaming_of (young_names (heap_of objects slots).graph collection.generation) (all_won workers));
    lists = record {
      distinct = subst (IsDistinct nat_eq) (sym (names-renaming (young_names (heap_of objects slots).graph collection.generation) (all_won workers)))
          (IsDistinct-map (slice_index (young_names (heap_of objects slots).graph collection.generation)) (first_of (all_won workers))
          (λ a b ha hb same. named_once objects slots collection places blocks (all_won workers) sound closed settled a b (low a ha) (low b hb) same) settled.once);
      only = λ name h. let found = has_find (renaming_of (young_names (heap_of objects slots).graph collection.generation) (all_won workers)) name h in settled.renaming.only_live name found.0 found.1;
      all = λ name live. let at = settled.renaming.all_live name live in find_has (renaming_of (young_names (heap_of objects slots).graph collection.generation) (all_won workers)) name at.0 at.1;
    };
    count = won_is
        ∙ sym (length-map (first_of (all_won workers)) (slice_index (young_names (heap_of objects slots).graph collection.generation)) ∙ length-map (all_won workers) (λ (e : ℕ × ℕ). e.0))
        ∙ ap length (sym (names-renaming (young_names (heap_of objects slots).graph collection.generation) (all_won workers)));
  }
