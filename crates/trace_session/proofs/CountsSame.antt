-- The counts of a collection and of a census are the same in a store and in the heap that stands for it.
use Rattle.std.proofs.Common.{◌≡◌, ℕ, ◌+◌, ◌/◌, Bool, true, false, ◌||◌, ◌&&◌, not, cond, List, [], ◌∷◌, map, length, Option, Some, None, refl, sym, ap, subst, ◌∙◌, arith}
use Rattle.std.specs.Prelude.{nat_eq, nat_lt, nat_le, sum_by, count_by, filter, flat_map}
use Rattle.std.specs.Option.{option_map, option_map_or}
use Rattle.std.specs.List.{list_any}
use Rattle.std.proofs.lemmas.List.{length-map}
use Rattle.std.proofs.lemmas.List.Sums.{sum_by-cons, length-filter}
use Rattle.std.specs.FinMap.{keys, values}
use Rattle.model.specs.Graph as graph
use Rattle.model.specs.Graph.{Graph, Object, size_of, is_large}
use Rattle.model.specs.Reached.{has}
use Rattle.model.specs.Config.{Config}
use Rattle.model.specs.Destination.{all_steps}
use Rattle.model.specs.Live.{Live}
use Rattle.model.specs.LiveCount.{LiveCount}
use Rattle.model.specs.OldSlots.{is_young_name}
use Rattle.model.specs.Census.{is_small_at, step_count, points_to, points_younger, census_of}
use Rattle.model.specs.Store.{Store, object_at, present, some_of, live_list, kept_count, freed_count, store_census}
use Rattle.model.proofs.Has.{has_head, has_tail, has_map, has_map_of}
use Rattle.model.proofs.Same.{same_length_filter, IsDistinct-map}
use Rattle.model.proofs.LiveLemmas.{LiveCount-one}
use Rattle.trace_session.specs.Stands.{renamed_object, IsPlaced, IsNamed}
use Rattle.trace_session.proofs.LiveSame.{lists, listed_live, live_listed, listed_young, young_object}
use Rattle.model.proofs.KeyLists.{keys_distinct}
use Rattle.trace_session.proofs.PresentLists.{present_names, places_distinct, same_keys, same_sum, young_count}

counted_filter : {X : Type 0} (p : X → Bool) (f : X → ℕ) (xs : List X) → sum_by f (filter p xs) ≡ sum_by (λ x. cond (p x) (f x) 0) xs
counted_filter p f [] = refl
counted_filter p f (x ∷ xs) =
    elim (p x) as (λ b. sum_by f (cond b (x ∷ filter p xs) (filter p xs)) ≡ cond b (f x) 0 + sum_by (λ y. cond (p y) (f y) 0) xs) [
      | true ↦ sum_by-cons f x (filter p xs) ∙ ap (λ n. f x + n) (counted_filter p f xs)
      | false ↦ (let rest = counted_filter p f xs in omega (arith, rest))
    ]
    ∙ sym (sum_by-cons (λ y. cond (p y) (f y) 0) x xs)

size-renamed : (place : ℕ → ℕ) (o : Object) → size_of (renamed_object place o) ≡ size_of o
size-renamed place o = ap (λ n. 1 + n + length o.plain) (length-map o.pointers (option_map place))

large-renamed : (words : ℕ) (place : ℕ → ℕ) (o : Object) → is_large words (renamed_object place o) ≡ is_large words o
large-renamed words place o = ap (λ n. nat_lt (words / 4) n) (size-renamed place o)

small-renamed : (words : ℕ) (at : ℕ × ℕ) (place : ℕ → ℕ) (o : Object) → is_small_at words at (renamed_object place o) ≡ is_small_at words at o
small-renamed words at place o = ap (λ b. (nat_eq o.generation at.0 && nat_eq o.step at.1) && not b) (large-renamed words place o)

module _ (store : Store) (place : ℕ → ℕ) (heap : Graph) (placed : IsPlaced store place heap) where
  -- counts and sums over the objects that pass a test
  same_count : (p q : Object → Bool) → ((name : ℕ) (o : Object) → object_at store name ≡ Some o → p (renamed_object place o) ≡ q o) → length (filter p (values heap.objects)) ≡ length (filter q (present store))
  same_count p q same =
      length-filter p (values heap.objects)
      ∙ same_sum store place heap placed (λ o. cond (p o) 1 0) (λ o. cond (q o) 1 0) (λ name o there. ap (λ b. cond b 1 0) (same name o there))
      ∙ sym (length-filter q (present store))

  same_words : (p : Object → Bool) → ((o : Object) → p (renamed_object place o) ≡ p o) → sum_by size_of (filter p (values heap.objects)) ≡ sum_by size_of (filter p (present store))
  same_words p same =
      counted_filter p size_of (values heap.objects)
      ∙ same_sum store place heap placed (λ o. cond (p o) (size_of o) 0) (λ o. cond (p o) (size_of o) 0)
      (λ name o there. ap (λ b. cond b (size_of (renamed_object place o)) 0) (same o) ∙ ap (λ n. cond (p o) n 0) (size-renamed place o))
      ∙ sym (counted_filter p size_of (present store))

  same_step : (words : ℕ) (at : ℕ × ℕ) → step_count words (values heap.objects) at ≡ step_count words (present store) at
  same_step words at =
      let objects = same_count (is_small_at words at) (is_small_at words at) (λ name o there. small-renamed words at place o) in
      let sizes = same_words (is_small_at words at) (small-renamed words at place) in
      λ i. record { generation = at.0; step = at.1; objects = objects i; words = sizes i }

  younger_pointers : (test : Object → Bool) → ((o : Object) → test (renamed_object place o) ≡ test o) → (pointers : List (Option ℕ)) → ((target : ℕ) → has (flat_map some_of pointers) target ≡ true → (p : Object) × (object_at store target ≡ Some p)) → list_any (points_to test (graph.object_at heap)) (map (option_map place) pointers) ≡ list_any (points_to test (object_at store)) pointers
  younger_pointers test same [] there = refl
  younger_pointers test same (None ∷ pointers) there = younger_pointers test same pointers there
  younger_pointers test same (Some target ∷ pointers) there =
      let to = there target (has_head target (flat_map some_of pointers)) in
      let here : option_map_or test (graph.object_at heap (place target)) false ≡ option_map_or test (object_at store target) false =
      ap (λ x. option_map_or test x false) (placed.objects target to.0 to.1) ∙ same to.0 ∙ ap (λ x. option_map_or test x false) (sym to.1) in
      let rest = younger_pointers test same pointers (λ t h. there t (has_tail target (flat_map some_of pointers) t h)) in
      λ i. here i || rest i

  same_younger : (name : ℕ) (o : Object) → object_at store name ≡ Some o → points_younger (graph.object_at heap) (renamed_object place o) ≡ points_younger (object_at store) o
  same_younger name o there = younger_pointers (λ target. nat_lt target.generation o.generation) (λ p. refl) o.pointers (λ target points. placed.closed name target o there points)

  pub same_census : (config : Config) (roots : ℕ) → roots ≡ length store.names → census_of config (graph.object_at heap) (values heap.objects) roots ≡ store_census config store
  same_census config roots are =
      let steps : (at : ℕ × ℕ) → step_count config.block_words (values heap.objects) at ≡ step_count config.block_words (present store) at = same_step config.block_words in
      let large = same_count (is_large config.block_words) (is_large config.block_words) (λ name o there. large-renamed config.block_words place o) in
      let words = same_words (is_large config.block_words) (large-renamed config.block_words place) in
      let younger : count_by (points_younger (graph.object_at heap)) (values heap.objects) ≡ count_by (points_younger (object_at store)) (present store) =
      same_sum store place heap placed (λ o. cond (points_younger (graph.object_at heap) o) 1 0) (λ o. cond (points_younger (object_at store) o) 1 0) (λ name o there. ap (λ b. cond b 1 0) (same_younger name o there)) in
      λ i. record {
        steps = map (λ at. steps at i) (all_steps config.shape);
        large_objects = large i;
        large_words = words i;
        roots = are i;
        remembered = younger i;
      }

module _ (store : Store) (place : ℕ → ℕ) (heap : Graph) (names : List (List ℕ × ℕ)) (placed : IsPlaced store place heap) (before : IsNamed store place heap names) (g : ℕ) where
  live_count : LiveCount heap g (kept_count store g)
  live_count = record {
    names = map place (live_list store g);
    lists = record {
      distinct =
          IsDistinct-map place (live_list store g)
          (λ a b there_a there_b same.
          let o = young_object store g a (listed_young store place heap names placed before g a there_a) in
          let p = young_object store g b (listed_young store place heap names placed before g b there_b) in
          placed.one_to_one a b o.object p.object o.there p.there same)
          (lists store place heap names placed before g).distinct;
      only = λ q there.
          let from = has_map_of place (live_list store g) q there in
          subst (λ k. Live heap g k) from.2 (listed_live store place heap names placed before g from.0 from.1);
      all = λ q live.
          let l = live_listed store place heap names placed before g q live in
          subst (λ k. has (map place (live_list store g)) k ≡ true) l.place_is (has_map place (live_list store g) l.name l.listed);
    };
    count = sym (length-map (live_list store g) place);
  }

  pub kept_is : (kept : ℕ) → LiveCount heap g kept → kept ≡ kept_count store g
  kept_is kept count = LiveCount-one heap g kept (kept_count store g) count live_count

  -- the objects of the generations collected
  young_are : length (filter (is_young_name heap g) (keys heap.objects)) ≡ count_by (λ o. nat_le o.generation g) (present store)
  young_are =
      sym (same_length_filter (map place (present_names store)) (keys heap.objects) (places_distinct store place heap placed) (keys_distinct heap.objects) (same_keys store place heap placed) (is_young_name heap g))
      ∙ young_count store place heap placed g

  pub freed_is : (kept freed : ℕ) → LiveCount heap g kept → kept + freed ≡ length (filter (is_young_name heap g) (keys heap.objects)) → freed ≡ freed_count store g
  freed_is kept freed count all = omega (arith, kept_is kept count, all, young_are)
