-- An object that is written, in its block or by its number, is written among both.
use Rattle.std.proofs.Common.{◌≡◌, ℕ, ◌<◌, ◌/◌, length, map, set, Option, Some, None, refl, sym, ap, subst, ◌∙◌, arith}
use Rattle.std.proofs.lemmas.List.{length-map, length-set, map-set}
use Rattle.std.specs.Prelude.{IsSome, IsSomeAnd, IsTrue, nat_lt}
use Rattle.std.specs.Option.{option_map}
use Rattle.std.specs.FinMap.{get, insert}
use Rattle.model.specs.Config.{Config}
use Rattle.model.specs.Graph.{Object, size_of, with_pointer}
use Rattle.model.proofs.Options.{some_is}
use Rattle.layout.specs.declared.place.Place.{Place}
use Rattle.layout.specs.Place.{large_word, place_word, pointer_word}
use Rattle.block_pool.specs.BlockValue.{with_pointer_word, with_plain_word}
use Rattle.block_pool.specs.PoolValue.{PoolValue}
use Rattle.steps.specs.Words.{target_of_word}
use Rattle.large_objects.specs.LargeValue.{LargeObject, LargeValue, InUse, large_at, with_object, block_count}
use Rattle.large_objects.specs.PoolBlocks.{ArePoolBlocks}
use Rattle.heap_objects.specs.WithLarge.{large_object, with_large}
use Rattle.heap_objects.proofs.WithLarge.{get-small}
use Rattle.heap_objects.specs.Space.{SpaceValue, IsSpace, pool_in}
use Rattle.heap_objects.proofs.FieldWrites.{some_and, target_of_pointer}
use Rattle.heap_objects.specs.Inside.{AreApart, IsLargeObject}
use Rattle.heap_objects.specs.Objects.{ObjectsValue, objects_of}
use Rattle.heap_objects.proofs.Sides.{none_large, at_large}
use Rattle.heap_objects.proofs.OwnBlocks.{blocks_map}
use Rattle.heap_objects.proofs.Changes.{insert_small, insert_large, same_blocks, insert_apart, stands_elsewhere, set_here, set_other, set_blocks, set_apart}

module _ (space : SpaceValue) (large : LargeValue) (apart : AreApart space large) (P : Object → Type 0) (f : Object → Object) where
  -- a small object
  module _ (name : ℕ) (below : name < large_word 0) (some : IsSomeAnd (get (objects_of space large).objects name) P) where
    pub some_small : IsSomeAnd (get space.objects name) P
    some_small = subst (λ o. IsSomeAnd o P) (get-small space.objects large.slots name below) some

    module _ (space' : SpaceValue) (change : (o : Object) → get space.objects name ≡ Some o → space' ≡ record space { objects = insert space.objects name (f o) }) where
      pub small_apart : IsSpace space' → AreApart space' large
      small_apart sound =
          let there = some_and P (get space.objects name) some_small in
          let is = change there.0 there.1 in
          subst (λ s. AreApart s large) (sym is)
          (insert_apart space large apart name (f there.0) space.rooms (subst IsSpace is sound) (stands_elsewhere space name there.0 there.1))

      pub small_written : (o : Object) → get (objects_of space large).objects name ≡ Some o → objects_of space' large ≡ record (objects_of space large) { objects = insert (objects_of space large).objects name (f o) }
      small_written o is =
          ap (λ s. objects_of s large) (change o (sym (get-small space.objects large.slots name below) ∙ is))
          ∙ ap (λ m. let x : ObjectsValue = record { config = space.config; objects = m; rooms = space.rooms; free = space.free; large_blocks = blocks_map large.slots } in x) (insert_small space.objects large.slots name (f o))

  -- a large one
  module _ (n : ℕ) (some : IsSomeAnd (get (objects_of space large).objects (large_word n)) P) where
    pub here : (o : LargeObject) × (large_at large n ≡ Some o) × P (large_object o)
    here = go (large_at large n) refl
      where
        there : (x : Option LargeObject) → large_at large n ≡ x → IsSomeAnd (option_map large_object x) P
        there x is = subst (λ o. IsSomeAnd o P) (at_large space apart.small large n ∙ ap (option_map large_object) is) some

        go : (x : Option LargeObject) → large_at large n ≡ x → (o : LargeObject) × (large_at large n ≡ Some o) × P (large_object o)
        go None is = absurd (there None is)
        go (Some o) is = (o, is, there (Some o) is)

    pub in_use : InUse large n
    in_use = subst (λ x. IsSome x) (sym here.1) refl

    pub its : (o : LargeObject) → large_at large n ≡ Some o → P (large_object o)
    its o is = let same : here.0 ≡ o = some_is (sym here.1 ∙ is) in subst (λ x. P (large_object x)) same here.2

    module _ (h : LargeObject → LargeObject) (large' : LargeValue) (blocks : (o : LargeObject) → (h o).blocks ≡ o.blocks) (change : (o : LargeObject) → large_at large n ≡ Some o → large' ≡ with_object large n (h o)) where
      pub large_apart : ((o : LargeObject) → P (large_object o) → IsLargeObject space.config o → IsLargeObject space.config (h o)) → ((pool : PoolValue) → ArePoolBlocks large pool → ArePoolBlocks large' pool) → AreApart space large'
      large_apart keeps pool =
          let is = change here.0 here.1 in
          subst (λ l. AreApart space l) (sym is)
          (set_apart large n here.0 (h here.0) here.1 space apart (blocks here.0) (keeps here.0 here.2 (apart.each n here.0 here.1)) (subst (λ l. ArePoolBlocks l (pool_in space)) is (pool (pool_in space) apart.pool)))

      pub large_written : ((o : LargeObject) → large_object (h o) ≡ f (large_object o)) → (o : Object) → get (objects_of space large).objects (large_word n) ≡ Some o → objects_of space large' ≡ record (objects_of space large) { objects = insert (objects_of space large).objects (large_word n) (f o) }
      large_written shows o is =
          let old = here.0 in
          let same : large_object old ≡ o = some_is (sym (at_large space apart.small large n ∙ ap (option_map large_object) here.1) ∙ is) in
          ap (objects_of space) (change old here.1)
          ∙ ap (λ m. let x : ObjectsValue = record { config = space.config; objects = m; rooms = space.rooms; free = space.free; large_blocks = blocks_map (set large.slots n (Some (h old))) } in x)
          (insert_large space.objects (none_large space apart.small) large.slots (set large.slots n (Some (h old))) n (h old) (set_here large n old (h old) here.1) (set_other large n old (h old) here.1)
          ∙ ap (insert (with_large space.objects large.slots) (large_word n)) (shows old ∙ ap f same))
          ∙ ap (λ b. let x : ObjectsValue = record { config = space.config; objects = insert (with_large space.objects large.slots) (large_word n) (f o); rooms = space.rooms; free = space.free; large_blocks = b } in x)
          (same_blocks large.slots (set large.slots n (Some (h old))) (set_blocks large n old (h old) here.1 (blocks old)))

abbrev pub pointer_set : ℕ → ℕ → LargeObject → LargeObject
pointer_set i word o = record o { raw = with_pointer_word o.raw i word }

abbrev pub plain_set : ℕ → ℕ → LargeObject → LargeObject
plain_set i word o = record o { raw = with_plain_word o.raw i word }

same_size : (config : Config) (o o' : LargeObject) → IsLargeObject config o → o'.generation ≡ o.generation → o'.step ≡ o.step → o'.blocks ≡ o.blocks → length o'.raw.pointers ≡ length o.raw.pointers → length o'.raw.plain ≡ length o.raw.plain → IsLargeObject config o'
same_size config o o' is generation step blocks pointers plain = record {
  large = subst (λ n. IsTrue (nat_lt (config.block_words / 4) n)) (sym size) is.large;
  step = rw (generation, step) is.step;
  pointers = omega (arith, pointers, is.pointers);
  plain = omega (arith, plain, is.plain);
  count = ap length blocks ∙ is.count ∙ ap (λ n. block_count n config.block_words) (sym size);
}
  where
    size : size_of (large_object o') ≡ size_of (large_object o)
    size = omega (arith, pointers, plain, length-map o.raw.pointers target_of_word, length-map o'.raw.pointers target_of_word)

pub pointer_kept : (config : Config) (i word : ℕ) (o : LargeObject) → IsLargeObject config o → IsLargeObject config (pointer_set i word o)
pointer_kept config i word o is = same_size config o (pointer_set i word o) is refl refl refl (length-set o.raw.pointers i word) refl

pub plain_kept : (config : Config) (i word : ℕ) (o : LargeObject) → IsLargeObject config o → IsLargeObject config (plain_set i word o)
plain_kept config i word o is = same_size config o (plain_set i word o) is refl refl refl refl (length-set o.raw.plain i word)

pub pointer_shows : (i word : ℕ) (target : Option Place) → word ≡ pointer_word target → (o : LargeObject) → large_object (pointer_set i word o) ≡ with_pointer (large_object o) i (option_map place_word target)
pointer_shows i word target is o =
    ap (λ ps. let x : Object = record { pointers = ps; plain = o.raw.plain; generation = o.generation; step = o.step } in x)
    (map-set target_of_word o.raw.pointers i word ∙ ap (set (map target_of_word o.raw.pointers) i) (ap target_of_word is ∙ target_of_pointer target))
