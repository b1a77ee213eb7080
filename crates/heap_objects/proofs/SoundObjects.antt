-- What holds of the objects of every heap.
use Rattle.std.proofs.Common.{◌≡◌, ◌≢◌, ℕ, ◌+◌, ◌/◌, ◌<◌, ◌≤◌, Bool, true, false, true≢false, length, Option, Some, None, refl, sym, ap, subst, ◌∙◌, arith, ⊎_elim}
use Rattle.std.proofs.lemmas.Bool.{cases_Bool}
use Rattle.std.proofs.lemmas.Bool.Decides.{nat_tests}
use Rattle.std.proofs.lemmas.List.{length-map}
use Rattle.std.specs.Prelude.{IsSome, IsSomeAnd, nat_eq}
use Rattle.std.specs.List.{IsDistinct}
use Rattle.std.specs.Option.{option_map}
use Rattle.std.specs.FinMap.{get}
use Rattle.model.specs.Graph.{Object, size_of, is_large}
use Rattle.model.specs.Reached.{has}
use Rattle.model.proofs.Options.{some_not_none}
use Rattle.layout.specs.Place.{small_word, large_word}
use Rattle.steps.specs.CollectedHeap.{IsFreeBlock, HoldsObject}
use Rattle.steps.specs.Words.{target_of_word}
use Rattle.large_objects.specs.LargeValue.{LargeObject, LargeValue, large_at, InUse}
use Rattle.large_objects.specs.PoolBlocks.{blocks_of, blocks_at}
use Rattle.heap_objects.specs.WithLarge.{large_object}
use Rattle.heap_objects.specs.Space.{SpaceValue, EndsInBlock}
use Rattle.heap_objects.specs.HeapSpaceCollecting.{HoldsNone}
use Rattle.heap_objects.specs.Objects.{ObjectsValue, objects_of, graph_in, heap_in}
use Rattle.heap_objects.specs.Blocks.{HaveBlocks}
use Rattle.heap_objects.specs.Sound.{IsHeapObject, IsWellPlaced, AreObjects}
use Rattle.heap_objects.specs.Inside.{AreApart}
use Rattle.heap_objects.proofs.Sides.{each_side, at_small, at_large}
use Rattle.heap_objects.proofs.OwnBlocks.{blocks_map, get-blocks, found_blocks}

not_large : (words : ℕ) (o : Object) → size_of o ≤ words / 4 → is_large words o ≡ false
not_large words o small = grind (arith, nat_tests, small)

module _ (space : SpaceValue) (large : LargeValue) (apart : AreApart space large) where
  some_used : (n : ℕ) (l : LargeObject) → large_at large n ≡ Some l → InUse large n
  some_used n l is = subst (λ x. IsSome x) (sym is) refl

  heap_object : (name : ℕ) (o : Object) → get (objects_of space large).objects name ≡ Some o → IsHeapObject space.config o
  heap_object name o is = ⊎_elim
      (λ here.
      let small = apart.small.small name o here in
      let most = apart.small.in_range.most_words in
      record { step = apart.small.steps name o here; pointers = omega (arith, small, most); plain = omega (arith, small, most) })
      (λ f. let l = apart.each f.k f.large f.there in rw (← f.is) (record {
        step = l.step;
        pointers = omega (arith, length-map f.large.raw.pointers target_of_word, l.pointers);
        plain = l.plain;
      }))
      (each_side space apart.small large.slots name o is)

  well_placed : (name : ℕ) (o : Object) → get (objects_of space large).objects name ≡ Some o → IsWellPlaced space.config name o
  well_placed name o is = ⊎_elim
      (λ here. record {
        small = λ _. apart.small.places name o here;
        large = λ big. absurd (true≢false (sym big ∙ not_large space.config.block_words o (apart.small.small name o here)));
      })
      (λ f. let l = apart.each f.k f.large f.there in record {
        small = λ none. absurd (true≢false (sym l.large ∙ ap (is_large space.config.block_words) f.is ∙ none));
        large = λ _. record { number = f.k; in_range = apart.numbers f.k (some_used f.k f.large f.there); is = omega (arith, f.word) };
      })
      (each_side space apart.small large.slots name o is)

  -- of a small object, among those that stand in blocks
  in_blocks : (name : ℕ) (o : Object) → get (objects_of space large).objects name ≡ Some o → is_large space.config.block_words o ≡ false → get space.objects name ≡ Some o
  in_blocks name o is small = ⊎_elim
      (λ here. here)
      (λ f. absurd (true≢false (sym (apart.each f.k f.large f.there).large ∙ ap (is_large space.config.block_words) f.is ∙ small)))
      (each_side space apart.small large.slots name o is)

  lies_within : (name : ℕ) (o : Object) → get (objects_of space large).objects name ≡ Some o → is_large space.config.block_words o ≡ false → EndsInBlock space.config.block_words name (size_of o)
  lies_within name o is small = apart.small.within name o (in_blocks name o is small)

  ends_before : (name next : ℕ) (o p : Object) → get (objects_of space large).objects name ≡ Some o → get (objects_of space large).objects next ≡ Some p → is_large space.config.block_words o ≡ false → name < next → name + size_of o ≤ next
  ends_before name next o p is other small lt =
      let here = in_blocks name o is small in
      ⊎_elim
      (λ there. apart.small.apart name next o p here there lt)
      (λ f.
      let at = apart.small.places name o here in
      let few = apart.small.small name o here in
      let range = apart.small.in_range in
      omega (arith, f.word, at.is, at.block_in_range, at.offset_in_range, few, range.most_words, range.most_blocks))
      (each_side space apart.small large.slots next p other)

  none_in : (block : ℕ) → block < 65536 → HoldsNone space block → HoldsObject (graph_in (objects_of space large)) block → ⊥
  none_in block few none holds = some_not_none (sym holds.there ∙ at_small space.objects large.slots block holds.offset few (omega (arith, holds.in_range)) ∙ none holds.offset holds.in_range)

  holds_none : (block : ℕ) → block < 65536 → ¬ (HoldsObject (graph_in (objects_of space large)) block) → HoldsNone space block
  holds_none block few not offset lt = go (get space.objects (small_word block offset)) refl
    where
      go : (o : Option Object) → get space.objects (small_word block offset) ≡ o → get space.objects (small_word block offset) ≡ None
      go None is = is
      go (Some o) is =
          let holds : HoldsObject (graph_in (objects_of space large)) block = record { offset = offset; object = o; in_range = lt; there = at_small space.objects large.slots block offset few (omega (arith, lt)) ∙ is } in
          absurd (not holds)

  few : (block : ℕ) → block < space.config.blocks → block < 65536
  few block lt = omega (arith, lt, apart.small.in_range.most_blocks)

  free_block : (block : ℕ) → has space.free block ≡ true → IsFreeBlock (heap_in (objects_of space large)) block
  free_block block h =
      let free = apart.small.free block h in
      record {
        in_pool = free.0;
        in_range = free.1;
        holds_none = λ holds. none_in block (few block free.1) (λ offset lt. free.2 offset (omega (arith, lt))) holds;
        no_large = λ name blocks is theirs.
            let f = found_blocks large.slots name blocks is in
            let own : blocks_at large f.k ≡ blocks = ap blocks_of f.there ∙ f.is in
            absurd (true≢false (sym h ∙ apart.pool.taken f.k block (subst (λ bs. has bs block ≡ true) (sym own) theirs)));
      }

  is_free : (block : ℕ) → IsFreeBlock (heap_in (objects_of space large)) block → has space.free block ≡ true
  is_free block free = apart.all_free block free.in_pool free.in_range (holds_none block (few block free.in_range) free.holds_none) (λ n. none_of n (large_at large n) refl)
    where
      none_of : (n : ℕ) (x : Option LargeObject) → large_at large n ≡ x → has (blocks_at large n) block ≡ false
      none_of n None is = ap (λ y. has (blocks_of y) block) is
      none_of n (Some l) is = ⊎_elim
          (λ h. absurd (free.no_large (large_word n) l.blocks (get-blocks large.slots n ∙ ap (option_map (λ (y : LargeObject). y.blocks)) is) (sym (ap (λ y. has (blocks_of y) block) is) ∙ h)))
          (λ h. h)
          (cases_Bool (has (blocks_at large n) block))

  own_blocks : HaveBlocks (heap_in (objects_of space large))
  own_blocks = record {
    each = λ name o is big. ⊎_elim
        (λ here. absurd (true≢false (sym big ∙ not_large space.config.block_words o (apart.small.small name o here))))
        (λ f.
        let word : name ≡ large_word f.k = omega (arith, f.word) in
        (f.large.blocks, ap (get (blocks_map large.slots)) word ∙ get-blocks large.slots f.k ∙ ap (option_map (λ (y : LargeObject). y.blocks)) f.there))
        (each_side space apart.small large.slots name o is);
    theirs = λ name blocks is.
        let f = found_blocks large.slots name blocks is in
        let word : name ≡ large_word f.k = omega (arith, f.word) in
        let own : blocks_at large f.k ≡ blocks = ap blocks_of f.there ∙ f.is in
        let l = apart.each f.k f.large f.there in (
          large_object f.large,
          ap (get (objects_of space large).objects) word ∙ at_large space apart.small large f.k ∙ ap (option_map large_object) f.there,
          record {
            large = l.large;
            count = sym (ap length f.is) ∙ l.count;
            once = subst (λ bs. IsDistinct nat_eq bs) own (apart.pool.once f.k);
            in_pool = λ block h. let theirs = subst (λ bs. has bs block ≡ true) (sym own) h in ((apart.apart f.k block theirs).0, apart.pool.in_limit f.k block theirs);
            hold_none = λ block h holds. let theirs = subst (λ bs. has bs block ≡ true) (sym own) h in none_in block (few block (apart.pool.in_limit f.k block theirs)) (apart.apart f.k block theirs).1 holds;
          },
        );
    apart = λ name other block blocks others ne is is' h h'.
        let f = found_blocks large.slots name blocks is in
        let f' = found_blocks large.slots other others is' in
        let apart_numbers : f.k ≢ f'.k = λ e. ne (omega (arith, f.word, f'.word, e)) in
        let own : blocks_at large f.k ≡ blocks = ap blocks_of f.there ∙ f.is in
        let own' : blocks_at large f'.k ≡ others = ap blocks_of f'.there ∙ f'.is in
        true≢false (sym (subst (λ bs. has bs block ≡ true) (sym own') h') ∙ apart.pool.apart f.k f'.k block apart_numbers (subst (λ bs. has bs block ≡ true) (sym own) h));
  }

  pub are_objects : AreObjects (heap_in (objects_of space large))
  are_objects = record {
    range = apart.small.in_range;
    objects = heap_object;
    places = well_placed;
    within = lies_within;
    apart = ends_before;
    mutators = apart.small.mutators;
    rooms = apart.small.rooms;
    free = λ block. (free_block block, is_free block);
    rising = apart.small.rising;
    large = own_blocks;
  }

-- what stands at the word of a place in a block is small
pub small_here : (objects : ObjectsValue) → AreObjects (heap_in objects) → (name : ℕ) → name < large_word 0 → IsSome (get objects.objects name) → IsSomeAnd (get objects.objects name) (λ o. is_large objects.config.block_words o ≡ false)
small_here objects sound name below there = go (get objects.objects name) refl there
  where
    go : (o : Option Object) → get objects.objects name ≡ o → IsSome o → IsSomeAnd o (λ x. is_large objects.config.block_words x ≡ false)
    go None is some = absurd (true≢false (sym some))
    go (Some x) is some = by_size (is_large objects.config.block_words x) refl
      where
        by_size : (b : Bool) → is_large objects.config.block_words x ≡ b → b ≡ false
        by_size false size = refl
        by_size true size = let at = (sound.places name x is).large size in absurd (omega (arith, at.is, below))
