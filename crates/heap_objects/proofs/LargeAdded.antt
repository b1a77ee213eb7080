-- A new large object takes the first free blocks.
use Rattle.std.proofs.Common.{◌≡◌, ℕ, ◌+◌, ◌/◌, ◌<◌, ◌≤◌, ◌||◌, Bool, true, false, List, length, take, drop, replicate, Some, refl, sym, ap, subst, ◌∙◌, arith, ⊎_elim}
use Rattle.std.proofs.lemmas.Bool.{cases_eq}
use Rattle.std.proofs.lemmas.Bool.Decides.{nat_tests}
use Rattle.std.proofs.lemmas.List.{take-append-drop, length-take-le, length-replicate, length-map}
use Rattle.std.specs.Option.{option_map}
use Rattle.std.specs.FinMap.{insert}
use Rattle.model.specs.Graph.{Object, fresh_object, size_of}
use Rattle.model.specs.Reached.{has}
use Rattle.model.proofs.Has.{has-append}
use Rattle.model.proofs.Options.{some_is}
use Rattle.layout.specs.Place.{large_word}
use Rattle.steps.specs.Words.{target_of_word}
use Rattle.nursery.proofs.TableCensus.{map-nil}
use Rattle.large_objects.specs.LargeValue.{LargeObject, LargeValue, IsAdded, large_at, InUse, made, block_count}
use Rattle.large_objects.specs.PoolBlocks.{ArePoolBlocks, blocks_of, blocks_at}
use Rattle.heap_objects.specs.WithLarge.{large_object, with_large}
use Rattle.heap_objects.proofs.WithLarge.{get-large}
use Rattle.heap_objects.specs.Space.{SpaceValue, IsSpace, pool_in}
use Rattle.heap_objects.proofs.Shapes.{first_step}
use Rattle.heap_objects.specs.Inside.{AreApart, IsLargeObject}
use Rattle.heap_objects.specs.Objects.{ObjectsValue, AllocatesLarge, objects_of, wanted}
use Rattle.heap_objects.proofs.Sides.{none_large}
use Rattle.heap_objects.proofs.OwnBlocks.{blocks_map}
use Rattle.heap_objects.proofs.Changes.{insert_large, insert_blocks}

has_split : (k : ℕ) (xs : List ℕ) (q : ℕ) → has xs q ≡ (has (take k xs) q || has (drop k xs) q)
has_split k xs q = ap (λ ys. has ys q) (sym (take-append-drop k xs)) ∙ has-append (take k xs) (drop k xs) q

or_is : (a b : Bool) → (a || b) ≡ true → a ≡ false → b ≡ true
or_is true b h e = absurd (cc)
or_is false b h e = h

or_left : (a b : Bool) → a ≡ true → (a || b) ≡ true
or_left true b h = refl
or_left false b h = absurd (cc)

pub made_is : (p q : ℕ) (blocks : List ℕ) → large_object (made p q blocks) ≡ fresh_object p q
made_is p q blocks = ap (λ ps. let o : Object = record { pointers = ps; plain = replicate q 0; generation = 0; step = 0 } in o) (map-nil p)

module _ (space : SpaceValue) (large large' : LargeValue) (free' : List ℕ) (number p q : ℕ) (apart : AreApart space large)
    (few_pointers : p ≤ 100000) (few_plain : q ≤ 100000) (big : space.config.block_words / 4 < 1 + p + q)
    (enough : wanted space.config p q ≤ length space.free)
    (added : IsAdded large large' number (made p q (take (wanted space.config p q) space.free)))
    (granted : free' ≡ drop (wanted space.config p q) space.free)
    (sound : IsSpace (record space { free = free' })) (numbers : (n : ℕ) → InUse large' n → n < 65535)
    (pool : ArePoolBlocks large' (pool_in (record space { free = free' }))) where
  abbrev k : ℕ
  k = wanted space.config p q

  abbrev new : LargeObject
  new = made p q (take k space.free)

  many : length (large_object new).pointers ≡ p
  many = length-map (replicate p 0) target_of_word ∙ length-replicate p 0

  size_is : size_of (large_object new) ≡ 1 + p + q
  size_is = omega (arith, many, length-replicate {A = ℕ} q 0)

  is_new : IsLargeObject space.config new
  is_new = record {
    large = grind (arith, nat_tests, big, size_is);
    step = first_step space.config.shape apart.small.in_range.some_generation apart.small.in_range.some_step;
    pointers = omega (arith, length-replicate {A = ℕ} p 0, few_pointers);
    plain = omega (arith, length-replicate {A = ℕ} q 0, few_plain);
    count = length-take-le k space.free enough ∙ ap (λ s. block_count s space.config.block_words) (sym size_is);
  }

  was_free : (block : ℕ) → has (take k space.free) block ≡ true → has space.free block ≡ true
  was_free block h = has_split k space.free block ∙ or_left (has (take k space.free) block) (has (drop k space.free) block) h

  pub added_apart : AreApart (record space { free = free' }) large'
  added_apart = record {
    small = sound;
    numbers = numbers;
    pool = pool;
    each = λ n o is. ⊎_elim
        (λ e. let this : new ≡ o = some_is (sym added.at ∙ subst (λ j. large_at large' j ≡ Some o) e is) in subst (IsLargeObject space.config) this is_new)
        (λ ne. apart.each n o (sym (added.others n ne) ∙ is))
        (cases_eq n number);
    apart = λ n block h. ⊎_elim
        (λ e.
        let free = apart.small.free block (was_free block (subst (λ bs. has bs block ≡ true) (ap (blocks_at large') e ∙ ap blocks_of added.at) h)) in
        (free.0, λ offset lt. free.2 offset (omega (arith, lt))))
        (λ ne. apart.apart n block (subst (λ bs. has bs block ≡ true) (ap blocks_of (added.others n ne)) h))
        (cases_eq n number);
    all_free = λ block le lt none no_large.
        let before = apart.all_free block le lt none (λ n. ⊎_elim
        (λ e. ap (λ x. has (blocks_of x) block) (ap (large_at large) e ∙ added.was_vacant))
        (λ ne. subst (λ bs. has bs block ≡ false) (ap blocks_of (added.others n ne)) (no_large n))
        (cases_eq n number)) in
        let not_taken : has (take k space.free) block ≡ false = subst (λ bs. has bs block ≡ false) (ap blocks_of added.at) (no_large number) in
        ap (λ free. has free block) granted ∙ or_is (has (take k space.free) block) (has (drop k space.free) block) (sym (has_split k space.free block) ∙ before) not_taken;
  }

  pub allocates_large : AllocatesLarge (objects_of space large) p q (large_word number) (objects_of (record space { free = free' }) large')
  allocates_large =
      let objects : with_large space.objects large'.slots ≡ insert (with_large space.objects large.slots) (large_word number) (fresh_object p q) = insert_large space.objects (none_large space apart.small) large.slots large'.slots number new added.at added.others ∙ ap (insert (with_large space.objects large.slots) (large_word number)) (made_is p q (take k space.free)) in
      let blocks : blocks_map large'.slots ≡ insert (blocks_map large.slots) (large_word number) (take k space.free) = insert_blocks space.objects (none_large space apart.small) large.slots large'.slots number new added.at added.others in
      record {
        new_name = get-large space.objects large.slots number (none_large space apart.small number) ∙ ap (option_map large_object) added.was_vacant;
        change =
            ap (λ m. let o : ObjectsValue = record { config = space.config; objects = m; rooms = space.rooms; free = free'; large_blocks = blocks_map large'.slots } in o) objects
            ∙ ap (λ b. let o : ObjectsValue = record { config = space.config; objects = insert (with_large space.objects large.slots) (large_word number) (fresh_object p q); rooms = space.rooms; free = free'; large_blocks = b } in o) blocks
            ∙ ap (λ f. let o : ObjectsValue = record { config = space.config; objects = insert (with_large space.objects large.slots) (large_word number) (fresh_object p q); rooms = space.rooms; free = f; large_blocks = insert (blocks_map large.slots) (large_word number) (take k space.free) } in o) granted;
      }

module _ (space space' : SpaceValue) (large large' : LargeValue) (number p q : ℕ) (apart : AreApart space large)
    (few_pointers : p ≤ 100000) (few_plain : q ≤ 100000) (big : space.config.block_words / 4 < 1 + p + q)
    (enough : wanted space.config p q ≤ length space.free)
    (added : IsAdded large large' number (made p q (take (wanted space.config p q) space.free)))
    (granted : space' ≡ record space { free = drop (wanted space.config p q) space.free })
    (sound : IsSpace space') (numbers : (n : ℕ) → InUse large' n → n < 65535)
    (pool : ArePoolBlocks large' (pool_in space')) where
  abbrev free_left : List ℕ
  free_left = drop (wanted space.config p q) space.free

  pub add_apart : AreApart space' large'
  add_apart = subst (λ s. AreApart s large') (sym granted) (added_apart space large large' free_left number p q apart few_pointers few_plain big enough added refl (subst IsSpace granted sound) numbers (subst (λ s. ArePoolBlocks large' (pool_in s)) granted pool))

  pub add_allocates : AllocatesLarge (objects_of space large) p q (large_word number) (objects_of space' large')
  add_allocates = subst (λ s. AllocatesLarge (objects_of space large) p q (large_word number) (objects_of s large')) (sym granted) (allocates_large space large large' free_left number p q apart few_pointers few_plain big enough added refl (subst IsSpace granted sound) numbers (subst (λ s. ArePoolBlocks large' (pool_in s)) granted pool))
