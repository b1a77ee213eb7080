-- One object more, or another in its place.
use Rattle.std.proofs.Common.{◌≡◌, ◌≢◌, ℕ, zero, suc, ◌<◌, ◌≤◌, true, false, List, [], ◌∷◌, length, set, Option, Some, None, refl, sym, ap, subst, ◌∙◌, arith, ⊎_elim, get_or-set_same, get_or-set_other}
use Rattle.std.proofs.lemmas.Bool.{cases_eq}
use Rattle.std.specs.Prelude.{slice_index_or, IsSome}
use Rattle.std.specs.Option.{option_map}
use Rattle.std.specs.Ordering.{nat_cmp}
use Rattle.std.specs.FinMap.{FinMap, find, get, insert}
use Rattle.model.specs.Graph.{Object}
use Rattle.model.specs.Reached.{has}
use Rattle.model.specs.Room.{Room}
use Rattle.model.proofs.NatMap.{get-insert_same, get-insert_other, same_nat_map}
use Rattle.model.proofs.Options.{some_not_none}
use Rattle.model.proofs.Finds.{or_else}
use Rattle.layout.specs.Place.{small_word, large_word}
use Rattle.steps.specs.HeapValue.{nursery_count}
use Rattle.large_objects.specs.LargeValue.{LargeObject, LargeValue, large_at}
use Rattle.large_objects.specs.PoolBlocks.{ArePoolBlocks, blocks_of, blocks_at}
use Rattle.heap_objects.specs.WithLarge.{large_object, large_entries, with_large}
use Rattle.heap_objects.proofs.WithLarge.{get-with_large, get-small, get-large}
use Rattle.heap_objects.specs.Space.{SpaceValue, IsSpace, pool_in}
use Rattle.heap_objects.specs.HeapSpaceCollecting.{HoldsNone}
use Rattle.heap_objects.specs.Inside.{AreApart, IsLargeObject}
use Rattle.heap_objects.proofs.Sides.{same_sides}
use Rattle.heap_objects.proofs.OwnBlocks.{blocks_map, get-blocks, blocks_below}

-- a small object put among both
pub insert_small : (m : FinMap nat_cmp Object) (slots : List (Option LargeObject)) (name : ℕ) (o : Object) → with_large (insert m name o) slots ≡ insert (with_large m slots) name o
insert_small m slots name o = same_nat_map _ _ (λ q. get-with_large (insert m name o) slots q ∙ ⊎_elim
    (λ e. ap (λ w. or_else (get (insert m name o) w) (find nat_cmp w (large_entries 0 slots))) e ∙ ap (λ x. or_else x (find nat_cmp name (large_entries 0 slots))) (get-insert_same m name o) ∙ sym (ap (get (insert (with_large m slots) name o)) e ∙ get-insert_same (with_large m slots) name o))
    (λ ne. ap (λ x. or_else x (find nat_cmp q (large_entries 0 slots))) (get-insert_other m name o q ne) ∙ sym (get-with_large m slots q) ∙ sym (get-insert_other (with_large m slots) name o q ne))
    (cases_eq q name))

module _ (m : FinMap nat_cmp Object) (none : (k : ℕ) → get m (large_word k) ≡ None) (slots slots' : List (Option LargeObject)) (n : ℕ) (o : LargeObject) (this : slice_index_or slots' n None ≡ Some o) (others : (k : ℕ) → k ≢ n → slice_index_or slots' k None ≡ slice_index_or slots k None) where
  word_apart : (k : ℕ) → k ≢ n → large_word k ≢ large_word n
  word_apart k ne e = ne (omega (arith, e))

  -- a large object put among both
  pub insert_large : with_large m slots' ≡ insert (with_large m slots) (large_word n) (large_object o)
  insert_large = same_sides _ _
      (λ q lt. get-small m slots' q lt ∙ sym (get-small m slots q lt) ∙ sym (get-insert_other (with_large m slots) (large_word n) (large_object o) q (λ e. absurd (omega (arith, e, lt)))))
      (λ k. get-large m slots' k (none k) ∙ ⊎_elim
      (λ e. ap (λ j. option_map large_object (slice_index_or slots' j None)) e ∙ ap (option_map large_object) this ∙ sym (ap (λ j. get (insert (with_large m slots) (large_word n) (large_object o)) (large_word j)) e ∙ get-insert_same (with_large m slots) (large_word n) (large_object o)))
      (λ ne. ap (option_map large_object) (others k ne) ∙ sym (get-large m slots k (none k)) ∙ sym (get-insert_other (with_large m slots) (large_word n) (large_object o) (large_word k) (word_apart k ne)))
      (cases_eq k n))

  -- and its blocks
  pub insert_blocks : blocks_map slots' ≡ insert (blocks_map slots) (large_word n) o.blocks
  insert_blocks = same_sides _ _
      (λ q lt. blocks_below slots' q lt ∙ sym (blocks_below slots q lt) ∙ sym (get-insert_other (blocks_map slots) (large_word n) o.blocks q (λ e. absurd (omega (arith, e, lt)))))
      (λ k. get-blocks slots' k ∙ ⊎_elim
      (λ e. ap (λ j. option_map (λ (x : LargeObject). x.blocks) (slice_index_or slots' j None)) e ∙ ap (option_map (λ (x : LargeObject). x.blocks)) this ∙ sym (ap (λ j. get (insert (blocks_map slots) (large_word n) o.blocks) (large_word j)) e ∙ get-insert_same (blocks_map slots) (large_word n) o.blocks))
      (λ ne. ap (option_map (λ (x : LargeObject). x.blocks)) (others k ne) ∙ sym (get-blocks slots k) ∙ sym (get-insert_other (blocks_map slots) (large_word n) o.blocks (large_word k) (word_apart k ne)))
      (cases_eq k n))

-- where each large object has the same blocks as before, so has each place
pub same_blocks : (slots slots' : List (Option LargeObject)) → ((k : ℕ) → option_map (λ (x : LargeObject). x.blocks) (slice_index_or slots' k None) ≡ option_map (λ (x : LargeObject). x.blocks) (slice_index_or slots k None)) → blocks_map slots' ≡ blocks_map slots
same_blocks slots slots' same = same_sides _ _ (λ q lt. blocks_below slots' q lt ∙ sym (blocks_below slots q lt)) (λ k. get-blocks slots' k ∙ same k ∙ sym (get-blocks slots k))

-- the object of a number was changed
module _ (large : LargeValue) (n : ℕ) (o o' : LargeObject) (at : large_at large n ≡ Some o) where
  abbrev slots' : List (Option LargeObject)
  slots' = set large.slots n (Some o')

  in_slots : n < length large.slots
  in_slots = go large.slots n at
    where
      go : (xs : List (Option LargeObject)) (k : ℕ) → slice_index_or xs k None ≡ Some o → k < length xs
      go [] k is = absurd (some_not_none (sym is))
      go (x ∷ xs) zero is = omega arith
      go (x ∷ xs) (suc k) is = omega (arith, go xs k is)

  pub set_here : slice_index_or slots' n None ≡ Some o'
  set_here = get_or-set_same large.slots n (Some o') None in_slots

  pub set_other : (k : ℕ) → k ≢ n → slice_index_or slots' k None ≡ slice_index_or large.slots k None
  set_other k ne = get_or-set_other large.slots n k (Some o') None ne

  pub set_blocks : o'.blocks ≡ o.blocks → (k : ℕ) → option_map (λ (x : LargeObject). x.blocks) (slice_index_or slots' k None) ≡ option_map (λ (x : LargeObject). x.blocks) (slice_index_or large.slots k None)
  set_blocks same k = ⊎_elim
      (λ e.
      ap (λ j. option_map (λ (x : LargeObject). x.blocks) (slice_index_or slots' j None)) e ∙ ap (option_map (λ (x : LargeObject). x.blocks)) set_here ∙ ap Some same
      ∙ sym (ap (λ j. option_map (λ (x : LargeObject). x.blocks) (slice_index_or large.slots j None)) e ∙ ap (option_map (λ (x : LargeObject). x.blocks)) at))
      (λ ne. ap (option_map (λ (x : LargeObject). x.blocks)) (set_other k ne))
      (cases_eq k n)

  -- what stands apart stays so
  pub set_apart : (space : SpaceValue) → AreApart space large → o'.blocks ≡ o.blocks → IsLargeObject space.config o' → ArePoolBlocks (record large { slots = slots' }) (pool_in space) → AreApart space (record large { slots = slots' })
  set_apart space apart same is_large pool = record {
    small = apart.small;
    numbers = λ k used. ⊎_elim
        (λ e. subst (λ j. j < 65535) (sym e) (apart.numbers n (subst (λ x. IsSome x) (sym at) refl)))
        (λ ne. apart.numbers k (subst (λ x. IsSome x) (set_other k ne) used))
        (cases_eq k n);
    pool = pool;
    each = λ k x is. ⊎_elim
        (λ e. let this : o' ≡ x = some_is (sym set_here ∙ subst (λ j. slice_index_or slots' j None ≡ Some x) e is) in subst (IsLargeObject space.config) this is_large)
        (λ ne. apart.each k x (sym (set_other k ne) ∙ is))
        (cases_eq k n);
    apart = λ k block h. apart.apart k block (subst (λ bs. has bs block ≡ true) (theirs k) h);
    all_free = λ block le lt none no_large. apart.all_free block le lt none (λ k. subst (λ bs. has bs block ≡ false) (theirs k) (no_large k));
  }
    where
      some_is : {X : Type 0} {x y : X} → Some x ≡ Some y → x ≡ y
      some_is e = cc

      of_map : (x y : Option LargeObject) → option_map (λ (z : LargeObject). z.blocks) x ≡ option_map (λ (z : LargeObject). z.blocks) y → blocks_of x ≡ blocks_of y
      of_map None None e = refl
      of_map None (Some y) e = absurd (some_not_none (sym e))
      of_map (Some x) None e = absurd (some_not_none e)
      of_map (Some x) (Some y) e = cc

      theirs : (k : ℕ) → blocks_at (record large { slots = slots' }) k ≡ blocks_at large k
      theirs k = of_map _ _ (set_blocks same k)

-- a small object is put at a place in no large object's block
module _ (space : SpaceValue) (large : LargeValue) (apart : AreApart space large) (name : ℕ) (o : Object) (rooms : List Room)
    (sound : IsSpace (record space { objects = insert space.objects name o; rooms = rooms }))
    (elsewhere : (block offset : ℕ) → nursery_count space.config ≤ block → HoldsNone space block → offset < 512 → small_word block offset ≢ name) where
  abbrev now : SpaceValue
  now = record space { objects = insert space.objects name o; rooms = rooms }

  none_before : (block : ℕ) → HoldsNone now block → HoldsNone space block
  none_before block none offset lt = ⊎_elim
      (λ e. absurd (some_not_none (sym (ap (get (insert space.objects name o)) e ∙ get-insert_same space.objects name o) ∙ none offset lt)))
      (λ ne. sym (get-insert_other space.objects name o (small_word block offset) ne) ∙ none offset lt)
      (cases_eq (small_word block offset) name)

  pub insert_apart : AreApart now large
  insert_apart = record {
    small = sound;
    numbers = apart.numbers;
    pool = apart.pool;
    each = apart.each;
    apart = λ n block h.
        let was = apart.apart n block h in
        (was.0, λ offset lt. get-insert_other space.objects name o (small_word block offset) (elsewhere block offset was.0 was.1 lt) ∙ was.1 offset lt);
    all_free = λ block le lt none no_large. apart.all_free block le lt (none_before block none) no_large;
  }

-- where an object stands no block is empty
pub stands_elsewhere : (space : SpaceValue) (name : ℕ) (x : Object) → get space.objects name ≡ Some x → (block offset : ℕ) → nursery_count space.config ≤ block → HoldsNone space block → offset < 512 → small_word block offset ≢ name
stands_elsewhere space name x is block offset le none lt e = some_not_none (sym is ∙ ap (get space.objects) (sym e) ∙ none offset lt)
