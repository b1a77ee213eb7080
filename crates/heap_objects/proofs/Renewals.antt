-- Large objects and the blocks of small ones side by side, as a large object is renewed.
use Rattle.std.proofs.Common.{◌≡◌, ◌≢◌, ℕ, ◌+◌, ◌-◌, ◌<◌, ◌≤◌, Bool, true, false, cond, ◌||◌, List, length, get_or, Option, Some, None, is_some, refl, sym, ap, subst, ◌∙◌, arith, ⊎_elim}
use Rattle.std.proofs.lemmas.Bool.{cases_eq, cases_lt, true≢false, or_left}
use Rattle.std.proofs.lemmas.Bool.Decides.{nat_tests}
use Rattle.std.proofs.lemmas.List.{get_or-set_same, get_or-set_other, get_or_past}
use Rattle.std.specs.Prelude.{IsSome, nat_lt, option_and_then}
use Rattle.std.specs.Option.{option_map}
use Rattle.model.specs.Destination.{Shape, IsStep, dest, oldest, steps_in}
use Rattle.model.specs.Reached.{has}
use Rattle.model.proofs.Options.{some_is, some_not_none}
use Rattle.steps.specs.HeapValue.{nursery_count}
use Rattle.large_objects.specs.LargeValue.{LargeObject, LargeValue, large_at, with_object, without_object}
use Rattle.large_objects.specs.PoolBlocks.{ArePoolBlocks, blocks_of, blocks_at}
use Rattle.heap_objects.specs.Space.{SpaceValue, IsSpace, pool_in}
use Rattle.heap_objects.specs.HeapSpaceCollecting.{HoldsNone}
use Rattle.heap_objects.specs.Inside.{AreApart, IsLargeObject}
use Rattle.heap_objects.specs.Renewing.{at_dest, renewed}

-- the destination is a step of the shape
pub dest_is_step : (shape : Shape) (at : ℕ × ℕ) → 1 ≤ shape.generations → 1 ≤ shape.steps → IsStep shape at → IsStep shape (dest shape at)
dest_is_step shape at some many is = go (nat_lt at.0 (oldest shape)) refl (nat_lt at.1 (shape.steps - 1)) refl
  where
    in_step : (b : Bool) → 0 < cond b shape.steps 1
    in_step true = omega arith
    in_step false = omega arith

    go : (a : Bool) → nat_lt at.0 (oldest shape) ≡ a → (b : Bool) → nat_lt at.1 (shape.steps - 1) ≡ b → IsStep shape (cond a (cond b (at.0, at.1 + 1) (at.0 + 1, 0)) (oldest shape, 0))
    go true young true more = record {
      generation = is.generation;
      step = let steps : steps_in shape at.0 ≡ shape.steps = ap (λ b. cond b shape.steps 1) young in let lt : at.1 < shape.steps - 1 = grind (arith, nat_tests, more) in omega (arith, steps, lt);
    }
    go true young false more = record {
      generation = let lt : at.0 < oldest shape = grind (arith, nat_tests, young) in omega (arith, lt);
      step = in_step (nat_lt (at.0 + 1) (oldest shape));
    }
    go false young b more = record { generation = omega arith; step = in_step (nat_lt (oldest shape) (oldest shape)) }

abbrev label : LargeObject → ℕ × ℕ
label o = (o.generation, o.step)

-- a number that is in use has a slot
within : (slots : List (Option LargeObject)) (number : ℕ) → IsSome (get_or slots number None) → number < length slots
within slots number in_use = grind (arith, get_or_past)

-- what holds of each number's slot, where one slot changed
module _ (old new : LargeValue) (number : ℕ) (slot : Option LargeObject) (at : large_at new number ≡ slot) (others : (n : ℕ) → n ≢ number → large_at new n ≡ large_at old n) where
  by_slot : (P : ℕ → Option LargeObject → Type 0) → P number slot → ((n : ℕ) → n ≢ number → P n (large_at old n)) → (n : ℕ) → P n (large_at new n)
  by_slot P mine theirs n = ⊎_elim
      (λ e. subst (λ m. P m (large_at new m)) (sym e) (subst (P number) (sym at) mine))
      (λ ne. subst (P n) (sym (others n ne)) (theirs n ne))
      (cases_eq n number)

module _ (large : LargeValue) (number : ℕ) (o : LargeObject) (is : large_at large number ≡ Some o) where
  in_range : number < length large.slots
  in_range = within large.slots number (ap is_some is)

  pub with-this : (x : LargeObject) → large_at (with_object large number x) number ≡ Some x
  with-this x = get_or-set_same large.slots number (Some x) None in_range

  pub with-others : (x : LargeObject) (n : ℕ) → n ≢ number → large_at (with_object large number x) n ≡ large_at large n
  with-others x n ne = get_or-set_other large.slots number n (Some x) None ne

  pub without-this : large_at (without_object large number) number ≡ None
  without-this = get_or-set_same large.slots number None None in_range

  pub without-others : (n : ℕ) → n ≢ number → large_at (without_object large number) n ≡ large_at large n
  without-others n ne = get_or-set_other large.slots number n None None ne

  -- where it goes
  pub record GoesTo (shape : Shape) (generation : ℕ) (to : ℕ × ℕ) : Type 0 where
    pub generation_is : o.generation ≡ generation
    pub is_dest : to ≡ dest shape (o.generation, o.step)

  pub goes_to : (found : Option (ℕ × ℕ)) (generation step : ℕ) (shape read : Shape) (to : ℕ × ℕ) → found ≡ option_map label (large_at large number) → found ≡ Some (generation, step) → to ≡ dest read (generation, step) → read ≡ shape → GoesTo shape generation to
  goes_to found generation step shape read to label_is some to_is same =
      let labels : Some (label o) ≡ Some (generation, step) = sym (ap (option_map label) is) ∙ sym label_is ∙ some in
      let labelled : label o ≡ (generation, step) = some_is labels in
      record { generation_is = ap (λ p. p.0) labelled; is_dest = to_is ∙ ap (λ p. dest read p) (sym labelled) ∙ ap (λ k. dest k (label o)) same }

  -- one that stays, at its destination
  pub renewed_kept : (shape : Shape) (g : ℕ) (kept : Bool) (to : ℕ × ℕ) → o.generation ≤ g → kept ≡ true → to ≡ dest shape (o.generation, o.step)
      → large_at (with_object large number (record o { generation = to.0; step = to.1 })) number ≡ option_and_then (renewed shape g kept) (large_at large number)
  renewed_kept shape g kept to le stays is_dest =
      let test : nat_lt g o.generation ≡ false = grind (arith, nat_tests, le) in
      let object : LargeObject = record o { generation = to.0; step = to.1 } in
      let moved : ◌≡◌ {A = LargeObject} (record o { generation = to.0; step = to.1 }) (at_dest shape o) = ap (λ (t : ℕ × ℕ). let x : LargeObject = record o { generation = t.0; step = t.1 } in x) is_dest in
      with-this object
      ∙ ap (λ x. Some x) moved
      ∙ sym (ap (λ b. cond b (Some o) (cond kept (Some (at_dest shape o)) None)) test ∙ ap (λ b. cond b (Some (at_dest shape o)) None) stays)
      ∙ sym (ap (option_and_then (renewed shape g kept)) is)

  module _ (space : SpaceValue) (are : AreApart space large) where
    pub relabelled : (generation step : ℕ) → IsStep space.config.shape (generation, step) → ArePoolBlocks (with_object large number (record o { generation = generation; step = step })) (pool_in space) → AreApart space (with_object large number (record o { generation = generation; step = step }))
    relabelled generation step at_step pool = record {
      small = are.small;
      numbers = slots (λ n s. IsSome s → n < 65535) (λ _. are.numbers number (ap is_some is)) (λ n ne. are.numbers n);
      pool = pool;
      each = slots (λ n s. (x : LargeObject) → s ≡ Some x → IsLargeObject space.config x) (λ x e. subst (IsLargeObject space.config) (some_is e) mine) (λ n ne x e. are.each n x e);
      apart = slots (λ n s. (block : ℕ) → has (blocks_of s) block ≡ true → (nursery_count space.config ≤ block) × HoldsNone space block) (λ block h. are.apart number block (ap (λ s. has (blocks_of s) block) is ∙ h)) (λ n ne. are.apart n);
      all_free = λ block from to none held. are.all_free block from to none (λ n. slots (λ m s. has (blocks_of s) block ≡ false → has (blocks_at large m) block ≡ false) (λ h. ap (λ s. has (blocks_of s) block) is ∙ h) (λ m ne h. h) n (held n));
    }
      where
        slots : (P : ℕ → Option LargeObject → Type 0) → P number (Some (record o { generation = generation; step = step })) → ((n : ℕ) → n ≢ number → P n (large_at large n)) → (n : ℕ) → P n (large_at (with_object large number (record o { generation = generation; step = step })) n)
        slots = by_slot large (with_object large number (record o { generation = generation; step = step })) number (Some (record o { generation = generation; step = step })) (with-this (record o { generation = generation; step = step })) (with-others (record o { generation = generation; step = step }))

        was : IsLargeObject space.config o
        was = are.each number o is

        mine : IsLargeObject space.config (record o { generation = generation; step = step })
        mine = record { large = was.large; step = at_step; pointers = was.pointers; plain = was.plain; count = was.count }

    -- the blocks of one that is gone are free
    pub removed_apart : (free : List ℕ) → IsSpace (record space { free = free }) → ArePoolBlocks (without_object large number) (pool_in (record space { free = free })) → ((n : ℕ) → has free n ≡ (has (blocks_at large number) n || has space.free n)) → AreApart (record space { free = free }) (without_object large number)
    removed_apart free small pool frees = record {
      small = small;
      numbers = slots (λ n s. IsSome s → n < 65535) (λ h. absurd (true≢false (sym h))) (λ n ne. are.numbers n);
      pool = pool;
      each = slots (λ n s. (x : LargeObject) → s ≡ Some x → IsLargeObject space.config x) (λ x e. absurd (some_not_none (sym e))) (λ n ne x e. are.each n x e);
      apart = slots (λ n s. (block : ℕ) → has (blocks_of s) block ≡ true → (nursery_count space.config ≤ block) × HoldsNone space block) (λ block h. absurd (true≢false (sym h))) (λ n ne. are.apart n);
      all_free = λ block from to none held. frees block ∙ go block from to none held (has (blocks_at large number) block) refl;
    }
      where
        slots : (P : ℕ → Option LargeObject → Type 0) → P number None → ((n : ℕ) → n ≢ number → P n (large_at large n)) → (n : ℕ) → P n (large_at (without_object large number) n)
        slots = by_slot large (without_object large number) number None without-this without-others

        go : (block : ℕ) → nursery_count space.config ≤ block → block < space.config.blocks → HoldsNone space block → ((n : ℕ) → has (blocks_at (without_object large number) n) block ≡ false) → (b : Bool) → has (blocks_at large number) block ≡ b → (has (blocks_at large number) block || has space.free block) ≡ true
        go block from to none held true mine = or_left (has (blocks_at large number) block) (has space.free block) mine
        go block from to none held false not_mine =
            ap (λ b. b || has space.free block) not_mine
            ∙ are.all_free block from to none (λ n. ⊎_elim
            (λ e. ap (λ m. has (blocks_at large m) block) e ∙ not_mine)
            (λ ne. sym (ap (λ s. has (blocks_of s) block) (without-others n ne)) ∙ held n)
            (cases_eq n number))

-- one more is renewed, where those with lower numbers are, and none is between
module _ (renew : ℕ → LargeObject → Option LargeObject) (old now new : LargeValue) (from number : ℕ) (le : from ≤ number)
    (done : (n : ℕ) → n < from → large_at now n ≡ option_and_then (renew n) (large_at old n)) (rest : (n : ℕ) → from ≤ n → large_at now n ≡ large_at old n)
    (none : (n : ℕ) → from ≤ n → n < number → large_at now n ≡ None)
    (this : large_at new number ≡ option_and_then (renew number) (large_at now number)) (others : (n : ℕ) → n ≢ number → large_at new n ≡ large_at now n) where
  pub renewed_to : (n : ℕ) → n < number + 1 → large_at new n ≡ option_and_then (renew n) (large_at old n)
  renewed_to n lt = ⊎_elim
      (λ e. subst (λ m. large_at new m ≡ option_and_then (renew m) (large_at old m)) (sym e) (this ∙ ap (option_and_then (renew number)) (rest number le)))
      (λ ne. others n ne ∙ ⊎_elim
      (λ low. done n low)
      (λ high.
      let below : n < number = omega (arith, lt, ne) in
      let gone = none n high below in
      gone ∙ sym (ap (option_and_then (renew n)) (sym (rest n high) ∙ gone)))
      (cases_lt n from))
      (cases_eq n number)

  pub kept_from : (n : ℕ) → number + 1 ≤ n → large_at new n ≡ large_at old n
  kept_from n high = others n (λ e. absurd (omega (arith, e, high))) ∙ rest n (omega (arith, high, le))
