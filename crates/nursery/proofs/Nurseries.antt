-- Where a nursery puts a new object, and that it stays a nursery.
use Rattle.std.proofs.Common.{◌≡◌, ◌≢◌, ℕ, zero, suc, ◌+◌, ◌-◌, ◌/◌, ◌<◌, ◌≤◌, Bool, true, false, cond, List, [], ◌∷◌, length, set, Option, Some, None, sum_by, refl, sym, ap, subst, ◌∙◌, arith, ⊎_elim, get_or-set_other, get_or-set_same}
use Rattle.std.proofs.lemmas.Bool.{cases_eq}
use Rattle.std.proofs.lemmas.Bool.Decides.{nat_tests}
use Rattle.std.proofs.lemmas.List.{length-replicate}
use Rattle.std.proofs.lemmas.List.Sums.{sum_by_push}
use Rattle.std.specs.Prelude.{nat_le, nat_lt, is_some, IsTrue, IsSome, ◌↔◌}
use Rattle.model.specs.Room.{Room, room_after}
use Rattle.layout.specs.Object.{Raw, raw_size}
use Rattle.layout.specs.Place.{small_word}
use Rattle.block_pool.specs.BlockValue.{BlockValue, used_of, new_object}
use Rattle.nursery.specs.Table.{slot_at, slot_words, with_more}
use Rattle.nursery.specs.NurseryValue.{NurseryValue, nursery_room, IsNursery, Pushes, block_after}

new_object-size : (p q : ℕ) → raw_size (new_object p q) ≡ 1 + p + q
new_object-size p q = omega (arith, length-replicate {A = ℕ} p 0, length-replicate {A = ℕ} q 0)

some_same : {x y : BlockValue} → Some x ≡ Some y → x ≡ y
some_same e = cc

in_list : {X : Type 0} (xs : List (Option X)) (i : ℕ) (x : X) → slot_at xs i ≡ Some x → i < length xs
in_list [] i x e = absurd (cc)
in_list (y ∷ xs) zero x e = omega arith
in_list (y ∷ xs) (suc i) x e = let rest : i < length xs = in_list xs i x e in omega arith

-- a table with the same slots in the nursery's range
module _ (n : NurseryValue) (old new : List (Option BlockValue)) (same : (k : ℕ) → k < n.blocks → slot_at new (n.first + k) ≡ slot_at old (n.first + k)) where
  pub same_nursery : (words : ℕ) → IsNursery words n old → IsNursery words n new
  same_nursery words is = record {
    current = is.current;
    there = λ k lt. ((is.there k lt).0, same k lt ∙ (is.there k lt).1);
    each = λ k block lt at. is.each k block lt (sym (same k lt) ∙ at);
    later = λ k block above lt at. is.later k block above lt (sym (same k lt) ∙ at);
  }

  pub same_room : n.current < n.blocks → nursery_room n new ≡ nursery_room n old
  same_room lt = ap (λ slot. let r : Room = record { left = n.blocks - 1 - n.current; used = slot_words slot } in r) (same n.current lt)

-- the block has objects of the same sizes as before
pub record IsRewritten (old new : BlockValue) : Type 0 where
  pub words : new.words ≡ old.words
  pub used : used_of new ≡ used_of old
  pub empty : old.objects ≡ [] → new.objects ≡ []

-- a table where the nursery's blocks keep their sizes, as after a write of a field
module _ (words : ℕ) (n : NurseryValue) (old new : List (Option BlockValue)) (is : IsNursery words n old) (same : (k : ℕ) (block : BlockValue) → k < n.blocks → slot_at old (n.first + k) ≡ Some block → (now : BlockValue) × (slot_at new (n.first + k) ≡ Some now) × IsRewritten block now) where
  pub rewritten_nursery : IsNursery words n new
  rewritten_nursery = record {
    current = is.current;
    there = λ k lt. let b = is.there k lt in let now = same k b.0 lt b.1 in (now.0, now.1);
    each = λ k block lt at.
        let b = is.there k lt in
        let now = same k b.0 lt b.1 in
        let size = is.each k b.0 lt b.1 in
        let fits : used_of now.0 ≤ words = omega (arith, size.1, now.2.used) in
        subst (λ x. (x.words ≡ words) × (used_of x ≤ words)) (some_same (sym now.1 ∙ at)) (now.2.words ∙ size.0, fits);
    later = λ k block above lt at.
        let b = is.there k lt in
        let now = same k b.0 lt b.1 in
        subst (λ x. x.objects ≡ []) (some_same (sym now.1 ∙ at)) (now.2.empty (is.later k b.0 above lt b.1));
  }

  pub rewritten_room : nursery_room n new ≡ nursery_room n old
  rewritten_room =
      let b = is.there n.current is.current in
      let now = same n.current b.0 is.current b.1 in
      ap (λ u. let r : Room = record { left = n.blocks - 1 - n.current; used = u } in r) (ap slot_words now.1 ∙ now.2.used ∙ sym (ap slot_words b.1))

-- the words of a nursery's blocks are one number
pub one_size : (words others : ℕ) (n : NurseryValue) (table : List (Option BlockValue)) → IsNursery words n table → IsNursery others n table → words ≡ others
one_size words others n table a b =
    let block = a.there n.current a.current in
    sym (a.each n.current block.0 a.current block.1).0 ∙ (b.each n.current block.0 b.current block.1).0

module _ (words : ℕ) (n : NurseryValue) (table : List (Option BlockValue)) (sound : IsNursery words n table) where
  -- the block that a small object goes to, which is the k-th of the nursery
  pub record Chosen (size k : ℕ) : Type 0 where
    pub block : BlockValue
    pub there : slot_at table (n.first + k) ≡ Some block
    pub in_nursery : k < n.blocks
    pub has_room : used_of block + size ≤ words
    pub after : room_after words (nursery_room n table) size ≡ Some (record { left = n.blocks - 1 - k; used = used_of block + size })
    pub later : n.current ≤ k

  pub current_block : (block : BlockValue) × (slot_at table (n.first + n.current) ≡ Some block)
  current_block = sound.there n.current sound.current

  pub current_in_table : n.first + n.current < length table
  current_in_table = in_list table (n.first + n.current) current_block.0 current_block.1

  abbrev now : BlockValue
  now = current_block.0

  abbrev stays : ℕ → Room
  stays size = record { left = n.blocks - 1 - n.current; used = used_of now + size }

  abbrev moves : ℕ → Room
  moves size = record { left = n.blocks - 1 - n.current - 1; used = size }

  used_now : slot_words (slot_at table (n.first + n.current)) ≡ used_of now
  used_now = ap slot_words current_block.1

  words_now : now.words ≡ words
  words_now = (sound.each n.current now sound.current current_block.1).0

  pub chosen : (size k : ℕ) → size ≤ words / 4 → block_after now.words n.blocks n.current (used_of now) size ≡ Some k → Chosen size k
  chosen size k small is =
      let is' : block_after words n.blocks n.current (used_of now) size ≡ Some k = rw words_now at is in
      go (nat_le (used_of now + size) words) refl (nat_lt (n.current + 1) n.blocks) refl is'
    where
      left_one : nat_lt (n.current + 1) n.blocks ≡ true → nat_lt 0 (n.blocks - 1 - n.current) ≡ true
      left_one more = grind (arith, nat_tests, more)

      empty_used : (block : BlockValue) → block.objects ≡ [] → used_of block ≡ 0
      empty_used block none = ap (sum_by raw_size) none

      go : (a : Bool) → nat_le (used_of now + size) words ≡ a → (b : Bool) → nat_lt (n.current + 1) n.blocks ≡ b → cond a (Some n.current) (cond b (Some (n.current + 1)) None) ≡ Some k → Chosen size k
      go true fits b more e =
          let same : n.current ≡ k = cc in
          let room : used_of now + size ≤ words = grind (arith, nat_tests, fits) in
          rw (sym same) (record {
            block = now;
            there = current_block.1;
            in_nursery = sound.current;
            has_room = room;
            after = ap (λ u. room_after words (record { left = n.blocks - 1 - n.current; used = u }) size) used_now ∙ ap (λ t. cond t (Some (stays size)) (cond (nat_lt 0 (n.blocks - 1 - n.current)) (Some (moves size)) None)) fits;
            later = omega arith;
          })
      go false fits true more e =
          let same : n.current + 1 ≡ k = cc in
          let in_range : n.current + 1 < n.blocks = grind (arith, nat_tests, more) in
          let next = sound.there (n.current + 1) in_range in
          let none : used_of next.0 ≡ 0 = empty_used next.0 (sound.later (n.current + 1) next.0 (omega arith) in_range next.1) in
          let left : n.blocks - 1 - n.current - 1 ≡ n.blocks - 1 - (n.current + 1) = omega arith in
          let used : size ≡ used_of next.0 + size = omega arith in
          rw (sym same) (record {
            block = next.0;
            there = next.1;
            in_nursery = in_range;
            has_room = omega arith;
            after =
                ap (λ u. room_after words (record { left = n.blocks - 1 - n.current; used = u }) size) used_now
                ∙ ap (λ t. cond t (Some (stays size)) (cond (nat_lt 0 (n.blocks - 1 - n.current)) (Some (moves size)) None)) fits
                ∙ ap (λ t. cond t (Some (moves size)) None) (left_one more)
                ∙ ap (λ l. Some (record { left = l; used = size })) left
                ∙ ap (λ u. Some (record { left = n.blocks - 1 - (n.current + 1); used = u })) used;
            later = omega arith;
          })
      go false fits false more e = absurd (cc)

  -- no block takes it exactly where the nursery has no room
  pub no_room : (size : ℕ) → block_after now.words n.blocks n.current (used_of now) size ≡ None → room_after words (nursery_room n table) size ≡ None
  no_room size is =
      let is' : block_after words n.blocks n.current (used_of now) size ≡ None = rw words_now at is in
      ap (λ u. room_after words (record { left = n.blocks - 1 - n.current; used = u }) size) used_now
      ∙ go (nat_le (used_of now + size) words) (nat_lt (n.current + 1) n.blocks) refl is'
    where
      go : (a b : Bool) → nat_lt (n.current + 1) n.blocks ≡ b → cond a (Some n.current) (cond b (Some (n.current + 1)) None) ≡ None → cond a (Some (stays size)) (cond (nat_lt 0 (n.blocks - 1 - n.current)) (Some (moves size)) None) ≡ None
      go true b more e = absurd (cc)
      go false true more e = absurd (cc)
      go false false more e = ap (λ t. cond {A = Option Room} t (Some (moves size)) None) none_left
        where
          none_left : nat_lt 0 (n.blocks - 1 - n.current) ≡ false
          none_left = grind (arith, nat_tests, more)

  pub room_iff : (size : ℕ) → size ≤ words / 4 → (o : Option ℕ) → o ≡ block_after now.words n.blocks n.current (used_of now) size → IsTrue (is_some o) ↔ IsSome (room_after words (nursery_room n table) size)
  room_iff size small None is =
      (λ e. absurd (cc), λ h. let none = no_room size (sym is) in let h' : IsSome {T = Room} None = subst (λ r. IsSome r) none h in absurd (cc))
  room_iff size small (Some k) is =
      (λ e. subst (λ r. IsSome r) (sym (chosen size k small (sym is)).after) refl, λ h. refl)

  module _ (p q k : ℕ) (at : Chosen (1 + p + q) k) where
    abbrev raw : Raw
    raw = new_object p q

    abbrev new_table : List (Option BlockValue)
    new_table = set table (n.first + k) (Some (with_more at.block raw))

    pub number_in_table : n.first + k < length table
    number_in_table = in_list table (n.first + k) at.block at.there

    used_more : used_of (with_more at.block raw) ≡ used_of at.block + (1 + p + q)
    used_more = sum_by_push raw_size at.block.objects raw ∙ ap (λ m. used_of at.block + m) (new_object-size p q)

    same_slot : slot_at new_table (n.first + k) ≡ Some (with_more at.block raw)
    same_slot = get_or-set_same table (n.first + k) (Some (with_more at.block raw)) None number_in_table

    other_slot : (j : ℕ) → j ≢ k → slot_at new_table (n.first + j) ≡ slot_at table (n.first + j)
    other_slot j ne = get_or-set_other table (n.first + k) (n.first + j) (Some (with_more at.block raw)) None (λ e. ne (omega arith))

    pub pushed_sound : IsNursery words (record n { current = k }) new_table
    pushed_sound = record {
      current = at.in_nursery;
      there = λ j lt. ⊎_elim
          (λ e. (with_more at.block raw, ap (λ m. slot_at new_table (n.first + m)) e ∙ same_slot))
          (λ ne. ((sound.there j lt).0, other_slot j ne ∙ (sound.there j lt).1))
          (cases_eq j k);
      each = λ j block lt is. ⊎_elim
          (λ e.
          let same : with_more at.block raw ≡ block = some_same (sym same_slot ∙ sym (ap (λ m. slot_at new_table (n.first + m)) e) ∙ is) in
          let size : at.block.words ≡ words = (sound.each k at.block at.in_nursery at.there).0 in
          let fits : used_of (with_more at.block raw) ≤ words = omega (arith, used_more, at.has_room) in
          subst (λ b. (b.words ≡ words) × (used_of b ≤ words)) same (size, fits))
          (λ ne. sound.each j block lt (sym (other_slot j ne) ∙ is))
          (cases_eq j k);
      later = λ j block above lt is. sound.later j block (omega (arith, at.later)) lt (sym (other_slot j (λ e. absurd (omega (arith, e)))) ∙ is);
    }

    pub pushed_room : nursery_room (record n { current = k }) new_table ≡ record { left = n.blocks - 1 - k; used = used_of at.block + (1 + p + q) }
    pushed_room = ap (λ u. let r : Room = record { left = n.blocks - 1 - k; used = u } in r) (ap slot_words same_slot ∙ used_more)

    pub pushes : (place : ℕ) (table' : List (Option BlockValue)) → place ≡ small_word (n.first + k) (used_of at.block) → table' ≡ new_table → Pushes words n table p q place (record n { current = k }) table'
    pushes place table' is same =
        let back : k ≡ n.first + k - n.first = omega arith in
        rw same (record {
          number = n.first + k;
          block = at.block;
          from = omega arith;
          below = omega (arith, at.in_nursery);
          there = at.there;
          fits = at.has_room;
          place_is = is;
          table_is = refl;
          nursery_is = ap (λ i. let m : NurseryValue = record n { current = i } in m) back;
          sound = pushed_sound;
          room = at.after ∙ ap (λ r. Some r) (sym pushed_room);
        })

-- empty blocks are a nursery whose first block is filled next
pub empty_nursery : (words : ℕ) (n : NurseryValue) (table : List (Option BlockValue)) → n.current ≡ 0 → 1 ≤ n.blocks → ((k : ℕ) → k < n.blocks → (block : BlockValue) × ((slot_at table (n.first + k) ≡ Some block) × (block.words ≡ words) × (block.objects ≡ []))) → IsNursery words n table
empty_nursery words n table at some empty = record {
  current = omega (arith, at);
  there = λ k lt. ((empty k lt).0, (empty k lt).1.0);
  each = λ k block lt is. let e = empty k lt in subst (λ b. (b.words ≡ words) × (used_of b ≤ words)) (some_same (sym e.1.0 ∙ is)) (e.1.1, none_used e.0 e.1.2);
  later = λ k block above lt is. let e = empty k lt in subst (λ b. b.objects ≡ []) (some_same (sym e.1.0 ∙ is)) e.1.2;
}
  where
    none_used : (block : BlockValue) → block.objects ≡ [] → used_of block ≤ words
    none_used block none = let e : used_of block ≡ 0 = ap (sum_by raw_size) none in omega (arith, e)
