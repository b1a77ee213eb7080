-- A line that collects first is carried out after that collection.
use Rattle.std.proofs.Common.{◌≡◌, ℕ, ◌+◌, ◌<◌, Bool, true, false, List, [], Option, Some, None, Result, Ok, Err, refl, sym, ap, ◌∙◌, arith}
use Rattle.std.specs.Prelude.{◌/◌, not, nat_lt, nat_le, is_some, is_ok, IsTrue, slice_get, option_and_then, replicate}
use Rattle.std.proofs.lemmas.Bool.{true≢false, ltb-true, le-leb, ltb-false, and_parts}
use Rattle.std.proofs.lemmas.List.{get_or-replicate, length-replicate}
use Rattle.std.proofs.lemmas.Option.{slice_get_read}
use Rattle.model.specs.declared.kind.Kind.{Kind}
use Rattle.model.specs.declared.kind.Kind.TheVariants.{NameInUse, NoMutator, TooBig}
use Rattle.model.specs.Config.{Config}
use Rattle.model.specs.Room.{Room, room_after, full_room}
use Rattle.model.specs.Store.{Store, collected}
use Rattle.model.specs.Commands.{Command, New, Set, Put, Get, Drop, Collect, Census, Heap, Outcome, fault_if, named, room_in, is_large_size, is_too_big, with_new, with_room}
use Rattle.trace_text.specs.Grammar.{entry_of, ◌>>=◌}
use Rattle.trace_session.specs.Outcome.{command_step, entry_step, line_step}
use Rattle.trace_session.specs.Sound.{IsSoundTraceLine, IsSoundCommand}
use Rattle.trace_session.specs.CollectsFirst.{has_no_room, CollectsFirst, ReadCollectsFirst, LineCollectsFirst, auto_line}

module _ (config : Config) (store : Store) where
  -- the store after that collection
  abbrev after_it : Store
  after_it = collected config 0 store

  room_is : (m size : ℕ) → m < config.mutators → is_large_size config size ≡ false → (room : Room) × (room_in config m size after_it ≡ Some room)
  room_is m size known small =
      let full = full_room config.nursery_blocks in
      let there : slice_get (replicate config.mutators full) m ≡ Some full = slice_get_read (replicate config.mutators full) config.mutators m full (sym (length-replicate config.mutators full)) known (sym (get_or-replicate config.mutators m full full known)) in
      let fits : nat_le (0 + size) config.block_words ≡ true = le-leb (0 + size) config.block_words (omega (arith, ltb-false (config.block_words / 4) size small)) in
      (record { left = full.left; used = 0 + size }, ap (option_and_then (λ room. room_after config.block_words room size)) there ∙ rw fits refl)

  no_fault : (b : Bool) (kind : Kind) (o : Outcome) → is_ok (fault_if b kind o) ≡ true → b ≡ false
  no_fault true kind o ok = absurd (true≢false (sym ok))
  no_fault false kind o ok = refl

  -- what a line without a fault does that collects first: after the collection it does the rest, and has room
  pub record Again (here there : Outcome) (first_again : Type 0) : Type 0 where
    pub next : Store
    pub here_is : here ≡ Ok (next, auto_line store)
    pub there_is : there ≡ Ok (next, [])
    pub has_room : ¬ first_again

  with_room_then : (text : List ℕ) (m p q : ℕ) (room : Room) → is_some (named store text) ≡ false → nat_lt m config.mutators ≡ true → is_too_big p q ≡ false → is_large_size config (1 + p + q) ≡ false → room_in config m (1 + p + q) store ≡ None → room_in config m (1 + p + q) after_it ≡ Some room
      → Again (command_step config store (New text m p q)) (command_step config after_it (New text m p q)) (CollectsFirst config after_it (New text m p q))
  with_room_then text m p q room free known fits small none there = record {
    next = with_new text p q (with_room m room after_it);
    here_is = rw (free, known, fits, small, none, there) refl;
    there_is = rw (free, known, fits, small, there) refl;
    has_room = λ again. true≢false (sym (rw (small, there) at again));
  }

  new_again : (text : List ℕ) (m p q : ℕ) → IsTrue (has_no_room config store m (1 + p + q)) → IsSoundCommand config store (New text m p q) → Again (command_step config store (New text m p q)) (command_step config after_it (New text m p q)) (CollectsFirst config after_it (New text m p q))
  new_again text m p q no_room ok =
      let size = 1 + p + q in
      let parts = and_parts (not (is_large_size config size)) (not (is_some (room_in config m size store))) no_room in
      let small : is_large_size config size ≡ false = not_true (is_large_size config size) parts.0 in
      let none : room_in config m size store ≡ None = is_none (room_in config m size store) (not_true (is_some (room_in config m size store)) parts.1) in
      let free : is_some (named store text) ≡ false = no_fault (is_some (named store text)) NameInUse _ ok in
      let first : is_ok (fault_if (not (nat_lt m config.mutators)) NoMutator (fault_if (is_too_big p q) TooBig _)) ≡ true = rw free at ok in
      let known : nat_lt m config.mutators ≡ true = not_false (nat_lt m config.mutators) (no_fault (not (nat_lt m config.mutators)) NoMutator _ first) in
      let second : is_ok (fault_if (is_too_big p q) TooBig _) ≡ true = rw known at first in
      let fits : is_too_big p q ≡ false = no_fault (is_too_big p q) TooBig _ second in
      let room = room_is m size (ltb-true m config.mutators known) small in
      with_room_then text m p q room.0 free known fits small none room.1
    where
      not_true : (b : Bool) → not b ≡ true → b ≡ false
      not_true true e = absurd (true≢false (sym e))
      not_true false e = refl

      not_false : (b : Bool) → not b ≡ false → b ≡ true
      not_false true e = refl
      not_false false e = absurd (true≢false e)

      is_none : (r : Option Room) → is_some r ≡ false → r ≡ None
      is_none None e = refl
      is_none (Some room) e = absurd (true≢false e)

  read_again : (read : Result (Option Command) Kind) → ReadCollectsFirst config store read → is_ok (read >>= entry_step config store) ≡ true → Again (read >>= entry_step config store) (read >>= entry_step config after_it) (ReadCollectsFirst config after_it read)
  read_again (Err kind) first ok = absurd first
  read_again (Ok None) first ok = absurd first
  read_again (Ok (Some (New text m p q))) first ok = new_again text m p q first ok
  read_again (Ok (Some (Set text i target))) first ok = absurd first
  read_again (Ok (Some (Put text i value))) first ok = absurd first
  read_again (Ok (Some (Get new_text text i))) first ok = absurd first
  read_again (Ok (Some (Drop text))) first ok = absurd first
  read_again (Ok (Some (Collect g))) first ok = absurd first
  read_again (Ok (Some Census)) first ok = absurd first
  read_again (Ok (Some Heap)) first ok = absurd first

  pub line_again : (line : List ℕ) → LineCollectsFirst config store line → IsSoundTraceLine config store line → Again (line_step config store line) (line_step config after_it line) (LineCollectsFirst config after_it line)
  unfolding line_step
  line_again line first ok = read_again (entry_of line) first ok
