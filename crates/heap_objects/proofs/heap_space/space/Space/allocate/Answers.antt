use Rattle.std.proofs.Common.{◌≡◌, ◌+◌, Option, Some, None, Result, Ok, Err, set, arith, refl, ap, subst, ◌∙◌}
use Rattle.std.specs.Prelude.{IsSome, IfOk}
use Rattle.std.specs.Result.{OnErr}
use Rattle.model.specs.Room.{Room}
use Rattle.steps.specs.HeapValue.{nursery_count}
use Rattle.heap_objects.specs.Space.{space_of}
use Rattle.nursery.proofs.TableSteps.{with_whole}
use Rattle.layout.specs.Place.{place_word}
use Rattle.heap_objects.proofs.Filling.{small_in, own_sound, room_is, stays, room_after_is, now_sound, small_at, not_large, areas_after, allocates}
use Rattle.heap_objects.proofs.heap_space.space.Space.allocate.Goals as goal

no_some : (o : Option Room) → o ≡ None → IsSome o → ⊥
no_some None e h = cc
no_some (Some x) e h = cc

of_err : {T E : Type 0} {P : Type 0} (r : Result T E) → OnErr r P → (e : E) → r ≡ Err e → P
of_err (Ok x) p e is = absurd (cc)
of_err (Err x) p e is = p

of_ok : {T E : Type 0} (P : T → Type 0) (r : Result T E) → IfOk r P → (x : T) → r ≡ Ok x → P x
of_ok P (Ok y) p x is = let same : y ≡ x = cc in subst P same p
of_ok P (Err e) p x is = absurd (cc)

pub alloc-requires : goal.alloc-requires
alloc-requires g c =
    let mutator = rw (← c.self.view_is) at c.requires.mutator in
    let small = rw (← c.self.view_is) at c.requires.small in
    rw c.deref_mut.ensures.value (small_in _ _ _ _ c.self.invariant.space c.args.mutator c.index_mut.result.now mutator c.index_mut.ensures.value (1 + c.args.pointers + c.args.plain_words) small)

pub invariant_of-self : goal.invariant_of-self
invariant_of-self g c =
    let mutator = rw (← c.self.view_is) at c.requires.mutator in
    let small = rw (← c.self.view_is) at c.requires.small in
    let own = own_sound _ _ _ _ c.self.invariant.space c.args.mutator c.index_mut.result.now mutator c.index_mut.ensures.value in
    let ok = (rw c.deref_mut.ensures.value at c.alloc.ensures.ok) c.self.inside.config.block_words own in
    let whole = with_whole c.self.inside.table.len c.alloc.new.table c.self.inside.table.items (omega (arith, c.alloc.auto.table, c.deref_mut.ensures.len, c.self.inside.table.ok.0)) (omega (arith, c.self.inside.table.ok.0)) in
    let err = rw c.deref_mut.ensures.value at c.alloc.ensures.err in
    let same = of_err c.alloc.result err c.in_default.field-0 c.in_default.is in
    rw (whole, same.1, stays _ _ _ _ c.self.invariant.space c.args.mutator c.index_mut.result.now mutator c.index_mut.ensures.value c.args.pointers c.args.plain_words c.alloc.new.self c.alloc.new.table small same) c.self.invariant

pub flag_first-requires-clause-room : goal.flag_first-requires-clause-room
flag_first-requires-clause-room g c =
    let mutator = rw (← c.self.view_is) at c.requires.mutator in
    let small = rw (← c.self.view_is) at c.requires.small in
    let own = own_sound _ _ _ _ c.self.invariant.space c.args.mutator c.index_mut.result.now mutator c.index_mut.ensures.value in
    let ok = (rw c.deref_mut.ensures.value at c.alloc.ensures.ok) c.self.inside.config.block_words own in
    let push = of_ok _ c.alloc.result ok c.in-Ok.place c.in-Ok.is in
    (nursery_count c.self.inside.config, c.self.invariant.room, (small_at _ _ _ _ c.self.invariant.space c.args.mutator c.index_mut.result.now mutator c.index_mut.ensures.value c.args.pointers c.args.plain_words (place_word c.in-Ok.place) c.alloc.new.self c.alloc.new.table small push c.in-Small.at (ap place_word c.in-Small.is)).2)

pub invariant_of-self-in-Small : goal.invariant_of-self-in-Small
invariant_of-self-in-Small g c =
    let mutator = rw (← c.self.view_is) at c.requires.mutator in
    let small = rw (← c.self.view_is) at c.requires.small in
    let own = own_sound _ _ _ _ c.self.invariant.space c.args.mutator c.index_mut.result.now mutator c.index_mut.ensures.value in
    let ok = (rw c.deref_mut.ensures.value at c.alloc.ensures.ok) c.self.inside.config.block_words own in
    let whole = with_whole c.self.inside.table.len c.alloc.new.table c.self.inside.table.items (omega (arith, c.alloc.auto.table, c.deref_mut.ensures.len, c.self.inside.table.ok.0)) (omega (arith, c.self.inside.table.ok.0)) in
    let push = of_ok _ c.alloc.result ok c.in-Ok.place c.in-Ok.is in
    rw whole (record {
      space = now_sound _ _ _ _ c.self.invariant.space c.args.mutator c.index_mut.result.now mutator c.index_mut.ensures.value c.args.pointers c.args.plain_words (place_word c.in-Ok.place) c.alloc.new.self c.alloc.new.table small push;
      flags = areas_after _ _ _ _ c.self.invariant.space c.args.mutator c.index_mut.result.now mutator c.index_mut.ensures.value c.args.pointers c.args.plain_words (place_word c.in-Ok.place) c.alloc.new.self c.alloc.new.table small push c.in-Small.at c.self.inside.areas c.flag_first.new.areas (ap place_word c.in-Small.is) c.flag_first.ensures.flags c.self.invariant.flags;
      generations = c.flag_first.ensures.generations ∙ c.self.invariant.generations;
      room = c.flag_first.ensures.room _ c.self.invariant.room;
    })

pub invariant_of-self-in_default-place : goal.invariant_of-self-in_default-place
invariant_of-self-in_default-place g c =
    let mutator = rw (← c.self.view_is) at c.requires.mutator in
    let small = rw (← c.self.view_is) at c.requires.small in
    let own = own_sound _ _ _ _ c.self.invariant.space c.args.mutator c.index_mut.result.now mutator c.index_mut.ensures.value in
    let ok = (rw c.deref_mut.ensures.value at c.alloc.ensures.ok) c.self.inside.config.block_words own in
    let push = of_ok _ c.alloc.result ok c.in-Ok.place c.in-Ok.is in
    absurd (not_large _ _ _ _ c.self.invariant.space c.args.mutator c.index_mut.result.now mutator c.index_mut.ensures.value c.args.pointers c.args.plain_words (place_word c.in-Ok.place) c.alloc.new.self c.alloc.new.table small push c.in_default-place.field-0.number (ap place_word c.in_default-place.is))

pub returns-in_default-clause-room : goal.returns-in_default-clause-room
returns-in_default-clause-room g c =
    let mutator = rw (← c.self.view_is) at c.requires.mutator in
    let small = rw (← c.self.view_is) at c.requires.small in
    let own = own_sound _ _ _ _ c.self.invariant.space c.args.mutator c.index_mut.result.now mutator c.index_mut.ensures.value in
    let ok = (rw c.deref_mut.ensures.value at c.alloc.ensures.ok) c.self.inside.config.block_words own in
    let err = rw c.deref_mut.ensures.value at c.alloc.ensures.err in
    let whole = with_whole c.self.inside.table.len c.alloc.new.table c.self.inside.table.items (omega (arith, c.alloc.auto.table, c.deref_mut.ensures.len, c.self.inside.table.ok.0)) (omega (arith, c.self.inside.table.ok.0)) in
    let full = (rw c.deref_mut.ensures.value at c.alloc.ensures.full) c.self.inside.config.block_words own in
    let none = room_is _ _ _ _ c.self.invariant.space c.args.mutator c.index_mut.result.now mutator c.index_mut.ensures.value (1 + c.args.pointers + c.args.plain_words) ∙ full.0 (rw c.in_default.is refl) in
    rw (← c.self.view_is) (λ h. absurd (cc), λ h. absurd (no_some _ none h))

pub returns-in_default-clause-none : goal.returns-in_default-clause-none
returns-in_default-clause-none g c =
    let mutator = rw (← c.self.view_is) at c.requires.mutator in
    let small = rw (← c.self.view_is) at c.requires.small in
    let own = own_sound _ _ _ _ c.self.invariant.space c.args.mutator c.index_mut.result.now mutator c.index_mut.ensures.value in
    let ok = (rw c.deref_mut.ensures.value at c.alloc.ensures.ok) c.self.inside.config.block_words own in
    let err = rw c.deref_mut.ensures.value at c.alloc.ensures.err in
    let whole = with_whole c.self.inside.table.len c.alloc.new.table c.self.inside.table.items (omega (arith, c.alloc.auto.table, c.deref_mut.ensures.len, c.self.inside.table.ok.0)) (omega (arith, c.self.inside.table.ok.0)) in
    let same = of_err c.alloc.result err c.in_default.field-0 c.in_default.is in
    rw whole (ap (λ t. space_of c.self.inside.config t (set c.self.inside.nurseries.items c.args.mutator c.alloc.new.self) c.self.inside.pool) same.1
    ∙ ap (λ ns. space_of c.self.inside.config c.self.inside.table.items ns c.self.inside.pool) (stays _ _ _ _ c.self.invariant.space c.args.mutator c.index_mut.result.now mutator c.index_mut.ensures.value c.args.pointers c.args.plain_words c.alloc.new.self c.alloc.new.table small same) ∙ c.self.view_is)

pub returns-in-Small-clause-room : goal.returns-in-Small-clause-room
returns-in-Small-clause-room g c =
    let mutator = rw (← c.self.view_is) at c.requires.mutator in
    let small = rw (← c.self.view_is) at c.requires.small in
    let own = own_sound _ _ _ _ c.self.invariant.space c.args.mutator c.index_mut.result.now mutator c.index_mut.ensures.value in
    let ok = (rw c.deref_mut.ensures.value at c.alloc.ensures.ok) c.self.inside.config.block_words own in
    let err = rw c.deref_mut.ensures.value at c.alloc.ensures.err in
    let whole = with_whole c.self.inside.table.len c.alloc.new.table c.self.inside.table.items (omega (arith, c.alloc.auto.table, c.deref_mut.ensures.len, c.self.inside.table.ok.0)) (omega (arith, c.self.inside.table.ok.0)) in
    rw (← c.self.view_is) (λ h. room_after_is _ _ _ _ c.self.invariant.space c.args.mutator c.index_mut.result.now mutator c.index_mut.ensures.value c.args.pointers c.args.plain_words c.alloc.new.self c.alloc.new.table small c.alloc.result ok c.in-Ok.place c.in-Ok.is, λ h. refl)

pub returns-in-Small-clause-some : goal.returns-in-Small-clause-some
returns-in-Small-clause-some g c =
    let mutator = rw (← c.self.view_is) at c.requires.mutator in
    let small = rw (← c.self.view_is) at c.requires.small in
    let own = own_sound _ _ _ _ c.self.invariant.space c.args.mutator c.index_mut.result.now mutator c.index_mut.ensures.value in
    let ok = (rw c.deref_mut.ensures.value at c.alloc.ensures.ok) c.self.inside.config.block_words own in
    let err = rw c.deref_mut.ensures.value at c.alloc.ensures.err in
    let whole = with_whole c.self.inside.table.len c.alloc.new.table c.self.inside.table.items (omega (arith, c.alloc.auto.table, c.deref_mut.ensures.len, c.self.inside.table.ok.0)) (omega (arith, c.self.inside.table.ok.0)) in
    let push = of_ok _ c.alloc.result ok c.in-Ok.place c.in-Ok.is in
    rw (← c.self.view_is, whole) (rw c.in-Small.is at (allocates _ _ _ _ c.self.invariant.space c.args.mutator c.index_mut.result.now mutator c.index_mut.ensures.value c.args.pointers c.args.plain_words (place_word c.in-Ok.place) c.alloc.new.self c.alloc.new.table small push))

pub returns-in_default-place-clause-room : goal.returns-in_default-place-clause-room
returns-in_default-place-clause-room g c =
    let mutator = rw (← c.self.view_is) at c.requires.mutator in
    let small = rw (← c.self.view_is) at c.requires.small in
    let own = own_sound _ _ _ _ c.self.invariant.space c.args.mutator c.index_mut.result.now mutator c.index_mut.ensures.value in
    let ok = (rw c.deref_mut.ensures.value at c.alloc.ensures.ok) c.self.inside.config.block_words own in
    let push = of_ok _ c.alloc.result ok c.in-Ok.place c.in-Ok.is in
    absurd (not_large _ _ _ _ c.self.invariant.space c.args.mutator c.index_mut.result.now mutator c.index_mut.ensures.value c.args.pointers c.args.plain_words (place_word c.in-Ok.place) c.alloc.new.self c.alloc.new.table small push c.in_default-place.field-0.number (ap place_word c.in_default-place.is))

pub returns-in_default-place-clause-some : goal.returns-in_default-place-clause-some
returns-in_default-place-clause-some g c =
    let mutator = rw (← c.self.view_is) at c.requires.mutator in
    let small = rw (← c.self.view_is) at c.requires.small in
    let own = own_sound _ _ _ _ c.self.invariant.space c.args.mutator c.index_mut.result.now mutator c.index_mut.ensures.value in
    let ok = (rw c.deref_mut.ensures.value at c.alloc.ensures.ok) c.self.inside.config.block_words own in
    let push = of_ok _ c.alloc.result ok c.in-Ok.place c.in-Ok.is in
    absurd (not_large _ _ _ _ c.self.invariant.space c.args.mutator c.index_mut.result.now mutator c.index_mut.ensures.value c.args.pointers c.args.plain_words (place_word c.in-Ok.place) c.alloc.new.self c.alloc.new.table small push c.in_default-place.field-0.number (ap place_word c.in_default-place.is))
