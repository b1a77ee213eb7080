use Rattle.std.proofs.Common.{◌≡◌, ℕ, Result, Ok, Err, None, Some, length, map, true, false, cond, refl, sym, ap, ◌∙◌, arith, ⊎_elim}
use Rattle.std.proofs.lemmas.Bool.{cases_Bool}
use Rattle.std.proofs.lemmas.List.{length-map}
use Rattle.std.specs.Result.{OnErr}
use Rattle.model.specs.Reached.{has}
use Rattle.block_pool.specs.BlockValue.{BlockValue}
use Rattle.steps.specs.HeapValue.{nursery_count}
use Rattle.nursery.specs.Table.{objects_map, slot_at}
use Rattle.nursery.proofs.AreaTables.{exchanged_areas}
use Rattle.nursery.proofs.TableSteps.{with_whole, in_list}
use Rattle.heap_objects.specs.Nursery.{from_first}
use Rattle.heap_objects.specs.Space.{SpaceValue, rooms_of}
use Rattle.heap_objects.proofs.Sound.{sound_fits}
use Rattle.heap_objects.proofs.PutIn.{each_room, each_generation, free_before, grown_short, free_below}
use Rattle.heap_objects.proofs.GrownTable.{Goes, goes_flagged, grown_areas, same_objects, same_rooms, grown_sound, gone_there}
use Rattle.heap_objects.proofs.Replacing.{replaced_sound, is_replaced}
use Rattle.heap_objects.proofs.heap_space.space.Space.replace.Goals as goal

on_err : {T E : Type 0} (r : Result T E) (P : Type 0) → P → OnErr r P
on_err (Ok x) P p = tt
on_err (Err e) P p = p

none_some : {b : BlockValue} → None ≡ Some b → ⊥
none_some e = cc

pub invariant_of-self-in_err-grow : goal.invariant_of-self-in_err-grow
invariant_of-self-in_err-grow g c =
    let can = rw (← c.self.view_is) at c.requires in
    let short = grown_short _ _ _ _ c.end_of-end.result (length c.grow.new.table.items) c.self.invariant.space (c.end_of-end.ensures.least c.self.inside.config.blocks (rw c.deref.ensures.value (free_below _ _ _ _ c.args.blocks.items c.self.invariant.space can))) c.in_err-grow.ensures.no_longer in
    record {
      space = grown_sound _ _ _ _ _ c.self.invariant.space c.in_err-grow.ensures.same short c.in_err-grow.ensures.no_shorter;
      flags = grown_areas _ _ _ _ c.in_err-grow.ensures.same (λ g n. refl) c.self.invariant.flags;
      generations = c.self.invariant.generations;
      room = c.self.invariant.room;
    }

pub invariant_of-self-in_err-reserve : goal.invariant_of-self-in_err-reserve
invariant_of-self-in_err-reserve g c =
    let can = rw (← c.self.view_is) at c.requires in
    let short = grown_short _ _ _ _ c.end_of-end.result (length c.grow.new.table.items) c.self.invariant.space (c.end_of-end.ensures.least c.self.inside.config.blocks (rw c.deref.ensures.value (free_below _ _ _ _ c.args.blocks.items c.self.invariant.space can))) c.in_ok-grow.ensures.no_longer in
    record {
      space = grown_sound _ _ _ _ _ c.self.invariant.space c.in_ok-grow.ensures.same short c.in_ok-grow.ensures.no_shorter;
      flags = grown_areas _ _ _ _ c.in_ok-grow.ensures.same c.in_err-reserve.ensures.same c.self.invariant.flags;
      generations = c.in_err-reserve.ensures.generations ∙ c.self.invariant.generations;
      room = c.in_err-reserve.ensures.no_less _ c.self.invariant.room;
    }

pub returns-in_err-grow-clause-err : goal.returns-in_err-grow-clause-err
returns-in_err-grow-clause-err g c =
    let can = rw (← c.self.view_is) at c.requires in
    let short = grown_short _ _ _ _ c.end_of-end.result (length c.grow.new.table.items) c.self.invariant.space (c.end_of-end.ensures.least c.self.inside.config.blocks (rw c.deref.ensures.value (free_below _ _ _ _ c.args.blocks.items c.self.invariant.space can))) c.in_err-grow.ensures.no_longer in
    let sound = grown_sound _ _ _ _ _ c.self.invariant.space c.in_err-grow.ensures.same short c.in_err-grow.ensures.no_shorter in
    let objects = same_objects c.grow.new.table.items c.self.inside.table.items (sound_fits _ _ _ _ sound) (sound_fits _ _ _ _ c.self.invariant.space) c.in_err-grow.ensures.same in
    let same = ap (λ m. let s : SpaceValue = record { config = c.self.inside.config; objects = m; rooms = rooms_of c.self.inside.nurseries.items c.grow.new.table.items; free = c.self.inside.pool.free } in s) objects
    ∙ ap (λ r. let s : SpaceValue = record { config = c.self.inside.config; objects = objects_map c.self.inside.table.items; rooms = r; free = c.self.inside.pool.free } in s) (same_rooms c.self.inside.config c.self.inside.table.items c.grow.new.table.items c.self.inside.nurseries.items c.in_err-grow.ensures.same) in
    on_err _ _ (same ∙ c.self.view_is)

pub returns-in_err-reserve-clause-err : goal.returns-in_err-reserve-clause-err
returns-in_err-reserve-clause-err g c =
    let can = rw (← c.self.view_is) at c.requires in
    let short = grown_short _ _ _ _ c.end_of-end.result (length c.grow.new.table.items) c.self.invariant.space (c.end_of-end.ensures.least c.self.inside.config.blocks (rw c.deref.ensures.value (free_below _ _ _ _ c.args.blocks.items c.self.invariant.space can))) c.in_ok-grow.ensures.no_longer in
    let sound = grown_sound _ _ _ _ _ c.self.invariant.space c.in_ok-grow.ensures.same short c.in_ok-grow.ensures.no_shorter in
    let objects = same_objects c.grow.new.table.items c.self.inside.table.items (sound_fits _ _ _ _ sound) (sound_fits _ _ _ _ c.self.invariant.space) c.in_ok-grow.ensures.same in
    let same = ap (λ m. let s : SpaceValue = record { config = c.self.inside.config; objects = m; rooms = rooms_of c.self.inside.nurseries.items c.grow.new.table.items; free = c.self.inside.pool.free } in s) objects
    ∙ ap (λ r. let s : SpaceValue = record { config = c.self.inside.config; objects = objects_map c.self.inside.table.items; rooms = r; free = c.self.inside.pool.free } in s) (same_rooms c.self.inside.config c.self.inside.table.items c.grow.new.table.items c.self.inside.nurseries.items c.in_ok-grow.ensures.same) in
    on_err _ _ (same ∙ c.self.view_is)

pub add_blocks-requires : goal.add_blocks-requires
add_blocks-requires g c =
    let can = rw (← c.self.view_is) at c.requires in
    rw c.deref-3.ensures.value (record {
      generations = each_generation c.self.inside.config c.self.inside.table.items c.self.inside.nurseries.items c.self.inside.pool c.args.blocks.items _ can (c.remove_blocks.ensures.generations ∙ c.in_ok-reserve.ensures.generations ∙ c.self.invariant.generations);
      room = each_room _ _ c.end_of-end.result (c.remove_blocks.ensures.room _ c.in_ok-reserve.ensures.room) (rw c.deref.ensures.value at c.end_of-end.ensures.above);
      once = can.once;
    })

pub exchange-requires : goal.exchange-requires
exchange-requires g c =
    let can = rw (← c.self.view_is) at c.requires in
    let goes : Goes c.args.generation c.self.inside.table.items c.in_ok-old.old.items = goes_flagged _ _ _ _ c.self.invariant.flags c.in_ok-old.ensures.numbers in
    let gone = c.in_ok-old.old.items in
    let there : (n : ℕ) → has c.deref-4.result.now n ≡ true → (block : BlockValue) × (slot_at c.self.inside.table.items n ≡ Some block) =
    λ n h. gone_there c.self.inside.table.items c.args.generation gone goes n (rw c.deref-4.ensures.value at h) in
    record {
      in_table = λ n h. let at = there n h in omega (arith, in_list c.self.inside.table.items n at.0 at.1, c.in_ok-grow.ensures.no_shorter, ap length c.deref_mut.ensures.value);
      in_pool = λ n h le. let at = there n h in omega (arith, in_list c.self.inside.table.items n at.0 at.1, c.self.invariant.space.short, c.self.invariant.space.limit);
      not_free = λ n h le. let at = there n h in ⊎_elim (λ f. let free = c.self.invariant.space.are_free n f in absurd (none_some (sym free.2 ∙ at.1))) (λ f. f) (cases_Bool (has c.self.inside.pool.free n));
      old_once = rw c.deref-4.ensures.value c.in_ok-old.ensures.once;
      blocks_in_table = λ k d lt.
          let above = rw c.deref.ensures.value at c.end_of-end.ensures.above in
          omega (arith, above k d lt, c.in_ok-grow.ensures.ok, ap length c.deref_mut.ensures.value);
      free = can.were_free;
      once = can.once;
    }

pub invariant_of-self-2 : goal.invariant_of-self-2
invariant_of-self-2 g c =
    let can = rw (← c.self.view_is) at c.requires in
    let goes : Goes c.args.generation c.self.inside.table.items c.in_ok-old.old.items = goes_flagged _ _ _ _ c.self.invariant.flags c.in_ok-old.ensures.numbers in
    let short = grown_short _ _ _ _ c.end_of-end.result (length c.grow.new.table.items) c.self.invariant.space (c.end_of-end.ensures.least c.self.inside.config.blocks (rw c.deref.ensures.value (free_below _ _ _ _ c.args.blocks.items c.self.invariant.space can))) c.in_ok-grow.ensures.no_longer in
    let same_len : length c.exchange.new.table ≡ length c.grow.new.table.items = omega (arith, c.exchange.auto.table, ap length c.deref_mut.ensures.value) in
    let whole = with_whole c.grow.new.table.len c.exchange.new.table c.grow.new.table.items (omega (arith, same_len, c.grow.new.table.ok.0)) (omega (arith, c.grow.new.table.ok.0)) in
    let reset = c.reset_all.ensures ∙ ap (map from_first) c.deref_mut-2.ensures.value in
    let same_many : length c.reset_all.new.nurseries ≡ length c.self.inside.nurseries.items = ap length reset ∙ length-map c.self.inside.nurseries.items from_first in
    let whole_nurseries = with_whole c.self.inside.nurseries.len c.reset_all.new.nurseries c.self.inside.nurseries.items (omega (arith, same_many, c.self.inside.nurseries.ok.0)) (omega (arith, c.self.inside.nurseries.ok.0)) in
    rw (whole, whole_nurseries, reset) (record {
      space = replaced_sound c.self.inside.config c.self.inside.table.items c.exchange.new.table c.self.inside.nurseries.items c.self.inside.pool c.exchange.new.pool c.args.generation c.in_ok-old.old.items c.args.blocks.items c.self.invariant.space can goes (omega (arith, short, same_len)) (omega (arith, c.in_ok-grow.ensures.no_shorter, same_len))
          (λ n. rw (c.deref_mut.ensures.value, c.deref-4.ensures.value, c.nursery_blocks-count.ensures.value, c.in_ok-grow.ensures.same n) at (c.exchange.ensures.table n))
          (λ n. rw (c.deref-4.ensures.value, c.nursery_blocks-count.ensures.value) at (c.exchange.ensures.free n))
          c.exchange.ensures.limit;
      flags = exchanged_areas c.self.inside.table.items c.exchange.new.table c.self.inside.areas c.remove_blocks.new.areas c.add_blocks.new.areas c.in_ok-old.old.items c.args.blocks.items (nursery_count c.self.inside.config) c.self.invariant.flags
          (λ g n. rw c.deref-2.ensures.value at (c.remove_blocks.ensures.flags g n) ∙ ap (cond (has c.in_ok-old.old.items n) false) (c.in_ok-reserve.ensures.same g n))
          (λ g n. rw c.deref-3.ensures.value at (c.add_blocks.ensures.flags g n))
          (free_before _ _ _ _ c.args.blocks.items c.self.invariant.space can)
          (λ n. rw (c.deref_mut.ensures.value, c.deref-4.ensures.value, c.nursery_blocks-count.ensures.value, c.in_ok-grow.ensures.same n) at (c.exchange.ensures.table n));
      generations = c.add_blocks.ensures.generations ∙ c.remove_blocks.ensures.generations ∙ c.in_ok-reserve.ensures.generations ∙ c.self.invariant.generations;
      room = c.add_blocks.ensures.room _ (c.remove_blocks.ensures.room _ (c.in_ok-reserve.ensures.no_less _ c.self.invariant.room));
    })

pub returns-clause-ok : goal.returns-clause-ok
returns-clause-ok g c =
    let can = rw (← c.self.view_is) at c.requires in
    let goes : Goes c.args.generation c.self.inside.table.items c.in_ok-old.old.items = goes_flagged _ _ _ _ c.self.invariant.flags c.in_ok-old.ensures.numbers in
    let short = grown_short _ _ _ _ c.end_of-end.result (length c.grow.new.table.items) c.self.invariant.space (c.end_of-end.ensures.least c.self.inside.config.blocks (rw c.deref.ensures.value (free_below _ _ _ _ c.args.blocks.items c.self.invariant.space can))) c.in_ok-grow.ensures.no_longer in
    let same_len : length c.exchange.new.table ≡ length c.grow.new.table.items = omega (arith, c.exchange.auto.table, ap length c.deref_mut.ensures.value) in
    let whole = with_whole c.grow.new.table.len c.exchange.new.table c.grow.new.table.items (omega (arith, same_len, c.grow.new.table.ok.0)) (omega (arith, c.grow.new.table.ok.0)) in
    let reset = c.reset_all.ensures ∙ ap (map from_first) c.deref_mut-2.ensures.value in
    let same_many : length c.reset_all.new.nurseries ≡ length c.self.inside.nurseries.items = ap length reset ∙ length-map c.self.inside.nurseries.items from_first in
    let whole_nurseries = with_whole c.self.inside.nurseries.len c.reset_all.new.nurseries c.self.inside.nurseries.items (omega (arith, same_many, c.self.inside.nurseries.ok.0)) (omega (arith, c.self.inside.nurseries.ok.0)) in
    rw (← c.self.view_is, whole, whole_nurseries, reset) (is_replaced c.self.inside.config c.self.inside.table.items c.exchange.new.table c.self.inside.nurseries.items c.self.inside.pool c.exchange.new.pool c.args.generation c.in_ok-old.old.items c.args.blocks.items c.self.invariant.space can goes (omega (arith, short, same_len)) (omega (arith, c.in_ok-grow.ensures.no_shorter, same_len))
    (λ n. rw (c.deref_mut.ensures.value, c.deref-4.ensures.value, c.nursery_blocks-count.ensures.value, c.in_ok-grow.ensures.same n) at (c.exchange.ensures.table n))
    (λ n. rw (c.deref-4.ensures.value, c.nursery_blocks-count.ensures.value) at (c.exchange.ensures.free n))
    c.exchange.ensures.limit)
