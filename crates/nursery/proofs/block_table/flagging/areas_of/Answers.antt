use Rattle.std.proofs.Common.{◌≡◌, ℕ, None, false, length, get_or, ◌&&◌, ◌∙◌, sym, ap, arith}
use Rattle.std.proofs.lemmas.Bool.Decides.{nat_tests}
use Rattle.std.proofs.lemmas.List.{length-replicate}
use Rattle.std.specs.Prelude.{nat_lt, Bool, List, []}
use Rattle.nursery.specs.Areas.{holds_young, is_flagged}
use Rattle.nursery.specs.Table.{slot_at}
use Rattle.nursery.proofs.AreaTables.{none_flagged, slot_flagged, all_flagged}
use Rattle.nursery.proofs.TableReads.{found_there}
use Rattle.nursery.proofs.TableSteps.{get_or_any}
use Rattle.nursery.proofs.block_table.flagging.areas_of.Goals as goal

none_below : (n : ℕ) → nat_lt n 0 ≡ false
none_below n = grind (arith, nat_tests)

pub loop-number-init : goal.loop-number-init
loop-number-init g c =
    let none : List Bool = [] in
    record {
      flags = λ h n. c.in_ok-reserve.ensures.same h n ∙ ap (λ areas. is_flagged areas h n) c.in_ok-areas.ensures ∙ none_flagged c.args.generations h n ∙ sym (ap (λ t. t && holds_young h (slot_at c.args.table.now n)) (none_below n));
      room = c.in_ok-reserve.ensures.room;
      generations = c.in_ok-reserve.ensures.generations ∙ ap length c.in_ok-areas.ensures ∙ length-replicate c.args.generations none;
    }

pub add_slot-requires-clause-generation : goal.add_slot-requires-clause-generation
add_slot-requires-clause-generation g c = λ block is.
    let there = found_there c.args.table.now c.loop-number.number c.index-table-number.result block c.loop-number-test.true c.index-table-number.is is in
    omega (arith, c.requires.within c.loop-number.number block there, c.loop-number.invariant.generations)

pub loop-number-preserved : goal.loop-number-preserved
loop-number-preserved g c =
    let slot : get_or c.args.table.now c.loop-number.number None ≡ c.index-table-number.result = get_or_any c.args.table.now c.loop-number.number None c.index-table-number.result c.loop-number-test.true ∙ sym c.index-table-number.is in
    record {
      flags = λ h n. slot_flagged c.args.table.now h c.loop-number.number n c.index-table-number.result (is_flagged c.loop-number.areas h n) (is_flagged c.add_slot.new.areas h n) slot (c.loop-number.invariant.flags h n) (c.add_slot.ensures.flags h n);
      room = c.add_slot.ensures.room _ c.loop-number.invariant.room;
      generations = c.add_slot.ensures.generations ∙ c.loop-number.invariant.generations;
    }

pub returns-clause-areas : goal.returns-clause-areas
returns-clause-areas g c = all_flagged c.args.table.now c.loop-number.number c.loop-number.areas c.loop-number-test.false c.loop-number.invariant.flags
