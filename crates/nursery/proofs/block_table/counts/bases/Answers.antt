use Rattle.std.proofs.Common.{◌≡◌, ◌<◌, ◌-◌, ◌++◌, true, None, length, take, replicate, get_or, arith, ◌∙◌, sym, ap, ⊎_elim}
use Rattle.std.proofs.lemmas.Bool.{true≢false, cases_lt}
use Rattle.std.proofs.lemmas.List.{length-map}
use Rattle.nursery.specs.Areas.{holds_young}
use Rattle.nursery.specs.Table.{slot_at, slot_len, young_slot, young_table}
use Rattle.nursery.proofs.AreaTables.{young_inside, old_len, counted_to, counted_all, run_passes}
use Rattle.nursery.proofs.YoungBlocks.{young_at}
use Rattle.nursery.proofs.block_table.counts.bases.Goals as goal

pub count_run-requires : goal.count_run-requires
count_run-requires g c =
    let table = c.args.table.now in
    let number = c.in-Some.number in
    let inside : number < length table = young_inside table c.args.generation number (sym (c.requires.areas.each c.args.generation number) ∙ c.in-Some.ensures.flag) in
    let len : c.len.result ≡ length c.loop-number.bases.items = omega (arith, c.len.ensures, c.loop-number.bases.ok.0) in
    let new : length c.resize.new.self.items ≡ number = omega (arith, c.in_ok-resize.ensures.len, c.resize.new.self.ok.0) in
    let items : c.resize.new.self.items ≡ take number c.loop-number.bases.items ++ replicate (number - length c.loop-number.bases.items) c.loop-number.objects = rw c.loop-number.bases.ok.0 at c.in_ok-resize.ensures.items in
    record {
      short = c.requires.short;
      in_table = omega (arith, new, inside);
      counted = counted_to (young_table c.args.generation table) c.loop-number.bases.items c.loop-number.objects c.loop-number.invariant.so_far c.resize.new.self.items number
          (omega (arith, inside, length-map table (young_slot c.args.generation))) (omega (arith, c.in-Some.ensures.from, len))
          (λ k from lt. ap slot_len (young_at table c.args.generation k) ∙ old_len c.args.generation (get_or table k None) (sym (c.requires.areas.each c.args.generation k) ∙ c.in-Some.ensures.first k (omega (arith, from, len)) lt))
          items;
      few = omega (arith, new, c.in-Some.ensures.from, len, c.loop-number.invariant.few);
    }

pub loop-number-smaller : goal.loop-number-smaller
loop-number-smaller g c =
    let table = c.args.table.now in
    let number = c.in-Some.number in
    let new : length c.resize.new.self.items ≡ number = omega (arith, c.in_ok-resize.ensures.len, c.resize.new.self.ok.0) in
    let young : holds_young c.args.generation (slot_at table number) ≡ true = sym (c.requires.areas.each c.args.generation number) ∙ c.in-Some.ensures.flag in
    let passes : length c.resize.new.self.items < length c.count_run.new.bases.items = run_passes c.args.generation table (length c.resize.new.self.items) (length c.count_run.new.bases.items) c.in_ok-objects.ensures.run
    (ap (λ n. holds_young c.args.generation (slot_at table n)) new ∙ young) in
    omega (arith, passes, new, c.in_ok-objects.ensures.in_table, c.in-Some.ensures.from, c.len.ensures, c.loop-number.bases.ok.0)

pub returns-clause-covers : goal.returns-clause-covers
returns-clause-covers g c = λ b young. ⊎_elim
    (λ lt. lt)
    (λ le. absurd (true≢false (sym young ∙ sym (c.requires.areas.each c.args.generation b) ∙ c.in_default.ensures.none b (omega (arith, le, c.len.ensures)))))
    (cases_lt b (length c.loop-number.bases.items))

pub returns-clause-all : goal.returns-clause-all
returns-clause-all g c =
    let table = c.args.table.now in
    counted_all (young_table c.args.generation table) c.loop-number.bases.items c.loop-number.objects c.loop-number.invariant.so_far (omega (arith, c.loop-number.invariant.within, length-map table (young_slot c.args.generation)))
    (λ k from. ap slot_len (young_at table c.args.generation k) ∙ old_len c.args.generation (get_or table k None) (sym (c.requires.areas.each c.args.generation k) ∙ c.in_default.ensures.none k (omega (arith, from, c.len.ensures))))
