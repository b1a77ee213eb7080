use Rattle.std.proofs.Common.{arith, ap, ◌∙◌, ◌≡◌, ◌++◌, ◌∷◌, []}
use Rattle.atomic_table.specs.Table.{Me}
use Rattle.forwarding.specs.declared.word_cells.plays.Mind.{Mind}
use Rattle.forwarding.specs.Words.{WordPassValue}
use Rattle.forwarding.proofs.Keeps.{gathers}
use Rattle.forwarding.proofs.Gathered.{popped_pairs, more_pairs, popped_all, popped_length}
use Rattle.forwarding.proofs.word_cells.ends.gather.Goals as goal

pub loop-pass-init : goal.loop-pass-init
loop-pass-init g c =
    let is : c.args.passes.items ≡ c.pop.new.self.items ++ c.in-Some.last ∷ [] = c.in-Some.ensures.items in
    let seat = c.into_seat-seat.ensures in
    let each = popped_all (λ (p : WordPassValue). p.id ≡ c.args.table.now.shared.table_id) _ _ _ is c.requires.passes in
    let known = popped_pairs (λ (p : WordPassValue). p.known) _ _ _ is in
    let won = popped_pairs (λ (p : WordPassValue). p.won) _ _ _ is in
    let many = popped_length _ _ _ is in
    let one = seat.one.1 in
    record {
      table = seat.cells ∙ each.1;
      parts = omega arith;
      known = rw seat.known known;
      won = rw seat.won won;
      passes = each.0;
    }

pub join_seat-requires : goal.join_seat-requires
join_seat-requires g c =
    let is : c.loop-pass.passes.items ≡ c.pop-in-loop-pass.new.self.items ++ c.in-Some-pop.pass ∷ [] = c.in-Some-pop.ensures.items in
    let each = popped_all (λ (p : WordPassValue). p.id ≡ c.args.table.now.shared.table_id) _ _ _ is c.loop-pass.invariant.passes in
    let seat = c.into_seat.ensures in
    (c.loop-pass.invariant.table, seat.cells ∙ each.1, seat.one.0, c.requires.words, gathers _ _ _ _ _)

pub loop-pass-preserved : goal.loop-pass-preserved
loop-pass-preserved g c =
    let is : c.loop-pass.passes.items ≡ c.pop-in-loop-pass.new.self.items ++ c.in-Some-pop.pass ∷ [] = c.in-Some-pop.ensures.items in
    let each = popped_all (λ (p : WordPassValue). p.id ≡ c.args.table.now.shared.table_id) _ _ _ is c.loop-pass.invariant.passes in
    let seat = c.into_seat.ensures in
    let many = popped_length _ _ _ is in
    let known = more_pairs (λ (p : WordPassValue). p.known) _ _ _ _ _ is c.loop-pass.invariant.known in
    let won = more_pairs (λ (p : WordPassValue). p.won) _ _ _ _ _ is c.loop-pass.invariant.won in
    let me = c.join_seat.ensures.2 in
    record {
      table = c.join_seat.ensures.0 ∙ c.loop-pass.invariant.table;
      parts = (let p = ap (λ (m : Me (Unit {0}) Mind). m.0.parts) me in let one = seat.one.1 in let h = c.loop-pass.invariant.parts in omega arith);
      known = rw (ap (λ (m : Me (Unit {0}) Mind). m.0.known) me, seat.known) known;
      won = rw (ap (λ (m : Me (Unit {0}) Mind). m.0.won) me, seat.won) won;
      passes = each.0;
    }
