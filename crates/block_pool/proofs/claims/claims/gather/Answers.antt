use Rattle.std.proofs.Common.{rules, arith, ap, ◌∙◌, ◌++◌, ◌∷◌, [], length-append}
use Rattle.block_pool.proofs.DrawLemmas.{gathers}
use Rattle.block_pool.proofs.ClaimLemmas.{popped, gathered, all_drawn-snoc, outs_of-snoc, outs_left}
use Rattle.block_pool.proofs.claims.claims.gather.Goals as goal

pub loop-seat-init : goal.loop-seat-init
loop-seat-init g c =
    let me = c.into_seat-all.ensures.share in
    let parts = ap (λ m. m.0.parts) me in
    let outs = ap (λ m. m.0.outs) me in
    let many = length-append c.args.seats.items (c.args.last ∷ []) in
    record {
      name = c.into_seat-all.ensures.name ∙ c.requires.last;
      some = λ z. omega arith;
      parts = omega arith;
      drawn = rw (ap (λ m. m.0.drawn) me) (all_drawn-snoc c.args.seats.items c.args.last);
      outs = (let o = outs_of-snoc c.args.seats.items c.args.last in omega arith);
      seats = c.requires.seats;
    }

pub join_seat-requires : goal.join_seat-requires
join_seat-requires g c =
    let p = popped c.args.table.now.shared.table_id _ _ _ c.in-Some.ensures.items c.loop-seat.invariant.seats in
    let seat = c.into_seat.ensures in
    (c.loop-seat.invariant.name, seat.name ∙ p.last, ap (λ m. m.1) seat.share, c.requires.words, gathers _ _ _ _ _ _ c.loop-seat.invariant.some)

pub loop-seat-preserved : goal.loop-seat-preserved
loop-seat-preserved g c =
    let p = popped c.args.table.now.shared.table_id _ _ _ c.in-Some.ensures.items c.loop-seat.invariant.seats in
    let before = c.loop-seat.invariant in
    let seat = c.into_seat.ensures.share in
    let me = c.join_seat.ensures.2 in
    let parts = ap (λ m. m.0.parts) me in
    let outs = ap (λ m. m.0.outs) me in
    let its_parts = ap (λ m. m.0.parts) seat in
    let its_outs = ap (λ m. m.0.outs) seat in
    record {
      name = c.join_seat.ensures.0 ∙ before.name;
      some = λ z. (let h = before.some in omega arith);
      parts = (let h = before.parts in let m = p.many in omega arith);
      drawn = rw (ap (λ m. m.0.drawn) me, seat) (gathered _ _ _ _ _ p.drawn before.drawn);
      outs = (let h = before.outs in let o = p.outs in omega arith);
      seats = p.rest_each;
    }

pub returns-clause-outs : goal.returns-clause-outs
returns-clause-outs g c = outs_left _ _ (c.args.seats.items ++ c.args.last ∷ []) (search rules) c.loop-seat.invariant.outs
