use Rattle.std.proofs.Common.{◌≡◌, [], length, sym, ap, subst, ◌∙◌, arith}
use Rattle.std.proofs.lemmas.List.{length-map}
use Rattle.std.proofs.lemmas.List.FromFn.{length-range_with_len}
use Rattle.std.specs.List.{range_with_len}
use Rattle.block_pool.specs.ClaimsValue.{unused}
use Rattle.forwarding.specs.Passes.{AtEach}
use Rattle.idle_count.specs.IdleValue.{IdleSeatValue, busy}
use Rattle.idle_count.specs.VerdictValue.{VerdictSeatValue, untold}
use Rattle.pending_queues.specs.PendingValue.{new_seat}
use Rattle.workers_in_threads.specs.Kits.{IsKit}
use Rattle.workers_in_threads.proofs.Places.{at_push, at_rest, at_first, at_begin, at_none}
use Rattle.workers_in_threads.proofs.Taking.{popped, left, one_less, both, numbered_at}
use Rattle.workers_in_threads.proofs.dealing.dealt.Goals as goal

pub loop-pass-init : goal.loop-pass-init
loop-pass-init g c =
    let seats : length c.args.seats.items ≡ c.args.workers = ap length c.requires.seats ∙ length-map (range_with_len 0 c.args.workers) (new_seat c.args.queues.now) ∙ length-range_with_len 0 c.args.workers in record {
      many = omega (arith, c.in_ok-kits.ensures.len, c.into_iter-pass-iterator.ensures.into_iter_gives.1, c.requires.many, c.args.passes.ok.0);
      room = c.in_ok-kits.ensures.capacity;
      passes = at_begin (λ i p. g.S.SharedCells.is_pass c.args.cells.now i p × (g.S.SharedCells.won p ≡ [])) _ _ _ c.into_iter-pass-iterator.ensures.into_iter_gives.0 c.in_ok-kits.ensures.len
          (both (g.S.SharedCells.is_pass c.args.cells.now) (λ p. g.S.SharedCells.won p ≡ []) c.args.passes.items c.requires.passes.0 c.requires.passes.1);
      seats_many = omega (arith, c.in_ok-kits.ensures.len, c.into_iter-places.ensures.len, seats, c.args.seats.ok.0);
      seats = at_begin (λ i s. s ≡ new_seat c.args.queues.now i) _ _ _ c.into_iter-places.ensures.rest c.in_ok-kits.ensures.len
          (numbered_at (new_seat c.args.queues.now) c.args.workers c.args.seats.items c.requires.seats);
      draws = c.requires.draws.0;
      draws_many = omega (arith, c.into_iter-pass-iterator.ensures.into_iter_gives.1, c.requires.many, c.args.passes.ok.0, c.requires.draws.1);
      rests = c.requires.rests.0;
      rests_many = omega (arith, c.into_iter-pass-iterator.ensures.into_iter_gives.1, c.requires.many, c.args.passes.ok.0, c.requires.rests.1);
      voices = c.requires.voices.0;
      voices_many = omega (arith, c.into_iter-pass-iterator.ensures.into_iter_gives.1, c.requires.many, c.args.passes.ok.0, c.requires.voices.1);
      made = at_none _ _ c.in_ok-kits.ensures.items;
    }

pub pack-requires-clause-pass : goal.pack-requires-clause-pass
pack-requires-clause-pass g c κs within =
    let first = at_first (λ i p. g.S.SharedCells.is_pass c.args.cells.now i p × (g.S.SharedCells.won p ≡ [])) _ _ _ _ c.in-Some.ensures.steps.0 c.loop-pass.invariant.passes in
    (subst (λ m. g.S.SharedCells.is_pass c.args.cells.now m c.in-Some.pass) (sym c.len-number.ensures) first.0, first.1)

pub pack-requires-clause-draws : goal.pack-requires-clause-draws
pack-requires-clause-draws g c κs within = popped (λ s. s ≡ unused c.args.claims.now.source) _ _ _ c.in-Some-pop.ensures.items c.loop-pass.invariant.draws

pub pack-requires-clause-seat : goal.pack-requires-clause-seat
pack-requires-clause-seat g c κs within =
    at_first (λ i s. s ≡ new_seat c.args.queues.now i) _ _ _ _ c.in-Some-next.ensures.cases.0 c.loop-pass.invariant.seats ∙ ap (new_seat c.args.queues.now) (sym c.len-number.ensures)

pub pack-requires-clause-rest : goal.pack-requires-clause-rest
pack-requires-clause-rest g c κs within =
    let is = popped (λ s. s ≡ busy c.args.idle.now) _ _ _ c.in-Some-pop-2.ensures.items c.loop-pass.invariant.rests in
    (record { name = ap (λ (s : IdleSeatValue). s.name) is; seats = ap (λ (s : IdleSeatValue). s.seats) is }, ap (λ (s : IdleSeatValue). s.idle) is)

pub pack-requires-clause-voice : goal.pack-requires-clause-voice
pack-requires-clause-voice g c κs within = ap (λ (s : VerdictSeatValue). s.name) (popped (λ s. s ≡ untold c.args.verdict.now) _ _ _ c.in-Some-pop-3.ensures.items c.loop-pass.invariant.voices)

pub pack-requires-clause-silent : goal.pack-requires-clause-silent
pack-requires-clause-silent g c κs within = ap (λ (s : VerdictSeatValue). s.won) (popped (λ s. s ≡ untold c.args.verdict.now) _ _ _ c.in-Some-pop-3.ensures.items c.loop-pass.invariant.voices)

pub loop-pass-preserved : goal.loop-pass-preserved
loop-pass-preserved g c =
    let F = IsKit (g.S.SharedCells.limit c.args.cells.now) (g.S.SharedCells.is_pass c.args.cells.now) g.S.SharedCells.won c.args.heap.now c.args.collection.now c.args.claims.now c.args.queues.now c.args.idle.now c.args.verdict.now c.args.workers in record {
      many = omega (arith, c.loop-pass.invariant.many, c.push_reserved.ensures.len, c.in-Some.ensures.steps.1);
      room = omega (arith, c.loop-pass.invariant.room, c.push_reserved.ensures.capacity);
      passes = at_rest (λ i p. g.S.SharedCells.is_pass c.args.cells.now i p × (g.S.SharedCells.won p ≡ [])) _ _ _ _ _ c.in-Some.ensures.steps.0 c.push_reserved.ensures.len c.loop-pass.invariant.passes;
      seats_many = omega (arith, c.loop-pass.invariant.seats_many, c.push_reserved.ensures.len, c.in-Some-next.ensures.cases.1);
      seats = at_rest (λ i s. s ≡ new_seat c.args.queues.now i) _ _ _ _ _ c.in-Some-next.ensures.cases.0 c.push_reserved.ensures.len c.loop-pass.invariant.seats;
      draws = left (λ s. s ≡ unused c.args.claims.now.source) _ _ _ c.in-Some-pop.ensures.items c.loop-pass.invariant.draws;
      draws_many = omega (arith, c.loop-pass.invariant.draws_many, c.in-Some.ensures.steps.1, one_less _ _ _ c.in-Some-pop.ensures.items);
      rests = left (λ s. s ≡ busy c.args.idle.now) _ _ _ c.in-Some-pop-2.ensures.items c.loop-pass.invariant.rests;
      rests_many = omega (arith, c.loop-pass.invariant.rests_many, c.in-Some.ensures.steps.1, one_less _ _ _ c.in-Some-pop-2.ensures.items);
      voices = left (λ s. s ≡ untold c.args.verdict.now) _ _ _ c.in-Some-pop-3.ensures.items c.loop-pass.invariant.voices;
      voices_many = omega (arith, c.loop-pass.invariant.voices_many, c.in-Some.ensures.steps.1, one_less _ _ _ c.in-Some-pop-3.ensures.items);
      made = subst (AtEach F) (sym c.push_reserved.ensures.items)
          (at_push F _ _ c.loop-pass.invariant.made (subst (λ m. F m c.in_ok-pack.field-0) (c.len-number.ensures ∙ c.loop-pass.kits.ok.0) c.in_ok-pack.ensures));
    }
