use Rattle.std.proofs.Common.{◌<◌, ◌++◌, false, map, refl, sym, ap, subst, ◌∙◌, arith}
use Rattle.std.specs.Prelude.{slice_get}
use Rattle.layout.specs.Place.{IsLargeAt}
use Rattle.machine.specs.InterleavedValue.{MemberValue}
use Rattle.machine.specs.IsInterleaved.{begins}
use Rattle.machine.proofs.Beginning.{seat_is, seat_below, seats_more, all_seated, each_first}
use Rattle.machine.proofs.workers_in_turn.new.first_members.Goals as goal

pub loop-seat-init : goal.loop-seat-init
loop-seat-init g c = record {
  seats = ap (λ ms. map (λ (m : MemberValue). m.seat) ms ++ c.into_iter-seat-iterator.result.rest.items) c.new-members.ensures.items ∙ c.into_iter-seat-iterator.ensures.into_iter_gives.0 ∙ c.requires.seats;
  each = λ t m e. absurd (let x = ap (λ ms. slice_get ms t) (sym c.new-members.ensures.items) ∙ e in cc);
}

pub new-requires-clause-part : goal.new-requires-clause-part
new-requires-clause-part g c =
    let l = seat_below c.loop-seat.members.items c.next.new.self.rest.items c.in-Some.seat c.args.n (ap (λ xs. map (λ (m : MemberValue). m.seat) c.loop-seat.members.items ++ xs) (sym c.in-Some.ensures.steps.0) ∙ c.loop-seat.invariant.seats) in
    subst (λ t. t < c.args.n) (sym c.index-t.ensures) l

pub loop-seat-preserved : goal.loop-seat-preserved
loop-seat-preserved g c =
    let m : MemberValue = record { seat = c.in-Some.seat; workspace = c.in_ok-workspace.workspace; taken = c.new-taken.result.items; idle = false; ended = false } in
    let seats = ap (λ xs. map (λ (x : MemberValue). x.seat) c.loop-seat.members.items ++ xs) (sym c.in-Some.ensures.steps.0) ∙ c.loop-seat.invariant.seats in
    let is = seat_is c.loop-seat.members.items c.next.new.self.rest.items c.in-Some.seat c.args.n seats in
    let t = c.index-t.ensures ∙ is in
    let pushed = c.in_ok-push.ensures.items in
    record {
      seats = ap (λ ms. map (λ (x : MemberValue). x.seat) ms ++ c.next.new.self.rest.items) pushed ∙ seats_more c.loop-seat.members.items c.next.new.self.rest.items c.in-Some.seat c.args.n seats m refl;
      each = λ i x e. each_first c.args.heap.now c.args.collection.now c.args.n c.loop-seat.members.items m c.loop-seat.invariant.each
          (record {
            seat = is;
            config = c.in_ok-workspace.ensures.config;
            names = c.in_ok-workspace.ensures.names;
            claim = subst (IsLargeAt c.in_ok-workspace.workspace.claim) t c.in_ok-workspace.ensures.claim;
            worker = c.in_ok-workspace.ensures.worker ∙ ap (begins c.args.heap.now c.args.collection.now c.args.n) t;
            taken = c.new-taken.ensures.items;
            awake = refl;
            going = refl;
          })
          i x (ap (λ ms. slice_get ms i) (sym pushed) ∙ e);
    }

pub returns : goal.returns
returns g c = record {
  count = all_seated c.loop-seat.members.items c.loop-seat.seat-iterator.rest.items c.args.n (omega (arith, c.in-None.ensures.steps.0, c.loop-seat.seat-iterator.rest.ok)) c.loop-seat.invariant.seats;
  each = c.loop-seat.invariant.each;
}
