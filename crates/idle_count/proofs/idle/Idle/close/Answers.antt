use Rattle.std.proofs.Common.{arith, ap, sym, subst, ◌∙◌, length}
use Rattle.idle_count.proofs.IdleLemmas.{IsEnd, closes}
use Rattle.idle_count.proofs.SeatLemmas.{IsClosed, closed, named, popped}
use Rattle.idle_count.proofs.idle.Idle.close.Given as given
use Rattle.idle_count.proofs.idle.Idle.close.Goals as goal
use Rattle.idle_count.proofs.idle.Idle.close.Goals.{After-free}

ended : (g : given.Over) → (c : After-free g) → IsClosed c.args.self c.word-idle.result c.args.seats.items
ended g c =
    let is = c.in-Some.ensures.items in
    let seat = c.gather-seat.ensures in
    let seats = c.self.invariant.0 ∙ ap (λ v. v.seats) c.self.view_is in
    let parts = seat.parts ∙ (ap length (sym is) ∙ (c.requires.all ∙ sym seats)) in
    let f = c.close_with-closed.ensures.values.2 in
    let end = closes _ _ c.gather-seat.result.me.0 _ c.word-idle.result (f.0, f.1, f.2) c.word-idle.ensures parts in
    closed _ _ _ _ _ (subst (λ n. IsEnd n c.word-idle.result c.gather-seat.result.me.0) seats end) is c.requires.seats c.requires.all seat.idles seat.seen

pub overflow_cast-result : goal.overflow_cast-result
overflow_cast-result g c = let most = (ended g c).most in let seats = ap (λ v. v.seats) c.self.view_is in let few = c.self.invariant.3 in omega arith

pub gather-seat-requires-clause-last : goal.gather-seat-requires-clause-last
gather-seat-requires-clause-last g c =
    let each = named _ _ _ (sym (ap (λ v. v.name) c.self.view_is)) c.requires.seats in
    (popped _ _ _ _ c.in-Some.ensures.items each).last

pub gather-seat-requires-clause-seats : goal.gather-seat-requires-clause-seats
gather-seat-requires-clause-seats g c =
    let each = named _ _ _ (sym (ap (λ v. v.name) c.self.view_is)) c.requires.seats in
    (popped _ _ _ _ c.in-Some.ensures.items each).rest_each

pub returns-clause-count : goal.returns-clause-count
returns-clause-count g c = (ended g c).idles

pub returns-clause-ended : goal.returns-clause-ended
returns-clause-ended g c = (ended g c).ended

pub returns-clause-all_idle : goal.returns-clause-all_idle
returns-clause-all_idle g c = (ended g c).all
