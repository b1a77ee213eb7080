use Rattle.std.proofs.Common.{rules, ap, sym, ◌∙◌, ◌≡◌, length, min, nat_eq, subst}
use Rattle.std.specs.List.{IsDistinct}
use Rattle.block_pool.proofs.DrawLemmas.{closes}
use Rattle.block_pool.proofs.ClaimLemmas.{IsClosed, closed, IsDistinct-none, belong}
use Rattle.block_pool.proofs.claims.claims.Claims.close.Given as given
use Rattle.block_pool.proofs.claims.claims.Claims.close.Goals as goal
use Rattle.block_pool.proofs.claims.claims.Claims.close.Goals.{After-drop-plan}

pub returns-in_default-clause-once : goal.returns-in_default-clause-once
returns-in_default-clause-once g c = IsDistinct-none c.args.seats.items (search rules)

pub gather-seat-requires-clause-seats : goal.gather-seat-requires-clause-seats
gather-seat-requires-clause-seats g c = belong c.args.self.source c.args.seats.items _ _ _ c.in-Some.ensures.items c.requires.seats (sym (ap (λ v. v.source.name) c.self.view_is))

ended : (g : given.Over) → (c : After-drop-plan g) → IsClosed c.args.self.source.free c.min.result c.args.seats.items
ended g c =
    let plan = c.self.invariant in
    let free = ap (λ v. v.source.free) c.self.view_is in
    let is = c.in-Some.ensures.items in
    let parts = c.gather-seat.ensures.parts ∙ (ap length (sym is) ∙ (c.requires.all ∙ sym (ap (λ p. p.seats) plan.0 ∙ ap (λ v. v.source.seats) c.self.view_is))) in
    let f = c.close_with-closed.ensures.values.2 in
    let e = closes _ _ _ c.gather-seat.result.me.0 _ c.word-drawn.result (f.0, f.1, f.2) c.word-drawn.ensures parts in
    let room : c.len.result ≡ length c.self.inside.plan.free = search rules in
    let count = c.min.ensures ∙ ap (λ n. min c.word-drawn.result n) (room ∙ ap length free) in
    closed _ _ _ _ _ _ _ (ap (λ p. p.free) plan.0 ∙ free) (subst (IsDistinct nat_eq) free plan.5) e is c.gather-seat.ensures.drawn c.gather-seat.ensures.outs count

pub returns-clause-count : goal.returns-clause-count
returns-clause-count g c = (ended g c).count

pub returns-clause-first : goal.returns-clause-first
returns-clause-first g c = (ended g c).first

pub returns-clause-once : goal.returns-clause-once
returns-clause-once g c = (ended g c).once

pub returns-clause-members : goal.returns-clause-members
returns-clause-members g c = (ended g c).members

pub returns-clause-used_up : goal.returns-clause-used_up
returns-clause-used_up g c = (ended g c).used_up
