use Rattle.std.proofs.Common.{rules, arith, ap, sym, ◌∙◌, length, nat_eq, subst}
use Rattle.std.specs.List.{IsDistinct, slice_get}
use Rattle.block_pool.proofs.DrawLemmas.{draws}
use Rattle.block_pool.proofs.ClaimLemmas.{times-distinct, fresh_read, drew}
use Rattle.block_pool.proofs.claims.claims.Claims.draw.Goals as goal

pub fetch_add-at-requires : goal.fetch_add-at-requires
fetch_add-at-requires g c =
    let plan = c.self.invariant in
    let mine = c.seat.invariant in
    let key = ap (λ p. p.free) plan.0 in
    let seats = ap (λ p. p.seats) plan.0 in
    let source = ap (λ s. s.source) c.seat.view_is ∙ (c.requires.seat ∙ sym (ap (λ v. v.source) c.self.view_is)) in
    let same = ap (λ s. s.free) source ∙ sym key in
    let room = ap length key in
    (ap (λ s. s.name) source, search rules, draws _ _ _ _ _ same (ap (λ s. s.seats) source ∙ sym seats) mine.0 (search rules) (omega arith) (times-distinct _ (subst (IsDistinct nat_eq) (sym key) plan.5)))

pub returns-clause-fresh : goal.returns-clause-fresh
returns-clause-fresh g c =
    let source = ap (λ s. s.source) c.seat.view_is ∙ (c.requires.seat ∙ sym (ap (λ v. v.source) c.self.view_is)) in
    let same = ap (λ s. s.free) source in
    rw (sym (ap (λ s. s.drawn) c.seat.view_is)) (fresh_read _ _ _ c.fetch_add-at.result c.nth-number.result same c.nth-number.ensures.value c.fetch_add-at.ensures.2.fresh)

pub invariant_of-seat : goal.invariant_of-seat
invariant_of-seat g c = search rules

pub returns-clause-drawn : goal.returns-clause-drawn
returns-clause-drawn g c =
    let source = ap (λ s. s.source) c.seat.view_is ∙ (c.requires.seat ∙ sym (ap (λ v. v.source) c.self.view_is)) in
    let found = c.nth-number.ensures.value ∙ ap (λ l. slice_get l c.fetch_add-at.result) (ap (λ v. v.source.free) c.self.view_is) in
    let same = ap (λ s. s.free) source ∙ ap (λ v. v.source.free) c.self.view_is in
    drew _ _ _ _ _ _ c.args.seat.now c.args.self.now.source.free c.fetch_add-at.result c.nth-number.result c.seat.view_is (search rules) c.fetch_add-at.ensures.0 (ap (λ m. m.0) c.fetch_add-at.ensures.2.after) same found c.is_none-seat-inside.ensures
