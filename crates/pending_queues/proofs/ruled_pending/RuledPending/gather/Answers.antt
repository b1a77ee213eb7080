use Rattle.std.proofs.Common.{rules, arith, ◌≡◌, ◌∙◌, ◌++◌, ◌∷◌, [], length, ap, sym, subst, append_assoc, Some}
use Rattle.std.proofs.lemmas.List.Elements.{All-pop}
use Rattle.pending_queues.specs.PendingValue.{IsSeatOf}
use Rattle.pending_queues.specs.SeatPass.{AtEach}
use Rattle.pending_queues.specs.Gathered.{AreGathered, IsGatheredMark}
use Rattle.pending_queues.proofs.Gathering.{more_passes, more_marks, all_parts, of_queues}
use Rattle.pending_queues.proofs.Places.{as_long}
use Rattle.pending_queues.proofs.ruled_pending.RuledPending.gather.Goals as goal

pub loop-seat-init : goal.loop-seat-init
loop-seat-init g c =
    let of = c.requires.last.of in
    let e = c.into_shares-passes.ensures in (
      c.args.last ∷ [],
      search rules,
      omega arith,
      c.requires.seats,
      e.lanes ∙ ap (λ x. x.lanes) of,
      e.tallies ∙ ap (λ x. x.tallies) of,
      of_queues _ _ c.args.last _ of e.passes,
      e.marks,
    )

pub gather_passes-requires-clause-passes : goal.gather_passes-requires-clause-passes
gather_passes-requires-clause-passes g c =
    let h = All-pop (IsSeatOf c.args.self.now) c.loop-seat.seats.items c.pop.new.self.items (Some c.in-Some.seat) c.in-Some.ensures.items c.loop-seat.invariant.3 in
    c.into_shares-shares.ensures.lanes ∙ ap (λ x. x.lanes) (h.1.of ∙ sym c.self.view_is)

pub gather_passes-requires-clause-parts : goal.gather_passes-requires-clause-parts
gather_passes-requires-clause-parts g c = all_parts _ _ (c.in-Some.seat ∷ []) _ c.into_shares-shares.ensures.passes (omega arith)

pub gather_passes-requires-clause-other_parts : goal.gather_passes-requires-clause-other_parts
gather_passes-requires-clause-other_parts g c = all_parts _ _ c.loop-seat.invariant.0 _ c.loop-seat.invariant.6 c.loop-seat.invariant.2

pub gather_marks-requires-clause-marks : goal.gather_marks-requires-clause-marks
gather_marks-requires-clause-marks g c =
    let h = All-pop (IsSeatOf c.args.self.now) c.loop-seat.seats.items c.pop.new.self.items (Some c.in-Some.seat) c.in-Some.ensures.items c.loop-seat.invariant.3 in
    c.into_shares-shares.ensures.tallies ∙ ap (λ x. x.tallies) (h.1.of ∙ sym c.self.view_is)

pub loop-seat-preserved : goal.loop-seat-preserved
loop-seat-preserved g c =
    let i = c.loop-seat.invariant in
    let h = All-pop (IsSeatOf c.args.self.now) c.loop-seat.seats.items c.pop.new.self.items (Some c.in-Some.seat) c.in-Some.ensures.items i.3 in
    let e = c.into_shares-shares.ensures in
    let lanes = c.gather_passes.ensures.lanes ∙ ap (λ x. x.lanes) c.self.view_is in
    let tallies = c.gather_marks.ensures.tallies ∙ ap (λ x. x.tallies) c.self.view_is in
    let own_lanes = e.lanes ∙ ap (λ x. x.lanes) h.1.of in
    let own_tallies = e.tallies ∙ ap (λ x. x.tallies) h.1.of in (
      c.in-Some.seat ∷ i.0,
      i.1 ∙ ap (λ l. l ++ i.0) c.in-Some.ensures.items ∙ append_assoc c.pop.new.self.items (c.in-Some.seat ∷ []) i.0,
      omega arith,
      h.0,
      lanes,
      tallies,
      more_passes _ _ c.in-Some.seat i.0 _ _ _ (of_queues _ _ c.in-Some.seat _ h.1.of e.passes) i.6
          (as_long (λ p. p.lane) _ _ _ lanes own_lanes) (as_long (λ p. p.lane) _ _ _ i.4 own_lanes) c.gather_passes.ensures.both,
      more_marks c.in-Some.seat i.0 _ _ _ e.marks i.7
          (as_long (λ m. m.name) _ _ _ tallies own_tallies) (as_long (λ m. m.name) _ _ _ i.5 own_tallies) c.gather_marks.ensures.both,
    )

pub returns-clause-passes : goal.returns-clause-passes
returns-clause-passes g c =
    let i = c.loop-seat.invariant in
    let none : c.loop-seat.seats.items ≡ [] = search rules in
    subst (λ l. AreGathered c.args.self.now.key (length c.args.self.now.lanes) l c.loop-seat.passes.items) (sym (i.1 ∙ ap (λ l. l ++ i.0) none)) i.6

pub returns-clause-marks : goal.returns-clause-marks
returns-clause-marks g c =
    let i = c.loop-seat.invariant in
    let none : c.loop-seat.seats.items ≡ [] = search rules in
    subst (λ l. AtEach (λ u m. IsGatheredMark l u m) c.loop-seat.marks.items) (sym (i.1 ∙ ap (λ l. l ++ i.0) none)) i.7
