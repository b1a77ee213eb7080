use Rattle.std.proofs.Common.{arith, ◌≡◌, ◌∙◌, ◌++◌, ◌∷◌, [], length, ap, sym, subst, Some, length-append}
use Rattle.std.proofs.lemmas.List.{length-map}
use Rattle.std.proofs.lemmas.List.Elements.{All-pop}
use Rattle.pending_queues.specs.PendingValue.{IsSeatOf}
use Rattle.pending_queues.specs.Gathered.{IsTold}
use Rattle.pending_queues.proofs.Gathering.{whole_parts, mark_parts}
use Rattle.pending_queues.proofs.Told.{told}
use Rattle.pending_queues.proofs.ruled_pending.RuledPending.settle.Goals as goal

pub gather-shares-requires : goal.gather-shares-requires
gather-shares-requires g c =
    let h = All-pop (IsSeatOf c.args.self.now) c.args.seats.items c.pop.new.self.items (Some c.in-Some.last) c.in-Some.ensures.items c.requires.seats in
    record { seats = h.0; last = h.1 }

pub settle_passes-requires : goal.settle_passes-requires
settle_passes-requires g c =
    let e = c.gather-shares.ensures in
    let all : length (c.pop.new.self.items ++ c.in-Some.last ∷ []) ≡ length c.args.self.now.lanes = ap length (sym c.in-Some.ensures.items) ∙ c.requires.all in
    let many = length-append c.pop.new.self.items (c.in-Some.last ∷ []) in
    record { lanes = e.lanes ∙ sym (ap (λ x. x.lanes) c.self.view_is); parts = whole_parts _ _ _ _ e.passes (omega arith) all }

pub settle_marks-requires : goal.settle_marks-requires
settle_marks-requires g c =
    let e = c.gather-shares.ensures in
    let all : length (c.pop.new.self.items ++ c.in-Some.last ∷ []) ≡ length c.args.self.now.lanes = ap length (sym c.in-Some.ensures.items) ∙ c.requires.all in
    let count : length c.self.inside.tallies.items ≡ length c.args.self.now.lanes = c.self.invariant.0 ∙ ap (λ x. length x.lanes) c.self.view_is in
    record {
      tallies = e.tallies ∙ sym (ap (λ x. x.tallies) c.self.view_is);
      seats = λ k d lt. c.self.invariant.1 k d lt ∙ sym c.self.invariant.0;
      parts = mark_parts _ _ _ e.marks (all ∙ sym count);
    }

pub returns : goal.returns
returns g c =
    let e = c.gather-shares.ensures in
    let passes = ap length e.lanes in
    let p = length-map c.gather-shares.result.passes.items (λ q. q.lane) in
    let marks = ap length e.tallies in
    let m = length-map c.gather-shares.result.marks.items (λ q. q.name) in
    let same = ap (λ x. length x.tallies) c.self.view_is in
    let t = length-map c.self.inside.tallies.items (λ q. q.name) in
    let both = c.self.invariant.0 in
    let lanes = ap (λ x. length x.lanes) c.self.view_is in
    let all = c.requires.all in
    λ u lt. subst (λ l. IsTold l u) (sym c.in-Some.ensures.items)
    (told _ _ _ _ _ u e.passes c.settle_passes.ensures e.marks c.settle_marks.ensures (omega arith) (omega arith))
