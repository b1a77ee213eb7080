-- What one seat has of the queues.
use Rattle.std.proofs.Common.{◌≡◌, ◌≤◌, ℕ, List, [], ◌∷◌, length, map, sym, ap, ◌∙◌, subst, append-nil}
use Rattle.std.proofs.lemmas.List.{length-map}
use Rattle.std.proofs.lemmas.List.Elements.{All-cons, All-nil}
use Rattle.block_pool.specs.BlockValue.{BlockValue}
use Rattle.pending_queues.specs.PassValue.{PassValue}
use Rattle.pending_queues.specs.PendingValue.{SeatValue}
use Rattle.pending_queues.specs.TallyValue.{TallySeatValue}
use Rattle.pending_queues.specs.SeatPass.{AtEach, pass_of, taken_from}
use Rattle.pending_queues.specs.Seated.{IsSeated, sent_by}
use Rattle.pending_queues.specs.Gathered.{AreGathered, IsGatheredMark}
use Rattle.pending_queues.specs.declared.exports.label.Label.{Label}
use Rattle.pending_queues.proofs.Gathering.{one_pass}

module _ {A K : Type 0} where
  pub one_passes : (key : K) (index : ℕ) (passes : List (PassValue A K)) (marks : List TallySeatValue) (sizes : List ℕ) (log : List Label) (taken : List BlockValue) (cleared : ℕ) (seat : SeatValue A K)
      → IsSeated key index passes marks sizes log taken cleared
      → record { source = record { key = key; lanes = map (λ p. p.lane) passes; tallies = map (λ m. m.name) marks }; index = index; sent = sent_by passes index; taken = taken; cleared = cleared } ≡ seat
      → AreGathered seat.source.key (length seat.source.lanes) (seat ∷ []) passes
  one_passes key index passes marks sizes log taken cleared seat is view =
      subst (λ (s : SeatValue A K). AreGathered s.source.key (length s.source.lanes) (s ∷ []) passes) view
      (λ u p at. is.passes_are u p at ∙ ap (λ n. pass_of p.lane key n index (sent_by passes index) taken u) (sym (length-map passes (λ q. q.lane)))
      ∙ one_pass p.lane key (length (map (λ (q : PassValue A K). q.lane) passes)) u (record { source = record { key = key; lanes = map (λ p. p.lane) passes; tallies = map (λ m. m.name) marks }; index = index; sent = sent_by passes index; taken = taken; cleared = cleared }))

  pub one_marks : (key : K) (index : ℕ) (passes : List (PassValue A K)) (marks : List TallySeatValue) (sizes : List ℕ) (log : List Label) (taken : List BlockValue) (cleared : ℕ) (seat : SeatValue A K)
      → IsSeated key index passes marks sizes log taken cleared
      → record { source = record { key = key; lanes = map (λ p. p.lane) passes; tallies = map (λ m. m.name) marks }; index = index; sent = sent_by passes index; taken = taken; cleared = cleared } ≡ seat
      → AtEach (λ u m. IsGatheredMark (seat ∷ []) u m) marks
  one_marks key index passes marks sizes log taken cleared seat is view =
      subst (λ (s : SeatValue A K). AtEach (λ u m. IsGatheredMark (s ∷ []) u m) marks) view
      (λ u m at. record {
        parts = is.one_part u m at;
        raised = is.raised u m at ∙ ap length (sym (append-nil (taken_from u taken)));
        seen = All-cons (λ (s : SeatValue A K). s.index ≡ u → s.cleared ≤ m.seen) _ [] (λ own. is.cleared_seen u m at (sym own)) (All-nil (λ (s : SeatValue A K). s.index ≡ u → s.cleared ≤ m.seen));
      })
