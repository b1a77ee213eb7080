-- What a seat keeps of the queues.
use Rattle.std.specs.Prelude.{◌≡◌, ℕ, ◌<◌, ◌≤◌, List, [], All, length, map, slice_index_or, Some}
use Rattle.block_pool.specs.BlockValue.{BlockValue}
use Rattle.pending_queues.specs.PassValue.{PassValue}
use Rattle.pending_queues.specs.TallyValue.{TallySeatValue}
use Rattle.pending_queues.specs.SeatPass.{AtEach, pass_of, sizes_of, taken_from}
use Rattle.pending_queues.specs.declared.exports.label.Label.{Label}

module _ {A K : Type 0} where
  -- what was sent by the pass of a seat's own queue
  abbrev pub sent_by : List (PassValue A K) → ℕ → List BlockValue
  sent_by passes index = slice_index_or (map (λ p. p.sent) passes) index []

  -- The seat has a pass and a mark for each exporter, which say what it sent and took
  pub record IsSeated (key : K) (index : ℕ) (passes : List (PassValue A K)) (marks : List TallySeatValue) (sizes : List ℕ) (log : List Label) (taken : List BlockValue) (cleared : ℕ) : Type 0 where
    pub passes_are : AtEach (λ u p. p ≡ pass_of p.lane key (length passes) index (sent_by passes index) taken u) passes
    pub many : length marks ≡ length passes
    pub one_part : AtEach (λ u m. m.parts ≡ 1) marks
    -- each take raised the exporter's tally
    pub raised : AtEach (λ u m. m.raised ≡ length (taken_from u taken)) marks
    pub sizes_are : sizes ≡ sizes_of (sent_by passes index)
    -- the log has the labels
    pub logged : map (λ b. b.sent) taken ≡ map (λ t. Some (t.exporter, t.position)) log
    pub exporters : All (λ t. t.exporter < length passes) log
    -- what is known to be taken was seen in the tally
    pub cleared_seen : AtEach (λ u m. u ≡ index → cleared ≤ m.seen) marks
    pub cleared_sent : cleared ≤ length (sent_by passes index)
