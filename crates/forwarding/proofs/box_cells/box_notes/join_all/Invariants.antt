use Rattle.std.proofs.Common.{◌≡◌, ◌<◌, ◌≤◌, ℕ, map}
use Rattle.forwarding.specs.Boxed.{note_cell, note_known, Joined}
use Rattle.forwarding.specs.Noted.{bid_at}
use Rattle.forwarding.proofs.box_cells.box_notes.join_all.Given as goal

abbrev pub invariant-loop-at : goal.invariant-loop-at
invariant-loop-at l = record {
  cells : map note_cell l.notes.items ≡ map note_cell l.initial.notes.items;
  told : map note_known l.notes.items ≡ l.known;
  others : l.others.items ≡ l.initial.others.items;
  done : (k : ℕ) → k < l.at → Joined (bid_at l.initial.known k) (bid_at l.found k) (bid_at l.known k);
  left : (k : ℕ) → l.at ≤ k → bid_at l.known k ≡ bid_at l.initial.known k;
}
