use Rattle.std.proofs.Common.{◌≡◌, ◌+◌, ◌≤◌, [], All, length, vec_capacity}
use Rattle.forwarding.specs.Words.{fresh_pass}
use Rattle.forwarding.proofs.word_cells.ends.deal.Given as goal

abbrev pub invariant-loop : goal.invariant-loop
invariant-loop g l = record {
  table : l.seat.table_id ≡ l.table.shared.table_id;
  hands : l.seat.me.1 ≡ [];
  parts : l.seat.me.0.parts + l.counter ≡ l.count + 1;
  known : l.seat.me.0.known ≡ [];
  won : l.seat.me.0.won ≡ [];
  many : length l.passes.items + 1 ≡ l.counter;
  room : l.count ≤ vec_capacity l.passes;
  fresh : All (λ p. p ≡ fresh_pass l.table.shared.table_id) l.passes.items;
}
