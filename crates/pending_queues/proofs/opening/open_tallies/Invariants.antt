use Rattle.std.proofs.Common.{◌≡◌, ◌≤◌, All, length, map, vec_capacity}
use Rattle.pending_queues.specs.Dealt.{AreHeaps}
use Rattle.pending_queues.proofs.opening.open_tallies.Given as goal

abbrev pub invariant-loop : goal.invariant-loop
invariant-loop g l = record {
  many : length l.tallies.items ≡ l.counter;
  tallies_room : l.count ≤ vec_capacity l.tallies;
  heaps_room : l.count ≤ vec_capacity l.heaps;
  seats : All (λ t. t.seats ≡ l.count) l.tallies.items;
  heaps : AreHeaps (map (λ t. t.name) l.tallies.items) l.count (λ h. h.items) l.heaps.items;
}
