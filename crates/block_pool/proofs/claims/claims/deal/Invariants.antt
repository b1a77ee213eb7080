use Rattle.std.proofs.Common.{◌≡◌, ◌+◌, [], length}
use Rattle.std.specs.List.{All}
use Rattle.block_pool.specs.ClaimsValue.{unused}
use Rattle.block_pool.proofs.claims.claims.deal.Given as goal

abbrev pub invariant-loop : goal.invariant-loop
invariant-loop g l = record {
  name : l.first.table_id ≡ l.table.shared.table_id;
  free : l.first.me.0.free ≡ l.table.shared.key.free;
  seats : l.first.me.0.seats ≡ l.table.shared.key.seats;
  parts : l.first.me.0.parts + l.counter ≡ l.count;
  drawn : l.first.me.0.drawn ≡ [];
  outs : l.first.me.0.outs ≡ 0;
  made : length l.seats.items ≡ l.counter;
  fresh : All (λ s. s ≡ unused (record { name = l.table.shared.table_id; free = l.table.shared.key.free; seats = l.table.shared.key.seats })) l.seats.items;
}
