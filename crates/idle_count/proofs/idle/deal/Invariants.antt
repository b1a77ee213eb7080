use Rattle.std.proofs.Common.{◌≡◌, ◌+◌, length}
use Rattle.std.specs.List.{All}
use Rattle.idle_count.specs.IdleValue.{busy}
use Rattle.idle_count.proofs.idle.deal.Given as goal

abbrev pub invariant-loop : goal.invariant-loop
invariant-loop g l = record {
  name : l.first.table_id ≡ l.table.shared.table_id;
  many : l.first.me.0.seats ≡ l.count;
  parts : l.first.me.0.parts + l.counter ≡ l.count;
  idles : l.first.me.0.idles ≡ 0;
  seen : l.first.me.0.seen ≡ 0;
  made : length l.seats.items ≡ l.counter;
  fresh : All (λ s. s ≡ busy (record { name = l.table.shared.table_id; seats = l.count })) l.seats.items;
}
