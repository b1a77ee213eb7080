use Rattle.std.proofs.Common.{◌≡◌, ◌+◌, length}
use Rattle.std.specs.List.{All}
use Rattle.pending_queues.specs.TallyValue.{unraised}
use Rattle.pending_queues.proofs.tally.tally.deal.Given as goal

abbrev pub invariant-loop : goal.invariant-loop
invariant-loop g l = record {
  name : l.first.table_id ≡ l.table.shared.table_id;
  parts : l.first.me.0.parts + l.counter ≡ l.count;
  raised : l.first.me.0.raised ≡ 0;
  seen : l.first.me.0.seen ≡ 0;
  made : length l.seats.items ≡ l.counter;
  fresh : All (λ s. s ≡ unraised l.table.shared.table_id) l.seats.items;
}
