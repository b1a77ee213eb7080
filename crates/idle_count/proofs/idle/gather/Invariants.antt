use Rattle.std.proofs.Common.{◌≡◌, ◌≢◌, ◌+◌, ◌++◌, ◌∷◌, [], length, max, vec_len}
use Rattle.std.specs.List.{All}
use Rattle.idle_count.proofs.SeatLemmas.{idles_of, most_seen}
use Rattle.idle_count.proofs.idle.gather.Given as goal

abbrev pub invariant-loop-seat : goal.invariant-loop-seat
invariant-loop-seat g l = record {
  name : l.all.table_id ≡ l.table.shared.table_id;
  some : l.all.me.0.parts ≢ 0;
  parts : l.all.me.0.parts + length l.seats.items ≡ length (l.fn.seats.items ++ l.fn.last ∷ []);
  idles : idles_of (l.fn.seats.items ++ l.fn.last ∷ []) ≡ idles_of l.seats.items + l.all.me.0.idles;
  seen : max (most_seen l.seats.items) l.all.me.0.seen ≡ most_seen (l.fn.seats.items ++ l.fn.last ∷ []);
  seats : All (λ s. s.name ≡ l.table.shared.table_id) l.seats.items;
}

abbrev pub decreases-loop-seat : goal.decreases-loop-seat
decreases-loop-seat g l = vec_len l.seats
