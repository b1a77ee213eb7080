use Rattle.std.proofs.Common.{◌≡◌, ◌≢◌, ◌+◌, ◌++◌, ◌∷◌, [], length, vec_len}
use Rattle.std.specs.List.{All}
use Rattle.block_pool.specs.ClaimsValue.{all_drawn}
use Rattle.block_pool.proofs.ClaimLemmas.{outs_of}
use Rattle.block_pool.proofs.claims.claims.gather.Given as goal

abbrev pub invariant-loop-seat : goal.invariant-loop-seat
invariant-loop-seat g l = record {
  name : l.all.table_id ≡ l.table.shared.table_id;
  some : l.all.me.0.parts ≢ 0;
  parts : l.all.me.0.parts + length l.seats.items ≡ length (l.fn.seats.items ++ l.fn.last ∷ []);
  drawn : all_drawn l.seats.items ++ l.all.me.0.drawn ≡ all_drawn (l.fn.seats.items ++ l.fn.last ∷ []);
  outs : outs_of l.seats.items + l.all.me.0.outs ≡ outs_of (l.fn.seats.items ++ l.fn.last ∷ []);
  seats : All (λ s. s.source.name ≡ l.table.shared.table_id) l.seats.items;
}

abbrev pub decreases-loop-seat : goal.decreases-loop-seat
decreases-loop-seat g l = vec_len l.seats
