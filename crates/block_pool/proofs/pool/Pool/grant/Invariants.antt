use Rattle.std.proofs.Common.{◌≡◌, ◌≤◌, ◌-◌, length, take, drop, vec_len}
use Rattle.std.specs.Vec.{vec_capacity}
use Rattle.block_pool.proofs.pool.Pool.grant.Given as goal

abbrev pub invariant-loop-self : goal.invariant-loop-self
invariant-loop-self g l =
    record {
      granted : l.granted.items ≡ take (length l.granted.items) l.fn.self.free;
      rest : l.self-inside.numbers.members ≡ drop (length l.granted.items) l.fn.self.free;
      at_most : length l.granted.items ≤ l.count;
      enough : l.count ≤ length l.fn.self.free;
      room : l.count ≤ vec_capacity l.granted;
      same_limit : l.self-inside.numbers.limit ≡ l.fn.self.limit;
    }

abbrev pub decreases-loop-self : goal.decreases-loop-self
decreases-loop-self g l = l.count - vec_len l.granted
