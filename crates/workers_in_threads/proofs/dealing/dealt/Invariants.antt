use Rattle.std.proofs.Common.{◌≡◌, ◌+◌, ◌≤◌, [], All, length, vec_len, vec_capacity}
use Rattle.std.specs.Vec.Iter.{into_iter_items, into_iter_len}
use Rattle.block_pool.specs.ClaimsValue.{unused}
use Rattle.forwarding.specs.Passes.{AtEach}
use Rattle.idle_count.specs.IdleValue.{busy}
use Rattle.idle_count.specs.VerdictValue.{untold}
use Rattle.pending_queues.specs.PendingValue.{new_seat}
use Rattle.workers_in_threads.specs.Kits.{IsKit}
use Rattle.workers_in_threads.proofs.dealing.dealt.Given as goal

-- each worker so far has its kit; the passes and seats of the others are left, in order
abbrev pub invariant-loop-pass : goal.invariant-loop-pass
invariant-loop-pass g l = record {
  many : vec_len l.kits + into_iter_len l.pass-iterator ≡ l.workers;
  room : l.workers ≤ vec_capacity l.kits;
  passes : AtEach (λ i p. g.S.SharedCells.is_pass l.cells (vec_len l.kits + i) p × (g.S.SharedCells.won p ≡ [])) (into_iter_items l.pass-iterator);
  seats_many : vec_len l.kits + into_iter_len l.places ≡ l.workers;
  seats : AtEach (λ i s. s ≡ new_seat l.queues (vec_len l.kits + i)) (into_iter_items l.places);
  draws : All (λ s. s ≡ unused l.claims.source) l.draws.items;
  draws_many : into_iter_len l.pass-iterator ≤ length l.draws.items;
  rests : All (λ s. s ≡ busy l.idle) l.rests.items;
  rests_many : into_iter_len l.pass-iterator ≤ length l.rests.items;
  voices : All (λ s. s ≡ untold l.verdict) l.voices.items;
  voices_many : into_iter_len l.pass-iterator ≤ length l.voices.items;
  made : AtEach (IsKit (g.S.SharedCells.limit l.cells) (g.S.SharedCells.is_pass l.cells) g.S.SharedCells.won l.heap l.collection l.claims l.queues l.idle l.verdict l.workers) l.kits.items;
}
