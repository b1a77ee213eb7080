use Rattle.std.proofs.Common.{◌≡◌, ◌+◌, ◌++◌, All, length, vec_len}
use Rattle.forwarding.specs.Settled.{all_pairs}
use Rattle.forwarding.specs.Words.{WordPassValue}
use Rattle.forwarding.proofs.word_cells.ends.gather.Given as goal

abbrev pub invariant-loop-pass : goal.invariant-loop-pass
invariant-loop-pass g l = record {
  table : l.seat.table_id ≡ l.table.shared.table_id;
  parts : l.seat.me.0.parts + length l.passes.items ≡ length l.fn.passes.items;
  known : all_pairs (λ (p : WordPassValue). p.known) l.passes.items ++ l.seat.me.0.known ≡ all_pairs (λ (p : WordPassValue). p.known) l.fn.passes.items;
  won : all_pairs (λ (p : WordPassValue). p.won) l.passes.items ++ l.seat.me.0.won ≡ all_pairs (λ (p : WordPassValue). p.won) l.fn.passes.items;
  passes : All (λ (p : WordPassValue). p.id ≡ l.table.shared.table_id) l.passes.items;
}

abbrev pub decreases-loop-pass : goal.decreases-loop-pass
decreases-loop-pass g l = vec_len l.passes
