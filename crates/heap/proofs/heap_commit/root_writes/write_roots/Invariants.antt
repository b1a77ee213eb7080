use Rattle.std.proofs.Common.{◌≡◌, ℕ, take, map}
use Rattle.heap.specs.Roots.{root_word, renamed_word}
use Rattle.heap.specs.RootView.{root_pair}
use Rattle.heap.proofs.heap_commit.root_writes.write_roots.Given as goal

-- the roots before this one are written
abbrev pub invariant-loop-root : goal.invariant-loop-root
invariant-loop-root g l = (n : ℕ) → root_word l.roots.slots n ≡ renamed_word (map root_pair (take l.root-index l.renamed)) n (root_word l.fn.roots.slots n)
