use Rattle.std.proofs.Common.{All, Contains, take}
use Rattle.forwarding.proofs.settled_pairs.settled.Given as goal

abbrev pub invariant-loop-pair : goal.invariant-loop-pair
invariant-loop-pair l = All (λ pair. Contains l.won pair) (take l.pair-index l.known)
