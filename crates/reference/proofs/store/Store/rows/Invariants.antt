use Rattle.std.proofs.Common.{◌≡◌, map}
use Rattle.model.specs.Destination.{numbers_from}
use Rattle.reference.specs.Plain.{steps_within}
use Rattle.reference.proofs.store.Store.rows.Given as goal

abbrev pub invariant-loop-name : goal.invariant-loop-name
invariant-loop-name g l = map (λ r. r.items) l.rows.items ≡ map (steps_within l.self l.limit) (numbers_from 0 l.name)
