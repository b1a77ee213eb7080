use Rattle.std.proofs.Common.{◌≡◌, ◌++◌, take, drop}
use Rattle.model.specs.Store.{survivors}
use Rattle.reference.proofs.collecting.sweep.Given as goal

abbrev pub invariant-loop-name : goal.invariant-loop-name
invariant-loop-name g l = l.objects ≡ survivors l.config.shape l.g l.live 0 (take l.name l.fn.objects) ++ drop l.name l.fn.objects
