-- Room is reserved for a race, and used.
use Rattle.std.proofs.Common.{◌≡◌, ℕ, ◌+◌, ◌-◌, Option, ap, ◌∙◌, arith}
use Rattle.workers.specs.Worker.{Proposal}
use Rattle.workers.specs.WorkerSteps.{after_race}
use Rattle.scavenge.specs.Shown.{WorkspaceValue}

back : (n : ℕ) → n + 1 - 1 ≡ n
back n = omega arith

abbrev pub for_race : WorkspaceValue → WorkspaceValue
for_race v = record v { won_room = v.won_room + 1 }

pub raced_of : {R : WorkspaceValue} (N new : WorkspaceValue) → R ≡ for_race N → (lost : Option Proposal → Option ℕ) → (let x : WorkspaceValue = record R { worker = after_race R.worker (lost R.worker.proposal); won_room = R.won_room - 1 } in new ≡ x)
    → (let x : WorkspaceValue = record N { worker = after_race N.worker (lost N.worker.proposal) } in new ≡ x)
raced_of N new r lost e =
    e ∙ ap (λ (v : WorkspaceValue). (let x : WorkspaceValue = record v { worker = after_race v.worker (lost v.worker.proposal); won_room = v.won_room - 1 } in x)) r
    ∙ ap (λ n. (let x : WorkspaceValue = record N { worker = after_race N.worker (lost N.worker.proposal); won_room = n } in x)) (back N.won_room)
