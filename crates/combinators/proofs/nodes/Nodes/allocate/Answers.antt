use Rattle.std.proofs.Common.{sym, subst, ◌∙◌, inl, inr}
use Rattle.combinators.specs.Nodes.{WasCollected}
use Rattle.combinators.proofs.nodes.Nodes.allocate.Goals as goal
use Rattle.combinators.proofs.nodes.Nodes.allocate.Goals.{in-Ok-allocate, in-Err-allocate}

pub returns-in-Ok-clause-ok : goal.returns-in-Ok-clause-ok
returns-in-Ok-clause-ok c = record { heap = c.self.inside.heap; room = inl c.self.view_is; allocates = c.in-Ok.ensures.ok }

pub returns-clause-ok : goal.returns-clause-ok
returns-clause-ok c =
    let collected =
    subst (λ h. WasCollected c.args.self.now h) (sym c.self-2.view_is)
    (subst (λ h. WasCollected h c.collect.new.self) (c.in-Err-NurseryFull.ensures.err ∙ c.self.view_is) c.in_ok-collect-in-Err-NurseryFull.ensures.ok) in
    elim c.match-allocate-2.branch [
      | in-Ok-allocate w ↦ rw w.result-is record { heap = c.self-2.inside.heap; room = inr collected; allocates = w.in-Ok-allocate.ensures.ok }
      | in-Err-allocate w ↦ rw w.result-is tt
    ]

pub returns-clause-err : goal.returns-clause-err
returns-clause-err c =
    let collected =
    subst (λ h. WasCollected c.args.self.now h) (sym c.self-2.view_is)
    (subst (λ h. WasCollected h c.collect.new.self) (c.in-Err-NurseryFull.ensures.err ∙ c.self.view_is) c.in_ok-collect-in-Err-NurseryFull.ensures.ok) in
    elim c.match-allocate-2.branch [
      | in-Ok-allocate w ↦ rw w.result-is tt
      | in-Err-allocate w ↦ rw w.result-is (inr (subst (λ h. WasCollected c.args.self.now h) (sym w.in-Err-allocate.ensures.err) collected))
    ]
