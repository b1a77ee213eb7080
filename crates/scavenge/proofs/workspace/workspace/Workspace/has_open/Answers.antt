use Rattle.std.proofs.Common.{cond, Some, None, refl, sym, ap, subst, ◌∙◌}
use Rattle.std.specs.Prelude.{is_some}
use Rattle.std.specs.Option.{option_and_then}
use Rattle.workers.specs.Block.{Block, has_unscanned}
use Rattle.workers.specs.WorkerSteps.{has_open_work}
use Rattle.scavenge.specs.Fronts.{slot_at}
use Rattle.scavenge.specs.Shown.{WorkspaceValue, AreNoted, held_in}
use Rattle.scavenge.proofs.Fields.{no_proposal}
use Rattle.scavenge.proofs.Renewing.{shown_slot}
use Rattle.scavenge.proofs.Pushing.{open_same}
use Rattle.scavenge.proofs.workspace.workspace.Workspace.has_open.Goals as goal

pub returns : goal.returns
returns g c =
    let h = c.has_unscanned in
    let none = no_proposal c.self.inside.allocation c.self.inside.aside.items c.self.inside.done.items (held_in c.self.inside.hand) c.self.inside.proposed c.self.invariant.0 (ap (λ (v : WorkspaceValue). v.worker.proposal) c.self.view_is ∙ c.requires) in
    let n : AreNoted c.self.inside.allocation c.self.inside.aside.items c.self.inside.done.items (held_in c.self.inside.hand) None = subst (AreNoted c.self.inside.allocation c.self.inside.aside.items c.self.inside.done.items (held_in c.self.inside.hand)) none c.self.invariant.0 in
    let e = h.ensures ∙ sym (open_same c.self.inside.config.shape (slot_at c.self.inside.allocation c.args.d) (n.in_slots c.args.d)) ∙ ap (λ o. is_some (option_and_then (λ (b : Block). cond (has_unscanned b) (Some b) None) o)) (sym (shown_slot c.self.inside.config.shape c.self.inside.allocation c.args.d (slot_at c.self.inside.allocation c.args.d) refl))
    ∙ ap (λ (v : WorkspaceValue). has_open_work v.worker c.args.d) c.self.view_is in (λ t. sym e ∙ t, λ t. e ∙ t)
