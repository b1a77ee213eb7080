use Rattle.std.proofs.Common.{None, refl, sym, ap, subst, ◌∙◌}
use Rattle.workers.specs.Worker.{allocation_at}
use Rattle.scavenge.specs.Fronts.{slot_at}
use Rattle.scavenge.specs.Shown.{WorkspaceValue, AreNoted, held_in, has_place_for}
use Rattle.scavenge.proofs.Fields.{no_proposal}
use Rattle.scavenge.proofs.Renewing.{shown_slot}
use Rattle.scavenge.proofs.Pushing.{fits_same}
use Rattle.scavenge.proofs.workspace.workspace.Workspace.fits.Goals as goal

pub returns : goal.returns
returns g c =
    let none = no_proposal c.self.inside.allocation c.self.inside.aside.items c.self.inside.done.items (held_in c.self.inside.hand) c.self.inside.proposed c.self.invariant.0 (ap (λ (v : WorkspaceValue). v.worker.proposal) c.self.view_is ∙ c.requires) in
    let n : AreNoted c.self.inside.allocation c.self.inside.aside.items c.self.inside.done.items (held_in c.self.inside.hand) None = subst (AreNoted c.self.inside.allocation c.self.inside.aside.items c.self.inside.done.items (held_in c.self.inside.hand)) none c.self.invariant.0 in
    let seen = ap (λ (v : WorkspaceValue). has_place_for v.config.block_words c.args.size (allocation_at v.worker c.args.d)) (sym c.self.view_is)
    ∙ ap (has_place_for c.self.inside.config.block_words c.args.size) (shown_slot c.self.inside.config.shape c.self.inside.allocation c.args.d (slot_at c.self.inside.allocation c.args.d) refl)
    ∙ fits_same c.self.inside.config c.args.size (slot_at c.self.inside.allocation c.args.d) (n.in_slots c.args.d) (c.self.invariant.1.in_slots c.args.d) in
    (λ t. seen ∙ c.fits.ensures.0 t, λ e. c.fits.ensures.1 (sym seen ∙ e))
