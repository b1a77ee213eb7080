use Rattle.std.proofs.Common.{ℕ, ◌<◌, All, length, map, None, sym, ap, subst, ◌∙◌}
use Rattle.std.specs.Option.{option_map}
use Rattle.steps.specs.ReportView.{won_value}
use Rattle.workers.specs.Joined.{Each, OnSome}
use Rattle.scavenge.specs.Named.{named, IsWhole}
use Rattle.scavenge.specs.Fronts.{slot_at}
use Rattle.scavenge.specs.Shown.{WorkspaceValue, AreNoted, held_in}
use Rattle.scavenge.proofs.Fields.{no_proposal}
use Rattle.scavenge.proofs.Begun.{whole_at, whole_all}
use Rattle.scavenge.proofs.workspace.workspace.Workspace.into_parts.Goals as goal

pub returns-clause-allocation : goal.returns-clause-allocation
returns-clause-allocation g c =
    ap (λ (v : WorkspaceValue). map (option_map (named v.config.shape)) c.into_blocks.result.items) (sym c.self.view_is) ∙ ap (map (option_map (named c.self.inside.config.shape))) c.into_blocks.ensures ∙ ap (λ (v : WorkspaceValue). v.worker.allocation) c.self.view_is

pub returns-clause-allocation_whole : goal.returns-clause-allocation_whole
returns-clause-allocation_whole g c d =
    let none = no_proposal c.self.inside.allocation c.self.inside.aside.items c.self.inside.done.items (held_in c.self.inside.hand) c.self.inside.proposed c.self.invariant.0 (ap (λ (v : WorkspaceValue). v.worker.proposal) c.self.view_is ∙ c.requires) in
    let n : AreNoted c.self.inside.allocation c.self.inside.aside.items c.self.inside.done.items (held_in c.self.inside.hand) None = subst (AreNoted c.self.inside.allocation c.self.inside.aside.items c.self.inside.done.items (held_in c.self.inside.hand)) none c.self.invariant.0 in
    subst (λ xs. OnSome (IsWhole c.args.self.config.shape c.args.self.config.block_words) (slot_at xs d)) (sym c.into_blocks.ensures)
    (subst (λ (v : WorkspaceValue). OnSome (IsWhole v.config.shape v.config.block_words) (slot_at c.self.inside.allocation d)) c.self.view_is
    (whole_at c.self.inside.config (slot_at c.self.inside.allocation d) (n.in_slots d) (c.self.invariant.1.in_slots d)))

pub returns-clause-done_whole : goal.returns-clause-done_whole
returns-clause-done_whole g c =
    subst (λ (v : WorkspaceValue). Each (IsWhole v.config.shape v.config.block_words) c.self.inside.done.items) c.self.view_is
    (whole_all c.self.inside.config c.self.inside.done.items c.self.invariant.0.in_done c.self.invariant.1.in_done)

pub returns-clause-numbers : goal.returns-clause-numbers
returns-clause-numbers g c = subst (λ (v : WorkspaceValue). All (λ (e : ℕ × ℕ). e.0 < length v.names) (map won_value c.self.inside.won.items)) c.self.view_is c.self.invariant.3
