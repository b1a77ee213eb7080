use Rattle.std.proofs.Common.{arith, ap, sym, ◌∙◌, leb-true, le-leb}
use Rattle.layout.specs.Place.{place_word}
use Rattle.scavenge.specs.Shown.{WorkspaceValue}
use Rattle.scavenge.proofs.Fields.{none_left, all_left}
use Rattle.scavenge.proofs.workspace.workspace.Workspace.is_started.Goals as goal

pub returns : goal.returns
returns g c =
    let view = ap (λ (v : WorkspaceValue). v.worker.starts) c.self.view_is in (
      λ t. sym view ∙ all_left place_word c.self.inside.starts.items c.self.inside.started (omega (arith, leb-true _ _ t, c.len.ensures)),
      λ e. le-leb _ _ (omega (arith, none_left place_word c.self.inside.starts.items c.self.inside.started (view ∙ e), c.len.ensures)),
    )
