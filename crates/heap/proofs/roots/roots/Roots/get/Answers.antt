use Rattle.std.proofs.Common.{◌∙◌}
use Rattle.heap.proofs.roots.roots.Roots.get.Goals as goal

pub returns : goal.returns
returns g c = rw (← c.self.view_is) (c.copied.ensures ∙ c.get.ensures)
