use Rattle.std.proofs.Common.{ap, sym, ◌∙◌}
use Rattle.std.specs.Option.{option_map}
use Rattle.layout.specs.Place.{place_word}
use Rattle.heap.proofs.RootMap.{get-roots}
use Rattle.heap.proofs.heap.Heap.target.Goals as goal

pub returns : goal.returns
returns g c = rw (← c.self.view_is) (ap (option_map place_word) c.get.ensures ∙ sym (get-roots c.self.inside.roots.slots c.args.root.number))
