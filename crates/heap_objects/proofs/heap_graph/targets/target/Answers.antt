use Rattle.std.proofs.Common.{◌≡◌, ◌≢◌, Option, Some, None, refl, sym, ap, ◌∙◌}
use Rattle.std.specs.Prelude.{IfNone}
use Rattle.std.specs.Option.{option_flatten}
use Rattle.layout.specs.declared.place.Place.{Place}
use Rattle.layout.specs.Place.{place_word}
use Rattle.model.proofs.Options.{some_not_none}
use Rattle.heap_objects.proofs.heap_graph.targets.target.Goals as goal

pub returns-clause-none : goal.returns-clause-none
returns-clause-none c = go c.flatten.result refl
  where
    go : (found : Option Place) → c.flatten.result ≡ found → IfNone found ((place : Place) → place_word place ≢ c.args.word)
    go (Some place) is = tt
    go None is = λ place e. some_not_none (ap option_flatten (sym (c.from_word.ensures.back (Some place) e)) ∙ sym c.flatten.ensures ∙ is)
