use Rattle.std.proofs.Common.{◌≡◌, true, List, [], ◌∷◌, ◌++◌, sym, ap, subst, ◌∙◌}
use Rattle.block_pool.specs.ClaimsValue.{SeatValue}
use Rattle.one_worker.specs.SerialValue.{SerialValue}
use Rattle.scavenge.specs.Waiting.{left_of}
use Rattle.scavenge.proofs.AllDrawn.{counted}
use Rattle.one_worker.proofs.serial.SerialCollection.count_drawn.Goals as goal

pub returns : goal.returns
returns g c =
    subst (λ (v : SerialValue). left_of v.claims.source.free v.draws.drawn ≡ []) c.self.view_is
    (counted c.self.inside.claims.source.free c.push_reserved.new.self.items c.self.inside.draws c.close.result
    (c.push_reserved.ensures.items ∙ ap (λ (xs : List SeatValue). xs ++ c.self.inside.draws ∷ []) c.in_ok-seats.ensures.items)
    c.close.ensures.count c.close.ensures.first c.close.ensures.used_up
    (subst (λ (v : SerialValue). v.draws.out ≡ true) (sym c.self.view_is) c.requires))
