use Rattle.std.proofs.Common.{◌≡◌, [], ap, sym, ◌∙◌, subst, arith}
use Rattle.std.specs.Prelude.{nat_eq}
use Rattle.std.specs.List.{IsDistinct}
use Rattle.std.proofs.lemmas.List.{get_or_past}
use Rattle.remembered_set.specs.Sets.{members_of}
use Rattle.remembered_set.proofs.remembered.Remembered.len.Goals as goal

pub returns-then-generation-len-clause-once : goal.returns-then-generation-len-clause-once
unfolding IsDistinct
returns-then-generation-len-clause-once g c =
    let none : members_of c.args.self.now c.args.generation ≡ [] = ap (λ sets. members_of sets c.args.generation) (sym c.self.view_is) ∙ get_or_past c.self.inside.sets.items c.args.generation [] (omega (arith, c.if-generation-len.true, c.len.ensures)) in
    let empty : IsDistinct nat_eq [] = tt in
    subst (IsDistinct nat_eq) (sym none) empty
