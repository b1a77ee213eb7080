use Rattle.large_objects.proofs.Numbered.{first_is}
use Rattle.large_objects.proofs.table.LargeTable.next_from.Goals as goal

pub returns-in-Some : goal.returns-in-Some
returns-in-Some g c =
    rw (← c.self.view_is) (first_is _ c.self.inside.used c.args.from c.in-Some.number c.self.invariant c.in-Some.ensures.from c.in-Some.ensures.flag c.in-Some.ensures.first)
