use Rattle.large_objects.proofs.RawLemmas.{pointer_set}
use Rattle.large_objects.proofs.stored.StoredObject.set_pointer.Goals as goal

pub returns : goal.returns
returns g c =
    let raw = pointer_set c.self.inside.pointers c.self.inside.words.items c.args.i c.args.word (rw (← c.self.view_is) at c.requires) in
    rw (← c.self.view_is) (cc raw)
