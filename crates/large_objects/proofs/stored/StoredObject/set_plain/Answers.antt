use Rattle.large_objects.proofs.RawLemmas.{plain_set}
use Rattle.large_objects.proofs.stored.StoredObject.set_plain.Goals as goal

pub returns : goal.returns
returns g c =
    let raw = plain_set c.self.inside.pointers c.self.inside.words.items c.args.i c.args.word in
    rw (← c.self.view_is) (cc raw)
