use Rattle.large_objects.proofs.RawLemmas.{new_raw}
use Rattle.large_objects.proofs.stored.StoredObject.new.Goals as goal

pub returns : goal.returns
returns g c =
    let raw = new_raw c.args.p c.args.words.items c.requires.zeros c.requires.pointers_in_words in
    cc raw
