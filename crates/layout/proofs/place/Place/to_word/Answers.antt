use Rattle.std.proofs.Common.{rules}
use Rattle.layout.proofs.place.Place.to_word.Goals as goal

pub returns-in-Small : goal.returns-in-Small
returns-in-Small c = search rules
