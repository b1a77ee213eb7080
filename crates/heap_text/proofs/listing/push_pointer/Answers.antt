use Rattle.std.proofs.Common.{rules}
use Rattle.heap_text.proofs.Pointed.{numbered_into}
use Rattle.heap_text.proofs.Shown.{is_pointer_word}
use Rattle.heap_text.proofs.listing.push_pointer.Goals as goal

pub target_of-requires : goal.target_of-requires
target_of-requires g c = is_pointer_word c.args.heap.now.graph _ c.requires.all.places (numbered_into _ _ _ _ c.requires.numbering _ c.requires.leads)

pub returns-in-Some : goal.returns-in-Some
returns-in-Some g c = search rules

pub returns-in-None : goal.returns-in-None
returns-in-None g c = search rules
