use Rattle.std.proofs.Common.{rules}
use Rattle.heap_text.proofs.listing.write_heap.Goals as goal

pub returns-clause-bytes : goal.returns-clause-bytes
returns-clause-bytes g c = search rules
