use Rattle.std.proofs.Common.{rules}
use Rattle.layout.proofs.header.Header.unpack.Goals as goal

pub returns-clause-reads : goal.returns-clause-reads
returns-clause-reads c = search rules

pub returns-clause-back : goal.returns-clause-back
returns-clause-back c = search rules

pub returns-then-pointers-clause-back : goal.returns-then-pointers-clause-back
returns-then-pointers-clause-back c = search rules

pub returns-then-pointers-clause-none : goal.returns-then-pointers-clause-none
returns-then-pointers-clause-none c = search rules
