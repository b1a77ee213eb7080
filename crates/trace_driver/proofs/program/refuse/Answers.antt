use Rattle.std.proofs.Common.{refl}
use Rattle.trace_driver.proofs.Endings.{is_help_of, help_told, help_cut_off}
use Rattle.trace_driver.proofs.program.refuse.Goals as goal

pub returns-in-Ok-clause-ends : goal.returns-in-Ok-clause-ends
returns-in-Ok-clause-ends g c = help_told _ _ _ _ _ _ _ _ _ _ (is_help_of _ _ _ c.in-Help.is c.as_bytes.ensures.value) c.in-Ok.ensures.bytes refl

pub returns-in-Err-clause-ends : goal.returns-in-Err-clause-ends
returns-in-Err-clause-ends g c =
    help_cut_off _ _ _ _ _ _ _ _ _ _ (is_help_of _ _ _ c.in-Help.is c.as_bytes.ensures.value) c.in-Err.ensures.err c.in-Err.ensures.front c.tell.ensures.told _ c.tell.ensures.status
