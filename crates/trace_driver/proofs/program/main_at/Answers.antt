use Rattle.std.proofs.Common.{inl}
use Rattle.trace_driver.proofs.program.main_at.Goals as goal

pub returns-in-Ok-clause-ends : goal.returns-in-Ok-clause-ends
returns-in-Ok-clause-ends g c = inl (c.in-Ok.options, c.in-Ok.ensures.ok, c.run_with.ensures.ends)
