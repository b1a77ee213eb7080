use Rattle.std.proofs.Common.{◌≡◌, subst}
use Rattle.std.specs.Result.{IsErrAnd}
use Rattle.machine.specs.declared.interleaved_settling.settle_error.SettleError.TheVariants.{NotEnded, NoMemory}
use Rattle.machine.proofs.interleaved_settling.settled.settle.Goals as goal

pub gathered-requires-clause-ended : goal.gathered-requires-clause-ended
gathered-requires-clause-ended g c = c.all_ended.ensures.0 c.if-not-all_ended.false

pub returns-in_err-gathered-clause-ended : goal.returns-in_err-gathered-clause-ended
returns-in_err-gathered-clause-ended g c = (λ is all. absurd (let x : NotEnded ≡ NoMemory = subst (λ r. IsErrAnd r (λ e. e ≡ NoMemory)) is c.from_residual.ensures.1 in cc), λ not. absurd (not (c.all_ended.ensures.0 c.if-not-all_ended.false)))

pub returns-clause-ended : goal.returns-clause-ended
returns-clause-ended g c = (λ is all. absurd (cc), λ not. absurd (not (c.all_ended.ensures.0 c.if-not-all_ended.false)))
