use Rattle.std.proofs.Common.{Ok, Err, refl, sym, ap, ◌∙◌}
use Rattle.trace_replay.specs.Stops.{misread}
use Rattle.trace_replay.proofs.SchedulesLineByLine.{fault_of_event, fault_of_finish}
use Rattle.trace_session.proofs.HandedOn.{handed_on}
use Rattle.trace_replay.proofs.schedules.lines.carry_out_line.Goals as goal

pub returns-in-Err-Schedule-clause-err : goal.returns-in-Err-Schedule-clause-err
returns-in-Err-Schedule-clause-err g c = (refl, misread (sym c.in-Err-Schedule.ensures ∙ ap (λ x. Err x) c.in-Err-Schedule.field-0-is))

pub returns-in_err-come-in-Ok-Event-clause-err : goal.returns-in_err-come-in-Ok-Event-clause-err
returns-in_err-come-in-Ok-Event-clause-err g c =
    handed_on _ _ _ c.from_residual.ensures
    (fault_of_event c.args.number c.args.line.now c.args.machine.now c.in-Ok-Event.event (sym c.in-Ok-Event.ensures ∙ ap (λ x. Ok x) c.in-Ok-Event.field-0-is) c.in_err-come-in-Ok-Event.field-0.0 c.in_err-come-in-Ok-Event.ensures.err)

pub returns-in_err-finish-in-Ok-Finish-clause-err : goal.returns-in_err-finish-in-Ok-Finish-clause-err
returns-in_err-finish-in-Ok-Finish-clause-err g c =
    handed_on _ _ _ c.from_residual-in_err-finish-in-Ok-Finish.ensures
    (fault_of_finish c.args.number c.args.line.now c.args.machine.now (sym c.in-Ok-Finish.ensures ∙ ap (λ x. Ok x) c.in-Ok-Finish.field-0-is) c.in_err-finish-in-Ok-Finish.field-0.0 c.in_err-finish-in-Ok-Finish.ensures.err)
