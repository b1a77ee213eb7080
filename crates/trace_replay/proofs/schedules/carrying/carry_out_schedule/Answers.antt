use Rattle.std.proofs.Common.{refl, subst, ◌∙◌, arith}
use Rattle.trace_session.specs.Lines.{Found}
use Rattle.trace_replay.specs.Runs.{Answers}
use Rattle.trace_session.proofs.LineLemmas.{reads_fail}
use Rattle.trace_replay.proofs.SchedulesRead.{nothing_carried, carried_on, ends_with, fault_of_line, ends_short, ends_long, ends_unfinished, used_up}
use Rattle.trace_session.proofs.HandedOn.{handed_on}
use Rattle.trace_replay.proofs.schedules.carrying.carry_out_schedule.Goals as goal

pub loop-machine-init : goal.loop-machine-init
loop-machine-init g c = record { so_far = nothing_carried _ _ _ _; room = omega arith; reads = refl }

pub loop-machine-preserved : goal.loop-machine-preserved
loop-machine-preserved g c =
    let cut = subst (λ n. Found n c.loop-machine.lines c.advance.new.self (g.S.Source.input c.loop-machine.reader) (g.S.Source.input c.advance.new.reader)) c.in-Ok-Line.field-0-is c.in-Ok-Line.ensures.ok in
    record {
      so_far = carried_on c.args.start _ _ _ _ _ _ _ _ _ c.loop-machine.invariant.so_far cut _ c.line.ensures _
          (subst (λ p. Answers p c.line.result.now c.loop-machine.machine c.carry_out_line.new.machine) c.in-GoesOn.is c.in_ok-carry_out_line.ensures.ok);
      room = omega (arith, c.loop-machine.invariant.room, cut.less);
      reads = c.in-Ok-Line.ensures.counts ∙ c.loop-machine.invariant.reads;
    }

pub returns-in-Ends-clause-ok : goal.returns-in-Ends-clause-ok
returns-in-Ends-clause-ok g c =
    let cut = subst (λ n. Found n c.loop-machine.lines c.advance.new.self (g.S.Source.input c.loop-machine.reader) (g.S.Source.input c.advance.new.reader)) c.in-Ok-Line.field-0-is c.in-Ok-Line.ensures.ok in
    ends_with c.args.start _ _ _ _ _ _ _ _ _ c.loop-machine.invariant.so_far cut _ c.line.ensures _
    (subst (λ p. Answers p c.line.result.now c.loop-machine.machine c.carry_out_line.new.machine) c.in-Ends.is c.in_ok-carry_out_line.ensures.ok)

pub returns-in_err-carry_out_line-clause-err : goal.returns-in_err-carry_out_line-clause-err
returns-in_err-carry_out_line-clause-err g c =
    handed_on _ _ _ c.from_residual.ensures
    (let cut = subst (λ n. Found n c.loop-machine.lines c.advance.new.self (g.S.Source.input c.loop-machine.reader) (g.S.Source.input c.advance.new.reader)) c.in-Ok-Line.field-0-is c.in-Ok-Line.ensures.ok in
    fault_of_line c.args.start _ _ _ _ _ _ _ _ _ c.loop-machine.invariant.so_far cut _ c.line.ensures _ c.in_err-carry_out_line.field-0.0 c.in_err-carry_out_line.ensures.err)

pub returns-in-Ok-TooLong-clause-err : goal.returns-in-Ok-TooLong-clause-err
returns-in-Ok-TooLong-clause-err g c =
    let found = subst (λ n. Found n c.loop-machine.lines c.advance.new.self (g.S.Source.input c.loop-machine.reader) (g.S.Source.input c.advance.new.reader)) c.in-Ok-TooLong.field-0-is c.in-Ok-TooLong.ensures.ok in
    ends_long c.args.start _ _ _ _ _ _ _ _ _ c.loop-machine.invariant.so_far found.0 found.1

pub returns-in-Ok-Unfinished-clause-err : goal.returns-in-Ok-Unfinished-clause-err
returns-in-Ok-Unfinished-clause-err g c =
    let found = subst (λ n. Found n c.loop-machine.lines c.advance.new.self (g.S.Source.input c.loop-machine.reader) (g.S.Source.input c.advance.new.reader)) c.in-Ok-Unfinished.field-0-is c.in-Ok-Unfinished.ensures.ok in
    ends_unfinished c.args.start _ _ _ _ _ _ _ _ _ c.loop-machine.invariant.so_far found.0 found.2 found.1.0 found.1.1

pub returns-in-Ok-End-clause-err : goal.returns-in-Ok-End-clause-err
returns-in-Ok-End-clause-err g c =
    let found = subst (λ n. Found n c.loop-machine.lines c.advance.new.self (g.S.Source.input c.loop-machine.reader) (g.S.Source.input c.advance.new.reader)) c.in-Ok-End.field-0-is c.in-Ok-End.ensures.ok in
    ends_short c.args.start _ _ _ _ _ _ _ _ _ c.loop-machine.invariant.so_far found.0 found.2 found.1

pub returns-in-Err-clause-err : goal.returns-in-Err-clause-err
returns-in-Err-clause-err g c = (
  used_up c.args.start _ _ _ _ _ _ _ _ _ c.loop-machine.invariant.so_far c.in-Err.ensures.waits,
  reads_fail _ _ _ _ (g.S.Source.input c.advance.new.reader) c.loop-machine.invariant.so_far _ _ _ c.loop-machine.invariant.reads c.in-Err.ensures.err,
)
