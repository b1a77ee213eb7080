use Rattle.std.proofs.Common.{refl, subst, ◌∙◌, arith}
use Rattle.trace_session.specs.Lines.{Found}
use Rattle.trace_session.proofs.LineLemmas.{at_line, reads_fail, reads_failed}
use Rattle.trace_replay.proofs.ReplaysRead.{starts, goes_on, fault_of_next, ends_long, ends_unfinished, ends_whole, uses_up}
use Rattle.trace_session.proofs.HandedOn.{handed_on}
use Rattle.trace_replay.proofs.replaying.carry_out_lines.Goals as goal

pub loop-session-init : goal.loop-session-init
loop-session-init g c = record { so_far = starts c.args.workers c.args.session.now c.args.lines.now _ _; room = omega arith; reads = refl; counts = refl }

pub carry_out_first-requires-clause-room : goal.carry_out_first-requires-clause-room
carry_out_first-requires-clause-room g c =
    let cut = subst (λ n. Found n c.loop-session.lines c.advance.new.self (g.S.Source.input c.loop-session.reader) (g.S.Source.input c.advance.new.reader)) c.in-Ok-Line.field-0-is c.in-Ok-Line.ensures.ok in
    omega (arith, c.requires.room, c.loop-session.invariant.room, cut.less)

pub loop-session-preserved : goal.loop-session-preserved
loop-session-preserved g c =
    let cut = subst (λ n. Found n c.loop-session.lines c.advance.new.self (g.S.Source.input c.loop-session.reader) (g.S.Source.input c.advance.new.reader)) c.in-Ok-Line.field-0-is c.in-Ok-Line.ensures.ok in
    record {
      so_far = goes_on c.args.session.now c.loop-session.session c.args.workers _ g.W.Sink.output _ c.loop-session.writer _ _ _ _ _ _ c.loop-session.invariant.so_far cut
          c.carry_out_first.new.session c.carry_out_first.new.lines _ _ _ c.in_ok-number.ensures.ok;
      room = omega (arith, c.loop-session.invariant.room, c.in_ok-number.ensures.left, cut.less);
      reads = c.in_ok-number.ensures.reads ∙ c.in-Ok-Line.ensures.counts ∙ c.loop-session.invariant.reads;
      counts = c.in_ok-number.ensures.counts ∙ c.loop-session.invariant.counts;
    }

pub loop-session-smaller : goal.loop-session-smaller
loop-session-smaller g c =
    let cut = subst (λ n. Found n c.loop-session.lines c.advance.new.self (g.S.Source.input c.loop-session.reader) (g.S.Source.input c.advance.new.reader)) c.in-Ok-Line.field-0-is c.in-Ok-Line.ensures.ok in
    omega (arith, c.in_ok-number.ensures.left, c.in_ok-number.ensures.later, cut.less)

pub returns-in_err-number-clause-err : goal.returns-in_err-number-clause-err
returns-in_err-number-clause-err g c =
    handed_on _ _ _ c.from_residual.ensures
    (let cut = subst (λ n. Found n c.loop-session.lines c.advance.new.self (g.S.Source.input c.loop-session.reader) (g.S.Source.input c.advance.new.reader)) c.in-Ok-Line.field-0-is c.in-Ok-Line.ensures.ok in
    fault_of_next c.args.session.now c.loop-session.session c.args.workers _ g.W.Sink.output _ c.loop-session.writer _ _ _ _ _ _ c.loop-session.invariant.so_far cut
    (g.S.Source.input c.carry_out_first.new.reader) _ _ _ _ _
    (λ failed. reads_failed _ _ _ _ (g.S.Source.input c.carry_out_first.new.reader) (at_line _ _ _ _ _ _ c.loop-session.invariant.so_far cut) _ _ _ (c.in-Ok-Line.ensures.counts ∙ c.loop-session.invariant.reads) failed)
    (λ is. omega (arith, is, c.loop-session.invariant.counts)) c.in_err-number.field-0.0 c.in_err-number.ensures.err)

pub returns-in-Ok-TooLong-clause-err : goal.returns-in-Ok-TooLong-clause-err
returns-in-Ok-TooLong-clause-err g c =
    let found = subst (λ n. Found n c.loop-session.lines c.advance.new.self (g.S.Source.input c.loop-session.reader) (g.S.Source.input c.advance.new.reader)) c.in-Ok-TooLong.field-0-is c.in-Ok-TooLong.ensures.ok in
    ends_long c.args.session.now c.loop-session.session c.args.workers _ g.W.Sink.output _ c.loop-session.writer _ _ _ _ _ _ c.loop-session.invariant.so_far found.0 found.1

pub returns-in-Ok-Unfinished-clause-err : goal.returns-in-Ok-Unfinished-clause-err
returns-in-Ok-Unfinished-clause-err g c =
    let found = subst (λ n. Found n c.loop-session.lines c.advance.new.self (g.S.Source.input c.loop-session.reader) (g.S.Source.input c.advance.new.reader)) c.in-Ok-Unfinished.field-0-is c.in-Ok-Unfinished.ensures.ok in
    ends_unfinished c.args.session.now c.loop-session.session c.args.workers _ g.W.Sink.output _ c.loop-session.writer _ _ _ _ _ _ c.loop-session.invariant.so_far found.0 found.2 found.1.0 found.1.1

pub returns-in-Ok-End-clause-ok : goal.returns-in-Ok-End-clause-ok
returns-in-Ok-End-clause-ok g c =
    let found = subst (λ n. Found n c.loop-session.lines c.advance.new.self (g.S.Source.input c.loop-session.reader) (g.S.Source.input c.advance.new.reader)) c.in-Ok-End.field-0-is c.in-Ok-End.ensures.ok in
    (found.2, ends_whole c.args.session.now c.loop-session.session c.args.workers _ g.W.Sink.output _ c.loop-session.writer _ _ _ _ _ _ c.loop-session.invariant.so_far found.0 found.1)

pub returns-in-Err-clause-err : goal.returns-in-Err-clause-err
returns-in-Err-clause-err g c = (
  uses_up c.args.session.now c.loop-session.session c.args.workers _ g.W.Sink.output _ c.loop-session.writer _ _ _ _ _ _ c.loop-session.invariant.so_far c.in-Err.ensures.waits,
  reads_fail _ _ _ _ (g.S.Source.input c.advance.new.reader) c.loop-session.invariant.so_far _ _ _ c.loop-session.invariant.reads c.in-Err.ensures.err,
)
