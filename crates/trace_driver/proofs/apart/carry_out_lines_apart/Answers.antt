use Rattle.std.proofs.Common.{refl, arith, ap, ◌+◌, ◌∙◌}
use Rattle.trace_session.specs.declared.trace_lines.lines.Next.TheVariants.{Line, TooLong, Unfinished, End}
use Rattle.trace_session.proofs.LineLemmas.{Moves-nil, moves_as}
use Rattle.trace_driver.proofs.LineByLine.{carried_none, found_is, goes_on, is_done, is_unfinished, is_too_long, is_cut_off, line_stops}
use Rattle.trace_session.proofs.HandedOn.{handed_on}
use Rattle.trace_driver.proofs.apart.carry_out_lines_apart.Goals as goal

pub loop-session-init : goal.loop-session-init
loop-session-init g c = record {
  moves = moves_as _ _ _ _ (Moves-nil _ _) (λ text rest same. carried_none _ _ text rest same);
  room = omega arith;
  reads = refl;
  writes = refl;
}

pub returns-in-Ok-TooLong-clause-err : goal.returns-in-Ok-TooLong-clause-err
returns-in-Ok-TooLong-clause-err g c =
    let found = found_is _ TooLong c.loop-session.lines c.advance.new.self _ _ c.in-Ok-TooLong.field-0-is c.in-Ok-TooLong.ensures.ok in
    is_too_long _ _ _ _ _ _ _ _ _ _ _ c.loop-session.invariant.moves found.0 found.1

pub returns-in-Ok-Unfinished-clause-err : goal.returns-in-Ok-Unfinished-clause-err
returns-in-Ok-Unfinished-clause-err g c =
    let found = found_is _ Unfinished c.loop-session.lines c.advance.new.self _ _ c.in-Ok-Unfinished.field-0-is c.in-Ok-Unfinished.ensures.ok in
    is_unfinished _ _ _ _ _ _ _ _ _ _ _ c.loop-session.invariant.moves found.0 found.1.0 found.1.1 found.2

pub returns-in-Ok-End-clause-ok : goal.returns-in-Ok-End-clause-ok
returns-in-Ok-End-clause-ok g c =
    let found = found_is _ End c.loop-session.lines c.advance.new.self _ _ c.in-Ok-End.field-0-is c.in-Ok-End.ensures.ok in
    is_done _ _ _ _ _ _ _ _ _ _ _ c.loop-session.invariant.moves found.0 found.1 found.2

pub returns-in-Err-clause-err : goal.returns-in-Err-clause-err
returns-in-Err-clause-err g c =
    is_cut_off _ _ _ _ _ _ _ _ _ _ _ c.loop-session.invariant.moves _ _ _ (λ is. is ∙ ap (λ n. n + 1) c.loop-session.invariant.reads) c.in-Err.ensures.waits c.in-Err.ensures.err

pub returns-in_err-carry_out_apart-clause-err : goal.returns-in_err-carry_out_apart-clause-err
returns-in_err-carry_out_apart-clause-err g c =
    handed_on _ _ _ c.from_residual.ensures
    (let found = found_is _ Line c.loop-session.lines c.advance.new.self _ _ c.in-Ok-Line.field-0-is c.in-Ok-Line.ensures.ok in
    line_stops _ _ _ _ _ _ _ _ _ _ _ c.loop-session.invariant.moves _ c.line.ensures c.args.crew.now.workers _ g.W.Sink.output c.loop-session.writer c.carry_out_apart.new.writer _ _ _ refl
    (λ is. is ∙ ap (λ n. n + 1) c.loop-session.invariant.writes) found c.in_err-carry_out_apart.field-0.0 c.in_err-carry_out_apart.ensures.err)

pub loop-session-preserved : goal.loop-session-preserved
loop-session-preserved g c =
    let found = found_is _ Line c.loop-session.lines c.advance.new.self _ _ c.in-Ok-Line.field-0-is c.in-Ok-Line.ensures.ok in
    record {
      moves = goes_on _ _ _ _ _ _ _ _ _ _ _ c.loop-session.invariant.moves _ c.line.ensures _ _ found c.in_ok-carry_out_apart.ensures.ok;
      room = omega (arith, c.loop-session.invariant.room, found.less);
      reads = c.in-Ok-Line.ensures.counts ∙ c.loop-session.invariant.reads;
      writes = c.in_ok-carry_out_apart.ensures.counts ∙ c.loop-session.invariant.writes;
    }
