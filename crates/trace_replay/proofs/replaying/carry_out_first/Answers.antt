use Rattle.trace_replay.proofs.LineByLine.{if_ok, if_err}
use Rattle.trace_replay.proofs.ReplaysRead.{goes_by_line, goes_by_schedule, fault_of_line, fault_of_schedule}
use Rattle.trace_session.proofs.HandedOn.{handed_on}
use Rattle.trace_replay.proofs.replaying.carry_out_first.Goals as goal

pub returns-in-Some-clause-ok : goal.returns-in-Some-clause-ok
returns-in-Some-clause-ok g c =
    if_ok (λ found to. goes_by_schedule c.args.session.now c.args.workers c.args.number c.line.result.now c.args.lines.now c.line.ensures c.collect.new.session c.in-Some.generation _ _ _ found _ _ c.in-Some.ensures.some to)
    c.collect.result c.collect.ensures.ok

pub returns-in-Some-clause-err : goal.returns-in-Some-clause-err
returns-in-Some-clause-err g c =
    if_err (λ e. fault_of_schedule c.args.session.now c.args.workers c.args.number c.line.result.now c.args.lines.now c.line.ensures g.W.Sink.output _ _ _ c.in-Some.generation c.in-Some.ensures.some _ _ _ e)
    c.collect.result c.collect.ensures.err

pub returns-clause-ok : goal.returns-clause-ok
returns-clause-ok g c =
    goes_by_line c.args.session.now c.args.workers c.args.number c.line-2.result.now c.args.lines.now c.line-2.ensures c.carry_out_line.new.session (g.S.Source.input c.args.reader.now) _ _ c.in_ok-carry_out_line.ensures.ok

pub returns-in_err-carry_out_line-clause-err : goal.returns-in_err-carry_out_line-clause-err
returns-in_err-carry_out_line-clause-err g c =
    handed_on _ _ _ c.from_residual.ensures
    (fault_of_line c.args.session.now c.args.workers c.args.number c.line-2.result.now c.args.lines.now c.line-2.ensures g.W.Sink.output _ _ _ _ (g.S.Source.input c.args.reader.now) c.in_err-carry_out_line.field-0.0 c.in_err-carry_out_line.ensures.err)
