use Rattle.trace_replay.proofs.WholeTrace.{first_state, little_left, whole_if_ok, fault_if_err}
use Rattle.trace_replay.proofs.replaying.replay.Goals as goal

pub carry_out_lines-requires-clause-room : goal.carry_out_lines-requires-clause-room
carry_out_lines-requires-clause-room g c = little_left _ c.in-Ok-new.ensures

pub returns-clause-ok : goal.returns-clause-ok
returns-clause-ok g c =
    whole_if_ok c.in_ok-session.session c.args.config c.in_ok-session.ensures.ok (first_state c.in_ok-session.session c.args.config c.in_ok-session.ensures.first) c.args.workers _ c.in-Ok-new.ensures _ _ _ _ c.carry_out_lines.result c.carry_out_lines.ensures.ok

pub returns-clause-err : goal.returns-clause-err
returns-clause-err g c =
    fault_if_err c.in_ok-session.session c.args.config c.in_ok-session.ensures.ok (first_state c.in_ok-session.session c.args.config c.in_ok-session.ensures.first) c.args.workers _ c.in-Ok-new.ensures _ _ _ _ _ _ _ c.carry_out_lines.result c.carry_out_lines.ensures.err
