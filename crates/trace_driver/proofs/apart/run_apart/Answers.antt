use Rattle.std.proofs.Common.{subst}
use Rattle.model.specs.Store.{empty_store}
use Rattle.trace_replay.specs.Session.{Stands}
use Rattle.trace_driver.proofs.WholeRun.{run_done, run_stopped, run_full}
use Rattle.trace_driver.proofs.apart.run_apart.Goals as goal

pub returns-clause-ok : goal.returns-clause-ok
returns-clause-ok g c =
    run_done (Stands c.in_ok-session.session) c.args.config.config (subst (λ k. Stands c.in_ok-session.session k (empty_store k)) c.config.ensures c.in_ok-session.ensures.ok) _ _ _ _ _ _ c.in-Ok-new.ensures c.carry_out_lines_apart.result c.carry_out_lines_apart.ensures.ok

pub returns-clause-err : goal.returns-clause-err
returns-clause-err g c =
    run_stopped (Stands c.in_ok-session.session) c.args.config.config (subst (λ k. Stands c.in_ok-session.session k (empty_store k)) c.config.ensures c.in_ok-session.ensures.ok) _ _ _ _ _ _ c.in-Ok-new.ensures _ _ _ _ _ c.carry_out_lines_apart.result c.carry_out_lines_apart.ensures.err

pub returns-clause-full : goal.returns-clause-full
returns-clause-full g c =
    run_full (Stands c.in_ok-session.session) c.args.config.config (subst (λ k. Stands c.in_ok-session.session k (empty_store k)) c.config.ensures c.in_ok-session.ensures.ok) _ _ _ _ _ _ c.in-Ok-new.ensures _ _ _ _ c.carry_out_lines_apart.result c.carry_out_lines_apart.ensures.err
