use Rattle.std.proofs.Common.{refl, codes}
use Rattle.trace_driver.specs.Program.{done, stopped, out_of_range}
use Rattle.trace_driver.proofs.Endings.{tells_of, ends_at, run_is_done, run_is_stopped, replay_is_done, replay_is_stopped}
use Rattle.trace_driver.proofs.program.run_with.Goals as goal

pub returns-in-Err-clause-ends : goal.returns-in-Err-clause-ends
returns-in-Err-clause-ends g c =
    out_of_range (λ in_range. let no = c.in-Err.ensures.in_range.1 in_range in cc) (refl, refl) (tells_of c.write_all.result _ _ (codes "gctrace: bad configuration\n") c.write_all.ensures.bytes c.write_all.ensures.front c.write_all.ensures.err)

pub returns-in-Ok-run-clause-ends : goal.returns-in-Ok-run-clause-ends
returns-in-Ok-run-clause-ends g c = done (c.in-Ok.ensures.in_range.0 refl) (run_is_done c.args.options.now _ _ _ _ _ c.in-Ok.ensures.ok.0 c.in-Run.is c.in-Ok-run.ensures.ok) refl

pub returns-in-Err-run-clause-ends : goal.returns-in-Err-run-clause-ends
returns-in-Err-run-clause-ends g c =
    ends_at _ _ _ _ _ _ _ _ _ _ _ _ _ _ c.tell.ensures.status
    (stopped c.in-Err-run.fault (c.in-Ok.ensures.in_range.0 refl)
    (run_is_stopped c.args.options.now _ _ _ _ _ c.in-Ok.ensures.ok.0 _ c.in-Ok.ensures.ok.1 _ _ _ c.in-Err-run.fault c.in-Run.is _ c.in-Ok.ensures.ok.2 c.in-Err-run.ensures.full c.in-Err-run.ensures.err) c.tell.ensures.told)

pub returns-in-Ok-replay-clause-ends : goal.returns-in-Ok-replay-clause-ends
returns-in-Ok-replay-clause-ends g c =
    done (c.in-Ok.ensures.in_range.0 refl) (replay_is_done c.args.options.now _ _ _ _ _ c.in-Ok.ensures.ok.0 c.in-Replay.is _ c.in-Ok.ensures.ok.1 c.in-Ok-replay.ensures.ok) refl

pub returns-in-Err-replay-clause-ends : goal.returns-in-Err-replay-clause-ends
returns-in-Err-replay-clause-ends g c =
    ends_at _ _ _ _ _ _ _ _ _ _ _ _ _ _ c.tell-in-Err-replay.ensures.status
    (stopped c.in-Err-replay.fault (c.in-Ok.ensures.in_range.0 refl)
    (replay_is_stopped c.args.options.now _ _ _ _ _ c.in-Ok.ensures.ok.0 _ c.in-Ok.ensures.ok.1 _ _ _ c.in-Err-replay.fault c.in-Replay.is c.in-Err-replay.ensures.err) c.tell-in-Err-replay.ensures.told)
