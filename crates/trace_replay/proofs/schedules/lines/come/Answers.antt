use Rattle.std.proofs.Common.{refl}
use Rattle.machine.specs.MachineValue.{setting_in}
use Rattle.trace_replay.proofs.SchedulesLineByLine.{few_workers}
use Rattle.trace_replay.proofs.schedules.lines.come.Goals as goal

pub returns-in_default-clause-err : goal.returns-in_default-clause-err
returns-in_default-clause-err g c = (
  refl,
  refl,
  λ lawful. c.in_default.ensures.none (setting_in c.args.machine.now) c.args.machine.now.system (few_workers _ c.workers-sixteen.result c.workers-sixteen.ensures.each c.workers-sixteen.ensures.most) lawful,
)
