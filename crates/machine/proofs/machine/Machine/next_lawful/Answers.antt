use Rattle.std.proofs.Common.{◌≡◌, subst}
use Rattle.std.specs.Option.{option_map}
use Rattle.workers.specs.Lawful.{next_lawful}
use Rattle.machine.specs.SystemEvents.{event_of}
use Rattle.machine.specs.MachineValue.{MachineValue, HasReached, setting_in}
use Rattle.machine.proofs.Going.{next_is_lawful, none_is_end}
use Rattle.machine.proofs.machine.Machine.next_lawful.Given as given
use Rattle.machine.proofs.machine.Machine.next_lawful.Goals as goal
use Rattle.machine.proofs.machine.Machine.next_lawful.Goals.{After-next_lawful}

told : (g : given.Over) → (c : After-next_lawful g) → option_map event_of c.next_lawful.result ≡ next_lawful (setting_in c.args.self.now) c.args.self.now.system
told g c = subst (λ (m : MachineValue). option_map event_of c.next_lawful.result ≡ next_lawful (setting_in m) m.system) c.self.view_is c.next_lawful.ensures

pub returns-clause-lawful : goal.returns-clause-lawful
returns-clause-lawful g c = next_is_lawful c.args.self.now (subst HasReached c.self.view_is c.self.invariant.reached) c.next_lawful.result (told g c)

pub returns-clause-none : goal.returns-clause-none
returns-clause-none g c = none_is_end c.args.self.now (subst HasReached c.self.view_is c.self.invariant.reached) c.next_lawful.result (told g c)
