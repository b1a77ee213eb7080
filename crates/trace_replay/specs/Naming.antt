-- The events that schedules name.
use Rattle.std.specs.Prelude.{◌^◌, ◌≤◌, length}
use Rattle.workers.specs.Setting.{Setting}
use Rattle.workers.specs.System as system
use Rattle.workers.specs.System.{System}
use Rattle.workers.specs.Lawful.{IsLawful}
use Rattle.trace_text.specs.declared.schedule.ScheduleEvent.{ScheduleEvent}
use Rattle.trace_text.specs.declared.schedule.ScheduleEvent.TheVariants.{Look, Race, Scan, Export, Take, Own, OwnLarge, Idle, Wake, End}

abbrev pub meant : ScheduleEvent → system.Event
meant (Look t) = system.Look t
meant (Race t) = system.Race t
meant (Scan t) = system.Scan t
meant (Export t) = system.Export t
meant (Take t u) = system.Take t u
meant (Own t d) = system.Own t d
meant (OwnLarge t) = system.OwnLarge t
meant (Idle t) = system.Idle t
meant (Wake t) = system.Wake t
meant (End t) = system.End t

-- numbers of 32 bits tell its workers apart
pub record HasFewWorkers (s : System) : Type 0 where
  pub workers : length s.workers ≤ 2 ^ 32
  pub queues : length s.queues ≤ 2 ^ 32
  pub idle : length s.idle ≤ 2 ^ 32

-- wherever there are few workers it isn't lawful
abbrev pub IsNeverLawful : system.Event → Type 0
IsNeverLawful event = (setting : Setting) (s : System) → HasFewWorkers s → ¬ IsLawful setting s event
