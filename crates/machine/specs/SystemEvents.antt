-- The events of a collection as the system sees them.
use Rattle.workers.specs.System as system
use Rattle.machine.specs.declared.workers_in_turn.event.Event.{Event}
use Rattle.machine.specs.declared.workers_in_turn.event.Event.TheVariants.{Look, Race, Scan, Export, Take, Own, OwnLarge, Idle, Wake, End}

-- an event of a collection as one of the system
abbrev pub event_of : Event → system.Event
event_of (Look t) = system.Look t
event_of (Race t) = system.Race t
event_of (Scan t) = system.Scan t
event_of (Export t) = system.Export t
event_of (Take t u) = system.Take t u
event_of (Own t d) = system.Own t d
event_of (OwnLarge t) = system.OwnLarge t
event_of (Idle t) = system.Idle t
event_of (Wake t) = system.Wake t
event_of (End t) = system.End t
