-- A run goes on by one event.
use Rattle.std.proofs.Common.{◌≡◌, ℕ, ◌+◌, List, [], ◌∷◌, ◌++◌, Option, Some}
use Rattle.workers.specs.Setting.{Setting}
use Rattle.workers.specs.System.{System, Event}
use Rattle.workers.specs.Steps.{Step}
use Rattle.workers.specs.Steps as steps
use Rattle.workers.specs.Finish.{Stepped, stay, go, IsReached}

module _ (setting : Setting) where
  pub run_more : {s mid last : System} {events : List Event} (event : Event) → steps.Run setting s events mid → Step setting mid event last → steps.Run setting s (events ++ event ∷ []) last
  run_more event steps.stay r = steps.go {event = event} r steps.stay
  run_more event (steps.go {event = other} e rest) r = steps.go {event = other} e (run_more event rest r)

  pub stepped_more : {next : System → Option Event} {s mid last : System} {count : ℕ} (event : Event) → Stepped setting next s count mid → next mid ≡ Some event → Step setting mid event last → Stepped setting next s (count + 1) last
  stepped_more event stay e r = go {event = event} e r stay
  stepped_more event (go {event = other} n m rest) e r = go {event = other} n m (stepped_more event rest e r)

  pub stepped_run : {next : System → Option Event} {s last : System} {count : ℕ} → Stepped setting next s count last → (events : List Event) × steps.Run setting s events last
  stepped_run stay = ([], steps.stay)
  stepped_run (go {event = event} e r rest) = let m = stepped_run rest in (event ∷ m.0, steps.go {event = event} r m.1)

  pub reached_more : (d n : ℕ) (slots free : List ℕ) (s s' : System) (event : Event) → IsReached setting d n slots free s → Step setting s event s' → IsReached setting d n slots free s'
  reached_more d n slots free s s' event r e = record { some = r.some; room = r.room; distinct = r.distinct; events = r.events ++ event ∷ []; run = run_more event r.run e }
