-- Lines that collect before they are carried out, and what such a line has written by then.
use Rattle.std.specs.Prelude.{◌≡◌, ℕ, ◌+◌, Bool, not, ◌&&◌, List, [], Option, Some, Result, Ok, IsTrue, is_some, codes, ◌⊎◌}
use Rattle.model.specs.declared.kind.Kind.{Kind}
use Rattle.model.specs.Config.{Config}
use Rattle.model.specs.Store.{Store}
use Rattle.model.specs.Commands.{Command, New, room_in, is_large_size, line_of}
use Rattle.trace_text.specs.Grammar.{entry_of}
use Rattle.trace_session.specs.Sound.{IsSoundTraceLine}

-- a small object, for which the mutator's nursery has no room
abbrev pub has_no_room : Config → Store → (mutator size : ℕ) → Bool
has_no_room config store mutator size = not (is_large_size config size) && not (is_some (room_in config mutator size store))

-- generation 0 is collected before a new object for which there is no room
abbrev pub CollectsFirst : Config → Store → Command → Type 0
CollectsFirst config store (New text mutator p q) = IsTrue (has_no_room config store mutator (1 + p + q))
CollectsFirst config store _ = ⊥

abbrev pub ReadCollectsFirst : Config → Store → Result (Option Command) Kind → Type 0
ReadCollectsFirst config store (Ok (Some command)) = CollectsFirst config store command
ReadCollectsFirst config store _ = ⊥

-- the same of a line
abbrev pub LineCollectsFirst : Config → Store → List ℕ → Type 0
LineCollectsFirst config store line = ReadCollectsFirst config store (entry_of line)

-- the line of that collection
abbrev pub auto_line : Store → List ℕ
auto_line store = line_of (codes "auto") 0 store

-- a line without a fault, so far as it was carried out: it has written nothing yet, or the line of the collection that came first
abbrev pub IsSoundSoFar : Config → Store → List ℕ → (written : List ℕ) → Type 0
IsSoundSoFar config store line written = IsSoundTraceLine config store line × ((written ≡ []) ⊎ (LineCollectsFirst config store line × (written ≡ auto_line store)))
