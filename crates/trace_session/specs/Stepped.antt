-- What code that holds a state does, at each store for which that state stands.
use Rattle.std.specs.Prelude.{◌≡◌, ℕ, List, [], Ok}
use Rattle.heap_text.specs.Streams.{Output, Appends}
use Rattle.model.specs.Config.{Config}
use Rattle.model.specs.Store.{Store}
use Rattle.model.specs.Commands.{Outcome as Stepped}

-- at each sizes and store that pass the test
abbrev pub AtEach : (Config → Store → Type 0) → (Config → Store → Type 0) → Type 0
AtEach stands holds = (config : Config) (store : Store) → stands config store → holds config store

-- the step was carried out and printed, and the next store passes the test
pub record StepsTo (stands : Config → Store → Type 0) (config : Config) (step : Stepped) (old new : Output) : Type 0 where
  pub next : Store
  pub out : List ℕ
  pub steps : step ≡ Ok (next, out)
  pub stands' : stands config next
  pub held : Appends old new out

-- the step was carried out and prints nothing, and the next store passes the test
pub record StepsQuietly (stands : Config → Store → Type 0) (config : Config) (step : Stepped) : Type 0 where
  pub next : Store
  pub steps : step ≡ Ok (next, [])
  pub stands' : stands config next

-- something was written, and P holds of it
pub record Writes (P : List ℕ → Type 0) (old new : Output) : Type 0 where
  pub written : List ℕ
  pub held : Appends old new written
  pub holds : P written
