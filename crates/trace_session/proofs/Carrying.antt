-- What carrying out the first lines of a text does, whatever follows the text.
use Rattle.std.proofs.Common.{◌≡◌, ℕ, ◌+◌, List, ◌++◌, take, Some}
use Rattle.std.specs.Prelude.{drop}
use Rattle.heap_text.specs.Streams.{Output, Appends}
use Rattle.model.specs.declared.kind.Kind.{Kind}
use Rattle.model.specs.Config.{Config}
use Rattle.model.specs.Store.{Store}
use Rattle.trace_session.specs.Pieces.{pieces}
use Rattle.trace_session.specs.Outcome.{after, outcome_from}

-- from line `number` on at a store, so many lines of the text print out and leave another store and the rest
pub record Carried (config : Config) (number : ℕ) (store : Store) (text out : List ℕ) (lines : ℕ) (store' : Store) (rest : List ℕ) : Type 0 where
  pub each : (k : ℕ) (more : List ℕ) → outcome_from config number store (take (lines + k) (pieces (text ++ more))) ≡ after out (outcome_from config (number + lines) store' (take k (pieces (rest ++ more))))
  pub left : (more : List ℕ) → drop lines (pieces (text ++ more)) ≡ pieces (rest ++ more)

pub record CarriesOut (config : Config) (number : ℕ) (store : Store) (text : List ℕ) (number' : ℕ) (store' : Store) (rest : List ℕ) (old new : Output) : Type 0 where
  pub out : List ℕ
  pub lines : ℕ
  pub number_is : number' ≡ number + lines
  pub held : Appends old new out
  pub carried : Carried config number store text out lines store' rest

-- the fault is in a line of the text, and the lines before are printed
pub record StopsAt (config : Config) (number : ℕ) (store : Store) (text : List ℕ) (line : ℕ) (kind : Kind) (old new : Output) : Type 0 where
  pub out : List ℕ
  pub store' : Store
  pub held : Appends old new out
  pub stops : (more : List ℕ) → outcome_from config number store (pieces (text ++ more)) ≡ record { store = store'; output = out; fault = Some (line, kind) }

-- the lines before the rest were carried out and printed, and the store then passes the test
pub record CarriesOutTo (stands : Config → Store → Type 0) (config : Config) (number : ℕ) (store : Store) (text : List ℕ) (number' : ℕ) (rest : List ℕ) (old new : Output) : Type 0 where
  pub next : Store
  pub stands' : stands config next
  pub carries : CarriesOut config number store text number' next rest old new
