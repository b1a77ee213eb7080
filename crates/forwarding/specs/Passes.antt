-- Passes of cells that threads share, by the number of the worker.
use Rattle.std.specs.Prelude.{◌≡◌, ℕ, List, Some, slice_get}
use Rattle.forwarding.specs.Noted.{NotedValue, IsPassOf}

-- F holds of each element, with its place
abbrev pub AtEach : {X : Type 0} → (ℕ → X → Type 0) → List X → Type 0
AtEach {X} F xs = (i : ℕ) (x : X) → slice_get xs i ≡ Some x → F i x

-- the pass of worker i, whose number is i
pub record IsBoxPass (cells : List ℕ) (i : ℕ) (p : NotedValue) : Type 0 where
  pub of : IsPassOf cells p
  pub number : p.number ≡ i
