-- What a source gave, and what a sink took.
use Rattle.std.specs.Prelude.{◌≡◌, ℕ, ◌⊎◌, Bool, IsTrue, List, [], ◌++◌, Option, IfSome}
use Rattle.std.specs.Io.KnownBytes as known

-- what is known of a source: the bytes that its reads gave so far, whether the last read gave none, which is the end, and the bytes that are left, where they are known
pub record Input : Type 0 where
  pub given : List ℕ
  pub ended : Bool
  pub remaining : Option (List ℕ)

-- what is known of a sink: the bytes that its writes took so far, and those that it holds, where they are known
pub record Output : Type 0 where
  pub taken : List ℕ
  pub contents : Option (List ℕ)

-- between two moments reads gave these bytes, which went from what was left; where the last read gave none, they were all of it
pub record Gives (old new : Input) (bytes : List ℕ) : Type 0 where
  pub given : new.given ≡ old.given ++ bytes
  pub left : known.Consumes old.remaining new.remaining bytes
  pub end : IsTrue new.ended → IsTrue old.ended ⊎ IfSome old.remaining (λ left. left ≡ bytes)

-- writes took these bytes, which came to what was held
pub record Appends (old new : Output) (bytes : List ℕ) : Type 0 where
  pub taken : new.taken ≡ old.taken ++ bytes
  pub held : known.Appends old.contents new.contents bytes

-- writes took a front of these bytes
pub record AppendsFront (old new : Output) (bytes : List ℕ) : Type 0 where
  pub front : List ℕ
  pub rest : List ℕ
  pub bytes_are : bytes ≡ front ++ rest
  pub took : Appends old new front

-- P of what was there and of what reads gave after it
pub record OfGiven (front : List ℕ) (old new : Input) (P : List ℕ → Type 0) : Type 0 where
  pub bytes : List ℕ
  pub gave : Gives old new bytes
  pub holds : P (front ++ bytes)

-- P of each text that begins with what was there and what reads gave after it, and that goes no further where they came to the end
pub record OfInput (front : List ℕ) (old new : Input) (P : List ℕ → Type 0) : Type 0 where
  pub bytes : List ℕ
  pub gave : Gives old new bytes
  pub holds : (more : List ℕ) → (IsTrue new.ended → more ≡ []) → P (front ++ (bytes ++ more))
