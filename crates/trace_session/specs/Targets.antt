-- What a pointer is set to, by a name or nil.
use Rattle.std.specs.Prelude.{◌≡◌, ℕ, List, Option, Some, None}
use Rattle.trace_session.specs.NamesView.{named}

-- nil and no root, or the root of the name
abbrev pub IsRootOf : List (List ℕ × ℕ) → Option (List ℕ) → Option ℕ → Type 0
IsRootOf names None root = root ≡ None
IsRootOf names (Some text) root = (number : ℕ) × ((root ≡ Some number) × (named names text ≡ Some number))

-- a name that is not in use
abbrev pub IsUnknown : List (List ℕ × ℕ) → Option (List ℕ) → Type 0
IsUnknown names None = ⊥
IsUnknown names (Some text) = named names text ≡ None
