-- Where pointers lead once each live object has a place.
use Rattle.std.specs.Prelude.{◌≡◌, ℕ, List, Option, Some, None, if◌then◌else◌, map}
use Rattle.workers.specs.Setting.{Setting, is_collected, old_pointers}

-- what a pointer that held this holds in the end
abbrev pub new_pointer : Setting → (ℕ → Option ℕ) → Option ℕ → Option ℕ
new_pointer setting f None = None
new_pointer setting f (Some t) = if is_collected setting t then f t else Some t

abbrev pub new_pointers : Setting → (ℕ → Option ℕ) → ℕ → List (Option ℕ)
new_pointers setting f name = map (new_pointer setting f) (old_pointers setting name)

abbrev pub IsPair : (ℕ → Option ℕ) → ℕ × ℕ → Type 0
IsPair f p = f p.0 ≡ Some p.1
