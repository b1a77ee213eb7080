-- How many blocks a collection needs at most.
use Rattle.std.specs.Prelude.{ℕ, ◌+◌, ◌-◌, ◌*◌, ◌/◌}

-- for so many words of small live objects, in blocks of w words, with n workers and d destinations
abbrev pub space_bound : (words w n d : ℕ) → ℕ
space_bound words w n d = words / (w - w / 4 + 1) + n * d
