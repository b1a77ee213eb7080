-- Sets that had members noted.
use Rattle.std.specs.Prelude.{◌≡◌, ℕ, List, ◌++◌, length}
use Rattle.remembered_set.specs.Sets.{members_of}

-- as many sets, and each has the members that it had, and maybe more after them
pub record AreGrown (old new : List (List ℕ)) : Type 0 where
  pub generations : length new ≡ length old
  pub more : (h : ℕ) → (noted_since : List ℕ) × (members_of new h ≡ members_of old h ++ noted_since)
