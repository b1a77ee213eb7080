-- What contracts see of the memory that is kept from one collection for the next.
use Rattle.std.specs.Prelude.{ℕ, Option, Some, None}

-- how many blocks it has, for how many it has room, the words of eight bytes for which there is room in the memory of cells, and for
-- how many workers it has lists. What stands in them has no meaning
pub record SpareValue : Type 0 where
  pub blocks : ℕ
  pub room : ℕ
  pub cells : ℕ
  pub lists : ℕ

-- no memory
abbrev pub no_spare : SpareValue
no_spare = record { blocks = 0; room = 0; cells = 0; lists = 0 }

-- the count of what is there, or 0 where nothing is
abbrev pub count_in : {X : Type 0} → (X → ℕ) → Option X → ℕ
count_in count None = 0
count_in count (Some x) = count x
