-- A set of numbers below a limit, and what changes it.
use Rattle.std.specs.Prelude.{ℕ, ◌+◌, Bool, cond, not, nat_eq, nat_lt, List, [], ◌∷◌, refl}
use Rattle.std.specs.List.{filter, range_with_len}
use Rattle.std.specs.Coded.{Coded, code_by, coded×, coded_list, coded_ℕ}

pub record NumberSetValue : Type 0 where
  -- the members are below this
  pub limit : ℕ
  -- the members, in rising order
  pub members : List ℕ

abbrev pub number_set_code : Coded NumberSetValue
number_set_code =
    code_by (ℕ × List ℕ) (coded× coded_ℕ (coded_list coded_ℕ)) (λ s. (s.limit, s.members)) (λ p. record { limit = p.0; members = p.1 }) (λ _. refl)

-- 0, 1 and so on, below a limit
abbrev pub numbers_below : ℕ → List ℕ
numbers_below limit = range_with_len 0 limit

-- the numbers, in their order, that differ from this one
abbrev pub without : ℕ → List ℕ → List ℕ
without number numbers = filter (λ n. not (nat_eq n number)) numbers

-- rising numbers with one more at its place
abbrev pub insert_rising : ℕ → List ℕ → List ℕ
insert_rising number [] = number ∷ []
insert_rising number (n ∷ ns) = cond (nat_lt number n) (number ∷ n ∷ ns) (n ∷ insert_rising number ns)

-- the numbers, counted from the first on, at which a flag is set
abbrev pub set_from : ℕ → List Bool → List ℕ
set_from first [] = []
set_from first (flag ∷ flags) = cond flag (first ∷ set_from (first + 1) flags) (set_from (first + 1) flags)
