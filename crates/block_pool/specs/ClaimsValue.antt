-- A draw counter and its seats, as callers see them.
use Rattle.std.specs.Prelude.{◌≡◌, ℕ, Bool, false, List, [], refl}
use Rattle.std.specs.List.{flat_map, list_any}
use Rattle.std.specs.Coded.{Coded, code_by, coded×, coded_list, coded_ℕ, coded_bool}
use Rattle.atomic_table.specs.Seated.{TableId, table_id_coded}

-- what so many seats draw from: a free list, under a name that no other claims have
pub record Source : Type 0 where
  pub name : TableId
  pub free : List ℕ
  pub seats : ℕ

-- the counter as contracts see it
pub record ClaimsValue : Type 0 where
  pub source : Source

-- a seat as contracts see it
pub record SeatValue : Type 0 where
  -- what its claims draw from
  pub source : Source
  -- the numbers that it drew, in order
  pub drawn : List ℕ
  -- whether it found none left
  pub out : Bool

abbrev pub source_code : Coded Source
source_code =
    code_by (TableId × (List ℕ × ℕ)) (coded× table_id_coded (coded× (coded_list coded_ℕ) coded_ℕ)) (λ s. (s.name, (s.free, s.seats))) (λ p. record { name = p.0; free = p.1.0; seats = p.1.1 }) (λ _. refl)

abbrev pub claims_code : Coded ClaimsValue
claims_code = code_by Source source_code (λ c. c.source) (λ s. record { source = s }) (λ _. refl)

abbrev pub seat_code : Coded SeatValue
seat_code =
    code_by (Source × (List ℕ × Bool)) (coded× source_code (coded× (coded_list coded_ℕ) coded_bool)) (λ s. (s.source, (s.drawn, s.out))) (λ p. record { source = p.0; drawn = p.1.0; out = p.1.1 }) (λ _. refl)

-- a seat with which nothing was drawn
abbrev pub unused : Source → SeatValue
unused source = record { source = source; drawn = []; out = false }

-- the seat belongs to claims that draw from here
abbrev pub IsSeatOf : Source → SeatValue → Type 0
IsSeatOf source seat = seat.source ≡ source

-- what the seats drew, one seat after the other
abbrev pub all_drawn : List SeatValue → List ℕ
all_drawn seats = flat_map (λ s. s.drawn) seats

-- whether any seat found none left
abbrev pub any_out : List SeatValue → Bool
any_out seats = list_any (λ s. s.out) seats
