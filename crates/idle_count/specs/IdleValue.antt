-- A count of idle seats and the seats, as callers see them.
use Rattle.std.specs.Prelude.{◌≡◌, ℕ, Bool, false, refl}
use Rattle.std.specs.Coded.{Coded, code_by, coded×, coded_ℕ, coded_bool}
use Rattle.atomic_table.specs.Seated.{TableId, table_id_coded}

-- the count as contracts see it
pub record IdleValue : Type 0 where
  -- what no other count has
  pub name : TableId
  -- how many seats there are
  pub seats : ℕ

-- a seat as contracts see it
pub record IdleSeatValue : Type 0 where
  -- the count that it belongs to, and how many seats that has
  pub name : TableId
  pub seats : ℕ
  -- whether it is idle
  pub idle : Bool
  -- how many were idle when it last looked, itself among them, or 0
  pub seen : ℕ
  -- how many steps it took on the count
  pub steps : ℕ

abbrev pub idle_code : Coded IdleValue
idle_code = code_by (TableId × ℕ) (coded× table_id_coded coded_ℕ) (λ i. (i.name, i.seats)) (λ p. record { name = p.0; seats = p.1 }) (λ _. refl)

abbrev pub idle_seat_code : Coded IdleSeatValue
idle_seat_code = code_by (TableId × (ℕ × (Bool × (ℕ × ℕ)))) (coded× table_id_coded (coded× coded_ℕ (coded× coded_bool (coded× coded_ℕ coded_ℕ))))
    (λ s. (s.name, (s.seats, (s.idle, (s.seen, s.steps))))) (λ p. record { name = p.0; seats = p.1.0; idle = p.1.1.0; seen = p.1.1.1.0; steps = p.1.1.1.1 }) (λ _. refl)

-- a new seat, which is not idle
abbrev pub busy : IdleValue → IdleSeatValue
busy count = record { name = count.name; seats = count.seats; idle = false; seen = 0; steps = 0 }

-- the seat belongs to this count
pub record IsSeatOf (count : IdleValue) (seat : IdleSeatValue) : Type 0 where
  pub name : seat.name ≡ count.name
  pub seats : seat.seats ≡ count.seats

-- the seat has seen that all seats are idle
abbrev pub HasEnded : IdleSeatValue → Type 0
HasEnded seat = seat.seen ≡ seat.seats
