-- A nursery's room as data, by which a proof tells two of them apart.
use Rattle.std.specs.Prelude.{ℕ, refl}
use Rattle.std.specs.Coded.{Coded, code_by, coded×, coded_ℕ}
use Rattle.model.specs.Room.{Room}

abbrev pub room_code : Coded Room
room_code = code_by (ℕ × ℕ) (coded× coded_ℕ coded_ℕ) (λ r. (r.left, r.used)) (λ p. record { left = p.0; used = p.1 }) (λ _. refl)
