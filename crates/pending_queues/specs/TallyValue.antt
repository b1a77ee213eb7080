-- A tally and its seats, as callers see them.
use Rattle.std.specs.Prelude.{ℕ, ◌+◌, max, refl}
use Rattle.std.specs.Coded.{Coded, code_by, coded×, coded_ℕ}
use Rattle.atomic_table.specs.Seated.{TableId, table_id_coded}

pub record TallyValue : Type 0 where
  -- what no other tally has
  pub name : TableId
  -- how many seats there are
  pub seats : ℕ

pub record TallySeatValue : Type 0 where
  -- the tally that it belongs to
  pub name : TableId
  -- how many of the tally's parts it has. Each seat that is made has one
  pub parts : ℕ
  -- how often it raised the tally
  pub raised : ℕ
  -- the greatest count that it has read, or 0
  pub seen : ℕ

abbrev pub tally_code : Coded TallyValue
tally_code = code_by (TableId × ℕ) (coded× table_id_coded coded_ℕ) (λ t. (t.name, t.seats)) (λ p. record { name = p.0; seats = p.1 }) (λ _. refl)

abbrev pub tally_seat_code : Coded TallySeatValue
tally_seat_code =
    code_by (TableId × (ℕ × (ℕ × ℕ))) (coded× table_id_coded (coded× coded_ℕ (coded× coded_ℕ coded_ℕ))) (λ s. (s.name, (s.parts, (s.raised, s.seen))))
    (λ p. record { name = p.0; parts = p.1.0; raised = p.1.1.0; seen = p.1.1.1 }) (λ _. refl)

-- a seat that has not raised the tally, nor read it
abbrev pub unraised : TableId → TallySeatValue
unraised name = record { name = name; parts = 1; raised = 0; seen = 0 }

-- what two seats say together
abbrev pub both_seats : TallySeatValue → TallySeatValue → TallySeatValue
both_seats s t = record s { parts = s.parts + t.parts; raised = s.raised + t.raised; seen = max s.seen t.seen }
