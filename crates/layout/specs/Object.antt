-- An object as the words that it holds.
use Rattle.std.specs.Prelude.{ℕ, ◌+◌, List, length, refl}
use Rattle.std.specs.Coded.{Coded, code_by, coded×, coded_list, coded_ℕ}

-- the words of an object's pointers, and its plain words
pub record Raw : Type 0 where
  pub pointers : List ℕ
  pub plain : List ℕ

abbrev pub raw_code : Coded Raw
raw_code =
    code_by (List ℕ × List ℕ) (coded× (coded_list coded_ℕ) (coded_list coded_ℕ)) (λ o. (o.pointers, o.plain)) (λ p. record { pointers = p.0; plain = p.1 }) (λ _. refl)

-- how many words an object takes, its header among them
abbrev pub raw_size : Raw → ℕ
raw_size object = 1 + length object.pointers + length object.plain
