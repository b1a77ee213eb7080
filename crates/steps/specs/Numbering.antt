-- What contracts see of how the objects of a collection are numbered.
use Rattle.std.specs.Prelude.{ℕ, List, refl}
use Rattle.std.specs.Coded.{Coded, code_by, coded×, coded_ℕ, coded_list}

-- how many objects stand before each block, and before each large object
pub record NumberingValue : Type 0 where
  pub blocks : List ℕ
  pub large : List ℕ

abbrev pub numbering_code : Coded NumberingValue
numbering_code =
    code_by (List ℕ × List ℕ) (coded× (coded_list coded_ℕ) (coded_list coded_ℕ))
    (λ n. (n.blocks, n.large))
    (λ p. record { blocks = p.0; large = p.1 })
    (λ _. refl)
