-- The sizes of a heap.
use Rattle.std.specs.Prelude.{ℕ, refl}
use Rattle.std.specs.Coded.{Coded, code_by, coded×, coded_ℕ}
use Rattle.model.specs.Destination.{Shape}

-- words of a block, blocks in all, mutators, nursery blocks of each, generations and steps
pub record Config : Type 0 where
  pub block_words : ℕ
  pub blocks : ℕ
  pub mutators : ℕ
  pub nursery_blocks : ℕ
  pub shape : Shape

abbrev pub config_code : Coded Config
config_code =
    code_by
    (ℕ × (ℕ × (ℕ × (ℕ × (ℕ × ℕ)))))
    (coded× coded_ℕ (coded× coded_ℕ (coded× coded_ℕ (coded× coded_ℕ (coded× coded_ℕ coded_ℕ)))))
    (λ c. (c.block_words, (c.blocks, (c.mutators, (c.nursery_blocks, (c.shape.generations, c.shape.steps))))))
    (λ p. record { block_words = p.0; blocks = p.1.0; mutators = p.1.1.0; nursery_blocks = p.1.1.1.0; shape = record { generations = p.1.1.1.1.0; steps = p.1.1.1.1.1 } })
    (λ _. refl)
