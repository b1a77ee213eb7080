-- A pool as the numbers of its free blocks.
pub use Rattle.block_pool.specs.Members.{numbers_below, without, insert_rising}
use Rattle.std.specs.Prelude.{ℕ, List, refl}
use Rattle.std.specs.Coded.{Coded, code_by, coded×, coded_list, coded_ℕ}

pub record PoolValue : Type 0 where
  -- block numbers are below this
  pub limit : ℕ
  -- the free blocks, in rising order
  pub free : List ℕ

abbrev pub pool_code : Coded PoolValue
pool_code =
    code_by (ℕ × List ℕ) (coded× coded_ℕ (coded_list coded_ℕ)) (λ p. (p.limit, p.free)) (λ p. record { limit = p.0; free = p.1 }) (λ _. refl)
