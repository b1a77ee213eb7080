-- What contracts see of the settings of a run.
use Rattle.std.specs.Prelude.{◌≡◌, ℕ, Bool, true, false, refl}
use Rattle.std.specs.Coded.{Coded, code_by, coded×, coded_ℕ, coded_bool}
use Rattle.model.specs.Config.{Config, config_code}
use Rattle.collector.specs.declared.apart.CellKind.{CellKind}
use Rattle.collector.specs.declared.apart.CellKind.TheVariants.{Box, Word}

-- the heap's sizes, how many workers collect, their cells, how many bytes one read asks for, and the seed by which names are hashed
pub record RunValue : Type 0 where
  pub config : Config
  pub workers : ℕ
  pub kind : CellKind
  pub piece : ℕ
  pub seed : ℕ

-- the kinds of cells by a test
abbrev pub is_word : CellKind → Bool
is_word Box = false
is_word Word = true

abbrev pub kind_by : Bool → CellKind
kind_by false = Box
kind_by true = Word

-- and the code gives them back
pub same_run : (config : Config) (workers : ℕ) (kind : CellKind) (piece seed : ℕ) → ◌≡◌ {A = RunValue} (record { config = config; workers = workers; kind = kind_by (is_word kind); piece = piece; seed = seed }) (record { config = config; workers = workers; kind = kind; piece = piece; seed = seed })
same_run config workers Box piece seed = refl
same_run config workers Word piece seed = refl

abbrev pub run_code : Coded RunValue
run_code =
    code_by (Config × (ℕ × (Bool × (ℕ × ℕ)))) (coded× config_code (coded× coded_ℕ (coded× coded_bool (coded× coded_ℕ coded_ℕ)))) (λ r. (r.config, (r.workers, (is_word r.kind, (r.piece, r.seed)))))
    (λ p. record { config = p.0; workers = p.1.0; kind = kind_by p.1.1.0; piece = p.1.1.1.0; seed = p.1.1.1.1 })
    (λ r. same_run r.config r.workers r.kind r.piece r.seed)
