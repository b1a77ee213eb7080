-- A census as data.
use Rattle.std.specs.Prelude.{ℕ, List, refl}
use Rattle.std.specs.Coded.{Coded, code_by, coded×, coded_ℕ, coded_list}
use Rattle.model.specs.Census.{Census, StepCount}

abbrev pub step_code : Coded StepCount
step_code =
    code_by (ℕ × (ℕ × (ℕ × ℕ))) (coded× coded_ℕ (coded× coded_ℕ (coded× coded_ℕ coded_ℕ)))
    (λ c. (c.generation, (c.step, (c.objects, c.words)))) (λ p. record { generation = p.0; step = p.1.0; objects = p.1.1.0; words = p.1.1.1 }) (λ _. refl)

abbrev pub census_code : Coded Census
census_code =
    code_by (List StepCount × (ℕ × (ℕ × (ℕ × ℕ)))) (coded× (coded_list step_code) (coded× coded_ℕ (coded× coded_ℕ (coded× coded_ℕ coded_ℕ))))
    (λ c. (c.steps, (c.large_objects, (c.large_words, (c.roots, c.remembered)))))
    (λ p. record { steps = p.0; large_objects = p.1.0; large_words = p.1.1.0; roots = p.1.1.1.0; remembered = p.1.1.1.1 }) (λ _. refl)
