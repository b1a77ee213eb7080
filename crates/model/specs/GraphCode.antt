-- Objects and graphs as data, by which a proof tells two of them apart.
use Rattle.std.specs.Prelude.{ℕ, List, Option, refl}
use Rattle.std.specs.Ordering.{nat_cmp}
use Rattle.std.specs.FinMap.{FinMap, code}
use Rattle.std.specs.Coded.{Coded, code_by, coded×, coded_ℕ, coded_list, coded_option}
use Rattle.model.specs.Graph.{Graph, Object}

abbrev pub object_code : Coded Object
object_code =
    code_by
    (List (Option ℕ) × (List ℕ × (ℕ × ℕ)))
    (coded× (coded_list (coded_option coded_ℕ)) (coded× (coded_list coded_ℕ) (coded× coded_ℕ coded_ℕ)))
    (λ o. (o.pointers, (o.plain, (o.generation, o.step))))
    (λ p. record { pointers = p.0; plain = p.1.0; generation = p.1.1.0; step = p.1.1.1 })
    (λ _. refl)

abbrev pub graph_code : Coded Graph
graph_code =
    code_by
    (FinMap nat_cmp Object × FinMap nat_cmp ℕ)
    (coded× (code coded_ℕ object_code) (code coded_ℕ coded_ℕ))
    (λ g. (g.objects, g.roots))
    (λ p. record { objects = p.0; roots = p.1 })
    (λ _. refl)
