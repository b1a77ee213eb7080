-- Stores as data.
use Rattle.std.specs.Prelude.{ℕ, List, Option, refl}
use Rattle.std.specs.Coded.{Coded, code_by, coded×, coded_ℕ, coded_list, coded_option}
use Rattle.model.specs.Graph.{Object}
use Rattle.model.specs.GraphCode.{object_code}
use Rattle.model.specs.Room.{Room}
use Rattle.model.specs.Store.{Store}
use Rattle.reference.specs.RoomCode.{room_code}

abbrev pub store_code : Coded Store
store_code =
    code_by
    (List (Option Object) × (List (List ℕ × ℕ) × List Room))
    (coded× (coded_list (coded_option object_code)) (coded× (coded_list (coded× (coded_list coded_ℕ) coded_ℕ)) (coded_list room_code)))
    (λ s. (s.objects, (s.names, s.rooms)))
    (λ p. record { objects = p.0; names = p.1.0; rooms = p.1.1 })
    (λ _. refl)
