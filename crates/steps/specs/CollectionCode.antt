-- A collection as data.
use Rattle.std.specs.Prelude.{ℕ, List, refl}
use Rattle.std.specs.Coded.{Coded, code_by, coded×, coded⊎, coded_ℕ, coded_list}
use Rattle.std.specs.Prelude.{◌⊎◌}
use Rattle.std.proofs.Common.{inl, inr, ◌≡◌}
use Rattle.steps.specs.Numbering.{NumberingValue, numbering_code}
use Rattle.steps.specs.CollectionValue.{SlotValue, root_slot, field_slot, CollectionValue}

abbrev to_sum : SlotValue → (ℕ × ℕ) ⊎ (ℕ × (ℕ × ℕ))
to_sum (root_slot root target) = inl (root, target)
to_sum (field_slot holder field target) = inr (holder, (field, target))

abbrev from_sum : (ℕ × ℕ) ⊎ (ℕ × (ℕ × ℕ)) → SlotValue
from_sum (inl p) = root_slot p.0 p.1
from_sum (inr p) = field_slot p.0 p.1.0 p.1.1

abbrev back : (s : SlotValue) → from_sum (to_sum s) ≡ s
back (root_slot root target) = refl
back (field_slot holder field target) = refl

abbrev pub slot_code : Coded SlotValue
slot_code = code_by ((ℕ × ℕ) ⊎ (ℕ × (ℕ × ℕ))) (coded⊎ (coded× coded_ℕ coded_ℕ) (coded× coded_ℕ (coded× coded_ℕ coded_ℕ))) to_sum from_sum back

abbrev pub collection_code : Coded CollectionValue
collection_code =
    code_by (ℕ × (List SlotValue × (List ℕ × (NumberingValue × ℕ)))) (coded× coded_ℕ (coded× (coded_list slot_code) (coded× (coded_list coded_ℕ) (coded× numbering_code coded_ℕ))))
    (λ c. (c.generation, (c.slots, (c.free, (c.numbering, c.cells)))))
    (λ p. record { generation = p.0; slots = p.1.0; free = p.1.1.0; numbering = p.1.1.1.0; cells = p.1.1.1.1 })
    (λ _. refl)
