-- A slot as numbers and words.
use Rattle.layout.specs.Place.{place_word}
use Rattle.steps.specs.declared.heap_values.collection.Slot.{Slot}
use Rattle.steps.specs.declared.heap_values.collection.Slot.TheVariants.{Root, Field}
use Rattle.steps.specs.CollectionValue.{SlotValue, root_slot, field_slot}

abbrev pub slot_value : Slot → SlotValue
slot_value (Root root target) = root_slot root.number (place_word target)
slot_value (Field holder field target) = field_slot (place_word holder) field (place_word target)
