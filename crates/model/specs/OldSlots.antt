-- The pointers of older objects into the generations that are collected, in the order in which workers take them.
use Rattle.std.specs.Prelude.{ℕ, ◌+◌, ◌-◌, Bool, false, List, [], ◌∷◌, ◌++◌, map, flat_map, filter, Option, Some, None, nat_le, nat_eq}
use Rattle.std.specs.Option.{option_map_or}
use Rattle.std.specs.FinMap.{entries}
use Rattle.model.specs.Graph.{Graph, object_at}
use Rattle.model.specs.Destination.{numbers_from}

-- a field and what it leads to
pub record Slot : Type 0 where
  pub holder : ℕ
  pub field : ℕ
  pub target : ℕ

abbrev pub is_young_name : Graph → ℕ → ℕ → Bool
is_young_name graph g name = option_map_or (λ o. nat_le o.generation g) (object_at graph name) false

-- the fields from i on that lead to an object of generation at most g
abbrev pub slots_of_fields : Graph → ℕ → ℕ → ℕ → List (Option ℕ) → List Slot
slots_of_fields graph g holder i [] = []
slots_of_fields graph g holder i (None ∷ fields) = slots_of_fields graph g holder (i + 1) fields
slots_of_fields graph g holder i (Some target ∷ fields) =
    map (λ t. record { holder = holder; field = i; target = t }) (filter (is_young_name graph g) (target ∷ []))
    ++ slots_of_fields graph g holder (i + 1) fields

abbrev pub slots_of_generation : Graph → ℕ → ℕ → List Slot
slots_of_generation graph g h =
    flat_map (λ e. slots_of_fields graph g e.0 0 e.1.pointers) (filter (λ e. nat_eq e.1.generation h) (entries graph.objects))

-- by the generation of the holder, then its place, then the field
abbrev pub old_slots : Graph → (generations g : ℕ) → List Slot
old_slots graph generations g = flat_map (slots_of_generation graph g) (numbers_from (g + 1) (generations - 1 - g))
