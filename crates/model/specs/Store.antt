-- Objects by fixed names, and what trace names lead to.
use Rattle.std.specs.Prelude.{ℕ, ◌+◌, ◌-◌, Bool, false, List, [], ◌∷◌, ◌++◌, length, map, filter, filter_map, flat_map, Option, Some, None, nat_lt, nat_le, if◌then◌else◌, slice_get, replicate, count_by, option_and_then}
use Rattle.std.specs.Option.{option_map_or}
use Rattle.model.specs.Graph.{Object}
use Rattle.model.specs.Destination.{Shape, dest}
use Rattle.model.specs.Reached.{reached_list, has}
use Rattle.model.specs.Config.{Config}
use Rattle.model.specs.Room.{Room, full_room}
use Rattle.model.specs.Census.{Census, census_of}

-- an object's name is its place in the list, and a removed one leaves a gap; trace names rise in byte order
pub record Store : Type 0 where
  pub objects : List (Option Object)
  pub names : List (List ℕ × ℕ)
  pub rooms : List Room

abbrev pub full_rooms : Config → List Room
full_rooms config = replicate config.mutators (full_room config.nursery_blocks)

abbrev pub empty_store : Config → Store
empty_store config = record { objects = []; names = []; rooms = full_rooms config }

abbrev pub object_at : Store → ℕ → Option Object
object_at store name = option_and_then (λ o. o) (slice_get store.objects name)

-- the objects that are there
abbrev pub present : Store → List Object
present store = filter_map (λ o. o) store.objects

abbrev pub is_young_at : Store → ℕ → ℕ → Bool
is_young_at store g name = option_map_or (λ o. nat_le o.generation g) (object_at store name) false

abbrev pub some_of : Option ℕ → List ℕ
some_of None = []
some_of (Some name) = name ∷ []

-- what an object points to, in order
abbrev pub targets : Object → List ℕ
targets o = flat_map some_of o.pointers

abbrev pub targets_of : Store → ℕ → List ℕ
targets_of store name = option_map_or targets (object_at store name) []

-- what objects older than g point to
abbrev pub old_targets : ℕ → List Object → List ℕ
old_targets g objects = flat_map targets (filter (λ o. nat_lt g o.generation) objects)

-- what a collection of the generations 0 to g keeps of them
abbrev pub live_list : Store → ℕ → List ℕ
live_list store g =
    reached_list (λ name. filter (is_young_at store g) (targets_of store name)) (length store.objects)
    (filter (is_young_at store g) (map (λ e. e.1) store.names ++ old_targets g (present store)))

abbrev pub moved : Shape → Object → Object
moved shape o = record o { generation = (dest shape (o.generation, o.step)).0; step = (dest shape (o.generation, o.step)).1 }

abbrev pub kept_or_gone : Shape → ℕ → Bool → Option Object → Option Object
kept_or_gone shape g live None = None
kept_or_gone shape g live (Some o) = if nat_le o.generation g then (if live then Some (moved shape o) else None) else Some o

-- from a name on
abbrev pub survivors : Shape → ℕ → List ℕ → ℕ → List (Option Object) → List (Option Object)
survivors shape g live name [] = []
survivors shape g live name (o ∷ objects) = kept_or_gone shape g (has live name) o ∷ survivors shape g live (name + 1) objects

-- the store after a collection of the generations 0 to g
abbrev pub collected : Config → ℕ → Store → Store
collected config g store =
    record store { objects = survivors config.shape g (live_list store g) 0 store.objects; rooms = full_rooms config }

abbrev pub kept_count : Store → ℕ → ℕ
kept_count store g = length (live_list store g)

abbrev pub freed_count : Store → ℕ → ℕ
freed_count store g = count_by (λ o. nat_le o.generation g) (present store) - kept_count store g

abbrev pub store_census : Config → Store → Census
store_census config store = census_of config (object_at store) (present store) (length store.names)
