-- What a collection leaves: the live objects at new names, and nothing else of the generations collected.
use Rattle.std.specs.Prelude.{◌≡◌, ℕ, ◌⊎◌, List, map, Option, Some, IsTrue, unwrap_or}
use Rattle.std.specs.Option.{option_map}
use Rattle.std.specs.Ordering.{nat_cmp}
use Rattle.std.specs.FinMap.{find}
use Rattle.model.specs.Graph.{Graph, Object, object_at, root_at, is_large}
use Rattle.model.specs.Live.{Live, IsOlder}
use Rattle.model.specs.Destination.{Shape, dest}

-- the new name of each name; a name that is not listed stays
abbrev pub renamed : List (ℕ × ℕ) → ℕ → ℕ
renamed places name = unwrap_or (find nat_cmp name places) name

abbrev pub kept_at : ℕ × ℕ → List (Option ℕ) → Object → Object
kept_at at pointers object = record { pointers = pointers; plain = object.plain; generation = at.0; step = at.1 }

-- the object as it is after the collection, standing at (generation, step)
abbrev pub moved_to : List (ℕ × ℕ) → ℕ × ℕ → Object → Object
moved_to places at object = kept_at at (map (option_map (renamed places)) object.pointers) object

-- an object that the collection keeps
abbrev pub IsLiveOrOlder : Graph → ℕ → ℕ → Type 0
IsLiveOrOlder graph g name = Live graph g name ⊎ IsOlder graph g name

-- one to one on what is kept, defined exactly on the live objects, the identity on large ones
pub record Renaming (block_words : ℕ) (old : Graph) (g : ℕ) (places : List (ℕ × ℕ)) : Type 0 where
  pub only_live : (name place : ℕ) → find nat_cmp name places ≡ Some place → Live old g name
  pub all_live : (name : ℕ) → Live old g name → (place : ℕ) × (find nat_cmp name places ≡ Some place)
  pub one_to_one : (a b : ℕ) → IsLiveOrOlder old g a → IsLiveOrOlder old g b → renamed places a ≡ renamed places b → a ≡ b
  pub large_stays : (name : ℕ) (o : Object) → Live old g name → object_at old name ≡ Some o → IsTrue (is_large block_words o) → renamed places name ≡ name

-- new is what a collection of the generations 0 to g leaves of old, renamed by places
pub record Collected (shape : Shape) (block_words : ℕ) (old : Graph) (g : ℕ) (places : List (ℕ × ℕ)) (new : Graph) : Type 0 where
  pub renaming : Renaming block_words old g places
  pub live : (name : ℕ) (o : Object) → Live old g name → object_at old name ≡ Some o → object_at new (renamed places name) ≡ Some (moved_to places (dest shape (o.generation, o.step)) o)
  pub older : (name : ℕ) (o : Object) → IsOlder old g name → object_at old name ≡ Some o → object_at new name ≡ Some (moved_to places (o.generation, o.step) o)
  pub no_others : (place : ℕ) (o : Object) → object_at new place ≡ Some o → (name : ℕ) × IsLiveOrOlder old g name × (renamed places name ≡ place)
  pub roots : (root : ℕ) → root_at new root ≡ option_map (renamed places) (root_at old root)
