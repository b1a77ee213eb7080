-- Objects that may point to a younger one and are members of the set of their generation. `youngest` is a generation below which
-- nothing stands when the collection has ended, and `lowest` says of each block's number a generation below which nothing stands in it.
use Rattle.std.specs.Prelude.{◌≡◌, ℕ, ◌+◌, ◌<◌, ◌≤◌, List, length, Option, Some, None, IsTrue, IsSome, is_some, slice_index_or, All}
use Rattle.std.specs.List.{list_any}
use Rattle.std.specs.FinMap.{get}
use Rattle.model.specs.Graph.{Object}
use Rattle.model.specs.Destination.{dest}
use Rattle.model.specs.Reached.{has}
use Rattle.layout.specs.declared.place.Place.{Place}
use Rattle.layout.specs.Place.{large_word}
use Rattle.block_pool.specs.BlockValue.{BlockValue}
use Rattle.steps.specs.BlockObjects.{block_objects}
use Rattle.heap_objects.specs.Objects.{ObjectsValue}
use Rattle.heap_objects.specs.Collecting.{IsNumbered, at_step}
use Rattle.remembered_set.specs.Sets.{members_of}
use Rattle.heap.specs.Lowest.{AreLowest, MayLeadYounger}

-- the object is a member where it is of an older generation than the youngest and has such a pointer
abbrev pub IsNoted : Type 0 → ℕ → List (List ℕ) → ℕ × Object → Type 0
IsNoted has_pointer youngest sets e = youngest < e.1.generation → e.1.generation < length sets → has_pointer → IsTrue (has (members_of sets e.1.generation) e.0)

-- a copy: a pointer that may lead to a younger object
abbrev pub IsCopyNoted : (ℕ → ℕ) → ℕ → List (List ℕ) → ℕ × Object → Type 0
IsCopyNoted lowest youngest sets e = IsNoted (MayLeadYounger lowest e.1.generation e.1.pointers) youngest sets e

abbrev pub AreNoted : (ℕ → ℕ) → ℕ → List (List ℕ) → List (ℕ × Object) → Type 0
AreNoted lowest youngest sets objects = All (IsCopyNoted lowest youngest sets) objects

-- so it is with the k-th object of a block
abbrev pub IsNotedAt : (ℕ → ℕ) → ℕ → List (List ℕ) → BlockValue → ℕ → Type 0
IsNotedAt lowest youngest sets block k = (e : ℕ × Object) → IsCopyNoted lowest youngest sets (slice_index_or (block_objects block.number block) k e)

-- o is the large object of that number, and a collection of the generations 0 to g keeps it
pub record IsKeptLarge (objects : ObjectsValue) (g : ℕ) (places : List (Option Place)) (number : ℕ) (o : Object) : Type 0 where
  pub there : get objects.objects (large_word number) ≡ Some o
  pub young : o.generation ≤ g
  pub place : (n : ℕ) × IsNumbered objects g (large_word number) n × IsSome (slice_index_or places n None)

-- a large object that is kept is noted where it goes, if it has a pointer that isn't nil
abbrev pub IsLargeNoted : ℕ → List (List ℕ) → ObjectsValue → ℕ → List (Option Place) → ℕ → Type 0
IsLargeNoted youngest sets objects g places number = (o : Object) → IsKeptLarge objects g places number o → IsNoted (IsTrue (list_any is_some o.pointers)) youngest sets (large_word number, at_step o (dest objects.config.shape (o.generation, o.step)))

abbrev pub AreLargeNoted : ℕ → List (List ℕ) → ObjectsValue → ℕ → List (Option Place) → Type 0
AreLargeNoted youngest sets objects g places = (number : ℕ) → IsLargeNoted youngest sets objects g places number

-- none of these is of a younger generation
abbrev pub AreFrom : ℕ → List (ℕ × Object) → Type 0
AreFrom youngest objects = All (λ e. youngest ≤ e.1.generation) objects

-- a large object that is kept goes to no younger generation
abbrev pub IsLargeFrom : ℕ → ObjectsValue → ℕ → List (Option Place) → ℕ → Type 0
IsLargeFrom youngest objects g places number = (o : Object) → IsKeptLarge objects g places number o → youngest ≤ (dest objects.config.shape (o.generation, o.step)).0

abbrev pub AreLargeFrom : ℕ → ObjectsValue → ℕ → List (Option Place) → Type 0
AreLargeFrom youngest objects g places = (number : ℕ) → IsLargeFrom youngest objects g places number

-- what a collection of the generations 0 to g brings, the copies and the large objects that it keeps, is noted wherever
-- something younger may stand
pub record AreAllNoted (lowest : ℕ → ℕ) (youngest : ℕ) (sets : List (List ℕ)) (objects : ObjectsValue) (g : ℕ) (places : List (Option Place)) (brought : List (ℕ × Object)) : Type 0 where
  pub stays : youngest ≤ g + 1
  pub copies_from : AreFrom youngest brought
  pub large_from : AreLargeFrom youngest objects g places
  pub blocks : AreLowest lowest brought
  pub copies : AreNoted lowest youngest sets brought
  pub large : AreLargeNoted youngest sets objects g places
