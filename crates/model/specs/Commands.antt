-- What each command does, and what it writes.
use Rattle.std.specs.Prelude.{ℕ, ◌+◌, ◌/◌, Bool, true, false, not, ◌||◌, List, [], ◌∷◌, ◌++◌, length, Option, Some, None, Result, Ok, Err, nat_lt, is_some, slice_get, slice_set, codes, option_and_then, filter}
use Rattle.std.specs.Ordering.{nat_cmp, eq_by_cmp}
use Rattle.std.specs.Cmp.Lexicographic.{slice_cmp}
use Rattle.std.specs.FinMap.{find, put}
use Rattle.model.specs.declared.kind.Kind.{Kind}
use Rattle.model.specs.declared.kind.Kind.TheVariants.{NameInUse, UnknownName, NoField, NilPointer, NoMutator, TooBig, NoGeneration}
use Rattle.model.specs.declared.command.Command as declared
use Rattle.model.specs.declared.command.Command.TheVariants as written
use Rattle.model.specs.Graph.{Object, fresh_object, with_pointer}
use Rattle.model.specs.Config.{Config}
use Rattle.model.specs.Room.{Room, room_after}
use Rattle.model.specs.Store.{Store, empty_store, object_at, collected, kept_count, freed_count, store_census}
use Rattle.model.specs.Text.{collection_line, census_text, heap_text}

-- a command without where its names lie in memory
pub data Command : Type 0 where
  New : (name : List ℕ) (mutator p q : ℕ) → Command
  Set : (name : List ℕ) (i : ℕ) (target : Option (List ℕ)) → Command
  Put : (name : List ℕ) (i value : ℕ) → Command
  Get : (new_name name : List ℕ) (i : ℕ) → Command
  Drop : (name : List ℕ) → Command
  Collect : (g : ℕ) → Command
  Census : Command
  Heap : Command

abbrev pub target_of : {X : Type 0} → (X → List ℕ) → Option X → Option (List ℕ)
target_of now None = None
target_of now (Some target) = Some (now target)

-- what a command of a line says
abbrev pub command_of : declared.Command → Command
command_of (written.New n m p q) = New n.now m p q
command_of (written.Set n i t) = Set n.now i (target_of (λ x. x.now) t)
command_of (written.Put n i v) = Put n.now i v
command_of (written.Get m n i) = Get m.now n.now i
command_of (written.Drop n) = Drop n.now
command_of (written.Collect g) = Collect g
command_of written.Census = Census
command_of written.Heap = Heap

-- the store after a command, and what it wrote
abbrev pub Outcome : Type 0
Outcome = Result (Store × List ℕ) Kind

-- what a trace name leads to
abbrev pub named : Store → List ℕ → Option ℕ
named store name = find (slice_cmp nat_cmp) name store.names

-- a fault where the test succeeds
abbrev pub fault_if : Bool → Kind → Outcome → Outcome
fault_if true kind outcome = Err kind
fault_if false kind outcome = outcome

-- the store, with nothing written
abbrev pub silent : Store → Outcome
silent store = Ok (store, [])

-- the store in which the trace name leads to the object of that name
abbrev pub with_name : List ℕ → ℕ → Store → Store
with_name text name store = record store { names = put (slice_cmp nat_cmp) text name store.names }

-- the store with a new object, and the trace name leading to it
abbrev pub with_new : List ℕ → ℕ → ℕ → Store → Store
with_new text p q store = with_name text (length store.objects) (record store { objects = store.objects ++ Some (fresh_object p q) ∷ [] })

abbrev pub with_room : ℕ → Room → Store → Store
with_room mutator room store = record store { rooms = slice_set store.rooms mutator room }

-- the line of a collection of the store
abbrev pub line_of : List ℕ → ℕ → Store → List ℕ
line_of word g store = collection_line word g (kept_count store g) (freed_count store g)

-- after a collection each nursery has room for a small object
abbrev pub placed_after : Config → List ℕ → ℕ → ℕ → ℕ → Store → Option Room → Store
placed_after config text mutator p q store None = store
placed_after config text mutator p q store (Some room) = with_new text p q (with_room mutator room store)

-- the room that a mutator's nursery has left after so many words, or none
abbrev pub room_in : Config → ℕ → ℕ → Store → Option Room
room_in config mutator size store = option_and_then (λ room. room_after config.block_words room size) (slice_get store.rooms mutator)

-- a new small object: in its nursery where there is room, else after a collection of generation 0
abbrev pub placed : Config → List ℕ → ℕ → ℕ → ℕ → Store → Option Room → Outcome
placed config text mutator p q store (Some room) = silent (with_new text p q (with_room mutator room store))
placed config text mutator p q store None =
    let next = collected config 0 store in
    Ok (placed_after config text mutator p q next (room_in config mutator (1 + p + q) next), line_of (codes "auto") 0 store)

-- more words than a quarter of a block
abbrev pub is_large_size : Config → ℕ → Bool
is_large_size config size = nat_lt (config.block_words / 4) size

-- a new object: a large one needs no nursery
abbrev pub placed_at_size : Config → List ℕ → ℕ → ℕ → ℕ → Store → Bool → Outcome
placed_at_size config text mutator p q store true = silent (with_new text p q store)
placed_at_size config text mutator p q store false = placed config text mutator p q store (room_in config mutator (1 + p + q) store)

-- the store with the object of that name changed
abbrev pub with_object : ℕ → Object → Store → Store
with_object name o store = record store { objects = slice_set store.objects name (Some o) }

-- the object that a trace name leads to
abbrev pub on_place : (ℕ → Object → Outcome) → ℕ → Option Object → Outcome
on_place next name None = Err UnknownName
on_place next name (Some o) = next name o

abbrev pub on_name : Store → (ℕ → Object → Outcome) → Option ℕ → Outcome
on_name store next None = Err UnknownName
on_name store next (Some name) = on_place next name (object_at store name)

-- what comes of the object that a trace name leads to, or an unknown name
abbrev pub on_object : Store → List ℕ → (ℕ → Object → Outcome) → Outcome
on_object store text next = on_name store next (named store text)

abbrev pub on_known : (Option ℕ → Outcome) → Option ℕ → Outcome
on_known next None = Err UnknownName
on_known next (Some name) = next (Some name)

-- what comes of what a pointer is to lead to, nil or the object of a trace name
abbrev pub on_target : Store → Option (List ℕ) → (Option ℕ → Outcome) → Outcome
on_target store None next = next None
on_target store (Some text) next = on_known next (named store text)

-- what comes of where a pointer leads: a fault where there is no such field, or where it is nil
abbrev pub on_pointer : Option (Option ℕ) → (ℕ → Outcome) → Outcome
on_pointer None next = Err NoField
on_pointer (Some None) next = Err NilPointer
on_pointer (Some (Some name)) next = next name

-- the store in which the trace name leads to nothing
abbrev pub without_name : List ℕ → Store → Store
without_name text store = record store { names = filter (λ e. not (eq_by_cmp (slice_cmp nat_cmp) text e.0)) store.names }

-- more fields than an object may have
abbrev pub is_too_big : ℕ → ℕ → Bool
is_too_big p q = nat_lt 100000 p || nat_lt 100000 q

-- what a command does to a store and what it writes, or its fault
abbrev pub carried : Config → Store → Command → Outcome
carried config store (New text mutator p q) =
    fault_if (is_some (named store text)) NameInUse
    (fault_if (not (nat_lt mutator config.mutators)) NoMutator
    (fault_if (is_too_big p q) TooBig
    (placed_at_size config text mutator p q store (is_large_size config (1 + p + q)))))
carried config store (Set text i target) =
    on_object store text (λ name o. fault_if (not (nat_lt i (length o.pointers))) NoField (on_target store target (λ value. silent (with_object name (with_pointer o i value) store))))
carried config store (Put text i value) =
    on_object store text (λ name o. fault_if (not (nat_lt i (length o.plain))) NoField (silent (with_object name (record o { plain = slice_set o.plain i value }) store)))
carried config store (Get new_text text i) =
    fault_if (is_some (named store new_text)) NameInUse
    (on_object store text (λ name o. on_pointer (slice_get o.pointers i) (λ target. silent (with_name new_text target store))))
carried config store (Drop text) = fault_if (not (is_some (named store text))) UnknownName (silent (without_name text store))
carried config store (Collect g) =
    fault_if (not (nat_lt g config.shape.generations)) NoGeneration (Ok (collected config g store, line_of (codes "collected") g store))
carried config store Census = Ok (store, census_text (store_census config store))
carried config store Heap = Ok (store, heap_text store)

-- the output of the commands, or of those before the first fault with that fault's place
pub record Run : Type 0 where
  pub store : Store
  pub output : List ℕ
  pub fault : Option (ℕ × Kind)

abbrev pub stepped : Config → ℕ → Run → Option (ℕ × Kind) → Outcome → Run
stepped config i run (Some fault) outcome = run
stepped config i run None (Ok (store, text)) = record { store = store; output = run.output ++ text; fault = None }
stepped config i run None (Err kind) = record run { fault = Some (i, kind) }

abbrev pub run_from : Config → ℕ → List Command → Run → Run
run_from config i [] run = run
run_from config i (command ∷ commands) run = run_from config (i + 1) commands (stepped config i run run.fault (carried config run.store command))

abbrev pub meaning : Config → List Command → Run
meaning config commands = run_from config 1 commands (record { store = empty_store config; output = []; fault = None })
