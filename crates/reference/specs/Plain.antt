-- The definitions in the form in which the plain program computes them.
use Rattle.std.specs.Prelude.{◌≡◌, codes, decimal, Result, Ok, Err, ℕ, ◌+◌, List, [], ◌∷◌, ◌++◌, map, filter, Option, Some, None, Bool, false, nat_lt, nat_le, if◌then◌else◌}
use Rattle.std.specs.Option.{option_map_or}
use Rattle.std.specs.Ordering.{nat_cmp, is_lt}
use Rattle.std.specs.Cmp.Lexicographic.{slice_cmp}
use Rattle.model.specs.declared.kind.Kind.{Kind}
use Rattle.reference.specs.declared.refusal.Refusal.{Refusal}
use Rattle.reference.specs.declared.refusal.Refusal.TheVariants.{Fault, NoMemory}
use Rattle.model.specs.Graph.{Object, is_large, size_of}
use Rattle.model.specs.Commands.{Outcome}
use Rattle.model.specs.Census.{is_small_at, points_younger}
use Rattle.model.specs.Store.{Store, object_at, targets, targets_of, is_young_at, old_targets, present}

-- what the object in a place points to, where it is older than g
abbrev pub old_of : ℕ → Option Object → List ℕ
old_of g None = []
old_of g (Some o) = if nat_lt g o.generation then targets o else []

-- what a name leads to, of generation at most g where there is such a limit
abbrev pub steps_within : Store → Option ℕ → ℕ → List ℕ
steps_within store None name = targets_of store name
steps_within store (Some g) name = filter (is_young_at store g) (targets_of store name)

-- where a collection of the generations 0 to g starts
abbrev pub starts : Store → ℕ → List ℕ
starts store g = filter (is_young_at store g) (map (λ e. e.1) store.names ++ old_targets g (present store))

abbrev pub is_young_slot : ℕ → Option Object → Bool
is_young_slot g slot = option_map_or (λ o. nat_le o.generation g) slot false

-- what a silent command does: the store after it, or its fault with the store as it was
abbrev pub IsSilent : Outcome → Store → Store → Result (Unit {0}) Kind → Type 0
IsSilent outcome old new (Ok done) = outcome ≡ Ok (new, [])
IsSilent outcome old new (Err kind) = (outcome ≡ Err kind) × (new ≡ old)

-- of a refusal, the fault that it says
abbrev pub IfFault : Refusal → (Kind → Type 0) → Type 0
IfFault (Fault kind) P = P kind
IfFault NoMemory P = Unit {0}

-- what a command that may find no memory does, where it writes nothing
abbrev pub IsDone : Outcome → Store → Store → Result (Unit {0}) Refusal → Type 0
IsDone outcome old new (Ok done) = outcome ≡ Ok (new, [])
IsDone outcome old new (Err refusal) = IfFault refusal (λ kind. outcome ≡ Err kind) × (new ≡ old)

-- the large objects, or the small ones of a step
abbrev pub in_part : ℕ → Option (ℕ × ℕ) → Object → Bool
in_part block_words None o = is_large block_words o
in_part block_words (Some at) o = is_small_at block_words at o

abbrev pub is_slot_in : ℕ → Option (ℕ × ℕ) → Option Object → Bool
is_slot_in block_words part slot = option_map_or (in_part block_words part) slot false

abbrev pub words_in : ℕ → Option (ℕ × ℕ) → Option Object → ℕ
words_in block_words part slot = option_map_or (λ o. if in_part block_words part o then size_of o else 0) slot 0

abbrev pub is_slot_remembered : Store → Option Object → Bool
is_slot_remembered store slot = option_map_or (points_younger (object_at store)) slot false

-- the last lines of a census, after a text
abbrev pub totals_text : List ℕ → (large_objects large_words roots remembered : ℕ) → List ℕ
totals_text before large_objects large_words roots remembered =
    before
    ++ (codes "large: " ++ decimal large_objects ++ codes " objects " ++ decimal large_words ++ codes " words\n")
    ++ (codes "roots: " ++ decimal roots ++ codes "\n")
    ++ (codes "remembered: " ++ decimal remembered ++ codes "\n")
