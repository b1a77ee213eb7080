-- Worked traces, with what they must write.
use Rattle.std.specs.Prelude.{ℕ, List, [], ◌∷◌, ◌++◌, flat_map, Some, codes}
use Rattle.model.specs.Config.{Config}
use Rattle.model.specs.Commands.{Command, New, Set, Put, Get, Drop, Collect, Census, Heap}

abbrev pub text_of : List (List ℕ) → List ℕ
text_of lines = flat_map (λ l. l ++ 10 ∷ []) lines

abbrev pub config_of : ℕ → ℕ → ℕ → ℕ → ℕ → Config
config_of block_words mutators nursery generations steps = record { block_words = block_words; blocks = 4096; mutators = mutators; nursery_blocks = nursery; shape = record { generations = generations; steps = steps } }

abbrev pub a : List ℕ
a = codes "a"

abbrev pub b : List ℕ
b = codes "b"

abbrev pub c : List ℕ
c = codes "c"

-- one object kept, one freed
abbrev pub first_trace : List Command
first_trace = New a 0 0 1 ∷ New b 0 0 0 ∷ Drop b ∷ Collect 0 ∷ Census ∷ []

abbrev pub first_output : List ℕ
first_output = text_of (codes "collected 0: 1 kept, 1 freed" ∷ codes "gen 0 step 0: 1 objects 2 words" ∷ codes "large: 0 objects 0 words" ∷ codes "roots: 1" ∷ codes "remembered: 0" ∷ [])

-- a pointer, a plain word, the census and the heap
abbrev pub pointer_trace : List Command
pointer_trace =
    New a 0 1 1 ∷ New b 0 0 2 ∷ Put b 1 18446744073709551615 ∷ Set a 0 (Some b) ∷ Drop b ∷ New c 0 0 0 ∷ Drop c ∷ Collect 0 ∷ Census ∷ Heap ∷ []

abbrev pub pointer_output : List ℕ
pointer_output =
    text_of
    (codes "collected 0: 2 kept, 1 freed" ∷ codes "gen 0 step 0: 2 objects 6 words" ∷ codes "large: 0 objects 0 words" ∷ codes "roots: 1" ∷ codes "remembered: 0"
    ∷ codes "root a #1" ∷ codes "#1 gen 0 step 0 ptrs [#2] words [0]" ∷ codes "#2 gen 0 step 0 ptrs [] words [0 18446744073709551615]" ∷ [])

-- a cycle that nothing reaches is freed, and one that a root reaches is kept
abbrev pub cycle_trace : List Command
cycle_trace = New a 0 1 0 ∷ Set a 0 (Some a) ∷ New b 0 1 0 ∷ New c 0 1 0 ∷ Set b 0 (Some c) ∷ Set c 0 (Some b) ∷ Drop b ∷ Drop c ∷ Collect 0 ∷ Heap ∷ []

abbrev pub cycle_output : List ℕ
cycle_output = text_of (codes "collected 0: 1 kept, 2 freed" ∷ codes "root a #1" ∷ codes "#1 gen 0 step 0 ptrs [#1] words []" ∷ [])

-- an old object's pointer keeps a young one
abbrev pub remembered_trace : List Command
remembered_trace = New a 0 1 0 ∷ Collect 0 ∷ Collect 0 ∷ New b 0 0 1 ∷ Put b 0 7 ∷ Set a 0 (Some b) ∷ Drop b ∷ Census ∷ Collect 0 ∷ Heap ∷ []

abbrev pub remembered_output : List ℕ
remembered_output =
    text_of
    (codes "collected 0: 1 kept, 0 freed" ∷ codes "collected 0: 1 kept, 0 freed" ∷ codes "gen 0 step 0: 1 objects 2 words" ∷ codes "gen 0 step 1: 0 objects 0 words" ∷ codes "gen 1 step 0: 1 objects 2 words"
    ∷ codes "large: 0 objects 0 words" ∷ codes "roots: 1" ∷ codes "remembered: 1" ∷ codes "collected 0: 1 kept, 0 freed" ∷ codes "root a #1" ∷ codes "#1 gen 1 step 0 ptrs [#2] words []" ∷ codes "#2 gen 0 step 1 ptrs [] words [7]" ∷ [])

-- a dead old object keeps a young one until it is collected itself
abbrev pub dead_old_trace : List Command
dead_old_trace = New a 0 1 0 ∷ Collect 0 ∷ Collect 0 ∷ New b 0 0 0 ∷ Set a 0 (Some b) ∷ Drop b ∷ Drop a ∷ Collect 0 ∷ Collect 1 ∷ []

abbrev pub dead_old_output : List ℕ
dead_old_output = text_of (codes "collected 0: 1 kept, 0 freed" ∷ codes "collected 0: 1 kept, 0 freed" ∷ codes "collected 0: 1 kept, 0 freed" ∷ codes "collected 1: 0 kept, 2 freed" ∷ [])

-- the last small and the first large size
abbrev pub large_trace : List Command
large_trace = New a 0 0 15 ∷ New b 0 0 16 ∷ Collect 0 ∷ Census ∷ []

abbrev pub large_output : List ℕ
large_output =
    text_of
    (codes "collected 0: 2 kept, 0 freed" ∷ codes "gen 0 step 0: 0 objects 0 words" ∷ codes "gen 0 step 1: 1 objects 16 words" ∷ codes "gen 1 step 0: 0 objects 0 words"
    ∷ codes "large: 1 objects 17 words" ∷ codes "roots: 2" ∷ codes "remembered: 0" ∷ [])

-- a full nursery is collected first
abbrev pub full_trace : List Command
full_trace = New a 0 0 15 ∷ Drop a ∷ New b 0 0 15 ∷ New c 0 0 15 ∷ New (codes "d") 0 0 15 ∷ New (codes "e") 0 0 15 ∷ Census ∷ []

abbrev pub full_output : List ℕ
full_output =
    text_of
    (codes "auto 0: 3 kept, 1 freed" ∷ codes "gen 0 step 0: 1 objects 16 words" ∷ codes "gen 0 step 1: 3 objects 48 words" ∷ codes "gen 1 step 0: 0 objects 0 words"
    ∷ codes "large: 0 objects 0 words" ∷ codes "roots: 4" ∷ codes "remembered: 0" ∷ [])

-- an object ages by a step at each collection of its generation, up to the oldest
abbrev pub ageing_trace : List Command
ageing_trace = New a 0 0 1 ∷ Collect 0 ∷ Heap ∷ Collect 0 ∷ Heap ∷ Collect 0 ∷ Heap ∷ Collect 1 ∷ Heap ∷ []

abbrev pub ageing_output : List ℕ
ageing_output =
    text_of
    (codes "collected 0: 1 kept, 0 freed" ∷ codes "root a #1" ∷ codes "#1 gen 0 step 1 ptrs [] words [0]" ∷ codes "collected 0: 1 kept, 0 freed" ∷ codes "root a #1" ∷ codes "#1 gen 1 step 0 ptrs [] words [0]"
    ∷ codes "collected 0: 0 kept, 0 freed" ∷ codes "root a #1" ∷ codes "#1 gen 1 step 0 ptrs [] words [0]" ∷ codes "collected 1: 1 kept, 0 freed" ∷ codes "root a #1" ∷ codes "#1 gen 1 step 0 ptrs [] words [0]" ∷ [])

-- a generation past the oldest is a fault, after the output of what stood before
abbrev pub no_generation_trace : List Command
no_generation_trace = New a 0 0 0 ∷ Collect 0 ∷ Collect 0 ∷ Census ∷ Collect 1 ∷ Census ∷ []

abbrev pub no_generation_output : List ℕ
no_generation_output =
    text_of (codes "collected 0: 1 kept, 0 freed" ∷ codes "collected 0: 1 kept, 0 freed" ∷ codes "gen 0 step 0: 1 objects 1 words" ∷ codes "large: 0 objects 0 words" ∷ codes "roots: 1" ∷ codes "remembered: 0" ∷ [])

-- a collection makes a pointer one from old to young
abbrev pub made_old_trace : List Command
made_old_trace = New a 0 1 0 ∷ Collect 0 ∷ New b 0 0 0 ∷ Set a 0 (Some b) ∷ Drop b ∷ Collect 0 ∷ Census ∷ []

abbrev pub made_old_output : List ℕ
made_old_output =
    text_of
    (codes "collected 0: 1 kept, 0 freed" ∷ codes "collected 0: 2 kept, 0 freed" ∷ codes "gen 0 step 0: 0 objects 0 words" ∷ codes "gen 0 step 1: 1 objects 1 words" ∷ codes "gen 1 step 0: 1 objects 2 words"
    ∷ codes "large: 0 objects 0 words" ∷ codes "roots: 1" ∷ codes "remembered: 1" ∷ [])

-- each mutator has a nursery of its own, and a collection empties them all
abbrev pub two_mutators_trace : List Command
two_mutators_trace = New a 0 0 3 ∷ New b 0 0 3 ∷ New c 0 0 3 ∷ New (codes "d") 0 0 3 ∷ New (codes "e") 1 0 3 ∷ New (codes "f") 0 0 3 ∷ Census ∷ []

abbrev pub two_mutators_output : List ℕ
two_mutators_output =
    text_of
    (codes "auto 0: 5 kept, 0 freed" ∷ codes "gen 0 step 0: 1 objects 4 words" ∷ codes "gen 0 step 1: 5 objects 20 words" ∷ codes "gen 1 step 0: 0 objects 0 words" ∷ codes "large: 0 objects 0 words" ∷ codes "roots: 6" ∷ codes "remembered: 0" ∷ [])

-- a block that was left is not returned to
abbrev pub block_left_trace : List Command
block_left_trace =
    New a 0 0 15 ∷ New b 0 0 15 ∷ New c 0 0 15 ∷ New (codes "d") 0 0 14 ∷ New (codes "e") 0 0 15 ∷ New (codes "f") 0 0 15 ∷ New (codes "g") 0 0 15 ∷ New (codes "h") 0 0 15 ∷ New (codes "i") 0 0 0 ∷ []

abbrev pub block_left_output : List ℕ
block_left_output = text_of (codes "auto 0: 8 kept, 0 freed" ∷ [])

-- a pointer read into a new name keeps its target
abbrev pub get_trace : List Command
get_trace = New a 0 1 0 ∷ New b 0 0 1 ∷ Set a 0 (Some b) ∷ Drop b ∷ Get c a 0 ∷ Put c 0 9 ∷ Drop a ∷ Collect 0 ∷ Heap ∷ []

abbrev pub get_output : List ℕ
get_output = text_of (codes "collected 0: 1 kept, 1 freed" ∷ codes "root c #1" ∷ codes "#1 gen 0 step 1 ptrs [] words [9]" ∷ [])
