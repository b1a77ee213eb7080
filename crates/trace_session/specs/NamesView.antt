-- The names in use as a list.
use Rattle.std.specs.Prelude.{ℕ, List, [], ◌∷◌, Option, map, Vec}
use Rattle.std.specs.HashMap.{HashMap}
use Rattle.std.specs.Ordering.{nat_cmp}
use Rattle.std.specs.Cmp.Lexicographic.{slice_cmp}
use Rattle.std.specs.FinMap.{find, put}
use Rattle.steps.specs.declared.heap_values.root_id.RootId.{RootId}

abbrev pub name_entry : {A : Type 0} → Vec ℕ A × RootId → List ℕ × ℕ
name_entry e = (e.0.items, e.1.number)

-- names in byte order
abbrev pub in_order : List (List ℕ × ℕ) → List (List ℕ × ℕ)
in_order [] = []
in_order (e ∷ es) = put (slice_cmp nat_cmp) e.0 e.1 (in_order es)

abbrev pub names_view : {A S : Type 0} → HashMap (Vec ℕ A) RootId S → List (List ℕ × ℕ)
names_view m = in_order (map name_entry m.entries)

-- what a name leads to
abbrev pub named : List (List ℕ × ℕ) → List ℕ → Option ℕ
named names text = find (slice_cmp nat_cmp) text names
