-- What is reached from a start by steps, as a relation and as a list.
use Rattle.std.specs.Prelude.{ℕ, zero, suc, Bool, List, [], ◌∷◌, ◌++◌, if◌then◌else◌, nat_eq}
use Rattle.std.specs.List.{list_any}

pub data Reached (next : ℕ → ℕ → Type 0) (start : ℕ → Type 0) : ℕ → Type 0 where
  first : {n : ℕ} → start n → Reached next start n
  later : {m n : ℕ} → Reached next start m → next m n → Reached next start n

abbrev pub has : List ℕ → ℕ → Bool
has xs x = list_any (nat_eq x) xs

-- those that were not seen, each where it comes first
abbrev pub fresh_of : List ℕ → List ℕ → List ℕ
fresh_of seen [] = []
fresh_of seen (x ∷ xs) = if has seen x then fresh_of (x ∷ seen) xs else x ∷ fresh_of (x ∷ seen) xs

-- the members of todo, and what they lead to, in breadth first order after those that are done
abbrev pub spread : (ℕ → List ℕ) → ℕ → List ℕ → List ℕ → List ℕ
spread next zero done todo = done ++ todo
spread next (suc fuel) done [] = done
spread next (suc fuel) done (x ∷ todo) = spread next fuel (done ++ x ∷ []) (todo ++ fresh_of (done ++ x ∷ todo) (next x))

-- at most so many members are gone through
abbrev pub reached_list : (ℕ → List ℕ) → ℕ → List ℕ → List ℕ
reached_list next fuel start = spread next fuel [] (fresh_of [] start)
