-- What names lead to.
use Rattle.std.proofs.Common.{◌≡◌, ℕ, zero, suc, ◌<◌, true, false, List, [], ◌∷◌, length, map, get_or, Option, Some, None, refl, sym, subst, ap, arith, ⊎_elim}
use Rattle.std.proofs.lemmas.List.Elements.{All-head, All-tail}
use Rattle.std.specs.Prelude.{All, IsSome, is_some, unwrap_or}
use Rattle.model.specs.Graph.{Graph, object_at, root_at, IsClosed}
use Rattle.model.specs.Reached.{has}
use Rattle.model.proofs.Has.{has_none, has-cons, has_head, has_tail}
use Rattle.heap_text.specs.declared.listing.Name.{Name}
use Rattle.heap_text.specs.HeapLines.{name_value, named_objects}

-- what the names lead to, in their order
abbrev pub starts : Graph → List Name → List ℕ
starts graph names = map (λ e. e.1) (named_objects graph (map name_value names))

-- a root leads to an object
pub root_there : (graph : Graph) → IsClosed graph → (root : ℕ) → IsSome (root_at graph root) → IsSome (object_at graph (unwrap_or (root_at graph root) 0))
root_there graph closed root some = go (root_at graph root) refl some
  where
    go : (o : Option ℕ) → root_at graph root ≡ o → is_some o ≡ true → IsSome (object_at graph (unwrap_or o 0))
    go None e h = absurd (let f : true ≡ false = sym h in cc)
    go (Some w) e h = let there = closed.roots root w e in ap is_some there.1

pub started : (graph : Graph) → IsClosed graph → (names : List Name) → All (λ name. IsSome (root_at graph name.root.number)) names → (k : ℕ) → has (starts graph names) k ≡ true → IsSome (object_at graph k)
started graph closed [] rooted k h = has_none k h
started graph closed (n ∷ names) rooted k h =
    ⊎_elim
    (λ (e : k ≡ unwrap_or (root_at graph n.root.number) 0). subst (λ x. IsSome (object_at graph x)) (sym e) (root_there graph closed n.root.number (All-head (λ (name : Name). IsSome (root_at graph name.root.number)) n names rooted)))
    (λ (r : has (starts graph names) k ≡ true). started graph closed names (All-tail (λ (name : Name). IsSome (root_at graph name.root.number)) n names rooted) k r)
    (has-cons (unwrap_or (root_at graph n.root.number) 0) (starts graph names) k h)

pub has_start : (graph : Graph) (names : List Name) (k : ℕ) (d : Name) → k < length names → has (starts graph names) (unwrap_or (root_at graph (get_or names k d).root.number) 0) ≡ true
has_start graph [] k d lt = absurd (omega arith)
has_start graph (n ∷ names) zero d lt = has_head (unwrap_or (root_at graph n.root.number) 0) (starts graph names)
has_start graph (n ∷ names) (suc k) d lt = has_tail (unwrap_or (root_at graph n.root.number) 0) (starts graph names) (unwrap_or (root_at graph (get_or names k d).root.number) 0) (has_start graph names k d (omega arith))
