-- A new node: what its root leads to, and that other roots stay.
use Rattle.std.proofs.Common.{◌≡◌, ◌≢◌, ℕ, ◌<◌, false, length, Option, Some, None, refl, sym, ap, subst, ◌∙◌, arith, ◌⊎◌, inl, inr, ⊎_elim}
use Rattle.std.specs.Prelude.{◌↔◌, Result, Err, IsOk, IfErr, IsSome, IsNone, IsSomeAnd, is_some, is_ok, nat_lt, option_and_then}
use Rattle.std.specs.Option.{option_map}
use Rattle.std.proofs.lemmas.Bool.{true≢false, ltb-true, cases_Bool, cases_eq}
use Rattle.std.proofs.lemmas.List.{length-replicate, length-set}
use Rattle.model.specs.Graph.{Graph, Object, object_at, root_at, with_object, with_root, without_root, with_pointer, fresh_object}
use Rattle.model.specs.Census.{points_to}
use Rattle.model.proofs.NatMap.{get-insert_same, get-insert_other, get-remove_other}
use Rattle.model.proofs.Options.{some_is}
use Rattle.heap.specs.HeapValue.{HeapValue}
use Rattle.heap.specs.Commands.{Allocates, Stores, HasPointer, HasPlain, MustNote, rooted_object, value_at}
use Rattle.heap.specs.declared.heap.FieldError.{FieldError}
use Rattle.heap.specs.declared.heap.FieldError.TheVariants.{NoRoot, BadField}
use Rattle.combinators.specs.declared.nodes.Trouble.{Trouble}
use Rattle.combinators.specs.declared.nodes.Trouble.TheVariants.{BadNode, NoMemory}
use Rattle.combinators.specs.Nodes.{MayBeCollected, AddsNode}

-- the root leads to an object of generation 0 with so many pointers and words
pub record IsYoungNode (graph : Graph) (root pointers plain : ℕ) : Type 0 where
  pub name : ℕ
  pub object : Object
  pub root_is : root_at graph root ≡ Some name
  pub there : object_at graph name ≡ Some object
  pub pointers_are : length object.pointers ≡ pointers
  pub words_are : length object.plain ≡ plain
  pub young : object.generation ≡ 0

-- each root of the one graph is one of the other
abbrev pub KeepsRoots : Graph → Graph → Type 0
KeepsRoots old new = (root : ℕ) → IsSome (root_at old root) → IsSome (root_at new root)

module _ (graph : Graph) (name root p q : ℕ) where
  abbrev made : Graph
  made = with_root (with_object graph name (fresh_object p q)) root name

  young_made : IsYoungNode made root p q
  young_made = record {
    name = name;
    object = fresh_object p q;
    root_is = get-insert_same graph.roots root name;
    there = get-insert_same graph.objects name (fresh_object p q);
    pointers_are = length-replicate p None;
    words_are = length-replicate q 0;
    young = refl;
  }

  keeps_made : KeepsRoots graph made
  keeps_made other some = ⊎_elim
      (λ same. ap is_some (ap (root_at made) same ∙ get-insert_same graph.roots root name))
      (λ differ. ap is_some (get-insert_other graph.roots root name other differ) ∙ some)
      (cases_eq other root)

-- a new node, and the roots that were there before
pub record IsMade (old : HeapValue) (pointers plain root : ℕ) (new : HeapValue) : Type 0 where
  pub node : IsYoungNode new.graph root pointers plain
  pub keeps : KeepsRoots old.graph new.graph

module _ (old : HeapValue) (mutator p q root : ℕ) (new : HeapValue) where
  made_at : (name : ℕ) → new.graph ≡ made old.graph name root p q → IsMade old p q root new
  made_at name is = record {
    node = subst (λ graph. IsYoungNode graph root p q) (sym is) (young_made old.graph name root p q);
    keeps = subst (KeepsRoots old.graph) (sym is) (keeps_made old.graph name root p q);
  }

  is_made : Allocates old mutator p q root new → IsMade old p q root new
  is_made (inl small) = made_at small.name (ap (λ (h : HeapValue). h.graph) small.change)
  is_made (inr large) = made_at large.name (ap (λ (h : HeapValue). h.graph) large.change)

mapped_some : (f : ℕ → ℕ) (o : Option ℕ) → IsSome o → IsSome (option_map f o)
mapped_some f None some = some
mapped_some f (Some n) some = refl

collected_keeps : (old new : HeapValue) → MayBeCollected old new → KeepsRoots old.graph new.graph
collected_keeps old new (inl same) root some = ap (λ (h : HeapValue). is_some (root_at h.graph root)) same ∙ some
collected_keeps old new (inr was) root some = ap is_some (was.collects.heap.graph.roots root) ∙ mapped_some _ (root_at old.graph root) some

pub added : (old : HeapValue) (p q root : ℕ) (new : HeapValue) → AddsNode old p q root new → IsMade old p q root new
added old p q root new adds =
    let is : IsMade adds.heap p q root new = is_made adds.heap 0 p q root new adds.allocates in
    record { node = is.node; keeps = λ other some. is.keeps other (collected_keeps old adds.heap adds.room other some) }

module _ (graph : Graph) (root pointers plain : ℕ) (node : IsYoungNode graph root pointers plain) where
  pub rooted : IsSome (root_at graph root)
  rooted = ap is_some node.root_is

  rooted_is : rooted_object graph root ≡ Some node.object
  rooted_is = ap (option_and_then (object_at graph)) node.root_is ∙ node.there

  pub has_pointer : (i : ℕ) → i < pointers → HasPointer graph root i
  has_pointer i lt =
      let below : i < length node.object.pointers = omega (arith, lt, node.pointers_are) in
      subst (λ o. IsSomeAnd o (λ (x : Object). i < length x.pointers)) (sym rooted_is) below

  pub has_plain : (i : ℕ) → i < plain → HasPlain graph root i
  has_plain i lt =
      let below : i < length node.object.plain = omega (arith, lt, node.words_are) in
      subst (λ o. IsSomeAnd o (λ (x : Object). i < length x.plain)) (sym rooted_is) below

not_below_0 : (n bound : ℕ) → bound ≡ 0 → nat_lt n bound ≡ false
not_below_0 n bound none = ⊎_elim (λ t. let lt = ltb-true n bound t in absurd (omega (arith, lt, none))) (λ f. f) (cases_Bool (nat_lt n bound))

-- nothing is younger than an object of generation 0
none_younger : (object : ℕ → Option Object) (bound : ℕ) → bound ≡ 0 → (value : Option ℕ) → points_to (λ target. nat_lt target.generation bound) object value ≡ false
none_younger object bound none None = refl
none_younger object bound none (Some name) = go (object name)
  where
    go : (found : Option Object) → points_to (λ target. nat_lt target.generation bound) (λ _. found) (Some name) ≡ false
    go None = refl
    go (Some target) = not_below_0 target.generation bound none

module _ (heap : HeapValue) (root pointers plain : ℕ) (node : IsYoungNode heap.graph root pointers plain) where
  same_object : (name : ℕ) (object : Object) → root_at heap.graph root ≡ Some name → object_at heap.graph name ≡ Some object → object ≡ node.object
  same_object name object root_is there =
      let at : name ≡ node.name = some_is (sym root_is ∙ node.root_is) in
      some_is (sym there ∙ ap (object_at heap.graph) at ∙ node.there)

  -- a store into it notes nothing
  pub notes_none : (value : Option ℕ) → MustNote heap root value → ⊥
  notes_none value note =
      let young : note.object.generation ≡ 0 = ap (λ (o : Object). o.generation) (same_object note.name note.object note.root_is note.there) ∙ node.young in
      true≢false (sym note.younger ∙ none_younger (object_at heap.graph) note.object.generation young (value_at heap.graph value))

  module _ (i : ℕ) (value : Option ℕ) (new : HeapValue) (stores : Stores heap root i value new) where
    abbrev to : Option ℕ
    to = value_at heap.graph value

    graph_is : new.graph ≡ with_object heap.graph stores.name (with_pointer stores.object i to)
    graph_is = ap (λ (h : HeapValue). h.graph) stores.changed

    pub stored_node : IsYoungNode new.graph root pointers plain
    stored_node =
        let same = same_object stores.name stores.object stores.root_is stores.there in
        record {
          name = stores.name;
          object = with_pointer stores.object i to;
          root_is = ap (λ g. root_at g root) graph_is ∙ stores.root_is;
          there = ap (λ g. object_at g stores.name) graph_is ∙ get-insert_same heap.graph.objects stores.name (with_pointer stores.object i to);
          pointers_are = length-set stores.object.pointers i to ∙ ap (λ (o : Object). length o.pointers) same ∙ node.pointers_are;
          words_are = ap (λ (o : Object). length o.plain) same ∙ node.words_are;
          young = ap (λ (o : Object). o.generation) same ∙ node.young;
        }

    pub stored_keeps : KeepsRoots heap.graph new.graph
    stored_keeps other some = ap (λ g. is_some (root_at g other)) graph_is ∙ some

-- another root than the one that is given up stays
pub other_stays : (graph : Graph) (root other : ℕ) → other ≢ root → IsSome (root_at graph other) → IsSome (root_at (without_root graph root) other)
other_stays graph root other differ some = ap is_some (get-remove_other graph.roots root other differ) ∙ some

-- a word of a new symbol is there to be written
pub never_unwritten : (graph : Graph) (root : ℕ) (result : Result (Unit {0}) FieldError) → ((result ≡ Err NoRoot) ↔ IsNone (root_at graph root)) → ((result ≡ Err BadField) ↔ (IsSome (root_at graph root) × ¬ (HasPlain graph root 0))) → IsYoungNode graph root 0 1 → (e : FieldError) → result ≡ Err e → ⊥
never_unwritten graph root result no_root bad_field node NoRoot is = true≢false (sym (rooted graph root 0 1 node) ∙ no_root.0 is)
never_unwritten graph root result no_root bad_field node BadField is = (bad_field.0 is).1 (has_plain graph root 0 1 node 0 (omega arith))

-- a pointer of a new application is there to be set
pub never_unset : (heap : HeapValue) (root i value : ℕ) (result : Result (Unit {0}) Trouble) → ((result ≡ Err BadNode) ↔ ¬ (HasPointer heap.graph root i × IsSome (root_at heap.graph value))) → (result ≡ Err NoMemory → MustNote heap root (Some value)) → IfErr result (λ e. (e ≡ BadNode) ⊎ (e ≡ NoMemory)) → IsYoungNode heap.graph root 2 0 → i < 2 → IsSome (root_at heap.graph value) → (e : Trouble) → result ≡ Err e → ⊥
never_unset heap root i value result bad_node memory kinds node lt known e is = ⊎_elim
    (λ bad. bad_node.0 (is ∙ ap Err bad) (has_pointer heap.graph root 2 0 node i lt, known))
    (λ none. notes_none heap root 2 0 node (Some value) (memory (is ∙ ap Err none)))
    (subst (λ r. IfErr r (λ x. (x ≡ BadNode) ⊎ (x ≡ NoMemory))) is kinds)

-- a root is there to be given up
pub never_unknown : (graph : Graph) (root : ℕ) (result : Result (Unit {0}) Trouble) → (IsOk result ↔ IsSome (root_at graph root)) → IsSome (root_at graph root) → (e : Trouble) → result ≡ Err e → ⊥
never_unknown graph root result known some e is = true≢false (sym (known.1 some) ∙ ap is_ok is)
