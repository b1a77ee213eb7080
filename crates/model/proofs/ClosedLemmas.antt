-- What keeps each pointer and root of a graph leading to an object.
use Rattle.std.proofs.lemmas.Option.{same_Some}
use Rattle.std.proofs.Common.{◌≡◌, ℕ, zero, suc, List, [], ◌∷◌, map, set, replicate, Option, Some, None, refl, sym, ap, subst, ◌∙◌, arith, ⊎_elim, inl, inr}
use Rattle.std.proofs.lemmas.Bool.{cases_eq, cases_lt}
use Rattle.std.specs.Prelude.{slice_get, option_and_then, unwrap_or, ◌⊎◌}
use Rattle.std.specs.Option.{option_map}
use Rattle.std.specs.Ordering.{nat_cmp}
use Rattle.std.specs.FinMap.{get, insert, find, get-empty}
use Rattle.model.specs.Graph.{Graph, Object, object_at, root_at, field_at, with_object, with_root, without_root, with_pointer, fresh_object, empty_graph, IsClosed}
use Rattle.model.specs.Live.{IsYoung, IsOlder, IsRooted}
use Rattle.model.specs.Reached.{first, later}
use Rattle.model.specs.Collected.{Collected, IsLiveOrOlder, renamed, moved_to}
use Rattle.model.specs.Destination.{Shape, dest}
use Rattle.model.proofs.LiveLemmas.{Live-young}
use Rattle.model.proofs.NatMap.{get-insert_same, get-insert_other, get-remove_same, get-remove_other}

none_is_some : {X : Type 0} {x : X} → None ≡ Some x → ⊥
none_is_some e = cc

-- the object whose field it is
pub record HasField (graph : Graph) (name i target : ℕ) : Type 0 where
  pub object : Object
  pub there : object_at graph name ≡ Some object
  pub leads : slice_get object.pointers i ≡ Some (Some target)

pub has_field : (graph : Graph) (name i target : ℕ) → field_at graph name i ≡ Some (Some target) → HasField graph name i target
has_field graph name i target e = go (object_at graph name) refl e
  where
    go : (o : Option Object) → object_at graph name ≡ o → option_and_then (λ x. slice_get x.pointers i) o ≡ Some (Some target) → HasField graph name i target
    go None is e = absurd (none_is_some e)
    go (Some x) is e = record { object = x; there = is; leads = e }

pub field_is : (graph : Graph) (name i target : ℕ) (o : Object) → object_at graph name ≡ Some o → slice_get o.pointers i ≡ Some (Some target) → field_at graph name i ≡ Some (Some target)
field_is graph name i target o is leads = ap (option_and_then (λ x. slice_get x.pointers i)) is ∙ leads

-- no object and no root
pub closed_empty : IsClosed empty_graph
closed_empty = record {
  fields = λ name i target e. let f = has_field empty_graph name i target e in absurd (none_is_some (sym (get-empty nat_cmp name) ∙ f.there));
  roots = λ root target e. absurd (none_is_some (sym (get-empty nat_cmp root) ∙ e));
}

-- an object is still there after one was changed or added
pub still_there : (graph : Graph) (name : ℕ) (new : Object) (target : ℕ) → ((o : Object) × (object_at graph target ≡ Some o)) → (o : Object) × (object_at (with_object graph name new) target ≡ Some o)
still_there graph name new target was =
    ⊎_elim
    (λ e. (new, ap (get (insert graph.objects name new)) e ∙ get-insert_same graph.objects name new))
    (λ ne. (was.0, get-insert_other graph.objects name new target ne ∙ was.1))
    (cases_eq target name)

-- an object changed or added whose pointers lead to objects
pub closed-with_object : (graph : Graph) (name : ℕ) (new : Object) → IsClosed graph → ((i target : ℕ) → slice_get new.pointers i ≡ Some (Some target) → (o : Object) × (object_at graph target ≡ Some o)) → IsClosed (with_object graph name new)
closed-with_object graph name new closed leads = record {
  fields = λ at i target e.
      let f = has_field (with_object graph name new) at i target e in
      ⊎_elim
      (λ same.
      let is : new ≡ f.object = same_Some _ _ (sym (get-insert_same graph.objects name new) ∙ sym (ap (get (insert graph.objects name new)) same) ∙ f.there) in
      still_there graph name new target (leads i target (ap (λ (o : Object). slice_get o.pointers i) is ∙ f.leads)))
      (λ ne.
      let was : object_at graph at ≡ Some f.object = sym (get-insert_other graph.objects name new at ne) ∙ f.there in
      still_there graph name new target (closed.fields at i target (field_is graph at i target f.object was f.leads)))
      (cases_eq at name);
  roots = λ root target e. still_there graph name new target (closed.roots root target e);
}

-- a root more, to an object
pub closed-with_root : (graph : Graph) (root name : ℕ) (o : Object) → IsClosed graph → object_at graph name ≡ Some o → IsClosed (with_root graph root name)
closed-with_root graph root name o closed there = record {
  fields = λ at i target e. closed.fields at i target e;
  roots = λ r target e.
      ⊎_elim
      (λ same. let is : name ≡ target = same_Some _ _ (sym (get-insert_same graph.roots root name) ∙ sym (ap (get (insert graph.roots root name)) same) ∙ e) in (o, ap (object_at graph) (sym is) ∙ there))
      (λ ne. closed.roots r target (sym (get-insert_other graph.roots root name r ne) ∙ e))
      (cases_eq r root);
}

no_target : (p i target : ℕ) → slice_get (replicate p (let none : Option ℕ = None in none)) i ≡ Some (Some target) → ⊥
no_target zero i target e = none_is_some e
no_target (suc p) zero target e = none_is_some (same_Some _ _ e)
no_target (suc p) (suc i) target e = no_target p i target e

-- a new object and a root to it
pub closed_fresh : (graph : Graph) (root name p q : ℕ) → IsClosed graph → IsClosed (with_root (with_object graph name (fresh_object p q)) root name)
closed_fresh graph root name p q closed =
    closed-with_root (with_object graph name (fresh_object p q)) root name (fresh_object p q)
    (closed-with_object graph name (fresh_object p q) closed (λ i target e. absurd (no_target p i target e)))
    (get-insert_same graph.objects name (fresh_object p q))

pub closed-without_root : (graph : Graph) (root : ℕ) → IsClosed graph → IsClosed (without_root graph root)
closed-without_root graph root closed = record {
  fields = λ at i target e. closed.fields at i target e;
  roots = λ r target e.
      ⊎_elim
      (λ same. absurd (none_is_some (sym (get-remove_same graph.roots root) ∙ sym (ap (λ k. root_at (without_root graph root) k) same) ∙ e)))
      (λ ne. closed.roots r target (sym (get-remove_other graph.roots root r ne) ∙ e))
      (cases_eq r root);
}

-- what a list holds after a change at one place
pub get-set_cases : {X : Type 0} (P : X → Type 0) (xs : List X) (i j : ℕ) (y x : X) → P y → ((z : X) → slice_get xs j ≡ Some z → P z) → slice_get (set xs i y) j ≡ Some x → P x
get-set_cases P [] i j y x new old e = old x e
get-set_cases P (z ∷ xs) zero zero y x new old e = subst P (same_Some _ _ e) new
get-set_cases P (z ∷ xs) zero (suc j) y x new old e = old x e
get-set_cases P (z ∷ xs) (suc i) zero y x new old e = old x e
get-set_cases P (z ∷ xs) (suc i) (suc j) y x new old e = get-set_cases P xs i j y x new old e

-- a pointer of an object was changed, to nil or to what a root leads to
pub closed-with_pointer : (graph : Graph) (name i : ℕ) (o : Object) (to : Option ℕ) → IsClosed graph → object_at graph name ≡ Some o → ((target : ℕ) → to ≡ Some target → (x : Object) × (object_at graph target ≡ Some x)) → IsClosed (with_object graph name (with_pointer o i to))
closed-with_pointer graph name i o to closed there leads =
    closed-with_object graph name (with_pointer o i to) closed (λ j target e.
    get-set_cases (λ (p : Option ℕ). (t : ℕ) → p ≡ Some t → (x : Object) × (object_at graph t ≡ Some x)) o.pointers i j to (Some target)
    leads
    (λ p is t to_t. closed.fields name j t (field_is graph name j t o there (is ∙ ap (λ (x : Option ℕ). Some x) to_t)))
    e target refl)

-- other changes of an object keep its pointers
pub closed_same_pointers : (graph : Graph) (name : ℕ) (o new : Object) → IsClosed graph → object_at graph name ≡ Some o → new.pointers ≡ o.pointers → IsClosed (with_object graph name new)
closed_same_pointers graph name o new closed there same =
    closed-with_object graph name new closed (λ i target e. closed.fields name i target (field_is graph name i target o there (sym (ap (λ (ps : List (Option ℕ)). slice_get ps i) same) ∙ e)))

-- what a renamed pointer was before
record WasPointer (f : ℕ → ℕ) (ps : List (Option ℕ)) (i target : ℕ) : Type 0 where
  pub old : ℕ
  pub at : slice_get ps i ≡ Some (Some old)
  pub is : f old ≡ target

was_pointer : (f : ℕ → ℕ) (ps : List (Option ℕ)) (i target : ℕ) → slice_get (map (option_map f) ps) i ≡ Some (Some target) → WasPointer f ps i target
was_pointer f [] i target e = absurd (none_is_some e)
was_pointer f (None ∷ ps) zero target e = absurd (none_is_some (same_Some _ _ e))
was_pointer f (Some t ∷ ps) zero target e = record { old = t; at = refl; is = same_Some _ _ (same_Some _ _ e) }
was_pointer f (p ∷ ps) (suc i) target e = let rest = was_pointer f ps i target e in record { old = rest.old; at = rest.at; is = rest.is }

from_root : (f : ℕ → ℕ) (o : Option ℕ) (target : ℕ) → option_map f o ≡ Some target → (old : ℕ) × (o ≡ Some old) × (f old ≡ target)
from_root f None target e = absurd (none_is_some e)
from_root f (Some old) target e = (old, refl, same_Some _ _ e)

module _ (shape : Shape) (block_words : ℕ) (old : Graph) (g : ℕ) (places : List (ℕ × ℕ)) (new : Graph) (closed : IsClosed old) (collected : Collected shape block_words old g places new) where
  -- an older object keeps its name
  older_stays : (name : ℕ) → IsOlder old g name → renamed places name ≡ name
  older_stays name older = go (find nat_cmp name places) refl
    where
      go : (o : Option ℕ) → find nat_cmp name places ≡ o → unwrap_or o name ≡ name
      go None is = refl
      go (Some place) is =
          let young = Live-young old g name (collected.renaming.only_live name place is) in
          let same : young.object ≡ older.object = same_Some _ _ (sym young.there ∙ older.there) in
          let generations : young.object.generation ≡ older.object.generation = ap (λ (o : Object). o.generation) same in
          absurd (omega (arith, young.young, older.older, generations))

  -- what is kept is there at its new name, with its pointers renamed
  record IsThere (name : ℕ) : Type 0 where
    pub object : Object
    pub there : object_at old name ≡ Some object
    pub new_object : Object
    pub new_there : object_at new (renamed places name) ≡ Some new_object
    pub pointers : new_object.pointers ≡ map (option_map (renamed places)) object.pointers

  kept_there : (name : ℕ) → IsLiveOrOlder old g name → IsThere name
  kept_there name kept =
      ⊎_elim
      (λ live.
      let young = Live-young old g name live in
      record {
        object = young.object;
        there = young.there;
        new_object = moved_to places (dest shape (young.object.generation, young.object.step)) young.object;
        new_there = collected.live name young.object live young.there;
        pointers = refl;
      })
      (λ older. record {
        object = older.object;
        there = older.there;
        new_object = moved_to places (older.object.generation, older.object.step) older.object;
        new_there = ap (object_at new) (older_stays name older) ∙ collected.older name older.object older older.there;
        pointers = refl;
      })
      kept

  -- an object is young or older
  young_or_older : (name : ℕ) → ((o : Object) × (object_at old name ≡ Some o)) → IsYoung old g name ⊎ IsOlder old g name
  young_or_older name there =
      ⊎_elim
      (λ above. inr (record { object = there.0; there = there.1; older = above }))
      (λ le. inl (record { object = there.0; there = there.1; young = le }))
      (cases_lt g there.0.generation)

  -- what a pointer of a kept object, or a root, leads to is kept
  target_kept : (name i target : ℕ) → IsLiveOrOlder old g name → field_at old name i ≡ Some (Some target) → IsLiveOrOlder old g target
  target_kept name i target kept e =
      ⊎_elim
      (λ young.
      inl (⊎_elim
      (λ live. later live (record { i = i; leads = e; young = young }))
      (λ older. first (young, inr (name, (i, record { holder = older; leads = e }))))
      kept))
      (λ older. inr older)
      (young_or_older target (closed.fields name i target e))

  root_kept : (root target : ℕ) → root_at old root ≡ Some target → IsLiveOrOlder old g target
  root_kept root target e =
      ⊎_elim
      (λ young. let rooted : IsRooted old target = record { root = root; leads = e } in inl (first (young, inl rooted)))
      (λ older. inr older)
      (young_or_older target (closed.roots root target e))

  kept_target : (name target : ℕ) → IsLiveOrOlder old g name → renamed places name ≡ target → (o : Object) × (object_at new target ≡ Some o)
  kept_target name target kept is = let there = kept_there name kept in (there.new_object, ap (object_at new) (sym is) ∙ there.new_there)

  -- after a collection each pointer and root leads to an object again
  pub closed_collected : IsClosed new
  closed_collected = record {
    fields = λ place i target e.
        let f = has_field new place i target e in
        let from = collected.no_others place f.object f.there in
        let there = kept_there from.0 from.1 in
        let same : f.object ≡ there.new_object = same_Some _ _ (sym f.there ∙ ap (object_at new) (sym from.2) ∙ there.new_there) in
        let was = was_pointer (renamed places) there.object.pointers i target (ap (λ (ps : List (Option ℕ)). slice_get ps i) (sym there.pointers ∙ ap (λ (o : Object). o.pointers) (sym same)) ∙ f.leads) in
        kept_target was.old target (target_kept from.0 i was.old from.1 (field_is old from.0 i was.old there.object there.there was.at)) was.is;
    roots = λ root target e.
        let from = from_root (renamed places) (root_at old root) target (sym (collected.roots root) ∙ e) in
        kept_target from.0 target (root_kept root from.0 from.1) from.2;
  }
