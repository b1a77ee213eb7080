-- The remembered sets have at least the objects with a pointer to a younger one, after each change.
use Rattle.std.proofs.Common.{◌≡◌, ◌≢◌, ℕ, zero, suc, true, false, List, [], ◌∷◌, replicate, set, Option, Some, None, refl, sym, ap, subst, ◌∙◌, arith, ◌⊎◌, inl, inr, ⊎_elim}
use Rattle.std.proofs.lemmas.Bool.{true≢false, cases_eq}
use Rattle.std.proofs.lemmas.Bool.Decides.{nat_tests}
use Rattle.std.specs.Prelude.{slice_get, nat_lt}
use Rattle.std.specs.Option.{option_map_or}
use Rattle.std.specs.Ordering.{nat_cmp}
use Rattle.std.specs.FinMap.{FinMap, get, insert}
use Rattle.model.specs.Graph.{Graph, Object, IsClosed, object_at, with_pointer, fresh_object}
use Rattle.model.specs.Census.{points_to, points_younger}
use Rattle.model.specs.Reached.{has}
use Rattle.model.proofs.ClosedLemmas.{field_is}
use Rattle.model.proofs.NatMap.{get-insert_same, get-insert_other}
use Rattle.model.proofs.Options.{some_is, some_not_none}
use Rattle.steps.specs.Remembered.{CoversYounger, object_of_generation}
use Rattle.heap_objects.proofs.HeldObjects.{held}
use Rattle.remembered_set.specs.Sets.{members_of}
use Rattle.heap.specs.Growth.{AreGrown}
use Rattle.heap.proofs.Grown.{grown_has}
use Rattle.heap.proofs.Holding.{PointsTo, younger_from, younger_is, holder_is}

-- an object of the same name and generation that pointed to a younger one
pub record Pointed (old : Graph) (name : ℕ) (o : Object) : Type 0 where
  pub before : Object
  pub there : object_at old name ≡ Some before
  pub generation : before.generation ≡ o.generation
  pub points : PointsTo (object_at old) before

pub covers_by : (old new : Graph) (sets sets' : List (List ℕ)) → AreGrown sets sets'
    → ((name : ℕ) (o : Object) → object_at new name ≡ Some o → PointsTo (object_at new) o → (has (members_of sets' o.generation) name ≡ true) ⊎ Pointed old name o)
    → CoversYounger old sets → CoversYounger new sets'
covers_by old new sets sets' grown each covers h name holder = go (object_of_generation new h name) refl holder
  where
    go : (found : Option Object) → object_of_generation new h name ≡ found → option_map_or (points_younger (object_at new)) found false ≡ true → has (members_of sets' h) name ≡ true
    go None is e = absurd (true≢false (sym e))
    go (Some o) is e =
        let at = held new h name o is in
        subst (λ k. has (members_of sets' k) name ≡ true) at.1
        (⊎_elim
        (λ member. member)
        (λ was.
        let before = covers was.before.generation name (holder_is old name was.before was.there (younger_is (object_at old) was.before was.points)) in
        subst (λ k. has (members_of sets' k) name ≡ true) was.generation (grown_has sets sets' grown was.before.generation name before))
        (each name o at.0 (younger_from (object_at new) o e)))

module _ (objects : FinMap nat_cmp Object) (name : ℕ) (was now : Object) (there : get objects name ≡ Some was) (same : now.generation ≡ was.generation) where
  -- what leads to a younger object after the change of one, led to it before
  pub led_before : (target : ℕ) (other : Object) → get (insert objects name now) target ≡ Some other → (before : Object) × (get objects target ≡ Some before) × (before.generation ≡ other.generation)
  led_before target other is = ⊎_elim
      (λ at.
      let here : now ≡ other = some_is (sym (get-insert_same objects name now) ∙ ap (get (insert objects name now)) (sym at) ∙ is) in
      (was, ap (get objects) at ∙ there, sym same ∙ ap (λ x. x.generation) here))
      (λ differ. (other, sym (get-insert_other objects name now target differ) ∙ is, refl))
      (cases_eq target name)

  -- a pointer of an object that has it before, too
  pub pointed_with : (o before : Object) → before.generation ≡ o.generation → (points : PointsTo (get (insert objects name now)) o) → slice_get before.pointers points.field ≡ Some (Some points.target) → PointsTo (get objects) before
  pointed_with o before generation points pointer =
      let led = led_before points.target points.other points.there in
      record { field = points.field; target = points.target; pointer = pointer; other = led.0; there = led.1; younger = omega (arith, led.2, points.younger, generation) }

  -- an object that wasn't changed
  pub other_pointed : (graph : Graph) → graph.objects ≡ objects → (q : ℕ) (o : Object) → q ≢ name → get (insert objects name now) q ≡ Some o → PointsTo (get (insert objects name now)) o → Pointed graph q o
  other_pointed graph is q o differ at points = record {
    before = o;
    there = ap (λ m. get m q) is ∙ sym (get-insert_other objects name now q differ) ∙ at;
    generation = refl;
    points = subst (λ m. PointsTo (get m) o) (sym is) (pointed_with o o refl points points.pointer);
  }

  pub the_object : (o : Object) (q : ℕ) → q ≡ name → get (insert objects name now) q ≡ Some o → now ≡ o
  the_object o q at is = some_is (sym (get-insert_same objects name now) ∙ ap (get (insert objects name now)) (sym at) ∙ is)

no_pointer : (p i target : ℕ) → slice_get (replicate {A = Option ℕ} p None) i ≡ Some (Some target) → ⊥
no_pointer zero i target is = some_not_none (sym is)
no_pointer (suc p) zero target is = some_not_none (sym (some_is is))
no_pointer (suc p) (suc i) target is = no_pointer p i target is

-- a change that leaves pointers and generation
pub covers-same_pointers : (graph new : Graph) (sets : List (List ℕ)) (name : ℕ) (was now : Object) → object_at graph name ≡ Some was → now.generation ≡ was.generation → now.pointers ≡ was.pointers → new.objects ≡ insert graph.objects name now → AreGrown sets sets → CoversYounger graph sets → CoversYounger new sets
covers-same_pointers graph new sets name was now there generation pointers changed grown covers =
    covers_by graph new sets sets grown (λ q o is points.
    let is' : get (insert graph.objects name now) q ≡ Some o = subst (λ m. get m q ≡ Some o) changed is in
    let points' : PointsTo (get (insert graph.objects name now)) o = subst (λ m. PointsTo (get m) o) changed points in
    inr (⊎_elim
    (λ same.
    let here = the_object graph.objects name was now there generation o q same is' in
    record {
      before = was;
      there = ap (get graph.objects) same ∙ there;
      generation = sym generation ∙ ap (λ x. x.generation) here;
      points = pointed_with graph.objects name was now there generation o was (sym generation ∙ ap (λ x. x.generation) here) points' (ap (λ ps. slice_get ps points'.field) (sym pointers ∙ ap (λ x. x.pointers) here) ∙ points'.pointer);
    })
    (λ differ. other_pointed graph.objects name was now there generation graph refl q o differ is' points')
    (cases_eq q name))) covers

-- a new object without pointers
pub covers-fresh : (graph new : Graph) (sets : List (List ℕ)) (name p q : ℕ) → IsClosed graph → object_at graph name ≡ None → new.objects ≡ insert graph.objects name (fresh_object p q) → AreGrown sets sets → CoversYounger graph sets → CoversYounger new sets
covers-fresh graph new sets name p q closed none changed grown covers =
    covers_by graph new sets sets grown (λ k o is points.
    let more = insert graph.objects name (fresh_object p q) in
    let is' : get more k ≡ Some o = subst (λ m. get m k ≡ Some o) changed is in
    let points' : PointsTo (get more) o = subst (λ m. PointsTo (get m) o) changed points in
    inr (⊎_elim
    (λ same.
    let here : fresh_object p q ≡ o = some_is (sym (get-insert_same graph.objects name (fresh_object p q)) ∙ ap (get more) (sym same) ∙ is') in
    absurd (no_pointer p points'.field points'.target (ap (λ x. slice_get x.pointers points'.field) here ∙ points'.pointer)))
    (λ differ.
    let old : object_at graph k ≡ Some o = sym (get-insert_other graph.objects name (fresh_object p q) k differ) ∙ is' in
    let leads = closed.fields k points'.field points'.target (field_is graph k points'.field points'.target o old points'.pointer) in
    let apart : points'.target ≢ name = λ same. some_not_none (sym leads.1 ∙ ap (object_at graph) same ∙ none) in
    record {
      before = o;
      there = old;
      generation = refl;
      points = record { field = points'.field; target = points'.target; pointer = points'.pointer; other = points'.other; there = sym (get-insert_other graph.objects name (fresh_object p q) points'.target apart) ∙ points'.there; younger = points'.younger };
    })
    (cases_eq k name))) covers

-- a pointer that was stored: it is the new one, or one that the object had
stored_at : (ps : List (Option ℕ)) (i j target : ℕ) (to : Option ℕ) → slice_get (set ps i to) j ≡ Some (Some target) → (to ≡ Some target) ⊎ (slice_get ps j ≡ Some (Some target))
stored_at [] i j target to is = absurd (some_not_none (sym is))
stored_at (p ∷ ps) zero zero target to is = inl (some_is is)
stored_at (p ∷ ps) zero (suc j) target to is = inr is
stored_at (p ∷ ps) (suc i) zero target to is = inr is
stored_at (p ∷ ps) (suc i) (suc j) target to is = stored_at ps i j target to is

-- a store, where the holder is a member if its new pointer leads to a younger object
pub covers-stored : (graph new : Graph) (sets sets' : List (List ℕ)) (name i : ℕ) (was : Object) (to : Option ℕ) → object_at graph name ≡ Some was → new.objects ≡ insert graph.objects name (with_pointer was i to) → AreGrown sets sets'
    → (points_to (λ target. nat_lt target.generation was.generation) (object_at graph) to ≡ true → has (members_of sets' was.generation) name ≡ true) → CoversYounger graph sets → CoversYounger new sets'
covers-stored graph new sets sets' name i was to there changed grown noted covers =
    covers_by graph new sets sets' grown (λ q o is points.
    let more = insert graph.objects name (with_pointer was i to) in
    let is' : get more q ≡ Some o = subst (λ m. get m q ≡ Some o) changed is in
    let points' : PointsTo (get more) o = subst (λ m. PointsTo (get m) o) changed points in
    ⊎_elim
    (λ same.
    let here = the_object graph.objects name was (with_pointer was i to) there refl o q same is' in
    let generation : was.generation ≡ o.generation = ap (λ x. x.generation) here in
    ⊎_elim
    (λ leads.
    let led = led_before graph.objects name was (with_pointer was i to) there refl points'.target points'.other points'.there in
    let lower : nat_lt led.0.generation was.generation ≡ true = grind (arith, nat_tests, led.2, points'.younger, generation) in
    let member = noted (ap (points_to (λ target. nat_lt target.generation was.generation) (object_at graph)) leads ∙ ap (λ t. option_map_or (λ target. nat_lt target.generation was.generation) t false) led.1 ∙ lower) in
    inl (subst (λ n. has (members_of sets' o.generation) n ≡ true) (sym same) (subst (λ k. has (members_of sets' k) name ≡ true) generation member)))
    (λ had. inr (record {
      before = was;
      there = ap (get graph.objects) same ∙ there;
      generation = generation;
      points = pointed_with graph.objects name was (with_pointer was i to) there refl o was generation points' had;
    }))
    (stored_at was.pointers i points'.field points'.target to (ap (λ x. slice_get x.pointers points'.field) here ∙ points'.pointer)))
    (λ differ. inr (other_pointed graph.objects name was (with_pointer was i to) there refl graph refl q o differ is' points'))
    (cases_eq q name)) covers
