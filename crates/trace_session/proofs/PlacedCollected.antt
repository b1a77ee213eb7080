-- A store and the heap that stands for it, each after a collection.
use Rattle.std.proofs.Common.{◌≡◌, ℕ, ◌<◌, ◌≤◌, true, false, cond, List, [], ◌∷◌, map, Option, Some, None, refl, sym, ap, subst, ◌∙◌, arith, zero-add, inl, inr, ⊎_elim}
use Rattle.std.specs.Prelude.{nat_le, if◌then◌else◌, unwrap_or}
use Rattle.std.specs.Option.{option_map}
use Rattle.std.proofs.str.Laws.{order}
use Rattle.std.proofs.lemmas.Bool.{leb-true, le-leb, lt-ltb, cases_Bool}
use Rattle.std.specs.Ordering.{nat_cmp}
use Rattle.std.specs.FinMap.{find}
use Rattle.model.proofs.LiveLemmas.{Live-young}
use Rattle.model.specs.Graph as graph
use Rattle.model.specs.Graph.{Graph, Object, root_at}
use Rattle.model.specs.Reached.{has}
use Rattle.model.specs.Live.{IsOlder}
use Rattle.model.specs.Collected.{Collected, IsLiveOrOlder, renamed}
use Rattle.model.specs.Destination.{dest}
use Rattle.model.specs.Config.{Config}
use Rattle.model.specs.Store.{Store, object_at, targets, live_list, collected, moved, kept_or_gone}
use Rattle.trace_session.specs.NamesView.{named}
use Rattle.trace_session.specs.Stands.{renamed_object, IsPlaced, IsNamed, LeadsTo}
use Rattle.trace_session.proofs.StoreObjects.{at_slot, slot_at-survivors}
use Rattle.model.proofs.SlotMap.{slot_at}
use Rattle.trace_session.proofs.NamedLemmas.{none_is_some, one_value}
use Rattle.model.proofs.KeyLists.{same_len}
use Rattle.trace_session.proofs.LiveSame.{listed_live, live_listed, listed_young, young_object, object_young, stands_at, same_generation, step_listed, old_listed, named_listed}

above_not : (x y : ℕ) → x < y → nat_le y x ≡ false
above_not x y lt = ⊎_elim (λ t. let le = leb-true y x t in absurd (omega (arith, lt, le))) (λ f. f) (cases_Bool (nat_le y x))

pointers_twice : (f f' : ℕ → ℕ) (pointers : List (Option ℕ)) → map (option_map f') (map (option_map f) pointers) ≡ map (option_map (λ n. f' (f n))) pointers
pointers_twice f f' [] = refl
pointers_twice f f' (None ∷ pointers) = ap (λ ps. None ∷ ps) (pointers_twice f f' pointers)
pointers_twice f f' (Some n ∷ pointers) = ap (λ ps. Some (f' (f n)) ∷ ps) (pointers_twice f f' pointers)

module _ (config : Config) (g : ℕ) (store : Store) where
  abbrev pub store' : Store
  store' = collected config g store

  pub object_after : (name : ℕ) → object_at store' name ≡ kept_or_gone config.shape g (has (live_list store g) name) (object_at store name)
  object_after name =
      at_slot store'.objects name ∙ slot_at-survivors config.shape g (live_list store g) 0 store.objects name
      ∙ ap (λ k. kept_or_gone config.shape g (has (live_list store g) k) (slot_at store.objects name)) (zero-add name)
      ∙ ap (kept_or_gone config.shape g (has (live_list store g) name)) (sym (at_slot store.objects name))

  young_after : (name : ℕ) (o : Object) → object_at store name ≡ Some o → o.generation ≤ g → object_at store' name ≡ (if has (live_list store g) name then Some (moved config.shape o) else None)
  young_after name o there young =
      object_after name ∙ ap (kept_or_gone config.shape g (has (live_list store g) name)) there
      ∙ ap (λ b. cond b (cond (has (live_list store g) name) (Some (moved config.shape o)) None) (Some o)) (le-leb o.generation g young)

  pub kept_after : (name : ℕ) (o : Object) → object_at store name ≡ Some o → o.generation ≤ g → has (live_list store g) name ≡ true → object_at store' name ≡ Some (moved config.shape o)
  kept_after name o there young listed = young_after name o there young ∙ ap (λ b. cond b (Some (moved config.shape o)) None) listed

  pub old_after : (name : ℕ) (o : Object) → object_at store name ≡ Some o → g < o.generation → object_at store' name ≡ Some o
  old_after name o there older =
      object_after name ∙ ap (kept_or_gone config.shape g (has (live_list store g) name)) there
      ∙ ap (λ b. cond b (cond (has (live_list store g) name) (Some (moved config.shape o)) None) (Some o)) (above_not g o.generation older)

  -- an object that is there afterwards was kept, young or old
  pub data Survives (name : ℕ) (o : Object) : Type 0 where
    is_live : (was : Object) → object_at store name ≡ Some was → was.generation ≤ g → has (live_list store g) name ≡ true → o ≡ moved config.shape was → Survives name o
    is_old : object_at store name ≡ Some o → g < o.generation → Survives name o

  pub survives : (name : ℕ) (o : Object) → object_at store' name ≡ Some o → Survives name o
  survives name o there = go (object_at store name) refl
    where
      go : (was : Option Object) → object_at store name ≡ was → Survives name o
      go None is = none_is_some (object_at store' name) o (object_after name ∙ ap (kept_or_gone config.shape g (has (live_list store g) name)) is) there
      go (Some was) is =
          ⊎_elim
          (λ older. is_old (is ∙ ap (λ x. Some x) (one_value (object_at store' name) was o (old_after name was is older) there)) (subst (λ x. g < x.generation) (one_value (object_at store' name) was o (old_after name was is older) there) older))
          (λ young. ⊎_elim
          (λ listed. is_live was is young listed (one_value (object_at store' name) o (moved config.shape was) there (kept_after name was is young listed)))
          (λ dead. none_is_some (object_at store' name) o (young_after name was is young ∙ ap (λ b. cond b (Some (moved config.shape was)) None) dead) there)
          (cases_Bool (has (live_list store g) name)))
          (order g was.generation)

module _ (config : Config) (g : ℕ) (store : Store) (place : ℕ → ℕ) (heap heap' : Graph) (names : List (List ℕ × ℕ)) (placed : IsPlaced store place heap) (before : IsNamed store place heap names) (places : List (ℕ × ℕ)) (c : Collected config.shape config.block_words heap g places heap') where
  abbrev after : Store
  after = collected config g store

  abbrev pub place' : ℕ → ℕ
  place' name = renamed places (place name)

  abbrev Was : ℕ → Object → Type 0
  Was name o = Survives config g store name o

  older_place : (name : ℕ) (o : Object) → object_at store name ≡ Some o → g < o.generation → IsOlder heap g (place name)
  older_place name o there older = record { object = renamed_object place o; there = placed.objects name o there; older = older }

  is_kept : (name : ℕ) (o : Object) → Was name o → IsLiveOrOlder heap g (place name)
  is_kept name o (is_live was there young listed is) = inl (listed_live store place heap names placed before g name listed)
  is_kept name o (is_old there older) = inr (older_place name o there older)

  was_there : (name : ℕ) (o : Object) → Was name o → (x : Object) × (object_at store name ≡ Some x)
  was_there name o (is_live was there young listed is) = (was, there)
  was_there name o (is_old there older) = (o, there)

  -- a place of an older object is not renamed
  older_stays : (name : ℕ) (o : Object) → object_at store name ≡ Some o → g < o.generation → place' name ≡ place name
  older_stays name o there older = go (find nat_cmp (place name) places) refl
    where
      go : (r : Option ℕ) → find nat_cmp (place name) places ≡ r → place' name ≡ place name
      go None is = ap (λ r. unwrap_or r (place name)) is
      go (Some at) is =
          let young = Live-young heap g (place name) (c.renaming.only_live (place name) at is) in
          let same : young.object ≡ renamed_object place o = one_value (graph.object_at heap (place name)) young.object (renamed_object place o) young.there (placed.objects name o there) in
          let generation : young.object.generation ≡ o.generation = ap (λ x. x.generation) same in
          absurd (omega (arith, young.young, older, generation))

  objects' : (name : ℕ) (o : Object) → Was name o → graph.object_at heap' (place' name) ≡ Some (renamed_object place' o)
  objects' name o (is_live was there young listed is) =
      c.live (place name) (renamed_object place was) (listed_live store place heap names placed before g name listed) (placed.objects name was there)
      ∙ ap (λ ps. Some (record { pointers = ps; plain = was.plain; generation = (dest config.shape (was.generation, was.step)).0; step = (dest config.shape (was.generation, was.step)).1 })) (pointers_twice place (renamed places) was.pointers)
      ∙ ap (λ x. Some (renamed_object place' x)) (sym is)
  objects' name o (is_old there older) =
      ap (graph.object_at heap') (older_stays name o there older)
      ∙ c.older (place name) (renamed_object place o) (older_place name o there older) (placed.objects name o there)
      ∙ ap (λ ps. Some (record { pointers = ps; plain = o.plain; generation = o.generation; step = o.step })) (pointers_twice place (renamed places) o.pointers)

  from_kept : (at : ℕ) → IsLiveOrOlder heap g at → (name : ℕ) × ((x : Object) × ((object_at after name ≡ Some x) × (place name ≡ at)))
  from_kept at (inl live) =
      let l = live_listed store place heap names placed before g at live in
      let o = young_object store g l.name (listed_young store place heap names placed before g l.name l.listed) in
      (l.name, (moved config.shape o.object, (kept_after config g store l.name o.object o.there o.young l.listed, l.place_is)))
  from_kept at (inr older) =
      let s = stands_at store place heap names placed before g at older.object older.there in
      let same = same_generation store place heap names placed before g at older.object older.there s in
      (s.name, (s.object, (old_after config g store s.name s.object s.there (omega (arith, same, older.older)), s.place_is)))

  no_others' : (k : ℕ) (o : Object) → graph.object_at heap' k ≡ Some o → (name : ℕ) × ((x : Object) × ((object_at after name ≡ Some x) × (place' name ≡ k)))
  no_others' k o there =
      let kept = c.no_others k o there in
      let from = from_kept kept.0 kept.1 in
      (from.0, (from.1.0, (from.1.1.0, ap (renamed places) from.1.1.1 ∙ kept.2)))

  one_to_one' : (a b : ℕ) (x y : Object) → object_at after a ≡ Some x → object_at after b ≡ Some y → place' a ≡ place' b → a ≡ b
  one_to_one' a b x y at_a at_b same =
      let was_a = survives config g store a x at_a in
      let was_b = survives config g store b y at_b in
      let places_same = c.renaming.one_to_one (place a) (place b) (is_kept a x was_a) (is_kept b y was_b) same in
      let o = was_there a x was_a in
      let p = was_there b y was_b in
      placed.one_to_one a b o.0 p.0 o.1 p.1 places_same

  -- an object that is reached stays, if it is young because it is in the list
  stays : (name : ℕ) (o : Object) → object_at store name ≡ Some o → ((o.generation ≤ g) → has (live_list store g) name ≡ true) → (x : Object) × (object_at after name ≡ Some x)
  stays name o there listed =
      ⊎_elim
      (λ older. (o, old_after config g store name o there older))
      (λ young. (moved config.shape o, kept_after config g store name o there young (listed young)))
      (order g o.generation)

  closed' : (name target : ℕ) (o : Object) → Was name o → has (targets o) target ≡ true → (x : Object) × (object_at after target ≡ Some x)
  closed' name target o (is_live was there young listed is) points =
      let points_was : has (targets was) target ≡ true = subst (λ x. has (targets x) target ≡ true) is points in
      let to = placed.closed name target was there points_was in
      stays target to.0 to.1 (λ young_to. step_listed store place heap names placed before g name target was there listed points_was (object_young store g target to.0 to.1 young_to))
  closed' name target o (is_old there older) points =
      let to = placed.closed name target o there points in
      stays target to.0 to.1 (λ young_to. old_listed store place heap names placed before g name target o there (lt-ltb g o.generation older) points (object_young store g target to.0 to.1 young_to))

  pub placed_collected : IsPlaced after place' heap'
  placed_collected = record {
    objects = λ name o there. objects' name o (survives config g store name o there);
    no_others = no_others';
    one_to_one = one_to_one';
    closed = λ name target o there points. closed' name target o (survives config g store name o there) points;
  }

  leads' : (text : List ℕ) (root : ℕ) → named names text ≡ Some root → LeadsTo after place' heap' text root
  leads' text root found =
      let leads = before.leads text root found in
      let there = stays leads.name leads.object leads.there (λ young. named_listed store place heap names placed before g text leads.name leads.named_is (object_young store g leads.name leads.object leads.there young)) in
      record {
        name = leads.name;
        object = there.0;
        named_is = leads.named_is;
        there = there.1;
        root_is = c.roots root ∙ ap (option_map (renamed places)) leads.root_is;
      }

  root_before : (root target : ℕ) → root_at heap' root ≡ Some target → (t : ℕ) × (root_at heap root ≡ Some t)
  root_before root target leads = go (root_at heap root) refl
    where
      go : (r : Option ℕ) → root_at heap root ≡ r → (t : ℕ) × (root_at heap root ≡ Some t)
      go None is = none_is_some (root_at heap' root) target (c.roots root ∙ ap (option_map (renamed places)) is) leads
      go (Some t) is = (t, is)

  pub named_collected : IsNamed after place' heap' names
  named_collected = record {
    leads = leads';
    free = before.free;
    apart = before.apart;
    no_others = λ root target leads. let was = root_before root target leads in before.no_others root was.0 was.1;
    sorted = before.sorted;
    count = same_len heap'.roots heap.roots (λ q v leads. root_before q v leads) (λ q t leads. (renamed places t, c.roots q ∙ ap (option_map (renamed places)) leads)) ∙ before.count;
  }
