-- Where the collection starts: at what the roots lead to.
use Rattle.std.proofs.Common.{◌≡◌, ℕ, suc, ◌+◌, ◌<◌, ◌≤◌, List, [], ◌∷◌, ◌++◌, length, map, get_or, Some, refl, sym, ap, subst, ◌∙◌, arith, ⊎_elim, inl, inr, nat_eq, eq-eqb}
use Rattle.std.proofs.lemmas.Bool.{cases_eq, cases_lt}
use Rattle.std.specs.Ordering.{nat_cmp}
use Rattle.std.specs.FinMap.{find, entries, get-entries}
use Rattle.model.specs.Graph.{Object, object_at}
use Rattle.model.specs.Laws.{GenerationsBelow, IsOldToYoung}
use Rattle.model.specs.Live.{IsRooted}
use Rattle.model.specs.Reached.{first}
use Rattle.model.specs.OldSlots.{Slot, old_slots}
use Rattle.model.proofs.Among.{Among, among_Contains, Contains-among}
use Rattle.model.proofs.OldSlotsExact.{old_slots_exact}
use Rattle.model.proofs.NatMap.{find_same, find_other}
use Rattle.model.proofs.Options.{some_not_none}
use Rattle.model.proofs.RisingKeys.{find_entry, entries-rise}
use Rattle.steps.specs.HeapValue.{HeapValue}
use Rattle.steps.specs.CollectionValue.{CollectionValue, IsOpened, SlotValue, root_slot, field_slot_of, target_of_slot}
use Rattle.heap.proofs.SoundHeap.{heap_closed, heap_object}
use Rattle.workers.specs.Total.{one_if, times}
use Rattle.workers.specs.Joined.{Each}
use Rattle.model.specs.Collected.{IsLiveOrOlder}
use Rattle.workers.specs.Alone.{HasStarts}
use Rattle.workers.proofs.Lists.{Each-append}
use Rattle.workers.proofs.Totals.{total-append}
use Rattle.scavenge.specs.ReadyToCollect.{IsReadyToCollect}

some_is : {X : Type 0} {x y : X} → Some x ≡ Some y → x ≡ y
some_is e = cc

root_targets : (es : List (ℕ × ℕ)) (more : List SlotValue) → map target_of_slot (map (λ e. root_slot e.0 e.1) es ++ more) ≡ map (λ e. e.1) es ++ map target_of_slot more
root_targets [] more = refl
root_targets (e ∷ es) more = ap (λ ts. e.1 ∷ ts) (root_targets es more)

old_targets : (slots : List Slot) → map target_of_slot (map field_slot_of slots) ≡ map (λ (s : Slot). s.target) slots
old_targets [] = refl
old_targets (s ∷ slots) = ap (λ ts. s.target ∷ ts) (old_targets slots)

slot_targets : (heap : HeapValue) (c : CollectionValue) → IsOpened heap c.generation c
    → map target_of_slot c.slots ≡ map (λ e. e.1) (entries heap.graph.roots) ++ map (λ (s : Slot). s.target) (old_slots heap.graph heap.config.shape.generations c.generation)
slot_targets heap c opened =
    let old = old_slots heap.graph heap.config.shape.generations c.generation in
    ap (map target_of_slot) opened.slots
    ∙ root_targets (entries heap.graph.roots) (map field_slot_of old)
    ∙ ap (λ ts. map (λ (e : ℕ × ℕ). e.1) (entries heap.graph.roots) ++ ts) (old_targets old)

-- what holds of the element at each place holds of each
each_at : {A : Type 0} (P : A → Type 0) (xs : List A) (d : A) → ((k : ℕ) → k < length xs → P (get_or xs k d)) → Each P xs
each_at P [] d h = tt
each_at P (x ∷ xs) d h = (h 0 (omega arith), each_at P xs d (λ k lt. h (suc k) (omega arith)))

each_map : {A B : Type 0} (P : B → Type 0) (f : A → B) (xs : List A) → Each (λ x. P (f x)) xs → Each P (map f xs)
each_map P f [] h = tt
each_map P f (x ∷ xs) h = (h.0, each_map P f xs h.1)

found_stands : (root target : ℕ) (es : List (ℕ × ℕ)) → find nat_cmp root es ≡ Some target → 0 < times target (map (λ e. e.1) es)
found_stands root target [] is = absurd (some_not_none (sym is))
found_stands root target (e ∷ es) is =
    ⊎_elim
    (λ (same : root ≡ e.0).
    let v : e.1 ≡ target = some_is (sym (find_same e.0 e.1 es) ∙ ap (λ k. find nat_cmp k (e ∷ es)) (sym same) ∙ is) in
    let o : one_if (nat_eq e.1 target) ≡ 1 = ap one_if (eq-eqb e.1 target v) in
    omega arith)
    (λ ne. let r = found_stands root target es (sym (find_other root e.0 e.1 es ne) ∙ is) in omega (arith, r))
    (cases_eq root e.0)

-- what holds of each member holds of each
each_among : {A : Type 0} (P : A → Type 0) (xs : List A) → ((x : A) → Among x xs → P x) → Each P xs
each_among P [] h = tt
each_among P (x ∷ xs) h = (h x (inl refl), each_among P xs (λ y at. h y (inr at)))

target_stands : (slot : Slot) (slots : List Slot) → Among slot slots → 0 < times slot.target (map (λ (s : Slot). s.target) slots)
target_stands slot [] at = absurd at
target_stands slot (s ∷ slots) (inl same) =
    let o : one_if (nat_eq s.target slot.target) ≡ 1 = ap one_if (eq-eqb s.target slot.target (ap (λ (x : Slot). x.target) (sym same))) in
    omega arith
target_stands slot (s ∷ slots) (inr at) = let r = target_stands slot slots at in omega (arith, r)

module _ (heap : HeapValue) (c : CollectionValue) (r : IsReadyToCollect heap c) where
  abbrev old : List Slot
  old = old_slots heap.graph heap.config.shape.generations c.generation

  below : GenerationsBelow heap.graph heap.config.shape.generations
  below name o is = (heap_object heap r.sound name o is).step.generation

  -- what a root leads to is live, or older than what is collected
  rooted_kept : (name : ℕ) → IsRooted heap.graph name → IsLiveOrOlder heap.graph c.generation name
  rooted_kept name rooted =
      let there : (o : Object) × (object_at heap.graph name ≡ Some o) = (heap_closed heap r.sound).roots rooted.root name rooted.leads in
      ⊎_elim
      (λ (l : c.generation < there.0.generation). inr (record { object = there.0; there = there.1; older = l }))
      (λ (l : there.0.generation ≤ c.generation). inl (first (record { object = there.0; there = there.1; young = l }, inl rooted)))
      (cases_lt c.generation there.0.generation)

  -- what an old slot leads to is live
  old_kept : (slot : Slot) → Among slot old → IsLiveOrOlder heap.graph c.generation slot.target
  old_kept slot at =
      let is : IsOldToYoung heap.graph c.generation slot = (old_slots_exact heap.graph heap.config.shape.generations c.generation slot below).0 (Contains-among old slot at) in
      inl (first (is.young, inr (slot.holder, (slot.field, is.old))))

  pub targets_live : Each (IsLiveOrOlder heap.graph c.generation) (map target_of_slot c.slots)
  targets_live =
      subst (Each (IsLiveOrOlder heap.graph c.generation)) (sym (slot_targets heap c r.opened))
      (Each-append (IsLiveOrOlder heap.graph c.generation) (map (λ (e : ℕ × ℕ). e.1) (entries heap.graph.roots)) (map (λ (s : Slot). s.target) old) of_roots of_old)
    where
      of_roots : Each (IsLiveOrOlder heap.graph c.generation) (map (λ (e : ℕ × ℕ). e.1) (entries heap.graph.roots))
      of_roots =
          each_map (IsLiveOrOlder heap.graph c.generation) (λ (e : ℕ × ℕ). e.1) (entries heap.graph.roots)
          (each_at (λ (e : ℕ × ℕ). IsLiveOrOlder heap.graph c.generation e.1) (entries heap.graph.roots) (0, 0) (λ k lt. rooted_kept _ (record {
            root = (get_or (entries heap.graph.roots) k (0, 0)).0;
            leads = get-entries heap.graph.roots (get_or (entries heap.graph.roots) k (0, 0)).0 ∙ find_entry 0 (entries heap.graph.roots) k (0, 0) (entries-rise heap.graph.roots) lt;
          })))

      of_old : Each (IsLiveOrOlder heap.graph c.generation) (map (λ (s : Slot). s.target) old)
      of_old = each_map (IsLiveOrOlder heap.graph c.generation) (λ (s : Slot). s.target) old (each_among (λ (s : Slot). IsLiveOrOlder heap.graph c.generation s.target) old old_kept)

  pub has_starts : HasStarts heap.graph c.generation (map target_of_slot c.slots)
  has_starts target is =
      let sum : times target (map (λ (e : ℕ × ℕ). e.1) (entries heap.graph.roots) ++ map (λ (s : Slot). s.target) old) ≡ times target (map (λ (e : ℕ × ℕ). e.1) (entries heap.graph.roots)) + times target (map (λ (s : Slot). s.target) old) = total-append (λ x. one_if (nat_eq x target)) _ _ in
      subst (λ ts. 0 < times target ts) (sym (slot_targets heap c r.opened)) (⊎_elim
      (λ (rooted : IsRooted heap.graph target). let h = found_stands rooted.root target (entries heap.graph.roots) (sym (get-entries heap.graph.roots rooted.root) ∙ rooted.leads) in omega (arith, h, sum))
      (λ from.
      let slot : Slot = record { holder = from.0; field = from.1.0; target = target } in
      let at : Among slot old = among_Contains old slot ((old_slots_exact heap.graph heap.config.shape.generations c.generation slot below).1 (record { old = from.1.1; young = is.0 })) in
      let h : 0 < times target (map (λ (s : Slot). s.target) old) = target_stands slot old at in
      omega (arith, h, sum))
      is.1)
