use Rattle.std.proofs.Common.{◌++◌, ◌∷◌, [], ℕ, map, take, ap, sym, ◌∙◌}
use Rattle.std.proofs.lemmas.List.{map-append, append-nil, take_all}
use Rattle.std.specs.Prelude.{IsSome, slice_index_or}
use Rattle.std.specs.FinMap.{get}
use Rattle.std.proofs.Common.{None}
use Rattle.layout.specs.declared.place.Place.{Place}
use Rattle.heap.specs.declared.heap_commit.moves.RenamedRoot.{RenamedRoot}
use Rattle.steps.specs.CollectionValue.{target_of_slot}
use Rattle.steps.specs.SlotView.{slot_value}
use Rattle.heap_objects.specs.Collecting.{IsNumbered}
use Rattle.heap.specs.Moves.{roots_by}
use Rattle.heap.specs.RootView.{root_pair}
use Rattle.heap.proofs.MovedFields.{all_at, take_next, roots-append}
use Rattle.heap.proofs.heap_commit.moves.renamed_roots.Goals as goal
use Rattle.heap.proofs.heap_commit.moves.renamed_roots.Goals.{in-Root+in_ok-push, in_default}

abbrev pushed_root : ℕ → Place → RenamedRoot
pushed_root number place = record { number = number; place = place }

pub loop-slot-init : goal.loop-slot-init
loop-slot-init g c = λ f moves. ap (map root_pair) c.in_ok-roots.ensures.items

pub place_after-requires-clause-there : goal.place_after-requires-clause-there
place_after-requires-clause-there g c =
    rw c.in-Root.is at (all_at (λ s. IsSome (get c.args.objects.now.objects (target_of_slot s))) slot_value c.args.slots.now c.loop-slot.slot-index c.slot-item.result c.slot-item.is c.loop-slot-test.true c.requires.leads)

pub place_after-requires-clause-named : goal.place_after-requires-clause-named
place_after-requires-clause-named g c =
    rw c.in-Root.is at (all_at (λ s. (number : ℕ) → IsNumbered c.args.objects.now c.args.g (target_of_slot s) number → IsSome (slice_index_or c.args.places.now number None)) slot_value c.args.slots.now c.loop-slot.slot-index c.slot-item.result c.slot-item.is c.loop-slot-test.true c.requires.named)

pub loop-slot-preserved : goal.loop-slot-preserved
loop-slot-preserved g c =
    λ f moves.
    let before = roots_by f (map slot_value (take c.loop-slot.slot-index c.args.slots.now)) in
    let next = ap (roots_by f) (take_next slot_value c.args.slots.now c.loop-slot.slot-index c.slot-item.result c.slot-item.is c.loop-slot-test.true) ∙ roots-append f (map slot_value (take c.loop-slot.slot-index c.args.slots.now)) (slot_value c.slot-item.result ∷ []) in
    elim c.match-slot.branch [
      | in-Root+in_ok-push w ↦ rw w.roots-is (
          ap (map root_pair) w.in_ok-push.ensures.items
          ∙ map-append root_pair c.loop-slot.roots.items (pushed_root w.in-Root.root.number w.place_after.result ∷ [])
          ∙ ap (λ es. es ++ root_pair (pushed_root w.in-Root.root.number w.place_after.result) ∷ []) (c.loop-slot.invariant f moves)
          ∙ ap (λ p. before ++ (w.in-Root.root.number, p) ∷ []) (w.place_after.ensures f moves)
          ∙ sym (next ∙ ap (λ s. before ++ roots_by f (slot_value s ∷ [])) w.in-Root.is))
      | in_default w ↦ rw w.roots-is (c.loop-slot.invariant f moves ∙ sym (next ∙ ap (λ s. before ++ roots_by f (slot_value s ∷ [])) w.in_default.is ∙ append-nil before))
    ]

pub returns : goal.returns
returns g c = λ f moves. c.loop-slot.invariant f moves ∙ ap (λ ss. roots_by f (map slot_value ss)) (take_all c.loop-slot.slot-index c.args.slots.now c.loop-slot-test.false)
