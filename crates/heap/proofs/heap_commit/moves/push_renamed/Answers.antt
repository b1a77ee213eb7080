use Rattle.std.proofs.Common.{◌++◌, ◌∷◌, [], ℕ, map, take, append_assoc, ap, sym, ◌∙◌}
use Rattle.std.proofs.lemmas.List.{map-append, append-nil, take_all}
use Rattle.std.specs.Prelude.{IsSome, slice_index_or}
use Rattle.std.specs.FinMap.{get}
use Rattle.std.proofs.Common.{None}
use Rattle.layout.specs.declared.place.Place.{Place}
use Rattle.heap.specs.declared.heap_commit.moves.RenamedField.{RenamedField}
use Rattle.layout.specs.Place.{place_word}
use Rattle.steps.specs.CollectionValue.{target_of_slot}
use Rattle.steps.specs.SlotView.{slot_value}
use Rattle.heap_objects.specs.Collecting.{IsNumbered}
use Rattle.heap.specs.Moves.{field_write, writes_by}
use Rattle.heap.proofs.MovedFields.{all_at, take_next, writes-append}
use Rattle.heap.proofs.heap_commit.moves.push_renamed.Goals as goal
use Rattle.heap.proofs.heap_commit.moves.push_renamed.Goals.{in-Field+in_ok-push, in_default}

abbrev pushed_field : Place → ℕ → Place → RenamedField
pushed_field holder field place = record { holder = holder; field = field; place = place }

pub loop-slot-init : goal.loop-slot-init
loop-slot-init g c = λ f moves. sym (append-nil (map field_write c.args.renamed.now.items))

pub place_after-requires-clause-there : goal.place_after-requires-clause-there
place_after-requires-clause-there g c =
    rw c.in-Field.is at (all_at (λ s. IsSome (get c.args.objects.now.objects (target_of_slot s))) slot_value c.args.slots.now c.loop-slot.slot-index c.slot-item.result c.slot-item.is c.loop-slot-test.true c.requires.leads)

pub place_after-requires-clause-named : goal.place_after-requires-clause-named
place_after-requires-clause-named g c =
    rw c.in-Field.is at (all_at (λ s. (number : ℕ) → IsNumbered c.args.objects.now c.args.g (target_of_slot s) number → IsSome (slice_index_or c.args.places.now number None)) slot_value c.args.slots.now c.loop-slot.slot-index c.slot-item.result c.slot-item.is c.loop-slot-test.true c.requires.named)

pub loop-slot-preserved : goal.loop-slot-preserved
loop-slot-preserved g c =
    λ f moves.
    let first = map field_write c.args.renamed.now.items in
    let before = writes_by f (map slot_value (take c.loop-slot.slot-index c.args.slots.now)) in
    let next = ap (writes_by f) (take_next slot_value c.args.slots.now c.loop-slot.slot-index c.slot-item.result c.slot-item.is c.loop-slot-test.true) ∙ writes-append f (map slot_value (take c.loop-slot.slot-index c.args.slots.now)) (slot_value c.slot-item.result ∷ []) in
    elim c.match-slot.branch [
      | in-Field+in_ok-push w ↦ rw w.renamed-is (
          ap (map field_write) w.in_ok-push.ensures.items
          ∙ map-append field_write c.loop-slot.renamed.items (pushed_field w.in-Field.holder w.in-Field.field w.place_after.result ∷ [])
          ∙ ap (λ ws. ws ++ field_write (pushed_field w.in-Field.holder w.in-Field.field w.place_after.result) ∷ []) (c.loop-slot.invariant f moves)
          ∙ ap (λ p. (first ++ before) ++ (place_word w.in-Field.holder, (w.in-Field.field, p)) ∷ []) (w.place_after.ensures f moves)
          ∙ append_assoc first before ((place_word w.in-Field.holder, (w.in-Field.field, f (place_word w.in-Field.target))) ∷ [])
          ∙ ap (λ ws. first ++ ws) (sym (next ∙ ap (λ s. before ++ writes_by f (slot_value s ∷ [])) w.in-Field.is)))
      | in_default w ↦ rw w.renamed-is (c.loop-slot.invariant f moves ∙ ap (λ ws. first ++ ws) (sym (next ∙ ap (λ s. before ++ writes_by f (slot_value s ∷ [])) w.in_default.is ∙ append-nil before)))
    ]

pub returns : goal.returns
returns g c = λ f moves. c.loop-slot.invariant f moves ∙ ap (λ ss. map field_write c.args.renamed.now.items ++ writes_by f (map slot_value ss)) (take_all c.loop-slot.slot-index c.args.slots.now c.loop-slot-test.false)
