use Rattle.std.proofs.Common.{◌≡◌, ◌++◌, ◌∷◌, [], cond, map, take, ◌%◌, sym, ap, ◌∙◌, Some, eq-eqb, ne_eqb}
use Rattle.std.proofs.lemmas.List.{map-append, append-nil}
use Rattle.std.specs.Prelude.{slice_get}
use Rattle.layout.specs.Place.{place_word}
use Rattle.heap.specs.SlotView.{slot_value}
use Rattle.heap.specs.CollectionValue.{target_of_slot}
use Rattle.workers.specs.System.{every}
use Rattle.scavenge.proofs.WorkspaceSlotLemmas.{every_next, get_index}
use Rattle.scavenge.proofs.workspace.opening.every_target.Goals.{then-turn-t+in_ok-push, else-turn-t}
use Rattle.scavenge.proofs.workspace.opening.every_target.Goals as goal

pub loop-slot-preserved : goal.loop-slot-preserved
loop-slot-preserved g c =
    let i = c.loop-slot.slot-index in
    let s = c.slot-item.result in
    let there : slice_get c.args.slots.now i ≡ Some s = get_index c.args.slots.now i s c.loop-slot-test.true ∙ ap (λ x. Some x) (sym c.slot-item.is) in
    let before = every c.args.n c.args.t 0 (map target_of_slot (map slot_value (take i c.args.slots.now))) in
    let next = every_next target_of_slot slot_value c.args.n c.args.t i c.args.slots.now s there c.loop-slot-test.true in
    let turn = c.loop-slot.invariant.turn in
    record {
      targets = elim c.if-turn-t.branch [
        | then-turn-t+in_ok-push w ↦
            ap (λ v. map place_word v.items) w.targets-is ∙ ap (map place_word) w.in_ok-push.ensures.items
            ∙ map-append place_word c.loop-slot.targets.items (w.target.result ∷ []) ∙ ap (λ xs. xs ++ place_word w.target.result ∷ []) c.loop-slot.invariant.targets
            ∙ ap (λ x. before ++ x ∷ []) w.target.ensures
            ∙ sym (next ∙ ap (λ b. before ++ cond b (target_of_slot (slot_value s) ∷ []) []) (eq-eqb (i % c.args.n) c.args.t (sym turn ∙ w.if-turn-t.true)))
        | else-turn-t w ↦
            ap (λ v. map place_word v.items) w.targets-is ∙ c.loop-slot.invariant.targets
            ∙ sym (next ∙ ap (λ b. before ++ cond b (target_of_slot (slot_value s) ∷ []) []) (ne_eqb (i % c.args.n) c.args.t (λ e. w.if-turn-t.false (turn ∙ e))) ∙ append-nil before)
      ];
      turn = c.turn_after-turn.ensures i turn;
    }
