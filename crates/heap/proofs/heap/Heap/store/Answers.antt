use Rattle.std.proofs.Common.{◌≡◌, ap, ◌∙◌, sym, refl, rules}
use Rattle.std.specs.Option.{option_map}
use Rattle.layout.specs.Place.{place_word}
use Rattle.heap.specs.HeapView.{heap_of, heap_with}
use Rattle.heap.specs.Commands.{MustNote, leads_younger, value_at}
use Rattle.heap.proofs.Storing.{held}
use Rattle.heap.proofs.Wholes.{whole_stored}
use Rattle.heap.proofs.heap.Heap.store.Goals as goal
use Rattle.heap.proofs.heap.Heap.store.Goals.{in-None, in-Some-value+in-Some-target}

pub invariant_of-self-2 : goal.invariant_of-self-2
invariant_of-self-2 g c =
    let graph = (heap_of c.self.inside.objects c.self.inside.roots.slots).graph in
    let h = held graph c.args.root.number _ _ c.self.invariant.closed (rw (← c.self.view_is) at c.target.ensures) c.in-Some.is in
    let to : option_map place_word c.match-value.target ≡ value_at graph (option_map (λ r. r.number) c.args.value) =
    elim c.match-value.branch [
      | in-None w ↦ rw (w.target-is, w.in-None.is) refl
      | in-Some-value+in-Some-target w ↦ rw (w.target-is, w.in-Some-value.is) (sym (ap (option_map place_word) w.in-Some-target.is) ∙ (rw (← c.self.view_is) at w.target-in-Some-value.ensures))
    ] in
    whole_stored c.self.inside.objects c.set_pointer.new.self c.self.inside.roots.slots c.self.inside.remembered c.args.root.number _ c.free_count-objects.ensures.sound c.self.invariant h c.args.field _ _ c.remember.new.sets to (c.set_pointer.ensures h.object h.there) (c.in-Ok.ensures.ok h.object h.there)

pub returns-in_default-remember-clause-memory : goal.returns-in_default-remember-clause-memory
returns-in_default-remember-clause-memory g c = λ _.
    let heap = heap_with c.self.inside.objects c.self.inside.roots.slots c.self.inside.remembered in
    let value = option_map (λ r. r.number) c.args.value in
    let h = held heap.graph c.args.root.number _ _ c.self.invariant.closed (rw (← c.self.view_is) at c.target.ensures) c.in-Some.is in
    let to : option_map place_word c.match-value.target ≡ value_at heap.graph value =
    elim c.match-value.branch [
      | in-None w ↦ rw (w.target-is, w.in-None.is) refl
      | in-Some-value+in-Some-target w ↦ rw (w.target-is, w.in-Some-value.is) (sym (ap (option_map place_word) w.in-Some-target.is) ∙ (rw (← c.self.view_is) at w.target-in-Some-value.ensures))
    ] in
    let due = c.in_default-remember.ensures.memory h.object h.there in
    let must : MustNote heap c.args.root.number value = record {
      name = place_word c.in-Some.holder;
      object = h.object;
      root_is = h.root_is;
      there = h.there;
      younger = ap (leads_younger heap.graph h.object) (sym to) ∙ due.0;
      no_member = due.1;
    } in
    rw (← c.self.view_is) must

pub returns-in_default-remember-clause-no_root : goal.returns-in_default-remember-clause-no_root
returns-in_default-remember-clause-no_root g c = search rules

pub returns-in_default-remember-clause-bad_field : goal.returns-in_default-remember-clause-bad_field
returns-in_default-remember-clause-bad_field g c = search rules

pub returns-in-None-target-clause-no_root : goal.returns-in-None-target-clause-no_root
returns-in-None-target-clause-no_root g c = search rules

pub returns-in-None-target-clause-bad_field : goal.returns-in-None-target-clause-bad_field
returns-in-None-target-clause-bad_field g c = search rules

pub returns-then-field-pointer_count-clause-no_root : goal.returns-then-field-pointer_count-clause-no_root
returns-then-field-pointer_count-clause-no_root g c = search rules

pub returns-then-field-pointer_count-clause-bad_field : goal.returns-then-field-pointer_count-clause-bad_field
returns-then-field-pointer_count-clause-bad_field g c = search rules
