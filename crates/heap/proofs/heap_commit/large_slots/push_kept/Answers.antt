use Rattle.std.proofs.Common.{◌≡◌, ◌++◌, map, sym, ap, subst, ◌∙◌}
use Rattle.std.proofs.lemmas.List.{append-nil}
use Rattle.std.specs.Prelude.{OnOk, is_some}
use Rattle.layout.specs.Place.{large_word}
use Rattle.steps.specs.CollectionValue.{field_slot_of}
use Rattle.steps.specs.SlotView.{slot_value}
use Rattle.heap_objects.specs.Collecting.{IsNumbered}
use Rattle.heap.proofs.KeptSlots.{kept_here, kept-gone}
use Rattle.heap.proofs.heap_commit.large_slots.push_kept.Goals as goal

pub returns-in-Some : goal.returns-in-Some
returns-in-Some g c =
    let numbered = rw c.in-Some.is at c.find-named.ensures.number in
    let number : IsNumbered c.args.objects.now c.args.g (large_word c.args.number.number) c.in-Some.n = numbered.1 in
    let kept = kept_here c.args.objects.now c.args.g c.args.places.now (large_word c.args.number.number) c.in-Some.n c.find-named.result.1.generation c.find-named.result.1.step numbered.0 number (ap is_some (sym c.place.ensures) ∙ sym c.is_some.ensures ∙ c.if-is_some.true) c.find-named.ensures.step in
    subst (λ ss. OnOk c.push_slots_of.result (map slot_value c.push_slots_of.new.slots.items ≡ map slot_value c.args.slots.now.items ++ map field_slot_of ss)) kept c.push_slots_of.ensures

pub returns-in_default : goal.returns-in_default
returns-in_default g c =
    let numbered = rw c.in-Some.is at c.find-named.ensures.number in
    let number : IsNumbered c.args.objects.now c.args.g (large_word c.args.number.number) c.in-Some.n = numbered.1 in
    let none = kept-gone c.args.objects.now c.args.g c.args.places.now (large_word c.args.number.number) c.in-Some.n number (ap is_some (sym c.place.ensures) ∙ sym c.is_some.ensures ∙ c.if-is_some.false) in
    sym (ap (λ ss. map slot_value c.args.slots.now.items ++ map field_slot_of ss) none ∙ append-nil (map slot_value c.args.slots.now.items))
