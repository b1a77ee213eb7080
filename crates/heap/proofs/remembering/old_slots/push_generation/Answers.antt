use Rattle.std.proofs.Common.{◌++◌, map, ap, ◌∙◌, true, ◌≡◌, ℕ}
use Rattle.std.proofs.lemmas.Result.{on_ok_weaker}
use Rattle.model.specs.Reached.{has}
use Rattle.layout.specs.Place.{place_word}
use Rattle.steps.specs.CollectionValue.{field_slot_of}
use Rattle.steps.specs.SlotView.{slot_value}
use Rattle.steps.specs.Remembered.{is_holder}
use Rattle.heap_objects.specs.Objects.{graph_in}
use Rattle.heap.proofs.MemberSlots.{members_slots}
use Rattle.heap.proofs.remembering.old_slots.push_generation.Goals as goal

pub returns : goal.returns
returns g c =
    let covers : (name : ℕ) → is_holder (graph_in c.args.objects.now) c.args.h name ≡ true → has (map place_word c.in_ok-members.members.items) name ≡ true = λ name is. c.in_ok-members.ensures.all name ∙ c.requires.covers c.args.h name is in
    let pushed = rw c.deref.ensures.value at c.push_members.ensures in
    on_ok_weaker c.push_members.result
    (λ p. p ∙ ap (λ ss. map slot_value c.args.slots.now.items ++ map field_slot_of ss) (members_slots (graph_in c.args.objects.now) c.args.g c.args.h c.requires.older (map place_word c.in_ok-members.members.items) c.in_ok-members.ensures.rising covers))
    pushed
