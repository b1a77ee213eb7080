use Rattle.std.proofs.Common.{◌++◌, map, take, [], ◌∷◌, sym, ap, ◌∙◌, take_all}
use Rattle.std.proofs.lemmas.List.{append-nil, map-append, take_more}
use Rattle.std.proofs.lemmas.Grind.{flat_map-append}
use Rattle.std.specs.Prelude.{flat_map}
use Rattle.layout.specs.Place.{place_word}
use Rattle.steps.specs.CollectionValue.{field_slot_of}
use Rattle.steps.specs.SlotView.{slot_value}
use Rattle.heap_objects.specs.HeapGraph.{slots_at}
use Rattle.heap_objects.proofs.FieldSlots.{pushed_more}
use Rattle.heap_objects.specs.Objects.{graph_in}
use Rattle.heap.proofs.remembering.old_slots.push_members.Goals as goal

pub loop-k-preserved : goal.loop-k-preserved
loop-k-preserved g c =
    let slots = slots_at (graph_in c.args.objects.now) c.args.g c.args.h in
    let k = c.loop-k.k in
    let place = c.index-members-k.result in
    let members = c.args.members.now in
    pushed_more _ _ _ _ _ _ c.loop-k.invariant c.in_ok-push_slots_of.ensures
    (ap (λ ps. flat_map slots (map place_word ps)) (take_more members k place c.loop-k-test.true)
    ∙ ap (λ p. flat_map slots (map place_word (take k members ++ p ∷ []))) (sym c.index-members-k.is)
    ∙ ap (flat_map slots) (map-append place_word (take k members) (place ∷ []))
    ∙ flat_map-append slots (map place_word (take k members)) (place_word place ∷ [])
    ∙ ap (λ ss. flat_map slots (map place_word (take k members)) ++ ss) (append-nil (slots (place_word place))))

pub returns : goal.returns
returns g c =
    c.loop-k.invariant
    ∙ ap (λ ps. map slot_value c.args.slots.now.items ++ map field_slot_of (flat_map (slots_at (graph_in c.args.objects.now) c.args.g c.args.h) (map place_word ps))) (take_all c.loop-k.k c.args.members.now c.loop-k-test.false)
