use Rattle.std.proofs.Common.{◌≡◌, List, Option, ap, ◌∙◌}
use Rattle.std.proofs.lemmas.List.{take_all}
use Rattle.std.specs.Prelude.{flat_map}
use Rattle.model.specs.Graph.{Object}
use Rattle.reference.specs.Plain.{old_of}
use Rattle.reference.proofs.PlainLemmas.{old_of-present}
use Rattle.reference.proofs.store.Store.old_targets.Goals as goal

pub returns : goal.returns
returns g c =
    let slots : List (Option Object) = c.args.self.now.objects in
    let same : c.deref-slot-items.result.now ≡ slots = c.deref-slot-items.ensures.value ∙ ap (λ s. s.objects) c.self.view_is in
    c.loop-slot.invariant ∙ ap (flat_map (old_of c.args.g)) (take_all c.loop-slot.slot-index c.deref-slot-items.result.now c.loop-slot-test.false ∙ same) ∙ old_of-present c.args.g slots
