use Rattle.std.proofs.Common.{Some, None, sym, ◌∙◌, ap}
use Rattle.std.proofs.lemmas.List.{append-nil}
use Rattle.model.specs.Store.{some_of}
use Rattle.model.proofs.TargetLemmas.{flat_map_pushed}
use Rattle.reference.proofs.reference_data.object.Object.targets.Goals as goal
use Rattle.reference.proofs.reference_data.object.Object.targets.Goals.{in-Some+in_ok-push, in_default}

pub loop-pointer-preserved : goal.loop-pointer-preserved
loop-pointer-preserved g c =
    elim c.match-pointer.branch [
      | in-Some+in_ok-push w ↦
          flat_map_pushed some_of c.deref-pointer-items.result.now c.loop-pointer.found.items c.match-pointer.found.items c.loop-pointer.pointer-index None (Some w.in-Some.name) c.loop-pointer-test.true w.in-Some.is (ap (λ v. v.items) w.found-is ∙ w.in_ok-push.ensures.items) c.loop-pointer.invariant
      | in_default w ↦
          flat_map_pushed some_of c.deref-pointer-items.result.now c.loop-pointer.found.items c.match-pointer.found.items c.loop-pointer.pointer-index None None c.loop-pointer-test.true w.in_default.is (ap (λ v. v.items) w.found-is ∙ sym (append-nil c.loop-pointer.found.items)) c.loop-pointer.invariant
    ]
