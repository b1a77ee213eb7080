use Rattle.std.proofs.Common.{◌-◌, subst, ap, arith}
use Rattle.std.specs.Result.{IfOk}
use Rattle.steps.specs.CollectionValue.{IsOpened}
use Rattle.heap_text.proofs.Opened.{has_all}
use Rattle.heap_text.proofs.listing.all_objects.Goals as goal

pub returns-in-Ok : goal.returns-in-Ok
returns-in-Ok g c =
    let opened = subst (λ r. IfOk r (IsOpened c.args.heap.now (c.generations.result - 1))) c.in-Ok.is c.open_collection.ensures.ok in
    has_all c.args.heap.now _ c.in-Ok.all opened c.open_collection.ensures.sound (omega (arith, c.generations.ensures.value, ap (λ k. k.shape.generations) c.config.ensures))
