use Rattle.std.proofs.Common.{◌≡◌, Err, sym, ap, subst, ◌∙◌}
use Rattle.std.specs.Prelude.{OnOk}
use Rattle.steps.specs.HeapValue.{HeapValue}
use Rattle.steps.specs.CollectionValue.{CollectionValue}
use Rattle.scavenge.specs.declared.looking.LookError.TheVariants.{HeapFull}
use Rattle.settling.specs.Collects.{ScansAlone, ScansOnce}
use Rattle.one_worker.specs.Stepping.{IsDone}
use Rattle.one_worker.proofs.Going.{reached_of}
use Rattle.one_worker.proofs.Concluding.{begins, ready_in, short_of, stuck_of, scans, scans_once}
use Rattle.one_worker.proofs.collecting.scavenged.Goals as goal

pub run_to_end-serial-requires-clause-stepped : goal.run_to_end-serial-requires-clause-stepped
run_to_end-serial-requires-clause-stepped g c = begins c.in_ok-serial.serial c.in_ok-serial.ensures.first

pub count_drawn-requires : goal.count_drawn-requires
count_drawn-requires g c =
    let was : c.run_to_end-serial.result.1 ≡ Err c.in-Err-HeapFull.field-0 = c.in-Err-HeapFull.is in
    let is : c.in-Err-HeapFull.field-0 ≡ HeapFull = rw c.in-Err-HeapFull.is at c.in-Err-HeapFull.field-0-is in
    (c.run_to_end-serial.ensures.full (was ∙ ap Err is)).out

pub settle-requires-clause-reached : goal.settle-requires-clause-reached
settle-requires-clause-reached g c =
    reached_of c.run_to_end-serial.result.0 (ready_in c.args.heap.now c.args.collection c.run_to_end-serial.result.0 c.requires c.run_to_end-serial.ensures.same) c.run_to_end-serial.ensures.stepped

pub returns-in_ok-settle-in-Ok-clause-scanned : goal.returns-in_ok-settle-in-Ok-clause-scanned
returns-in_ok-settle-in-Ok-clause-scanned g c =
    let k = scans c.run_to_end-serial.result.0 (ready_in c.args.heap.now c.args.collection c.run_to_end-serial.result.0 c.requires c.run_to_end-serial.ensures.same) c.run_to_end-serial.ensures.stepped (subst (λ r. OnOk r (IsDone c.run_to_end-serial.result.0)) c.in-Ok.is c.run_to_end-serial.ensures.ok)
    c.in_ok-settle-in-Ok.field-0.workers.items c.in_ok-settle-in-Ok.field-0.deliveries.items c.in_ok-settle-in-Ok.ensures.lists c.in_ok-settle-in-Ok.ensures.deliveries in
    subst (λ (h : HeapValue). ScansAlone h c.args.collection.generation c.in_ok-settle-in-Ok.field-0.workers.items c.in_ok-settle-in-Ok.field-0.deliveries.items) (sym c.run_to_end-serial.ensures.same.heap_is)
    (subst (λ (d : CollectionValue). ScansAlone c.run_to_end-serial.result.0.heap d.generation c.in_ok-settle-in-Ok.field-0.workers.items c.in_ok-settle-in-Ok.field-0.deliveries.items) (sym c.run_to_end-serial.ensures.same.collection_is) k)

pub returns-in_ok-settle-in-Ok-clause-once : goal.returns-in_ok-settle-in-Ok-clause-once
returns-in_ok-settle-in-Ok-clause-once g c =
    subst (λ (h : HeapValue). ScansOnce h c.args.collection.generation c.in_ok-settle-in-Ok.field-0.workers.items) (sym c.run_to_end-serial.ensures.same.heap_is)
    (subst (λ (d : CollectionValue). ScansOnce c.run_to_end-serial.result.0.heap d.generation c.in_ok-settle-in-Ok.field-0.workers.items) (sym c.run_to_end-serial.ensures.same.collection_is)
    (scans_once c.run_to_end-serial.result.0 c.in_ok-settle-in-Ok.field-0.workers.items c.in_ok-settle-in-Ok.ensures.lists c.in_ok-settle-in-Ok.ensures.once))

pub returns-in_ok-count_drawn-in-Err-HeapFull-clause-full : goal.returns-in_ok-count_drawn-in-Err-HeapFull-clause-full
returns-in_ok-count_drawn-in-Err-HeapFull-clause-full g c e =
    let was : c.run_to_end-serial.result.1 ≡ Err c.in-Err-HeapFull.field-0 = c.in-Err-HeapFull.is in
    let is : c.in-Err-HeapFull.field-0 ≡ HeapFull = rw c.in-Err-HeapFull.is at c.in-Err-HeapFull.field-0-is in
    short_of c.args.heap.now c.args.collection c.run_to_end-serial.result.0 c.requires c.run_to_end-serial.ensures.same c.run_to_end-serial.ensures.stepped (c.run_to_end-serial.ensures.full (was ∙ ap Err is)) c.in_ok-count_drawn-in-Err-HeapFull.ensures

pub returns-in_ok-count_drawn-in-Err-HeapFull-clause-stuck : goal.returns-in_ok-count_drawn-in-Err-HeapFull-clause-stuck
returns-in_ok-count_drawn-in-Err-HeapFull-clause-stuck g c e =
    let was : c.run_to_end-serial.result.1 ≡ Err c.in-Err-HeapFull.field-0 = c.in-Err-HeapFull.is in
    let is : c.in-Err-HeapFull.field-0 ≡ HeapFull = rw c.in-Err-HeapFull.is at c.in-Err-HeapFull.field-0-is in
    stuck_of c.args.heap.now c.args.collection c.run_to_end-serial.result.0 c.requires c.run_to_end-serial.ensures.same c.run_to_end-serial.ensures.stepped (c.run_to_end-serial.ensures.full (was ∙ ap Err is)) c.in_ok-count_drawn-in-Err-HeapFull.ensures
