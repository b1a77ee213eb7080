use Rattle.std.proofs.Common.{Result, Ok, Err, refl}
use Rattle.std.specs.Prelude.{OnOk}
use Rattle.std.proofs.lemmas.Result.{on_ok_weaker}
use Rattle.model.specs.Commands.{Set, Put, Get, Drop, Census, Heap, target_of}
use Rattle.trace_session.specs.Does.{counts, shows}
use Rattle.trace_session.specs.Outcome.{command_step}
use Rattle.trace_session.proofs.CommandFaults.{quiet_steps, quiet_faults, never_full, as_before, as_ever}
use Rattle.trace_session.proofs.CommandLine.{shows_unchanged}
use Rattle.trace_session.proofs.NoMemory.{never_wanting}
use Rattle.trace_session.proofs.trace_step.attempting.carry_out_command.Goals as goal

pub returns-in-Set-clause-ok : goal.returns-in-Set-clause-ok
returns-in-Set-clause-ok g c =
    rw c.in-Set.is
    (quiet_steps c.set.result _ _ (λ config store. command_step config store (Set c.in-Set.name.now c.in-Set.field (target_of (λ x. x.now) c.in-Set.target))) _ c.set.ensures.ok)

pub returns-in-Set-clause-err : goal.returns-in-Set-clause-err
returns-in-Set-clause-err g c =
    rw c.in-Set.is
    (quiet_faults c.args.number c.args.writer.now c.args.writer.now refl _ (λ config store. command_step config store (Set c.in-Set.name.now c.in-Set.field (target_of (λ x. x.now) c.in-Set.target))) _ _ c.set.result c.set.ensures.err)

pub returns-in-Get-clause-ok : goal.returns-in-Get-clause-ok
returns-in-Get-clause-ok g c =
    rw c.in-Get.is
    (quiet_steps c.get.result _ _ (λ config store. command_step config store (Get c.in-Get.new_name.now c.in-Get.name.now c.in-Get.field)) _ c.get.ensures.ok)

pub returns-in-Get-clause-err : goal.returns-in-Get-clause-err
returns-in-Get-clause-err g c =
    rw c.in-Get.is
    (quiet_faults c.args.number c.args.writer.now c.args.writer.now refl _ (λ config store. command_step config store (Get c.in-Get.new_name.now c.in-Get.name.now c.in-Get.field)) _ _ c.get.result c.get.ensures.err)

pub returns-in-Census-clause-ok : goal.returns-in-Census-clause-ok
returns-in-Census-clause-ok g c = rw c.in-Census.is c.census.ensures.ok

pub returns-in-Heap-clause-ok : goal.returns-in-Heap-clause-ok
returns-in-Heap-clause-ok g c = rw c.in-Heap.is c.show_heap.ensures.ok

pub returns-in-Heap-clause-err : goal.returns-in-Heap-clause-err
returns-in-Heap-clause-err g c = rw c.in-Heap.is (never_full c.show_heap.result _ _ _ _ c.show_heap.ensures.err)

pub returns-in-Put-clause-ok : goal.returns-in-Put-clause-ok
returns-in-Put-clause-ok g c =
    rw c.in-Put.is
    (quiet_steps c.put.result _ _ (λ config store. command_step config store (Put c.in-Put.name.now c.in-Put.field c.in-Put.value)) _ c.put.ensures.ok)

pub returns-in-Put-clause-err : goal.returns-in-Put-clause-err
returns-in-Put-clause-err g c =
    rw c.in-Put.is
    (quiet_faults c.args.number c.args.writer.now c.args.writer.now refl _ (λ config store. command_step config store (Put c.in-Put.name.now c.in-Put.field c.in-Put.value)) _ _ c.put.result (never_wanting c.put.result _ _ _ _ c.put.ensures.err))

pub returns-in-Drop-clause-ok : goal.returns-in-Drop-clause-ok
returns-in-Drop-clause-ok g c =
    rw c.in-Drop.is
    (quiet_steps c.remove.result _ _ (λ config store. command_step config store (Drop c.in-Drop.name.now)) _ c.remove.ensures.ok)

pub returns-in-Drop-clause-err : goal.returns-in-Drop-clause-err
returns-in-Drop-clause-err g c =
    rw c.in-Drop.is
    (quiet_faults c.args.number c.args.writer.now c.args.writer.now refl _ (λ config store. command_step config store (Drop c.in-Drop.name.now)) _ _ c.remove.result (never_wanting c.remove.result _ _ _ _ c.remove.ensures.err))

pub returns-in-Set-clause-own : goal.returns-in-Set-clause-own
returns-in-Set-clause-own g c = rw c.in-Set.is (on_ok_weaker c.set.result (λ own plain. own) c.set.ensures.own)

pub returns-in-Put-clause-own : goal.returns-in-Put-clause-own
returns-in-Put-clause-own g c = rw c.in-Put.is (on_ok_weaker c.put.result (λ own plain. own) c.put.ensures.own)

pub returns-in-Get-clause-own : goal.returns-in-Get-clause-own
returns-in-Get-clause-own g c = rw c.in-Get.is (on_ok_weaker c.get.result (λ own plain. own) c.get.ensures.own)

pub returns-in-Drop-clause-own : goal.returns-in-Drop-clause-own
returns-in-Drop-clause-own g c = rw c.in-Drop.is (on_ok_weaker c.remove.result (λ own plain. own) c.remove.ensures.own)

always : {T E P : Type 0} (r : Result T E) → P → OnOk r P
always (Ok x) p = p
always (Err e) p = tt

pub returns-in-Census-clause-own : goal.returns-in-Census-clause-own
returns-in-Census-clause-own g c = rw c.in-Census.is (always c.census.result (λ plain. shows_unchanged c.args.session.now _ Census c.census.ensures.kept counts))

pub returns-in-Heap-clause-own : goal.returns-in-Heap-clause-own
returns-in-Heap-clause-own g c = rw c.in-Heap.is (always c.show_heap.result (λ plain. shows_unchanged c.args.session.now _ Heap c.show_heap.ensures.kept shows))

pub returns-in-Collect-clause-own : goal.returns-in-Collect-clause-own
returns-in-Collect-clause-own g c = rw c.in-Collect.is (always c.collect.result (λ plain. absurd plain))

pub returns-in-Set-clause-before : goal.returns-in-Set-clause-before
returns-in-Set-clause-before g c = as_before c.set.result _ c.set.ensures.before

pub returns-in-Put-clause-before : goal.returns-in-Put-clause-before
returns-in-Put-clause-before g c = as_before c.put.result _ c.put.ensures.before

pub returns-in-Get-clause-before : goal.returns-in-Get-clause-before
returns-in-Get-clause-before g c = as_before c.get.result _ c.get.ensures.before

pub returns-in-Drop-clause-before : goal.returns-in-Drop-clause-before
returns-in-Drop-clause-before g c = as_before c.remove.result _ c.remove.ensures.before

pub returns-in-Census-clause-before : goal.returns-in-Census-clause-before
returns-in-Census-clause-before g c = as_ever c.census.result _ c.census.ensures.kept

pub returns-in-Heap-clause-before : goal.returns-in-Heap-clause-before
returns-in-Heap-clause-before g c = as_ever c.show_heap.result _ c.show_heap.ensures.kept
