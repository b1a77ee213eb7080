use Rattle.std.proofs.Common.{◌≡◌, sym, subst, ⊎_elim}
use Rattle.steps.specs.HeapValue.{HeapValue}
use Rattle.scavenge.specs.ReadyToCollect.{IsReadyToCollect}
use Rattle.one_worker.specs.Stepping.{left_to_do}
use Rattle.one_worker.proofs.Going.{went_look, went_twice, went_still_scan, none_more, left_still, went_or}
use Rattle.one_worker.proofs.serial_steps.sweeping.sweep_once.Goals as goal

pub returns-in-NoSlot-clause-stepped : goal.returns-in-NoSlot-clause-stepped
returns-in-NoSlot-clause-stepped g c =
    let ready = subst (λ (h : HeapValue). IsReadyToCollect h c.args.sweep.now.collection) c.requires.same.heap_is (subst (IsReadyToCollect c.args.heap.now) c.requires.same.collection_is c.requires.ready) in
    went_or c.scan_to_next.result c.evacuate.new.self c.scan_to_next.new.self
    (λ is. (went_still_scan c.args.sweep.now c.evacuate.new.self c.scan_to_next.new.self ready c.requires.stepped (c.evacuate.ensures.none c.in-NoSlot.is) c.requires.proposal (c.evacuate.ensures.no_slot c.in-NoSlot.is) (c.evacuate.ensures.held c.in-NoSlot.is) (c.scan_to_next.ensures.some is)).0)
    c.scan_to_next.ensures.none (none_more c.args.sweep.now c.evacuate.new.self c.requires.stepped (c.evacuate.ensures.none c.in-NoSlot.is))

pub returns-in-NoSlot-clause-some : goal.returns-in-NoSlot-clause-some
returns-in-NoSlot-clause-some g c = λ is.
    let ready = subst (λ (h : HeapValue). IsReadyToCollect h c.args.sweep.now.collection) c.requires.same.heap_is (subst (IsReadyToCollect c.args.heap.now) c.requires.same.collection_is c.requires.ready) in
    (went_still_scan c.args.sweep.now c.evacuate.new.self c.scan_to_next.new.self ready c.requires.stepped (c.evacuate.ensures.none c.in-NoSlot.is) c.requires.proposal (c.evacuate.ensures.no_slot c.in-NoSlot.is) (c.evacuate.ensures.held c.in-NoSlot.is) (c.scan_to_next.ensures.some is)).1

pub returns-in-Looked-clause-stepped : goal.returns-in-Looked-clause-stepped
returns-in-Looked-clause-stepped g c =
    let ready = subst (λ (h : HeapValue). IsReadyToCollect h c.args.sweep.now.collection) c.requires.same.heap_is (subst (IsReadyToCollect c.args.heap.now) c.requires.same.collection_is c.requires.ready) in
    ⊎_elim (λ is. (went_look c.args.sweep.now c.evacuate.new.self ready c.requires.stepped c.requires.proposal (c.evacuate.ensures.looked_slot is) (c.evacuate.ensures.looked is)).0)
    (λ is. (went_twice c.args.sweep.now c.evacuate.new.self ready c.requires.stepped c.requires.proposal (c.evacuate.ensures.raced_slot is) (c.evacuate.ensures.raced is)).0) c.in-Looked.is

pub returns-in-Looked-clause-some : goal.returns-in-Looked-clause-some
returns-in-Looked-clause-some g c = λ _.
    let ready = subst (λ (h : HeapValue). IsReadyToCollect h c.args.sweep.now.collection) c.requires.same.heap_is (subst (IsReadyToCollect c.args.heap.now) c.requires.same.collection_is c.requires.ready) in
    ⊎_elim (λ is. (went_look c.args.sweep.now c.evacuate.new.self ready c.requires.stepped c.requires.proposal (c.evacuate.ensures.looked_slot is) (c.evacuate.ensures.looked is)).1)
    (λ is. (went_twice c.args.sweep.now c.evacuate.new.self ready c.requires.stepped c.requires.proposal (c.evacuate.ensures.raced_slot is) (c.evacuate.ensures.raced is)).1) c.in-Looked.is

pub returns-in-NoSlot-clause-none : goal.returns-in-NoSlot-clause-none
returns-in-NoSlot-clause-none g c = λ is. subst (λ v. left_to_do v ≡ left_to_do c.args.sweep.now) (sym (c.scan_to_next.ensures.none is)) (left_still c.args.sweep.now c.evacuate.new.self (c.evacuate.ensures.none c.in-NoSlot.is))
