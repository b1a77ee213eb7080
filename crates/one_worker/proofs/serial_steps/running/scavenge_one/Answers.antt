use Rattle.std.proofs.Common.{sym, subst, ◌∙◌, ⊎_elim, true≢false}
use Rattle.steps.specs.HeapValue.{HeapValue}
use Rattle.scavenge.specs.ReadyToCollect.{IsReadyToCollect}
use Rattle.one_worker.proofs.Order.{none_of}
use Rattle.one_worker.proofs.Going.{went_look, went_twice, went_still_scan, none_more, stepped_or, none_behind, scan_refused}
use Rattle.one_worker.proofs.serial_steps.running.scavenge_one.Goals as goal

pub returns-then-has_hand-clause-stepped : goal.returns-then-has_hand-clause-stepped
returns-then-has_hand-clause-stepped g c =
    let ready = subst (λ (h : HeapValue). IsReadyToCollect h c.args.serial.now.collection) c.requires.same.heap_is (subst (IsReadyToCollect c.args.heap.now) c.requires.same.collection_is c.requires.ready) in
    let none = none_of c.args.serial.now.workspace.worker.proposal (λ some. true≢false (sym (c.has_proposal.ensures.1 some) ∙ c.if-has_proposal.false)) in
    stepped_or c.scan_to_next.result c.evacuate.new.self c.scan_to_next.new.self
    (λ is. (went_still_scan c.args.serial.now c.evacuate.new.self c.scan_to_next.new.self ready c.requires.stepped (c.evacuate.ensures.none c.in-NoSlot.is) none (c.evacuate.ensures.no_slot c.in-NoSlot.is) (c.has_hand.ensures.0 c.if-has_hand.true) (c.scan_to_next.ensures.some is)).0)
    c.scan_to_next.ensures.none c.scan_to_next.ensures.err (none_more c.args.serial.now c.evacuate.new.self c.requires.stepped (c.evacuate.ensures.none c.in-NoSlot.is))

pub returns-then-has_hand-clause-some : goal.returns-then-has_hand-clause-some
returns-then-has_hand-clause-some g c = λ is.
    let ready = subst (λ (h : HeapValue). IsReadyToCollect h c.args.serial.now.collection) c.requires.same.heap_is (subst (IsReadyToCollect c.args.heap.now) c.requires.same.collection_is c.requires.ready) in
    let none = none_of c.args.serial.now.workspace.worker.proposal (λ some. true≢false (sym (c.has_proposal.ensures.1 some) ∙ c.if-has_proposal.false)) in
    (went_still_scan c.args.serial.now c.evacuate.new.self c.scan_to_next.new.self ready c.requires.stepped (c.evacuate.ensures.none c.in-NoSlot.is) none (c.evacuate.ensures.no_slot c.in-NoSlot.is) (c.has_hand.ensures.0 c.if-has_hand.true) (c.scan_to_next.ensures.some is)).1

pub returns-in-Looked-clause-stepped : goal.returns-in-Looked-clause-stepped
returns-in-Looked-clause-stepped g c =
    let ready = subst (λ (h : HeapValue). IsReadyToCollect h c.args.serial.now.collection) c.requires.same.heap_is (subst (IsReadyToCollect c.args.heap.now) c.requires.same.collection_is c.requires.ready) in
    let none = none_of c.args.serial.now.workspace.worker.proposal (λ some. true≢false (sym (c.has_proposal.ensures.1 some) ∙ c.if-has_proposal.false)) in
    ⊎_elim (λ is. (went_look c.args.serial.now c.evacuate.new.self ready c.requires.stepped none (c.evacuate.ensures.looked_slot is) (c.evacuate.ensures.looked is)).0)
    (λ is. (went_twice c.args.serial.now c.evacuate.new.self ready c.requires.stepped none (c.evacuate.ensures.raced_slot is) (c.evacuate.ensures.raced is)).0) c.in-Looked.is

pub returns-in-Looked-clause-some : goal.returns-in-Looked-clause-some
returns-in-Looked-clause-some g c = λ _.
    let ready = subst (λ (h : HeapValue). IsReadyToCollect h c.args.serial.now.collection) c.requires.same.heap_is (subst (IsReadyToCollect c.args.heap.now) c.requires.same.collection_is c.requires.ready) in
    let none = none_of c.args.serial.now.workspace.worker.proposal (λ some. true≢false (sym (c.has_proposal.ensures.1 some) ∙ c.if-has_proposal.false)) in
    ⊎_elim (λ is. (went_look c.args.serial.now c.evacuate.new.self ready c.requires.stepped none (c.evacuate.ensures.looked_slot is) (c.evacuate.ensures.looked is)).1)
    (λ is. (went_twice c.args.serial.now c.evacuate.new.self ready c.requires.stepped none (c.evacuate.ensures.raced_slot is) (c.evacuate.ensures.raced is)).1) c.in-Looked.is

pub returns-then-has_hand-clause-none : goal.returns-then-has_hand-clause-none
returns-then-has_hand-clause-none g c =
    none_behind c.scan_to_next.result c.args.serial.now c.evacuate.new.self c.scan_to_next.new.self (c.evacuate.ensures.none c.in-NoSlot.is) (c.evacuate.ensures.no_slot c.in-NoSlot.is) c.scan_to_next.ensures.none c.scan_to_next.ensures.which

pub returns-then-has_hand-clause-err : goal.returns-then-has_hand-clause-err
returns-then-has_hand-clause-err g c =
    let none = none_of c.args.serial.now.workspace.worker.proposal (λ some. true≢false (sym (c.has_proposal.ensures.1 some) ∙ c.if-has_proposal.false)) in
    scan_refused c.scan_to_next.result c.args.serial.now c.evacuate.new.self c.scan_to_next.new.self (c.evacuate.ensures.none c.in-NoSlot.is) none (c.evacuate.ensures.no_slot c.in-NoSlot.is) (c.has_hand.ensures.0 c.if-has_hand.true) c.scan_to_next.ensures.err
