use Rattle.std.proofs.Common.{◌≡◌, [], drop, Some, None, refl, ap, subst, ◌∙◌, arith}
use Rattle.layout.specs.Place.{place_word}
use Rattle.scavenge.specs.Fronts.{slot_at, front_field}
use Rattle.workers.specs.Joined.{OnSome}
use Rattle.scavenge.specs.Shown.{WorkspaceValue, AreNoted, words_of, hand_of, IsNoted, held_in, Holds, known_slot}
use Rattle.scavenge.proofs.Fields.{all_left, no_proposal}
use Rattle.scavenge.proofs.WorkspaceSlotLemmas.{drops_at}
use Rattle.scavenge.proofs.Copying.{start_known, hand_known, open_known, held_known, front_pointers, read_of}
use Rattle.scavenge.proofs.workspace.workspace.Workspace.current.Goals as goal

pub returns-then-self-len : goal.returns-then-self-len
returns-then-self-len g c =
    let d = drops_at place_word c.self.inside.starts.items c.self.inside.started c.index.result.now c.index.ensures (omega (arith, c.if-self-len.true, c.len.ensures)) in
    start_known c.self.view_is _ _ d

pub front_pointer-requires : goal.front_pointer-requires
front_pointer-requires g c =
    let none = no_proposal c.self.inside.allocation c.self.inside.aside.items c.self.inside.done.items (held_in c.self.inside.hand) c.self.inside.proposed c.self.invariant.0 (ap (λ (v : WorkspaceValue). v.worker.proposal) c.self.view_is ∙ c.requires.proposal) in
    let n : AreNoted c.self.inside.allocation c.self.inside.aside.items c.self.inside.done.items (held_in c.self.inside.hand) None = subst (AreNoted c.self.inside.allocation c.self.inside.aside.items c.self.inside.done.items (held_in c.self.inside.hand)) none c.self.invariant.0 in
    let starts : drop c.self.inside.started (words_of c.self.inside.starts.items) ≡ [] = all_left place_word c.self.inside.starts.items c.self.inside.started (omega (arith, c.if-self-len.false, c.len.ensures)) in
    let known : Holds (front_field c.self.inside.fields (slot_at c.self.inside.allocation c.in-Open.d)) ≡ known_slot c.args.self.now.worker = open_known c.self.view_is c.self.inside.config.shape c.self.inside.allocation c.in-Open.d refl starts (ap (hand_of c.self.inside.config.shape) c.in-Open.is) (n.in_slots c.in-Open.d) in
    front_pointers c.self.inside.fields (slot_at c.self.inside.allocation c.in-Open.d) (read_of c.self.view_is _ starts known c.requires.pointer)

pub returns-in-Open : goal.returns-in-Open
returns-in-Open g c =
    let none = no_proposal c.self.inside.allocation c.self.inside.aside.items c.self.inside.done.items (held_in c.self.inside.hand) c.self.inside.proposed c.self.invariant.0 (ap (λ (v : WorkspaceValue). v.worker.proposal) c.self.view_is ∙ c.requires.proposal) in
    let n : AreNoted c.self.inside.allocation c.self.inside.aside.items c.self.inside.done.items (held_in c.self.inside.hand) None = subst (AreNoted c.self.inside.allocation c.self.inside.aside.items c.self.inside.done.items (held_in c.self.inside.hand)) none c.self.invariant.0 in
    let starts : drop c.self.inside.started (words_of c.self.inside.starts.items) ≡ [] = all_left place_word c.self.inside.starts.items c.self.inside.started (omega (arith, c.if-self-len.false, c.len.ensures)) in
    ap Holds c.front_pointer.ensures ∙ open_known c.self.view_is c.self.inside.config.shape c.self.inside.allocation c.in-Open.d refl starts (ap (hand_of c.self.inside.config.shape) c.in-Open.is) (n.in_slots c.in-Open.d)

pub front_pointer-requires-in-Holding : goal.front_pointer-requires-in-Holding
front_pointer-requires-in-Holding g c =
    let n : IsNoted 0 c.in-Holding.block = subst (λ h. OnSome (IsNoted 0) (held_in h)) c.in-Holding.is c.self.invariant.0.in_hand in
    let starts : drop c.self.inside.started (words_of c.self.inside.starts.items) ≡ [] = all_left place_word c.self.inside.starts.items c.self.inside.started (omega (arith, c.if-self-len.false, c.len.ensures)) in
    front_pointers c.self.inside.fields (Some c.in-Holding.block) (read_of c.self.view_is _ starts (held_known c.self.view_is c.self.inside.config.shape c.in-Holding.block starts (ap (hand_of c.self.inside.config.shape) c.in-Holding.is) n) c.requires.pointer)

pub returns-in-Holding : goal.returns-in-Holding
returns-in-Holding g c =
    let n : IsNoted 0 c.in-Holding.block = subst (λ h. OnSome (IsNoted 0) (held_in h)) c.in-Holding.is c.self.invariant.0.in_hand in
    let starts : drop c.self.inside.started (words_of c.self.inside.starts.items) ≡ [] = all_left place_word c.self.inside.starts.items c.self.inside.started (omega (arith, c.if-self-len.false, c.len.ensures)) in
    ap Holds c.front_pointer-in-Holding.ensures ∙ held_known c.self.view_is c.self.inside.config.shape c.in-Holding.block starts (ap (hand_of c.self.inside.config.shape) c.in-Holding.is) n

pub returns-in-Nothing : goal.returns-in-Nothing
returns-in-Nothing g c =
    let starts : drop c.self.inside.started (words_of c.self.inside.starts.items) ≡ [] = all_left place_word c.self.inside.starts.items c.self.inside.started (omega (arith, c.if-self-len.false, c.len.ensures)) in
    hand_known c.self.view_is _ starts (ap (hand_of c.self.inside.config.shape) c.in-Nothing.is)

pub returns-in-Large : goal.returns-in-Large
returns-in-Large g c =
    let starts : drop c.self.inside.started (words_of c.self.inside.starts.items) ≡ [] = all_left place_word c.self.inside.starts.items c.self.inside.started (omega (arith, c.if-self-len.false, c.len.ensures)) in
    hand_known c.self.view_is _ starts (ap (hand_of c.self.inside.config.shape) c.in-Large.is)
