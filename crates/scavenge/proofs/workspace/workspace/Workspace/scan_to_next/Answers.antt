use Rattle.std.proofs.Common.{◌≡◌, ◌+◌, ◌<◌, true, ◌∷◌, ◌++◌, [], nat_lt, length, refl, sym, ap, subst, ◌∙◌, arith, le-ltb, lt-ltb}
use Rattle.std.proofs.lemmas.List.{map-append}
use Rattle.std.proofs.lemmas.Grind.{common_steps}
use Rattle.block_pool.specs.BlockValue.{BlockValue}
use Rattle.steps.specs.Packed.{packed_word}
use Rattle.workers.specs.Worker.{Holding}
use Rattle.workers.specs.Joined.{OnSome}
use Rattle.scavenge.specs.Named.{named}
use Rattle.scavenge.specs.Shown.{has_another}
use Rattle.scavenge.specs.Shown.{WorkspaceValue, IsNoted, packed_words, hand_of, held_in}
use Rattle.scavenge.proofs.Scans.{another_named, held_passing, passed, passed_noted, unscanned_named, front_standing, scan_held_done}
use Rattle.scavenge.proofs.workspace.workspace.Workspace.scan_to_next.Goals as goal

pub returns-clause-some : goal.returns-clause-some
returns-clause-some g c = λ _.
    let n : IsNoted 0 c.in-Holding.held = subst (λ h. OnSome (IsNoted 0) (held_in h)) c.in-Holding.is c.self.invariant.0.in_hand in
    let hand = ap (hand_of c.self.inside.config.shape) c.in-Holding.is in
    let lt : c.in-Holding.held.front < length c.in-Holding.held.objects = held_passing c.self.view_is c.self.inside.config.shape c.in-Holding.held hand n c.requires.hand in
    let k = front_standing c.self.inside.config.shape c.in-Holding.held n lt in
    let behind : c.in-Holding.held.front + 1 < length c.in-Holding.held.objects = omega arith in
    let test : nat_lt (c.in-Holding.held.front + 1) (length c.in-Holding.held.objects) ≡ true = grind (arith, common_steps) in
    let more = unscanned_named c.self.inside.config.shape (passed c.in-Holding.held) (passed_noted c.in-Holding.held n lt) ∙ test in
    scan_held_done c.self.view_is _ _ _ _ _ (named c.self.inside.config.shape c.in-Holding.held) k.copy hand k.is true more refl
    (ap (λ (b : BlockValue). Holding (named c.self.inside.config.shape b)) c.pass_front-place.ensures.block)
    refl
    refl
    (ap packed_words (c.push_reserved.ensures.items ∙ ap (λ xs. xs ++ c.new.result ∷ []) c.reserve.ensures.items) ∙ map-append packed_word c.self.inside.scanned.items _ ∙ ap (λ w. packed_words c.self.inside.scanned.items ++ w ∷ []) (c.new.ensures ∙ c.pass_front-place.ensures.place ∙ sym k.at))

pub returns-then-len-front-lt2-clause-which : goal.returns-then-len-front-lt2-clause-which
returns-then-len-front-lt2-clause-which g c =
    let n : IsNoted 0 c.in-Holding.held = subst (λ h. OnSome (IsNoted 0) (held_in h)) c.in-Holding.is c.self.invariant.0.in_hand in
    let hand = ap (λ (v : WorkspaceValue). has_another v.worker.hand) (sym c.self.view_is) ∙ ap (λ h. has_another (hand_of c.self.inside.config.shape h)) c.in-Holding.is ∙ another_named c.self.inside.config.shape c.in-Holding.held n in
    sym (hand ∙ le-ltb _ _ (omega (arith, c.if-len-front-lt2.true, c.len.ensures.value, c.front.ensures.value)))

pub returns-clause-which : goal.returns-clause-which
returns-clause-which g c =
    let n : IsNoted 0 c.in-Holding.held = subst (λ h. OnSome (IsNoted 0) (held_in h)) c.in-Holding.is c.self.invariant.0.in_hand in
    let hand = ap (λ (v : WorkspaceValue). has_another v.worker.hand) (sym c.self.view_is) ∙ ap (λ h. has_another (hand_of c.self.inside.config.shape h)) c.in-Holding.is ∙ another_named c.self.inside.config.shape c.in-Holding.held n in
    sym (hand ∙ lt-ltb _ _ (omega (arith, c.if-len-front-lt2.false, c.len.ensures.value, c.front.ensures.value)))
