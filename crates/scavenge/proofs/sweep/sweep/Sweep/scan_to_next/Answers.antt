use Rattle.std.proofs.Common.{◌≡◌, ◌+◌, ◌<◌, true, ◌∷◌, ◌++◌, [], nat_lt, length, refl, sym, ap, subst, ◌∙◌, arith, le-ltb, lt-ltb}
use Rattle.std.proofs.lemmas.List.{map-append}
use Rattle.block_pool.specs.BlockValue.{BlockValue}
use Rattle.steps.specs.Packed.{packed_word}
use Rattle.workers.specs.Worker.{Holding}
use Rattle.scavenge.specs.Named.{named}
use Rattle.scavenge.specs.Shown.{WorkspaceValue, has_another, packed_words}
use Rattle.scavenge.specs.Swept.{left_in, left_in_hand}
use Rattle.scavenge.proofs.Scans.{another_named, held_passing, passed, passed_noted, unscanned_named, front_standing, scan_held_done}
use Rattle.scavenge.proofs.SweepLeft.{left_passed}
use Rattle.scavenge.proofs.sweep.sweep.Sweep.scan_to_next.Goals as goal

pub returns-clause-some : goal.returns-clause-some
returns-clause-some g c = λ _.
    let n = c.self.invariant.0.in_hand in
    let lt : c.self.inside.held.front < length c.self.inside.held.objects = held_passing c.self.view_is c.self.inside.config.shape c.self.inside.held refl n c.requires.hand in
    let k = front_standing c.self.inside.config.shape c.self.inside.held n lt in
    let test : nat_lt (c.self.inside.held.front + 1) (length c.self.inside.held.objects) ≡ true = lt-ltb _ _ (omega (arith, c.if-len-front-lt2.false, c.len.ensures.value, c.front.ensures.value)) in
    let more = unscanned_named c.self.inside.config.shape (passed c.self.inside.held) (passed_noted c.self.inside.held n lt) ∙ test in
    scan_held_done c.self.view_is _ _ _ _ _ (named c.self.inside.config.shape c.self.inside.held) k.copy refl k.is true more refl
    (ap (λ (b : BlockValue). Holding (named c.self.inside.config.shape b)) c.pass_front-place.ensures.block)
    refl
    refl
    (ap packed_words c.push_reserved.ensures.items ∙ map-append packed_word c.self.inside.scanned.items _ ∙ ap (λ w. packed_words c.self.inside.scanned.items ++ w ∷ []) (c.new.ensures ∙ c.pass_front-place.ensures.place ∙ sym k.at))

pub returns-clause-less : goal.returns-clause-less
returns-clause-less g c = λ _.
    let n = c.self.invariant.0.in_hand in
    let lt : c.self.inside.held.front < length c.self.inside.held.objects = held_passing c.self.view_is c.self.inside.config.shape c.self.inside.held refl n c.requires.hand in
    let k = front_standing c.self.inside.config.shape c.self.inside.held n lt in
    let less = left_passed (named c.self.inside.config.shape c.self.inside.held) c.self.inside.fields k.copy k.is in
    subst (λ (b : BlockValue). left_in (Holding (named c.self.inside.config.shape b)) 0 < left_in_hand c.args.self.now.worker) (sym c.pass_front-place.ensures.block)
    (subst (λ (v : WorkspaceValue). left_in (Holding (named c.self.inside.config.shape (passed c.self.inside.held))) 0 < left_in_hand v.worker) c.self.view_is less)

pub returns-then-len-front-lt2-clause-which : goal.returns-then-len-front-lt2-clause-which
returns-then-len-front-lt2-clause-which g c =
    let n = c.self.invariant.0.in_hand in
    let hand = ap (λ (v : WorkspaceValue). has_another v.worker.hand) (sym c.self.view_is) ∙ another_named c.self.inside.config.shape c.self.inside.held n in
    sym (hand ∙ le-ltb _ _ (omega (arith, c.if-len-front-lt2.true, c.len.ensures.value, c.front.ensures.value)))

pub returns-clause-which : goal.returns-clause-which
returns-clause-which g c =
    let n = c.self.invariant.0.in_hand in
    let hand = ap (λ (v : WorkspaceValue). has_another v.worker.hand) (sym c.self.view_is) ∙ another_named c.self.inside.config.shape c.self.inside.held n in
    sym (hand ∙ lt-ltb _ _ (omega (arith, c.if-len-front-lt2.false, c.len.ensures.value, c.front.ensures.value)))
