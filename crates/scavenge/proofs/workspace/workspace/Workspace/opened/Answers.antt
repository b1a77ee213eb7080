use Rattle.std.proofs.Common.{◌≡◌, ◌<◌, ◌≤◌, ◌-◌, true, length, Some, None, refl, sym, ap, subst, ◌∙◌, arith}
use Rattle.std.proofs.lemmas.Bool.{eqb-true}
use Rattle.block_pool.specs.BlockValue.{BlockValue}
use Rattle.workers.specs.Joined.{OnSome}
use Rattle.scavenge.specs.Fronts.{slot_at}
use Rattle.scavenge.specs.Cursors.{AllGo}
use Rattle.scavenge.specs.Shown.{AreNoted, AreMade, IsMade, held_in}
use Rattle.scavenge.specs.Swept.{with_block}
use Rattle.scavenge.proofs.Swept.{held_is, some_is, none_is, there_below, put_back, length-put}
use Rattle.scavenge.proofs.workspace.workspace.Workspace.opened.Goals.{then-destination-eq0, else-destination-eq0}
use Rattle.scavenge.proofs.workspace.workspace.Workspace.opened.Goals as goal

pub unreachable-requires : goal.unreachable-requires
unreachable-requires g c =
    let is = held_is c.self.inside.hand (c.in-Some.ensures.held refl) in
    c.in_default-hand.not-Holding is.0 is.1

pub take-requires : goal.take-requires
take-requires g c =
    let there = some_is (slot_at c.self.inside.allocation c.last_or-destination.result) (c.has_block.ensures.0 c.if-not-has_block.false) in
    there_below c.self.inside.allocation c.last_or-destination.result there.0 there.1

pub unreachable-requires-in_default-take : goal.unreachable-requires-in_default-take
unreachable-requires-in_default-take g c =
    let there = some_is (slot_at c.self.inside.allocation c.last_or-destination.result) (c.has_block.ensures.0 c.if-not-has_block.false) in
    let e : None ≡ Some there.0 = sym c.in_default-take.is ∙ c.take.ensures.old ∙ there.1 in
    cc

pub cursor_of-cursor-requires : goal.cursor_of-cursor-requires
cursor_of-cursor-requires g c =
    subst (λ h. OnSome (λ (b : BlockValue). b.front < length b.objects) (held_in h)) c.in-Holding.is (c.in-Some.ensures.unscanned refl)

pub invariant_of-result : goal.invariant_of-result
invariant_of-result g c =
    let there : slot_at c.self.inside.allocation c.last_or-destination.result ≡ Some c.in-Some-take.into = sym c.take.ensures.old ∙ c.in-Some-take.is in
    let same : with_block c.take.new.self c.last_or-destination.result c.in-Some-take.into ≡ c.self.inside.allocation = ap (λ xs. with_block xs c.last_or-destination.result c.in-Some-take.into) c.take.ensures.table ∙ put_back c.self.inside.allocation c.last_or-destination.result c.in-Some-take.into there in
    let none = none_is c.self.inside.proposed (sym c.is_some.ensures ∙ c.if-is_some.false) in
    let short = length-put c.self.inside.allocation c.last_or-destination.result None in
    let made = subst (OnSome (IsMade c.self.inside.config)) there (c.self.invariant.1.in_slots c.last_or-destination.result) in
    let few : length c.in-Holding.held.objects ≤ c.capacity.result - c.len.result = subst (λ h. OnSome (λ (b : BlockValue). length b.objects ≤ c.capacity.result - c.len.result) (held_in h)) c.in-Holding.is (c.in-Some.ensures.few refl) in
    let only : c.if-destination-eq0.is_only ≡ true → AllGo c.self.inside.config.shape c.last_or-destination.result = elim c.if-destination-eq0.branch [
      | then-destination-eq0 w ↦ λ is. subst (AllGo c.self.inside.config.shape) (sym w.if-destination-eq0.true) (w.has_one_destination-is_only.ensures.0 (sym w.is_only-is ∙ is))
      | else-destination-eq0 w ↦ λ is. absurd (w.if-destination-eq0.false (eqb-true _ _ (sym w.is_only-is ∙ is)))
    ] in
    rw same (
      subst (AreNoted c.self.inside.allocation c.self.inside.aside.items c.self.inside.done.items (Some c.in-Holding.held)) none
          (subst (λ h. AreNoted c.self.inside.allocation c.self.inside.aside.items c.self.inside.done.items (held_in h) c.self.inside.proposed) c.in-Holding.is c.self.invariant.0),
      subst (λ h. AreMade c.self.inside.config c.self.inside.allocation c.self.inside.aside.items c.self.inside.done.items (held_in h)) c.in-Holding.is c.self.invariant.1,
      rw none at c.self.invariant.2,
      c.self.invariant.3,
      omega (arith, ap length c.take.ensures.table, short, there_below c.self.inside.allocation c.last_or-destination.result c.in-Some-take.into there),
      omega (arith, c.if-self-len.false, c.len.ensures),
      c.cursor_of-cursor.ensures,
      c.going_from-going.ensures.going,
      omega (arith, made.words, c.if-capacity-len.false, c.capacity-2.ensures, c.len-2.ensures, c.block_words.ensures.value, c.self.invariant.2.in_won),
      omega (arith, few, c.capacity.ensures, c.len.ensures),
      only,
    )

pub returns-clause-ok : goal.returns-clause-ok
returns-clause-ok g c =
    let there : slot_at c.self.inside.allocation c.last_or-destination.result ≡ Some c.in-Some-take.into = sym c.take.ensures.old ∙ c.in-Some-take.is in
    let same : with_block c.take.new.self c.last_or-destination.result c.in-Some-take.into ≡ c.self.inside.allocation = ap (λ xs. with_block xs c.last_or-destination.result c.in-Some-take.into) c.take.ensures.table ∙ put_back c.self.inside.allocation c.last_or-destination.result c.in-Some-take.into there in
    let none = none_is c.self.inside.proposed (sym c.is_some.ensures ∙ c.if-is_some.false) in
    rw same (rw (c.in-Holding.is, none) at (c.self.view_is ∙ c.reserve_sweep.ensures))
