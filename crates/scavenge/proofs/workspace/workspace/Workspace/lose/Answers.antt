use Rattle.std.proofs.Common.{rules, ◌≡◌, ◌<◌, length, None, refl, sym, ap, subst, ◌∙◌}
use Rattle.std.specs.Option.{IsSomeAnd}
use Rattle.block_pool.specs.BlockValue.{BlockValue}
use Rattle.layout.specs.Place.{place_word}
use Rattle.scavenge.specs.Shown.{AreNoted, proposal_of, slots_of, held_in}
use Rattle.scavenge.proofs.Fields.{Last, last_there, can_still_of, lost_copy, slots_back, unscanned_last}
use Rattle.scavenge.proofs.Swept.{there_below}
use Rattle.scavenge.proofs.workspace.workspace.Workspace.lose.Goals as goal

pub take_back-requires-clause-there : goal.take_back-requires-clause-there
take_back-requires-clause-there g c =
    let t : Last c.self.inside.allocation c.in-Some.p c.in-Some-destination.d =
    last_there c.self.inside.allocation c.self.inside.aside.items c.self.inside.done.items (held_in c.self.inside.hand) c.in-Some.p c.in-Some-destination.d c.in-Some-destination.is
    (subst (AreNoted c.self.inside.allocation c.self.inside.aside.items c.self.inside.done.items (held_in c.self.inside.hand)) c.in-Some.is c.self.invariant.0) in
    there_below c.self.inside.allocation c.in-Some-destination.d t.block t.there

pub take_back-requires-clause-some : goal.take_back-requires-clause-some
take_back-requires-clause-some g c =
    let t : Last c.self.inside.allocation c.in-Some.p c.in-Some-destination.d =
    last_there c.self.inside.allocation c.self.inside.aside.items c.self.inside.done.items (held_in c.self.inside.hand) c.in-Some.p c.in-Some-destination.d c.in-Some-destination.is
    (subst (AreNoted c.self.inside.allocation c.self.inside.aside.items c.self.inside.done.items (held_in c.self.inside.hand)) c.in-Some.is c.self.invariant.0) in
    subst (λ o. IsSomeAnd o (λ (b : BlockValue). b.front < length b.objects)) (sym t.there) (unscanned_last t.block t.noted)

pub finish-requires-clause-slot : goal.finish-requires-clause-slot
finish-requires-clause-slot g c =
    let t : Last c.self.inside.allocation c.in-Some.p c.in-Some-destination.d =
    last_there c.self.inside.allocation c.self.inside.aside.items c.self.inside.done.items (held_in c.self.inside.hand) c.in-Some.p c.in-Some-destination.d c.in-Some-destination.is
    (subst (AreNoted c.self.inside.allocation c.self.inside.aside.items c.self.inside.done.items (held_in c.self.inside.hand)) c.in-Some.is c.self.invariant.0) in
    let same : slots_of c.self.inside.config.shape c.take_back.new.self ≡ slots_of c.self.inside.config.shape c.self.inside.allocation =
    ap (slots_of c.self.inside.config.shape) (c.take_back.ensures t.block t.there) ∙ slots_back c.self.inside.config.shape c.self.inside.allocation c.in-Some-destination.d t.block t.there t.noted in
    can_still_of c.self.view_is None (slots_of c.self.inside.config.shape c.take_back.new.self) same c.requires.slot

pub returns-in-Some-destination : goal.returns-in-Some-destination
returns-in-Some-destination g c =
    let t : Last c.self.inside.allocation c.in-Some.p c.in-Some-destination.d =
    last_there c.self.inside.allocation c.self.inside.aside.items c.self.inside.done.items (held_in c.self.inside.hand) c.in-Some.p c.in-Some-destination.d c.in-Some-destination.is
    (subst (AreNoted c.self.inside.allocation c.self.inside.aside.items c.self.inside.done.items (held_in c.self.inside.hand)) c.in-Some.is c.self.invariant.0) in
    let same : slots_of c.self.inside.config.shape c.take_back.new.self ≡ slots_of c.self.inside.config.shape c.self.inside.allocation =
    ap (slots_of c.self.inside.config.shape) (c.take_back.ensures t.block t.there) ∙ slots_back c.self.inside.config.shape c.self.inside.allocation c.in-Some-destination.d t.block t.there t.noted in
    c.finish.ensures ∙ lost_copy c.self.view_is None (slots_of c.self.inside.config.shape c.take_back.new.self) refl same _ c.in-Some-destination.d (place_word c.args.first) (ap (proposal_of c.self.inside.allocation) c.in-Some.is ∙ t.shown)

pub returns-in-None : goal.returns-in-None
returns-in-None g c = search rules
