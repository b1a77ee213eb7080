use Rattle.std.proofs.Common.{◌≡◌, ◌<◌, ◌++◌, List, [], ◌∷◌, Some, None, refl, sym, ap, subst, ◌∙◌, arith, lt-ltb, le-ltb, true≢false}
use Rattle.std.proofs.lemmas.List.{map-append}
use Rattle.block_pool.specs.BlockValue.{BlockValue}
use Rattle.workers.specs.Joined.{Each, OnSome}
use Rattle.workers.proofs.Lists.{Each-append}
use Rattle.scavenge.specs.Named.{named, IsWhole}
use Rattle.scavenge.specs.Fronts.{slot_at}
use Rattle.scavenge.specs.Shown.{WorkspaceValue, AreNoted, IsMade, IsNoted, slots_of, blocks_of, proposal_of, held_in}
use Rattle.scavenge.proofs.Fields.{no_proposal}
use Rattle.scavenge.proofs.Scans.{unscanned_named}
use Rattle.scavenge.proofs.Made.{made_more}
use Rattle.scavenge.proofs.Begun.{whole_noted, whole_made}
use Rattle.scavenge.proofs.Renewing.{new_noted, new_made, new_none, new_open, new_aside, new_done, is_opened, not_opened, renewed_is, shown_slot, slots_drawn}
use Rattle.scavenge.proofs.workspace.workspace.Workspace.renew.Goals as goal

each_more : (xs : List BlockValue) (b : BlockValue) → Each (IsNoted 0) xs → IsNoted 0 b → Each (IsNoted 0) (xs ++ b ∷ [])
each_more xs b h n = Each-append (IsNoted 0) xs (b ∷ []) h (n, tt)

inside : {V N : WorkspaceValue} → V ≡ N → (b : BlockValue) → IsWhole N.config.shape N.config.block_words b → IsWhole V.config.shape V.config.block_words b
inside same b w = subst (λ (v : WorkspaceValue). IsWhole v.config.shape v.config.block_words b) (sym same) w

pub invariant_of-self : goal.invariant_of-self
invariant_of-self g c =
    let none = no_proposal c.self.inside.allocation c.self.inside.aside.items c.self.inside.done.items (held_in c.self.inside.hand) c.self.inside.proposed c.self.invariant.0 (ap (λ (v : WorkspaceValue). v.worker.proposal) c.self.view_is ∙ c.requires.proposal) in
    let n : AreNoted c.self.inside.allocation c.self.inside.aside.items c.self.inside.done.items (held_in c.self.inside.hand) None = subst (AreNoted c.self.inside.allocation c.self.inside.aside.items c.self.inside.done.items (held_in c.self.inside.hand)) none c.self.invariant.0 in
    let whole = inside c.self.view_is c.args.block c.requires.whole in
    let r = c.self.invariant.2 in (
      new_noted c.args.d c.args.block c.replace.ensures.table (whole_noted c.self.inside.config c.args.block whole) n.in_aside n.in_done n.in_hand none n,
      new_made c.self.inside.config c.args.d c.args.block c.replace.ensures.table (whole_made c.self.inside.config c.args.block whole) c.self.invariant.1.in_aside c.self.invariant.1.in_done c.self.invariant.1.in_hand c.self.invariant.1,
      record { in_won = r.in_won; in_done = omega (arith, r.in_done); in_aside = omega (arith, r.in_aside); for_spare = λ s. omega (arith, r.for_spare s); in_claimed = r.in_claimed },
      c.self.invariant.3,
    )

pub returns-in_default : goal.returns-in_default
returns-in_default g c =
    let none = no_proposal c.self.inside.allocation c.self.inside.aside.items c.self.inside.done.items (held_in c.self.inside.hand) c.self.inside.proposed c.self.invariant.0 (ap (λ (v : WorkspaceValue). v.worker.proposal) c.self.view_is ∙ c.requires.proposal) in
    let slots = slots_drawn c.self.inside.config.shape c.self.inside.allocation c.args.d c.args.block.number c.args.block (ap (λ (v : WorkspaceValue). named v.config.shape c.args.block) c.self.view_is ∙ c.requires.empty) in
    renewed_is c.self.view_is _ _ _ _ _ c.args.d c.args.block.number _ _ _
    (new_none _ c.args.d c.args.block.number (shown_slot c.self.inside.config.shape c.self.inside.allocation c.args.d None (sym c.replace.ensures.old ∙ c.in_default.is)))
    (ap (proposal_of _) none ∙ sym (ap (proposal_of c.self.inside.allocation) none))
    refl
    (ap (slots_of c.self.inside.config.shape) c.replace.ensures.table ∙ slots)
    refl
    refl

pub invariant_of-self-then-is_open : goal.invariant_of-self-then-is_open
invariant_of-self-then-is_open g c =
    let none = no_proposal c.self.inside.allocation c.self.inside.aside.items c.self.inside.done.items (held_in c.self.inside.hand) c.self.inside.proposed c.self.invariant.0 (ap (λ (v : WorkspaceValue). v.worker.proposal) c.self.view_is ∙ c.requires.proposal) in
    let n : AreNoted c.self.inside.allocation c.self.inside.aside.items c.self.inside.done.items (held_in c.self.inside.hand) None = subst (AreNoted c.self.inside.allocation c.self.inside.aside.items c.self.inside.done.items (held_in c.self.inside.hand)) none c.self.invariant.0 in
    let whole = inside c.self.view_is c.args.block c.requires.whole in
    let there : slot_at c.self.inside.allocation c.args.d ≡ Some c.in-Some.full = sym c.replace.ensures.old ∙ c.in-Some.is in
    let old : IsNoted 0 c.in-Some.full = subst (OnSome (IsNoted 0)) there (n.in_slots c.args.d) in
    let oldm : IsMade c.self.inside.config c.in-Some.full = subst (OnSome (IsMade c.self.inside.config)) there (c.self.invariant.1.in_slots c.args.d) in
    let r = c.self.invariant.2 in (
      new_noted c.args.d c.args.block c.replace.ensures.table (whole_noted c.self.inside.config c.args.block whole) n.in_aside n.in_done old none n,
      new_made c.self.inside.config c.args.d c.args.block c.replace.ensures.table (whole_made c.self.inside.config c.args.block whole) c.self.invariant.1.in_aside c.self.invariant.1.in_done oldm c.self.invariant.1,
      record { in_won = r.in_won; in_done = omega (arith, r.in_done); in_aside = omega (arith, r.in_aside); for_spare = λ s. omega (arith, r.for_spare s); in_claimed = r.in_claimed },
      c.self.invariant.3,
    )

pub returns-then-is_open : goal.returns-then-is_open
returns-then-is_open g c =
    let none = no_proposal c.self.inside.allocation c.self.inside.aside.items c.self.inside.done.items (held_in c.self.inside.hand) c.self.inside.proposed c.self.invariant.0 (ap (λ (v : WorkspaceValue). v.worker.proposal) c.self.view_is ∙ c.requires.proposal) in
    let slots = slots_drawn c.self.inside.config.shape c.self.inside.allocation c.args.d c.args.block.number c.args.block (ap (λ (v : WorkspaceValue). named v.config.shape c.args.block) c.self.view_is ∙ c.requires.empty) in
    let there : slot_at c.self.inside.allocation c.args.d ≡ Some c.in-Some.full = sym c.replace.ensures.old ∙ c.in-Some.is in
    renewed_is c.self.view_is _ _ _ _ _ c.args.d c.args.block.number _ _ _
    (new_open _ c.args.d c.args.block.number (named c.self.inside.config.shape c.in-Some.full) (shown_slot c.self.inside.config.shape c.self.inside.allocation c.args.d (Some c.in-Some.full) there) (is_opened c.self.inside.config.shape c.self.inside.hand c.args.d (c.is_open.ensures.0 c.if-is_open.true)))
    (ap (proposal_of _) none ∙ sym (ap (proposal_of c.self.inside.allocation) none))
    refl
    (ap (slots_of c.self.inside.config.shape) c.replace.ensures.table ∙ slots)
    refl
    refl

pub invariant_of-self-then-front-len : goal.invariant_of-self-then-front-len
invariant_of-self-then-front-len g c =
    let none = no_proposal c.self.inside.allocation c.self.inside.aside.items c.self.inside.done.items (held_in c.self.inside.hand) c.self.inside.proposed c.self.invariant.0 (ap (λ (v : WorkspaceValue). v.worker.proposal) c.self.view_is ∙ c.requires.proposal) in
    let n : AreNoted c.self.inside.allocation c.self.inside.aside.items c.self.inside.done.items (held_in c.self.inside.hand) None = subst (AreNoted c.self.inside.allocation c.self.inside.aside.items c.self.inside.done.items (held_in c.self.inside.hand)) none c.self.invariant.0 in
    let whole = inside c.self.view_is c.args.block c.requires.whole in
    let there : slot_at c.self.inside.allocation c.args.d ≡ Some c.in-Some.full = sym c.replace.ensures.old ∙ c.in-Some.is in
    let old : IsNoted 0 c.in-Some.full = subst (OnSome (IsNoted 0)) there (n.in_slots c.args.d) in
    let oldm : IsMade c.self.inside.config c.in-Some.full = subst (OnSome (IsMade c.self.inside.config)) there (c.self.invariant.1.in_slots c.args.d) in
    let free : 0 < c.self.inside.block_room = subst (λ (v : WorkspaceValue). 0 < v.block_room) (sym c.self.view_is) c.requires.free in
    let r = c.self.invariant.2 in (
      new_noted c.args.d c.args.block c.replace.ensures.table (whole_noted c.self.inside.config c.args.block whole) (subst (Each (IsNoted 0)) (sym c.push_back_reserved.ensures.items) (each_more c.self.inside.aside.items c.in-Some.full n.in_aside old)) n.in_done n.in_hand none n,
      new_made c.self.inside.config c.args.d c.args.block c.replace.ensures.table (whole_made c.self.inside.config c.args.block whole) (subst (Each (IsMade c.self.inside.config)) (sym c.push_back_reserved.ensures.items) (made_more c.self.inside.config c.self.inside.aside.items c.in-Some.full c.self.invariant.1.in_aside oldm)) c.self.invariant.1.in_done c.self.invariant.1.in_hand c.self.invariant.1,
      record { in_won = r.in_won; in_done = omega (arith, r.in_done); in_aside = omega (arith, r.in_aside, free, c.push_back_reserved.ensures.len, c.push_back_reserved.ensures.capacity); for_spare = λ s. omega (arith, r.for_spare s, free, c.push_back_reserved.ensures.len, c.push_back_reserved.ensures.capacity); in_claimed = r.in_claimed },
      c.self.invariant.3,
    )

pub returns-then-front-len : goal.returns-then-front-len
returns-then-front-len g c =
    let none = no_proposal c.self.inside.allocation c.self.inside.aside.items c.self.inside.done.items (held_in c.self.inside.hand) c.self.inside.proposed c.self.invariant.0 (ap (λ (v : WorkspaceValue). v.worker.proposal) c.self.view_is ∙ c.requires.proposal) in
    let slots = slots_drawn c.self.inside.config.shape c.self.inside.allocation c.args.d c.args.block.number c.args.block (ap (λ (v : WorkspaceValue). named v.config.shape c.args.block) c.self.view_is ∙ c.requires.empty) in
    let n : AreNoted c.self.inside.allocation c.self.inside.aside.items c.self.inside.done.items (held_in c.self.inside.hand) None = subst (AreNoted c.self.inside.allocation c.self.inside.aside.items c.self.inside.done.items (held_in c.self.inside.hand)) none c.self.invariant.0 in
    let there : slot_at c.self.inside.allocation c.args.d ≡ Some c.in-Some.full = sym c.replace.ensures.old ∙ c.in-Some.is in
    let old : IsNoted 0 c.in-Some.full = subst (OnSome (IsNoted 0)) there (n.in_slots c.args.d) in
    renewed_is c.self.view_is _ _ _ _ _ c.args.d c.args.block.number _ _ _
    (new_aside _ c.args.d c.args.block.number (named c.self.inside.config.shape c.in-Some.full) (shown_slot c.self.inside.config.shape c.self.inside.allocation c.args.d (Some c.in-Some.full) there) (not_opened c.self.inside.config.shape c.self.inside.hand c.args.d (λ e. true≢false (sym (c.is_open.ensures.1 e) ∙ c.if-is_open.false))) (unscanned_named c.self.inside.config.shape c.in-Some.full old ∙ lt-ltb _ _ (omega (arith, c.if-front-len.true, c.front.ensures.value, c.len.ensures.value))))
    (ap (proposal_of _) none ∙ sym (ap (proposal_of c.self.inside.allocation) none))
    refl
    (ap (slots_of c.self.inside.config.shape) c.replace.ensures.table ∙ slots)
    (ap (blocks_of c.self.inside.config.shape) c.push_back_reserved.ensures.items ∙ map-append (named c.self.inside.config.shape) c.self.inside.aside.items _)
    refl

pub invariant_of-self-2 : goal.invariant_of-self-2
invariant_of-self-2 g c =
    let none = no_proposal c.self.inside.allocation c.self.inside.aside.items c.self.inside.done.items (held_in c.self.inside.hand) c.self.inside.proposed c.self.invariant.0 (ap (λ (v : WorkspaceValue). v.worker.proposal) c.self.view_is ∙ c.requires.proposal) in
    let n : AreNoted c.self.inside.allocation c.self.inside.aside.items c.self.inside.done.items (held_in c.self.inside.hand) None = subst (AreNoted c.self.inside.allocation c.self.inside.aside.items c.self.inside.done.items (held_in c.self.inside.hand)) none c.self.invariant.0 in
    let whole = inside c.self.view_is c.args.block c.requires.whole in
    let there : slot_at c.self.inside.allocation c.args.d ≡ Some c.in-Some.full = sym c.replace.ensures.old ∙ c.in-Some.is in
    let old : IsNoted 0 c.in-Some.full = subst (OnSome (IsNoted 0)) there (n.in_slots c.args.d) in
    let oldm : IsMade c.self.inside.config c.in-Some.full = subst (OnSome (IsMade c.self.inside.config)) there (c.self.invariant.1.in_slots c.args.d) in
    let free : 0 < c.self.inside.block_room = subst (λ (v : WorkspaceValue). 0 < v.block_room) (sym c.self.view_is) c.requires.free in
    let r = c.self.invariant.2 in (
      new_noted c.args.d c.args.block c.replace.ensures.table (whole_noted c.self.inside.config c.args.block whole) n.in_aside (subst (Each (IsNoted 0)) (sym c.push_reserved.ensures.items) (each_more c.self.inside.done.items c.in-Some.full n.in_done old)) n.in_hand none n,
      new_made c.self.inside.config c.args.d c.args.block c.replace.ensures.table (whole_made c.self.inside.config c.args.block whole) c.self.invariant.1.in_aside (subst (Each (IsMade c.self.inside.config)) (sym c.push_reserved.ensures.items) (made_more c.self.inside.config c.self.inside.done.items c.in-Some.full c.self.invariant.1.in_done oldm)) c.self.invariant.1.in_hand c.self.invariant.1,
      record { in_won = r.in_won; in_done = omega (arith, r.in_done, free, c.push_reserved.ensures.len, c.push_reserved.ensures.capacity); in_aside = omega (arith, r.in_aside); for_spare = λ s. omega (arith, r.for_spare s); in_claimed = r.in_claimed },
      c.self.invariant.3,
    )

pub returns : goal.returns
returns g c =
    let none = no_proposal c.self.inside.allocation c.self.inside.aside.items c.self.inside.done.items (held_in c.self.inside.hand) c.self.inside.proposed c.self.invariant.0 (ap (λ (v : WorkspaceValue). v.worker.proposal) c.self.view_is ∙ c.requires.proposal) in
    let slots = slots_drawn c.self.inside.config.shape c.self.inside.allocation c.args.d c.args.block.number c.args.block (ap (λ (v : WorkspaceValue). named v.config.shape c.args.block) c.self.view_is ∙ c.requires.empty) in
    let n : AreNoted c.self.inside.allocation c.self.inside.aside.items c.self.inside.done.items (held_in c.self.inside.hand) None = subst (AreNoted c.self.inside.allocation c.self.inside.aside.items c.self.inside.done.items (held_in c.self.inside.hand)) none c.self.invariant.0 in
    let there : slot_at c.self.inside.allocation c.args.d ≡ Some c.in-Some.full = sym c.replace.ensures.old ∙ c.in-Some.is in
    let old : IsNoted 0 c.in-Some.full = subst (OnSome (IsNoted 0)) there (n.in_slots c.args.d) in
    renewed_is c.self.view_is _ _ _ _ _ c.args.d c.args.block.number _ _ _
    (new_done _ c.args.d c.args.block.number (named c.self.inside.config.shape c.in-Some.full) (shown_slot c.self.inside.config.shape c.self.inside.allocation c.args.d (Some c.in-Some.full) there) (not_opened c.self.inside.config.shape c.self.inside.hand c.args.d (λ e. true≢false (sym (c.is_open.ensures.1 e) ∙ c.if-is_open.false))) (unscanned_named c.self.inside.config.shape c.in-Some.full old ∙ le-ltb _ _ (omega (arith, c.if-front-len.false, c.front.ensures.value, c.len.ensures.value))))
    (ap (proposal_of _) none ∙ sym (ap (proposal_of c.self.inside.allocation) none))
    refl
    (ap (slots_of c.self.inside.config.shape) c.replace.ensures.table ∙ slots)
    refl
    (ap (blocks_of c.self.inside.config.shape) c.push_reserved.ensures.items ∙ map-append (named c.self.inside.config.shape) c.self.inside.done.items _)
