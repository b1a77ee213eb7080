use Rattle.std.proofs.Common.{◌≡◌, ◌<◌, true, false, cond, List, [], ◌∷◌, ◌++◌, length, Option, None, refl, sym, ap, subst, ◌∙◌, arith}
use Rattle.std.proofs.lemmas.List.{map-append}
use Rattle.std.specs.Option.{option_map, IsSomeAnd}
use Rattle.block_pool.specs.BlockValue.{BlockValue}
use Rattle.steps.specs.Packed.{packed_word}
use Rattle.workers.specs.Worker.{Nothing, Open, Holding}
use Rattle.workers.specs.Joined.{Each, OnSome}
use Rattle.scavenge.specs.declared.workspace.proposed.Proposed.{Proposed}
use Rattle.scavenge.specs.Named.{named}
use Rattle.scavenge.specs.Shown.{WorkspaceValue, IsNoted, AreNoted, proposal_of, slots_of, blocks_of, words_of, packed_words, hand_of, held_in}
use Rattle.scavenge.proofs.Fields.{no_proposal, slots-get, slots_noted}
use Rattle.scavenge.proofs.Scans.{Passing, open_passing, held_passing, passed, passed_noted, unscanned_named, front_standing, scan_open_done, scan_held_done, slots_passed}
use Rattle.scavenge.proofs.workspace.workspace.Workspace.scan_last.Goals as goal
use Rattle.scavenge.proofs.Made.{table_made, made_more}
use Rattle.scavenge.specs.Shown.{IsMade, AreMade}

unproposed : (slots : List (Option BlockValue)) (aside done : List BlockValue) (held : Option BlockValue) {proposed : _} → proposed ≡ None → AreNoted slots aside done held proposed → AreNoted slots aside done held None
unproposed slots aside done held e n = subst (AreNoted slots aside done held) e n

noted_as : {slots slots' : List (Option BlockValue)} {aside done done' : List BlockValue} {held : Option BlockValue} {proposed : Option Proposed} → slots' ≡ slots → done' ≡ done → proposed ≡ None → AreNoted slots aside done held None → AreNoted slots' aside done' held proposed
noted_as {slots = slots} {slots' = slots'} {aside = aside} {done = done} {done' = done'} {held = held} {proposed = proposed} e f p n =
    subst (λ xs. AreNoted xs aside done' held proposed) (sym e) (subst (λ xs. AreNoted slots aside xs held proposed) (sym f) (subst (AreNoted slots aside done held) (sym p) n))

pub pass_front-place-requires-clause-some : goal.pass_front-place-requires-clause-some
pass_front-place-requires-clause-some g c =
    let none = no_proposal c.self.inside.allocation c.self.inside.aside.items c.self.inside.done.items (held_in c.self.inside.hand) c.self.inside.proposed c.self.invariant.0 (ap (λ (v : WorkspaceValue). v.worker.proposal) c.self.view_is ∙ c.requires.proposal) in
    let n = unproposed c.self.inside.allocation c.self.inside.aside.items c.self.inside.done.items (held_in c.self.inside.hand) none c.self.invariant.0 in
    let hand = ap (hand_of c.self.inside.config.shape) (sym c.replace.ensures.value ∙ c.in-Open.is) in
    let t : Passing c.self.inside.allocation c.in-Open.destination = open_passing c.self.view_is c.self.inside.config.shape c.self.inside.allocation c.in-Open.destination refl hand (n.in_slots c.in-Open.destination) c.requires.hand in
    subst (λ o. IsSomeAnd o (λ (b : BlockValue). b.front < length b.objects)) (sym t.there) t.lt

pub invariant_of-self-then-more : goal.invariant_of-self-then-more
invariant_of-self-then-more g c =
    let none = no_proposal c.self.inside.allocation c.self.inside.aside.items c.self.inside.done.items (held_in c.self.inside.hand) c.self.inside.proposed c.self.invariant.0 (ap (λ (v : WorkspaceValue). v.worker.proposal) c.self.view_is ∙ c.requires.proposal) in
    let n = unproposed c.self.inside.allocation c.self.inside.aside.items c.self.inside.done.items (held_in c.self.inside.hand) none c.self.invariant.0 in
    let hand = ap (hand_of c.self.inside.config.shape) (sym c.replace.ensures.value ∙ c.in-Open.is) in
    let t : Passing c.self.inside.allocation c.in-Open.destination = open_passing c.self.view_is c.self.inside.config.shape c.self.inside.allocation c.in-Open.destination refl hand (n.in_slots c.in-Open.destination) c.requires.hand in
    let m = slots_noted c.self.inside.allocation c.self.inside.aside.items c.self.inside.done.items None c.in-Open.destination t.block (passed t.block) t.there (λ k. passed_noted t.block k t.lt) (record { in_slots = n.in_slots; in_aside = n.in_aside; in_done = n.in_done; in_hand = tt; there = tt }) in
    let e = c.pass_front-place.ensures.table t.block t.there in
    (noted_as e c.reserve-2.ensures.items none m, table_made c.self.inside.config c.in-Open.destination t.block (passed t.block) t.there (λ n. record { words = n.words; destination = n.destination }) e c.reserve-2.ensures.items tt c.self.invariant.1, record { in_won = c.self.invariant.2.in_won; in_done = omega (arith, c.self.invariant.2.in_done, c.reserve-2.ensures.len, c.reserve-2.ensures.capacity); in_aside = c.self.invariant.2.in_aside; for_spare = c.self.invariant.2.for_spare; in_claimed = c.self.invariant.2.in_claimed }, c.self.invariant.3)

pub invariant_of-self-else-more : goal.invariant_of-self-else-more
invariant_of-self-else-more g c =
    let none = no_proposal c.self.inside.allocation c.self.inside.aside.items c.self.inside.done.items (held_in c.self.inside.hand) c.self.inside.proposed c.self.invariant.0 (ap (λ (v : WorkspaceValue). v.worker.proposal) c.self.view_is ∙ c.requires.proposal) in
    let n = unproposed c.self.inside.allocation c.self.inside.aside.items c.self.inside.done.items (held_in c.self.inside.hand) none c.self.invariant.0 in
    let hand = ap (hand_of c.self.inside.config.shape) (sym c.replace.ensures.value ∙ c.in-Open.is) in
    let t : Passing c.self.inside.allocation c.in-Open.destination = open_passing c.self.view_is c.self.inside.config.shape c.self.inside.allocation c.in-Open.destination refl hand (n.in_slots c.in-Open.destination) c.requires.hand in
    let m = slots_noted c.self.inside.allocation c.self.inside.aside.items c.self.inside.done.items None c.in-Open.destination t.block (passed t.block) t.there (λ k. passed_noted t.block k t.lt) (record { in_slots = n.in_slots; in_aside = n.in_aside; in_done = n.in_done; in_hand = tt; there = tt }) in
    let e = c.pass_front-place.ensures.table t.block t.there in
    let noted : AreNoted c.pass_front-place.new.self c.self.inside.aside.items c.reserve-2.new.self.items None c.self.inside.proposed = noted_as e c.reserve-2.ensures.items none m in
    let made : AreMade c.self.inside.config c.pass_front-place.new.self c.self.inside.aside.items c.reserve-2.new.self.items None = table_made c.self.inside.config c.in-Open.destination t.block (passed t.block) t.there (λ n. record { words = n.words; destination = n.destination }) e c.reserve-2.ensures.items tt c.self.invariant.1 in (
      subst (λ h. AreNoted c.pass_front-place.new.self c.self.inside.aside.items c.reserve-2.new.self.items (held_in h) c.self.inside.proposed) (sym c.replace.ensures.after) noted,
      subst (λ h. AreMade c.self.inside.config c.pass_front-place.new.self c.self.inside.aside.items c.reserve-2.new.self.items (held_in h)) (sym c.replace.ensures.after) made,
      record { in_won = c.self.invariant.2.in_won; in_done = omega (arith, c.self.invariant.2.in_done, c.reserve-2.ensures.len, c.reserve-2.ensures.capacity); in_aside = c.self.invariant.2.in_aside; for_spare = c.self.invariant.2.for_spare; in_claimed = c.self.invariant.2.in_claimed },
      c.self.invariant.3,
    )

pub returns-then-more-clause-ok : goal.returns-then-more-clause-ok
returns-then-more-clause-ok g c =
    let none = no_proposal c.self.inside.allocation c.self.inside.aside.items c.self.inside.done.items (held_in c.self.inside.hand) c.self.inside.proposed c.self.invariant.0 (ap (λ (v : WorkspaceValue). v.worker.proposal) c.self.view_is ∙ c.requires.proposal) in
    let n = unproposed c.self.inside.allocation c.self.inside.aside.items c.self.inside.done.items (held_in c.self.inside.hand) none c.self.invariant.0 in
    let hand = ap (hand_of c.self.inside.config.shape) (sym c.replace.ensures.value ∙ c.in-Open.is) in
    let t : Passing c.self.inside.allocation c.in-Open.destination = open_passing c.self.view_is c.self.inside.config.shape c.self.inside.allocation c.in-Open.destination refl hand (n.in_slots c.in-Open.destination) c.requires.hand in
    let k = front_standing c.self.inside.config.shape t.block t.noted t.lt in
    let more = unscanned_named c.self.inside.config.shape (passed t.block) (passed_noted t.block t.noted t.lt) ∙ sym (c.pass_front-place.ensures.more t.block t.there) ∙ c.if-more.true in
    scan_open_done c.self.view_is _ _ _ _ _ _ c.in-Open.destination (named c.self.inside.config.shape t.block) k.copy hand (slots-get c.self.inside.config.shape c.self.inside.allocation c.in-Open.destination ∙ ap (option_map (named c.self.inside.config.shape)) t.there) k.is
    (ap (proposal_of c.pass_front-place.new.self) none ∙ sym (ap (proposal_of c.self.inside.allocation) none))
    (sym (ap (λ b. cond b (Open c.in-Open.destination) Nothing) more))
    (ap (slots_of c.self.inside.config.shape) (c.pass_front-place.ensures.table t.block t.there) ∙ slots_passed c.self.inside.config.shape c.self.inside.allocation c.in-Open.destination t.block)
    (ap (blocks_of c.self.inside.config.shape) c.reserve-2.ensures.items)
    (ap words_of c.reserve-3.ensures.items)
    (ap packed_words (c.push_reserved.ensures.items ∙ ap (λ xs. xs ++ c.new.result ∷ []) c.reserve.ensures.items) ∙ map-append packed_word c.self.inside.scanned.items _ ∙ ap (λ w. packed_words c.self.inside.scanned.items ++ w ∷ []) (c.new.ensures ∙ c.pass_front-place.ensures.place t.block t.there ∙ sym k.at))

pub returns-else-more-clause-ok : goal.returns-else-more-clause-ok
returns-else-more-clause-ok g c =
    let none = no_proposal c.self.inside.allocation c.self.inside.aside.items c.self.inside.done.items (held_in c.self.inside.hand) c.self.inside.proposed c.self.invariant.0 (ap (λ (v : WorkspaceValue). v.worker.proposal) c.self.view_is ∙ c.requires.proposal) in
    let n = unproposed c.self.inside.allocation c.self.inside.aside.items c.self.inside.done.items (held_in c.self.inside.hand) none c.self.invariant.0 in
    let hand = ap (hand_of c.self.inside.config.shape) (sym c.replace.ensures.value ∙ c.in-Open.is) in
    let t : Passing c.self.inside.allocation c.in-Open.destination = open_passing c.self.view_is c.self.inside.config.shape c.self.inside.allocation c.in-Open.destination refl hand (n.in_slots c.in-Open.destination) c.requires.hand in
    let k = front_standing c.self.inside.config.shape t.block t.noted t.lt in
    let more = unscanned_named c.self.inside.config.shape (passed t.block) (passed_noted t.block t.noted t.lt) ∙ sym (c.pass_front-place.ensures.more t.block t.there) ∙ c.if-more.false in
    scan_open_done c.self.view_is _ _ _ _ _ _ c.in-Open.destination (named c.self.inside.config.shape t.block) k.copy hand (slots-get c.self.inside.config.shape c.self.inside.allocation c.in-Open.destination ∙ ap (option_map (named c.self.inside.config.shape)) t.there) k.is
    (ap (proposal_of c.pass_front-place.new.self) none ∙ sym (ap (proposal_of c.self.inside.allocation) none))
    (ap (hand_of c.self.inside.config.shape) c.replace.ensures.after ∙ sym (ap (λ b. cond b (Open c.in-Open.destination) Nothing) more))
    (ap (slots_of c.self.inside.config.shape) (c.pass_front-place.ensures.table t.block t.there) ∙ slots_passed c.self.inside.config.shape c.self.inside.allocation c.in-Open.destination t.block)
    (ap (blocks_of c.self.inside.config.shape) c.reserve-2.ensures.items)
    (ap words_of c.reserve-3.ensures.items)
    (ap packed_words (c.push_reserved.ensures.items ∙ ap (λ xs. xs ++ c.new.result ∷ []) c.reserve.ensures.items) ∙ map-append packed_word c.self.inside.scanned.items _ ∙ ap (λ w. packed_words c.self.inside.scanned.items ++ w ∷ []) (c.new.ensures ∙ c.pass_front-place.ensures.place t.block t.there ∙ sym k.at))

pub pass_front-place-requires-in-Holding : goal.pass_front-place-requires-in-Holding
pass_front-place-requires-in-Holding g c =
    let there = sym c.replace.ensures.value ∙ c.in-Holding.is in
    let n : IsNoted 0 c.in-Holding.held = subst (λ h. OnSome (IsNoted 0) (held_in h)) there c.self.invariant.0.in_hand in
    let hand = ap (hand_of c.self.inside.config.shape) there in
    held_passing c.self.view_is c.self.inside.config.shape c.in-Holding.held hand n c.requires.hand

each_more : (xs : List BlockValue) (b : BlockValue) → Each (IsNoted 0) xs → IsNoted 0 b → Each (IsNoted 0) (xs ++ b ∷ [])
each_more [] b h n = (n, tt)
each_more (x ∷ xs) b h n = (h.0, each_more xs b h.1 n)

pub invariant_of-self-in-Holding : goal.invariant_of-self-in-Holding
invariant_of-self-in-Holding g c =
    let there = sym c.replace.ensures.value ∙ c.in-Holding.is in
    let n : IsNoted 0 c.in-Holding.held = subst (λ h. OnSome (IsNoted 0) (held_in h)) there c.self.invariant.0.in_hand in
    let hand = ap (hand_of c.self.inside.config.shape) there in
    let lt : c.in-Holding.held.front < length c.in-Holding.held.objects = held_passing c.self.view_is c.self.inside.config.shape c.in-Holding.held hand n c.requires.hand in
    let m : IsNoted 0 c.pass_front-place-in-Holding.new.block = subst (IsNoted 0) (sym c.pass_front-place-in-Holding.ensures.block) (passed_noted c.in-Holding.held n lt) in
    let k : IsMade c.self.inside.config c.in-Holding.held = subst (λ h. OnSome (IsMade c.self.inside.config) (held_in h)) there c.self.invariant.1.in_hand in
    let k' : IsMade c.self.inside.config c.pass_front-place-in-Holding.new.block = subst (IsMade c.self.inside.config) (sym c.pass_front-place-in-Holding.ensures.block) (record { words = k.words; destination = k.destination }) in (
      record {
        in_slots = c.self.invariant.0.in_slots;
        in_aside = c.self.invariant.0.in_aside;
        there = c.self.invariant.0.there;
        in_done = subst (Each (IsNoted 0)) (sym (c.push_reserved-in-Holding-2.ensures.items ∙ ap (λ xs. xs ++ c.pass_front-place-in-Holding.new.block ∷ []) c.reserve-2.ensures.items)) (each_more c.self.inside.done.items c.pass_front-place-in-Holding.new.block c.self.invariant.0.in_done m);
        in_hand = subst (λ h. OnSome (IsNoted 0) (held_in h)) (sym c.replace.ensures.after) tt;
      },
      record {
        in_slots = c.self.invariant.1.in_slots;
        in_aside = c.self.invariant.1.in_aside;
        in_done = subst (Each (IsMade c.self.inside.config)) (sym (c.push_reserved-in-Holding-2.ensures.items ∙ ap (λ xs. xs ++ c.pass_front-place-in-Holding.new.block ∷ []) c.reserve-2.ensures.items)) (made_more c.self.inside.config c.self.inside.done.items c.pass_front-place-in-Holding.new.block c.self.invariant.1.in_done k');
        in_hand = subst (λ h. OnSome (IsMade c.self.inside.config) (held_in h)) (sym c.replace.ensures.after) tt;
      },
      record { in_won = c.self.invariant.2.in_won; in_done = omega (arith, c.push_reserved-in-Holding-2.ensures.len, c.push_reserved-in-Holding-2.ensures.capacity, c.in_ok-reserve-2.ensures.ok); in_aside = c.self.invariant.2.in_aside; for_spare = c.self.invariant.2.for_spare; in_claimed = c.self.invariant.2.in_claimed },
      c.self.invariant.3,
    )

pub returns-then-more-2-clause-ok : goal.returns-then-more-2-clause-ok
returns-then-more-2-clause-ok g c =
    let there = sym c.replace.ensures.value ∙ c.in-Holding.is in
    let n : IsNoted 0 c.in-Holding.held = subst (λ h. OnSome (IsNoted 0) (held_in h)) there c.self.invariant.0.in_hand in
    let hand = ap (hand_of c.self.inside.config.shape) there in
    let lt : c.in-Holding.held.front < length c.in-Holding.held.objects = held_passing c.self.view_is c.self.inside.config.shape c.in-Holding.held hand n c.requires.hand in
    let k = front_standing c.self.inside.config.shape c.in-Holding.held n lt in
    let more = unscanned_named c.self.inside.config.shape (passed c.in-Holding.held) (passed_noted c.in-Holding.held n lt) ∙ sym c.pass_front-place-in-Holding.ensures.more ∙ c.if-more-2.true in
    scan_held_done c.self.view_is _ _ _ _ _ (named c.self.inside.config.shape c.in-Holding.held) k.copy hand k.is true more refl
    (ap (λ (b : BlockValue). Holding (named c.self.inside.config.shape b)) c.pass_front-place-in-Holding.ensures.block)
    (ap (blocks_of c.self.inside.config.shape) c.reserve-2.ensures.items)
    (ap words_of c.reserve-3.ensures.items)
    (ap packed_words (c.push_reserved-in-Holding.ensures.items ∙ ap (λ xs. xs ++ c.new-in-Holding.result ∷ []) c.reserve.ensures.items) ∙ map-append packed_word c.self.inside.scanned.items _ ∙ ap (λ w. packed_words c.self.inside.scanned.items ++ w ∷ []) (c.new-in-Holding.ensures ∙ c.pass_front-place-in-Holding.ensures.place ∙ sym k.at))

pub returns-else-more-2-clause-ok : goal.returns-else-more-2-clause-ok
returns-else-more-2-clause-ok g c =
    let there = sym c.replace.ensures.value ∙ c.in-Holding.is in
    let n : IsNoted 0 c.in-Holding.held = subst (λ h. OnSome (IsNoted 0) (held_in h)) there c.self.invariant.0.in_hand in
    let hand = ap (hand_of c.self.inside.config.shape) there in
    let lt : c.in-Holding.held.front < length c.in-Holding.held.objects = held_passing c.self.view_is c.self.inside.config.shape c.in-Holding.held hand n c.requires.hand in
    let k = front_standing c.self.inside.config.shape c.in-Holding.held n lt in
    let more = unscanned_named c.self.inside.config.shape (passed c.in-Holding.held) (passed_noted c.in-Holding.held n lt) ∙ sym c.pass_front-place-in-Holding.ensures.more ∙ c.if-more-2.false in
    scan_held_done c.self.view_is _ _ _ _ _ (named c.self.inside.config.shape c.in-Holding.held) k.copy hand k.is false more refl
    (ap (hand_of c.self.inside.config.shape) c.replace.ensures.after)
    (ap (blocks_of c.self.inside.config.shape) (c.push_reserved-in-Holding-2.ensures.items ∙ ap (λ xs. xs ++ c.pass_front-place-in-Holding.new.block ∷ []) c.reserve-2.ensures.items)
    ∙ map-append (named c.self.inside.config.shape) c.self.inside.done.items _ ∙ ap (λ (b : BlockValue). blocks_of c.self.inside.config.shape c.self.inside.done.items ++ named c.self.inside.config.shape b ∷ []) c.pass_front-place-in-Holding.ensures.block)
    (ap words_of c.reserve-3.ensures.items)
    (ap packed_words (c.push_reserved-in-Holding.ensures.items ∙ ap (λ xs. xs ++ c.new-in-Holding.result ∷ []) c.reserve.ensures.items) ∙ map-append packed_word c.self.inside.scanned.items _ ∙ ap (λ w. packed_words c.self.inside.scanned.items ++ w ∷ []) (c.new-in-Holding.ensures ∙ c.pass_front-place-in-Holding.ensures.place ∙ sym k.at))
