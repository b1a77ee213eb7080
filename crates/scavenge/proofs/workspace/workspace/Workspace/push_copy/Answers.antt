use Rattle.std.proofs.Common.{◌≡◌, true, Some, None, refl, sym, ap, subst, ◌∙◌}
use Rattle.layout.specs.Place.{place_word}
use Rattle.layout.specs.Object.{raw_size}
use Rattle.layout.specs.ObjectRef.{raw_of}
use Rattle.workers.specs.Joined.{OnSome}
use Rattle.workers.specs.Worker.{allocation_at}
use Rattle.scavenge.specs.Named.{named}
use Rattle.scavenge.specs.Fronts.{slot_at, fits_at}
use Rattle.scavenge.specs.Shown.{WorkspaceValue, AreNoted, IsNoted, slots_of, proposal_of, held_in, has_place_for}
use Rattle.scavenge.proofs.Fields.{no_proposal}
use Rattle.scavenge.proofs.Renewing.{shown_slot}
use Rattle.scavenge.proofs.Made.{table_made}
use Rattle.scavenge.proofs.Pushing.{fits_same, At, at_of, pushed, proposed_copy, proposed_noted, slots_pushed, shown_copy, copied_is}
use Rattle.scavenge.proofs.workspace.workspace.Workspace.push_copy.Goals as goal

pub push-place-requires : goal.push-place-requires
push-place-requires g c =
    let none = no_proposal c.self.inside.allocation c.self.inside.aside.items c.self.inside.done.items (held_in c.self.inside.hand) c.self.inside.proposed c.self.invariant.0 (ap (λ (v : WorkspaceValue). v.worker.proposal) c.self.view_is ∙ c.requires.proposal) in
    let n : AreNoted c.self.inside.allocation c.self.inside.aside.items c.self.inside.done.items (held_in c.self.inside.hand) None = subst (AreNoted c.self.inside.allocation c.self.inside.aside.items c.self.inside.done.items (held_in c.self.inside.hand)) none c.self.invariant.0 in
    sym (ap (has_place_for c.self.inside.config.block_words (raw_size (raw_of c.args.object))) (shown_slot c.self.inside.config.shape c.self.inside.allocation c.args.d (slot_at c.self.inside.allocation c.args.d) refl) ∙ fits_same c.self.inside.config (raw_size (raw_of c.args.object)) (slot_at c.self.inside.allocation c.args.d) (n.in_slots c.args.d) (c.self.invariant.1.in_slots c.args.d))
    ∙ ap (λ (v : WorkspaceValue). has_place_for v.config.block_words (raw_size (raw_of c.args.object)) (allocation_at v.worker c.args.d)) c.self.view_is ∙ c.requires.fits

pub invariant_of-self : goal.invariant_of-self
invariant_of-self g c =
    let none = no_proposal c.self.inside.allocation c.self.inside.aside.items c.self.inside.done.items (held_in c.self.inside.hand) c.self.inside.proposed c.self.invariant.0 (ap (λ (v : WorkspaceValue). v.worker.proposal) c.self.view_is ∙ c.requires.proposal) in
    let n : AreNoted c.self.inside.allocation c.self.inside.aside.items c.self.inside.done.items (held_in c.self.inside.hand) None = subst (AreNoted c.self.inside.allocation c.self.inside.aside.items c.self.inside.done.items (held_in c.self.inside.hand)) none c.self.invariant.0 in
    let fits : fits_at (raw_size (raw_of c.args.object)) (slot_at c.self.inside.allocation c.args.d) ≡ true =
    sym (ap (has_place_for c.self.inside.config.block_words (raw_size (raw_of c.args.object))) (shown_slot c.self.inside.config.shape c.self.inside.allocation c.args.d (slot_at c.self.inside.allocation c.args.d) refl) ∙ fits_same c.self.inside.config (raw_size (raw_of c.args.object)) (slot_at c.self.inside.allocation c.args.d) (n.in_slots c.args.d) (c.self.invariant.1.in_slots c.args.d))
    ∙ ap (λ (v : WorkspaceValue). has_place_for v.config.block_words (raw_size (raw_of c.args.object)) (allocation_at v.worker c.args.d)) c.self.view_is ∙ c.requires.fits in
    let t : At c.self.inside.allocation c.args.d = at_of c.self.inside.allocation c.args.d (raw_size (raw_of c.args.object)) fits in
    let r = c.self.invariant.2 in (
      proposed_noted c.args.name c.push-place.result c.args.d t.block (raw_of c.args.object) t.there (c.push-place.ensures.table t.block t.there) (c.push-place.ensures.place t.block t.there) n,
      table_made c.self.inside.config c.args.d t.block (pushed t.block (raw_of c.args.object)) t.there (λ m. record { words = m.words; destination = m.destination }) (c.push-place.ensures.table t.block t.there) refl c.self.invariant.1.in_hand c.self.invariant.1,
      record { in_won = r.in_won; in_done = r.in_done; in_aside = r.in_aside; for_spare = r.for_spare; in_claimed = tt },
      c.self.invariant.3,
    )

pub returns : goal.returns
returns g c =
    let none = no_proposal c.self.inside.allocation c.self.inside.aside.items c.self.inside.done.items (held_in c.self.inside.hand) c.self.inside.proposed c.self.invariant.0 (ap (λ (v : WorkspaceValue). v.worker.proposal) c.self.view_is ∙ c.requires.proposal) in
    let n : AreNoted c.self.inside.allocation c.self.inside.aside.items c.self.inside.done.items (held_in c.self.inside.hand) None = subst (AreNoted c.self.inside.allocation c.self.inside.aside.items c.self.inside.done.items (held_in c.self.inside.hand)) none c.self.invariant.0 in
    let fits : fits_at (raw_size (raw_of c.args.object)) (slot_at c.self.inside.allocation c.args.d) ≡ true =
    sym (ap (has_place_for c.self.inside.config.block_words (raw_size (raw_of c.args.object))) (shown_slot c.self.inside.config.shape c.self.inside.allocation c.args.d (slot_at c.self.inside.allocation c.args.d) refl) ∙ fits_same c.self.inside.config (raw_size (raw_of c.args.object)) (slot_at c.self.inside.allocation c.args.d) (n.in_slots c.args.d) (c.self.invariant.1.in_slots c.args.d))
    ∙ ap (λ (v : WorkspaceValue). has_place_for v.config.block_words (raw_size (raw_of c.args.object)) (allocation_at v.worker c.args.d)) c.self.view_is ∙ c.requires.fits in
    let t : At c.self.inside.allocation c.args.d = at_of c.self.inside.allocation c.args.d (raw_size (raw_of c.args.object)) fits in
    let old : IsNoted 0 t.block = subst (OnSome (IsNoted 0)) t.there (n.in_slots c.args.d) in
    let table = c.push-place.ensures.table t.block t.there in
    copied_is c.self.view_is (place_word c.args.name) (raw_of c.args.object) c.args.d _ _ (named c.self.inside.config.shape t.block) (shown_slot c.self.inside.config.shape c.self.inside.allocation c.args.d (Some t.block) t.there)
    (ap (λ xs. proposal_of xs (Some (proposed_copy c.args.name c.push-place.result c.args.d))) table ∙ shown_copy c.self.inside.config.shape c.self.inside.allocation c.args.d t.block (raw_of c.args.object) c.args.name c.push-place.result t.there old (c.push-place.ensures.place t.block t.there))
    (ap (slots_of c.self.inside.config.shape) table ∙ slots_pushed c.self.inside.config.shape c.self.inside.allocation c.args.d t.block (raw_of c.args.object) t.there old)
