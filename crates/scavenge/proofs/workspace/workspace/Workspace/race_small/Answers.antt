use Rattle.std.proofs.Common.{◌≡◌, ℕ, ◌++◌, ◌∷◌, [], true, false, List, map, Option, Some, refl, sym, ap, subst, ◌∙◌, arith}
use Rattle.std.specs.Prelude.{is_some, slice_index}
use Rattle.std.specs.Option.{option_map}
use Rattle.model.specs.Config.{Config}
use Rattle.model.specs.Destination.{dest}
use Rattle.model.specs.Graph.{object_at}
use Rattle.layout.specs.Object.{Raw, raw_size}
use Rattle.layout.specs.Place.{place_word, small_word}
use Rattle.layout.specs.declared.place.Place.TheVariants.{Small}
use Rattle.block_pool.specs.BlockValue.{BlockValue}
use Rattle.forwarding.specs.declared.cells.outcome.Outcome.TheVariants.{Won, Lost}
use Rattle.forwarding.specs.Learned.{Learns, RaceEnds, place_after}
use Rattle.steps.specs.ReportValue.{renaming_of}
use Rattle.steps.specs.ReportView.{won_value}
use Rattle.heap.specs.HeapValue.{HeapValue}
use Rattle.heap.specs.StepPairs.{step_pair, stands_at}
use Rattle.workers.specs.Joined.{OnSome}
use Rattle.workers.specs.Setting.{destination_of, destination_number}
use Rattle.workers.specs.Worker.{allocation_at}
use Rattle.scavenge.specs.Fronts.{slot_at, fits_at}
use Rattle.scavenge.specs.Shown.{WorkspaceValue, IsNoted, IsMade, slots_of, held_in, has_place_for}
use Rattle.scavenge.specs.Slots.{objects_of}
use Rattle.scavenge.specs.Swept.{with_block}
use Rattle.scavenge.proofs.CopyRaces.{copied}
use Rattle.scavenge.proofs.Goings.{goes_there}
use Rattle.scavenge.proofs.Made.{table_made}
use Rattle.scavenge.proofs.Pushing.{At, at_of, fits_same, pushed}
use Rattle.scavenge.proofs.Renewing.{shown_slot}
use Rattle.scavenge.proofs.SmallRaces.{nothing, clear, bids, lost, noted_after, can_finish_after, won_after}
use Rattle.scavenge.proofs.Winning.{noted, numbers_more, won_more, names_of}
use Rattle.scavenge.proofs.workspace.workspace.Workspace.race_small.Goals as goal

-- whether the object's copy fits, as contracts see it and as the block for its destination tells
fits_there : {V N : WorkspaceValue} (same : V ≡ N) (heap : HeapValue) (config : Config) (allocation : List (Option BlockValue)) (word d size : ℕ) (from : ℕ × ℕ) (raw : Raw) → V.config ≡ config → V.worker.allocation ≡ slots_of config.shape allocation
    → N.config ≡ heap.config → Some from ≡ option_map stands_at (object_at heap.graph word) → destination_number config.shape (dest config.shape from) ≡ d → OnSome (IsNoted 0) (slot_at allocation d) → OnSome (IsMade config) (slot_at allocation d) → size ≡ raw_size raw
    → has_place_for N.config.block_words (raw_size raw) (allocation_at N.worker (destination_of (objects_of heap) word)) ≡ fits_at size (slot_at allocation d)
fits_there {V = V} {N = N} same heap config allocation word d size from raw of is seen stands goes whole made takes =
    ap (λ x. has_place_for N.config.block_words (raw_size raw) (allocation_at N.worker x)) (goes_there heap config word from d (sym of ∙ ap (λ (v : WorkspaceValue). v.config) same ∙ seen) stands goes)
    ∙ ap (λ (v : WorkspaceValue). has_place_for v.config.block_words (raw_size raw) (allocation_at v.worker d)) (sym same)
    ∙ ap (λ (k : Config). has_place_for k.block_words (raw_size raw) (allocation_at V.worker d)) of
    ∙ ap (λ xs. has_place_for config.block_words (raw_size raw) (allocation_at (record V.worker { allocation = xs }) d)) is
    ∙ ap (has_place_for config.block_words (raw_size raw)) (shown_slot config.shape allocation d (slot_at allocation d) refl)
    ∙ fits_same config (raw_size raw) (slot_at allocation d) whole made
    ∙ ap (λ n. fits_at n (slot_at allocation d)) (sym takes)

pub place_for-requires : goal.place_for-requires
place_for-requires g c = let size = c.size_from-size.ensures c.requires.object.0 c.requires.object.1 in omega (arith, size)

pub returns-in_default-clause-fits : goal.returns-in_default-clause-fits
returns-in_default-clause-fits g c = λ raced is raw r.
    let n = clear c.self.view_is c.self.inside.config.shape c.self.inside.allocation c.self.inside.aside.items c.self.inside.done.items (held_in c.self.inside.hand) c.self.inside.proposed refl refl c.self.invariant.0 c.requires.proposal in
    let told : false ≡ raced = cc in
    fits_there c.self.view_is c.args.heap.now c.self.inside.config c.self.inside.allocation (small_word c.args.at.block c.args.at.offset) c.dest_number-d.result c.size_from-size.result (step_pair c.args.stands) raw refl refl c.requires.config c.requires.stands
    (sym (c.dest_number-d.ensures ∙ ap (destination_number c.self.inside.config.shape) c.dest.ensures)) (n.in_slots c.dest_number-d.result) (c.self.invariant.1.in_slots c.dest_number-d.result) (c.size_from-size.ensures raw r)
    ∙ sym c.place_for.ensures.fits ∙ ap is_some c.in_default.is ∙ told

pub returns-in-Lost-clause-fits : goal.returns-in-Lost-clause-fits
returns-in-Lost-clause-fits g c = λ raced is raw r.
    let n = clear c.self.view_is c.self.inside.config.shape c.self.inside.allocation c.self.inside.aside.items c.self.inside.done.items (held_in c.self.inside.hand) c.self.inside.proposed refl refl c.self.invariant.0 c.requires.proposal in
    let told : true ≡ raced = cc in
    fits_there c.self.view_is c.args.heap.now c.self.inside.config c.self.inside.allocation (small_word c.args.at.block c.args.at.offset) c.dest_number-d.result c.size_from-size.result (step_pair c.args.stands) raw refl refl c.requires.config c.requires.stands
    (sym (c.dest_number-d.ensures ∙ ap (destination_number c.self.inside.config.shape) c.dest.ensures)) (n.in_slots c.dest_number-d.result) (c.self.invariant.1.in_slots c.dest_number-d.result) (c.size_from-size.ensures raw r)
    ∙ sym c.place_for.ensures.fits ∙ ap is_some c.in-Some.is ∙ told

pub returns-in-Won-clause-fits : goal.returns-in-Won-clause-fits
returns-in-Won-clause-fits g c = λ raced is raw r.
    let n = clear c.self.view_is c.self.inside.config.shape c.self.inside.allocation c.self.inside.aside.items c.self.inside.done.items (held_in c.self.inside.hand) c.self.inside.proposed refl refl c.self.invariant.0 c.requires.proposal in
    let told : true ≡ raced = cc in
    fits_there c.self.view_is c.args.heap.now c.self.inside.config c.self.inside.allocation (small_word c.args.at.block c.args.at.offset) c.dest_number-d.result c.size_from-size.result (step_pair c.args.stands) raw refl refl c.requires.config c.requires.stands
    (sym (c.dest_number-d.ensures ∙ ap (destination_number c.self.inside.config.shape) c.dest.ensures)) (n.in_slots c.dest_number-d.result) (c.self.invariant.1.in_slots c.dest_number-d.result) (c.size_from-size.ensures raw r)
    ∙ sym c.place_for.ensures.fits ∙ ap is_some c.in-Some.is ∙ told

pub invariant_of-self-in-Won : goal.invariant_of-self-in-Won
invariant_of-self-in-Won g c =
    let raw = c.requires.object.0 in
    let d = c.dest_number-d.result in
    let t : At c.self.inside.allocation d = at_of c.self.inside.allocation d c.size_from-size.result (sym c.place_for.ensures.fits ∙ ap is_some c.in-Some.is) in
    let table : c.push_from.new.self ≡ with_block c.self.inside.allocation d (copied t.block raw (Small c.args.at)) =
    c.push_from.ensures t.block raw t.there c.requires.object.1 ∙ ap (λ w. with_block c.self.inside.allocation d (noted (pushed t.block raw) w)) c.to_word-origin.ensures in
    let r = c.self.invariant.2 in (
      noted_after c.self.view_is c.self.inside.config.shape c.self.inside.allocation c.self.inside.aside.items c.self.inside.done.items (held_in c.self.inside.hand) c.self.inside.proposed refl refl c.self.invariant.0 c.requires.proposal d t.block t.there raw (Small c.args.at) c.in-Some.place
          (c.in-Some.ensures.place t.block t.there) c.push_from.new.self table,
      table_made c.self.inside.config d t.block (copied t.block raw (Small c.args.at)) t.there (λ m. record { words = m.words; destination = m.destination }) table refl c.self.invariant.1.in_hand c.self.invariant.1,
      record { in_won = omega (arith, r.in_won, c.in_ok-reserve.ensures.ok, c.reserve.ensures.len, c.push_reserved.ensures.len, c.push_reserved.ensures.capacity); in_done = r.in_done; in_aside = r.in_aside; for_spare = r.for_spare; in_claimed = r.in_claimed },
      numbers_more c.self.inside.names.numbers c.self.inside.won.items (record { number = c.args.number; place = c.new.result }) c.self.invariant.3 (names_of c.self.view_is c.requires.known) (c.push_reserved.ensures.items ∙ ap (λ ws. ws ++ record { number = c.args.number; place = c.new.result } ∷ []) c.reserve.ensures.items),
    )

pub finish-requires-in-Won-clause-slot : goal.finish-requires-in-Won-clause-slot
finish-requires-in-Won-clause-slot g c =
    let raw = c.requires.object.0 in
    let d = c.dest_number-d.result in
    let t : At c.self.inside.allocation d = at_of c.self.inside.allocation d c.size_from-size.result (sym c.place_for.ensures.fits ∙ ap is_some c.in-Some.is) in
    let table : c.push_from.new.self ≡ with_block c.self.inside.allocation d (copied t.block raw (Small c.args.at)) =
    c.push_from.ensures t.block raw t.there c.requires.object.1 ∙ ap (λ w. with_block c.self.inside.allocation d (noted (pushed t.block raw) w)) c.to_word-origin.ensures in
    can_finish_after c.self.view_is c.self.inside.config.shape c.self.inside.allocation c.self.inside.aside.items c.self.inside.done.items (held_in c.self.inside.hand) c.self.inside.proposed refl refl c.self.invariant.0 c.requires.proposal d t.block t.there raw (Small c.args.at) c.in-Some.place
    (c.in-Some.ensures.place t.block t.there) c.push_from.new.self table (renaming_of c.self.inside.names.numbers (map won_value c.push_reserved.new.self.items)) c.requires.slot

pub finish-requires-in-Won-clause-proposal : goal.finish-requires-in-Won-clause-proposal
finish-requires-in-Won-clause-proposal g c =
    let none = nothing c.self.view_is c.self.inside.config.shape c.self.inside.allocation c.self.inside.aside.items c.self.inside.done.items (held_in c.self.inside.hand) c.self.inside.proposed refl refl c.self.invariant.0 c.requires.proposal in
    rw none refl

pub returns-in-Lost-clause-raced : goal.returns-in-Lost-clause-raced
returns-in-Lost-clause-raced g c = λ _ raw r.
    let d = c.dest_number-d.result in
    let e : destination_of (objects_of c.args.heap.now) (small_word c.args.at.block c.args.at.offset) ≡ d =
    goes_there c.args.heap.now c.self.inside.config (small_word c.args.at.block c.args.at.offset) (step_pair c.args.stands) d (ap (λ (v : WorkspaceValue). v.config) c.self.view_is ∙ c.requires.config) c.requires.stands (sym (c.dest_number-d.ensures ∙ ap (destination_number c.self.inside.config.shape) c.dest.ensures)) in
    let t : At c.self.inside.allocation d = at_of c.self.inside.allocation d c.size_from-size.result (sym c.place_for.ensures.fits ∙ ap is_some c.in-Some.is) in
    let at = c.in-Some.ensures.place t.block t.there in
    rw e (record {
      outcome = Lost c.in-Lost.first;
      bid = c.in-Some.place;
      fits = bids c.self.view_is c.self.inside.config.shape c.self.inside.allocation c.self.inside.aside.items c.self.inside.done.items (held_in c.self.inside.hand) c.self.inside.proposed refl refl c.self.invariant.0 c.requires.proposal d t.block t.there raw (Small c.args.at) c.in-Some.place at c.args.self.now.claim;
      given = subst (λ o. g.C.Cells.race_gives c.args.cells.now c.args.number c.in-Some.place o c.race.new.self) c.in-Lost.is c.in-Ok.ensures.exact;
      learns = subst (λ o. Learns (g.C.Cells.known c.args.pass.now) (g.C.Cells.known c.race.new.pass) c.args.number (Some (place_after o c.in-Some.place))) c.in-Lost.is c.in-Ok.ensures.known;
      won = subst (λ o. RaceEnds (g.C.Cells.known c.args.pass.now c.args.number) (g.C.Cells.won c.args.pass.now) (g.C.Cells.won c.race.new.pass) c.args.number c.in-Some.place o) c.in-Lost.is c.in-Ok.ensures.won;
      worker =
          c.finish.ensures
          ∙ lost c.self.view_is c.self.inside.config.shape c.self.inside.allocation c.self.inside.aside.items c.self.inside.done.items (held_in c.self.inside.hand) c.self.inside.proposed refl refl c.self.invariant.0 c.requires.proposal d t.block t.there raw (Small c.args.at) c.in-Some.place at (place_word c.in-Lost.first)
          (renaming_of c.self.inside.names.numbers (map won_value c.reserve.new.self.items)) (ap (λ ws. renaming_of c.self.inside.names.numbers (map won_value ws)) c.reserve.ensures.items);
    })

pub returns-in-Won-clause-raced : goal.returns-in-Won-clause-raced
returns-in-Won-clause-raced g c = λ _ raw r.
    let d = c.dest_number-d.result in
    let e : destination_of (objects_of c.args.heap.now) (small_word c.args.at.block c.args.at.offset) ≡ d =
    goes_there c.args.heap.now c.self.inside.config (small_word c.args.at.block c.args.at.offset) (step_pair c.args.stands) d (ap (λ (v : WorkspaceValue). v.config) c.self.view_is ∙ c.requires.config) c.requires.stands (sym (c.dest_number-d.ensures ∙ ap (destination_number c.self.inside.config.shape) c.dest.ensures)) in
    let t : At c.self.inside.allocation d = at_of c.self.inside.allocation d c.size_from-size.result (sym c.place_for.ensures.fits ∙ ap is_some c.in-Some.is) in
    let at = c.in-Some.ensures.place t.block t.there in
    let table : c.push_from.new.self ≡ with_block c.self.inside.allocation d (copied t.block raw (Small c.args.at)) =
    c.push_from.ensures t.block raw t.there r ∙ ap (λ w. with_block c.self.inside.allocation d (noted (pushed t.block raw) w)) c.to_word-origin.ensures in
    let more = won_more c.self.inside.names.numbers c.self.inside.won.items c.push_reserved.new.self.items (record { number = c.args.number; place = c.new.result }) (place_word (Small c.args.at)) (place_word c.in-Some.place)
    (c.push_reserved.ensures.items ∙ ap (λ ws. ws ++ record { number = c.args.number; place = c.new.result } ∷ []) c.reserve.ensures.items) (ap (λ (v : WorkspaceValue). slice_index v.names c.args.number) c.self.view_is ∙ c.requires.name) c.new.ensures in
    rw e (record {
      outcome = Won;
      bid = c.in-Some.place;
      fits = bids c.self.view_is c.self.inside.config.shape c.self.inside.allocation c.self.inside.aside.items c.self.inside.done.items (held_in c.self.inside.hand) c.self.inside.proposed refl refl c.self.invariant.0 c.requires.proposal d t.block t.there raw (Small c.args.at) c.in-Some.place at c.args.self.now.claim;
      given = subst (λ o. g.C.Cells.race_gives c.args.cells.now c.args.number c.in-Some.place o c.race.new.self) c.in-Won.is c.in-Ok.ensures.exact;
      learns = subst (λ o. Learns (g.C.Cells.known c.args.pass.now) (g.C.Cells.known c.race.new.pass) c.args.number (Some (place_after o c.in-Some.place))) c.in-Won.is c.in-Ok.ensures.known;
      won = subst (λ o. RaceEnds (g.C.Cells.known c.args.pass.now c.args.number) (g.C.Cells.won c.args.pass.now) (g.C.Cells.won c.race.new.pass) c.args.number c.in-Some.place o) c.in-Won.is c.in-Ok.ensures.won;
      worker =
          c.finish-in-Won.ensures
          ∙ won_after c.self.view_is c.self.inside.config.shape c.self.inside.allocation c.self.inside.aside.items c.self.inside.done.items (held_in c.self.inside.hand) c.self.inside.proposed refl refl c.self.invariant.0 c.requires.proposal d t.block t.there raw (Small c.args.at) c.in-Some.place at c.push_from.new.self table
          (renaming_of c.self.inside.names.numbers (map won_value c.push_reserved.new.self.items)) more;
    })
