use Rattle.std.proofs.Common.{◌≡◌, true, map, Some, None, refl, sym, ap, subst, ◌∙◌, arith, le-leb}
use Rattle.std.specs.Prelude.{slice_index}
use Rattle.layout.specs.Object.{raw_size}
use Rattle.layout.specs.Place.{place_word, small_word}
use Rattle.layout.specs.declared.place.Place.TheVariants.{Small}
use Rattle.block_pool.specs.BlockValue.{BlockValue}
use Rattle.forwarding.specs.declared.cells.outcome.Outcome.TheVariants.{Won, Lost}
use Rattle.forwarding.specs.Learned.{Learns, RaceEnds, place_after}
use Rattle.steps.specs.ReportValue.{renaming_of}
use Rattle.steps.specs.ReportView.{won_value}
use Rattle.heap.specs.StepPairs.{step_pair}
use Rattle.workers.specs.Setting.{destination_of}
use Rattle.workers.specs.Joined.{OnSome}
use Rattle.workers.specs.Worker.{Worker, allocation_at}
use Rattle.workers.specs.WorkerSteps.{finish_slot, after_race}
use Rattle.scavenge.specs.Named.{named}
use Rattle.scavenge.specs.Shown.{WorkspaceValue, AreNoted, IsNoted, IsMade, has_place_for, with_copy_proposed}
use Rattle.scavenge.specs.Slots.{objects_of}
use Rattle.scavenge.specs.Swept.{with_block}
use Rattle.scavenge.proofs.Made.{table_made}
use Rattle.scavenge.proofs.Pushing.{fits_same, pushed}
use Rattle.scavenge.proofs.Renewing.{shown_slot}
use Rattle.scavenge.proofs.Winning.{noted, numbers_more, won_more, names_of}
use Rattle.scavenge.proofs.Swept.{in_place, put_again}
use Rattle.scavenge.proofs.CopyRaces.{bid_is, lost_is, copied, shown, place_is, decided, can_finish, won_is}
use Rattle.scavenge.proofs.Goings.{goes_there}
use Rattle.scavenge.proofs.SweepRoom.{has_room, room_after}
use Rattle.scavenge.proofs.sweep.sweep.Sweep.race.Goals as goal

pub invariant_of-self-in-Won : goal.invariant_of-self-in-Won
invariant_of-self-in-Won g c =
    let raw = c.requires.object.0 in
    let is : c.note_origin.new.self ≡ copied c.self.inside.into raw (Small c.args.at) = c.note_origin.ensures ∙ ap (λ (b : BlockValue). noted b c.to_word.result) (c.push_copy.ensures.pushed raw c.requires.object.1) ∙ ap (noted (pushed c.self.inside.into raw)) c.to_word.ensures in
    let there = in_place c.self.inside.allocation c.self.inside.destination c.self.inside.into c.self.invariant.4 in
    let table = ap (with_block c.self.inside.allocation c.self.inside.destination) is ∙ put_again c.self.inside.allocation c.self.inside.destination c.self.inside.into (copied c.self.inside.into raw (Small c.args.at)) in
    let size = c.size_from-size.ensures raw c.requires.object.1 in
    let fits = c.fits.ensures.0 c.if-not-fits.false in
    let room = has_room c.self.inside.into raw _ c.self.inside.won_room _ c.size_from-size.result c.self.invariant.8 fits size in
    let after = room_after c.self.inside.into c.note_origin.new.self raw (Small c.args.at) _ c.self.inside.won_room _ is c.self.invariant.8 in
    let r = c.self.invariant.2 in (
      subst (λ b. AreNoted (with_block c.self.inside.allocation c.self.inside.destination b) c.self.inside.aside.items c.self.inside.done.items (Some c.self.inside.held) None) (sym is) (decided c.self.view_is c.self.inside.config.shape c.self.inside.allocation c.self.inside.aside.items c.self.inside.done.items (Some c.self.inside.held) c.self.inside.destination c.self.inside.into raw (Small c.args.at) c.place_behind-place.result c.self.invariant.4 refl c.self.invariant.0 c.place_behind-place.ensures),
      table_made c.self.inside.config c.self.inside.destination c.self.inside.into (copied c.self.inside.into raw (Small c.args.at)) there (λ m. record { words = m.words; destination = m.destination }) table refl c.self.invariant.1.in_hand c.self.invariant.1,
      record { in_won = omega (arith, room, c.push_reserved.ensures.len, c.push_reserved.ensures.capacity); in_done = r.in_done; in_aside = r.in_aside; for_spare = r.for_spare; in_claimed = tt },
      numbers_more c.self.inside.names.numbers c.self.inside.won.items (record { number = c.args.number; place = c.new.result }) c.self.invariant.3 (names_of c.self.view_is c.requires.known) c.push_reserved.ensures.items,
      c.self.invariant.4,
      c.self.invariant.5,
      c.self.invariant.6,
      c.goes_into-goes_here.ensures.going,
      omega (arith, after, c.push_reserved.ensures.len, c.push_reserved.ensures.capacity),
      c.self.invariant.9,
      c.self.invariant.10,
    )

pub push_reserved-requires : goal.push_reserved-requires
push_reserved-requires g c =
    let raw = c.requires.object.0 in
    let size = c.size_from-size.ensures raw c.requires.object.1 in
    let fits = c.fits.ensures.0 c.if-not-fits.false in
    let room = has_room c.self.inside.into raw _ c.self.inside.won_room _ c.size_from-size.result c.self.invariant.8 fits size in
    omega (arith, room)

pub finish-requires-in-Won-clause-slot : goal.finish-requires-in-Won-clause-slot
finish-requires-in-Won-clause-slot g c =
    let raw = c.requires.object.0 in
    let is : c.note_origin.new.self ≡ copied c.self.inside.into raw (Small c.args.at) = c.note_origin.ensures ∙ ap (λ (b : BlockValue). noted b c.to_word.result) (c.push_copy.ensures.pushed raw c.requires.object.1) ∙ ap (noted (pushed c.self.inside.into raw)) c.to_word.ensures in
    can_finish c.self.view_is c.self.inside.config.shape c.self.inside.allocation c.self.inside.aside.items c.self.inside.done.items (Some c.self.inside.held) c.self.inside.destination c.self.inside.into raw (Small c.args.at) c.place_behind-place.result c.self.invariant.4 refl c.self.invariant.0 c.place_behind-place.ensures c.note_origin.new.self is (renaming_of c.self.inside.names.numbers (map won_value c.push_reserved.new.self.items)) c.requires.slot

pub returns-in-Lost-clause-fits : goal.returns-in-Lost-clause-fits
returns-in-Lost-clause-fits g c = λ _ raw r.
    let d = destination_of (objects_of c.args.heap.now) (small_word c.args.at.block c.args.at.offset) in
    let e : d ≡ c.self.inside.destination = goes_there c.args.heap.now c.self.inside.config (small_word c.args.at.block c.args.at.offset) (step_pair c.args.stands) c.self.inside.destination (ap (λ (v : WorkspaceValue). v.config) c.self.view_is ∙ c.requires.config) c.requires.stands (c.goes_into-goes_here.ensures.goes.0 c.if-not-goes_here.false) in
    let slots = with_block c.self.inside.allocation c.self.inside.destination c.self.inside.into in
    let size = raw_size raw in
    let there = in_place c.self.inside.allocation c.self.inside.destination c.self.inside.into c.self.invariant.4 in
    subst (λ x. has_place_for c.args.self.now.config.block_words size (allocation_at c.args.self.now.worker x) ≡ true) (sym e)
    (ap (λ (v : WorkspaceValue). has_place_for v.config.block_words size (allocation_at v.worker c.self.inside.destination)) (sym c.self.view_is)
    ∙ ap (has_place_for c.self.inside.config.block_words size) (shown_slot c.self.inside.config.shape slots c.self.inside.destination (Some c.self.inside.into) there)
    ∙ fits_same c.self.inside.config size (Some c.self.inside.into) (subst (OnSome (IsNoted 0)) there (c.self.invariant.0.in_slots c.self.inside.destination)) (subst (OnSome (IsMade c.self.inside.config)) there (c.self.invariant.1.in_slots c.self.inside.destination))
    ∙ le-leb _ _ (omega (arith, c.fits.ensures.0 c.if-not-fits.false, c.size_from-size.ensures raw r)))

pub returns-in-Won-clause-fits : goal.returns-in-Won-clause-fits
returns-in-Won-clause-fits g c = λ _ raw r.
    let d = destination_of (objects_of c.args.heap.now) (small_word c.args.at.block c.args.at.offset) in
    let e : d ≡ c.self.inside.destination = goes_there c.args.heap.now c.self.inside.config (small_word c.args.at.block c.args.at.offset) (step_pair c.args.stands) c.self.inside.destination (ap (λ (v : WorkspaceValue). v.config) c.self.view_is ∙ c.requires.config) c.requires.stands (c.goes_into-goes_here.ensures.goes.0 c.if-not-goes_here.false) in
    let slots = with_block c.self.inside.allocation c.self.inside.destination c.self.inside.into in
    let size = raw_size raw in
    let there = in_place c.self.inside.allocation c.self.inside.destination c.self.inside.into c.self.invariant.4 in
    subst (λ x. has_place_for c.args.self.now.config.block_words size (allocation_at c.args.self.now.worker x) ≡ true) (sym e)
    (ap (λ (v : WorkspaceValue). has_place_for v.config.block_words size (allocation_at v.worker c.self.inside.destination)) (sym c.self.view_is)
    ∙ ap (has_place_for c.self.inside.config.block_words size) (shown_slot c.self.inside.config.shape slots c.self.inside.destination (Some c.self.inside.into) there)
    ∙ fits_same c.self.inside.config size (Some c.self.inside.into) (subst (OnSome (IsNoted 0)) there (c.self.invariant.0.in_slots c.self.inside.destination)) (subst (OnSome (IsMade c.self.inside.config)) there (c.self.invariant.1.in_slots c.self.inside.destination))
    ∙ le-leb _ _ (omega (arith, c.fits.ensures.0 c.if-not-fits.false, c.size_from-size.ensures raw r)))

pub returns-in-Lost-clause-raced : goal.returns-in-Lost-clause-raced
returns-in-Lost-clause-raced g c = λ _ raw r.
    let d = destination_of (objects_of c.args.heap.now) (small_word c.args.at.block c.args.at.offset) in
    let e : d ≡ c.self.inside.destination = goes_there c.args.heap.now c.self.inside.config (small_word c.args.at.block c.args.at.offset) (step_pair c.args.stands) c.self.inside.destination (ap (λ (v : WorkspaceValue). v.config) c.self.view_is ∙ c.requires.config) c.requires.stands (c.goes_into-goes_here.ensures.goes.0 c.if-not-goes_here.false) in
    let there : allocation_at c.args.self.now.worker d ≡ Some (named c.self.inside.config.shape c.self.inside.into) =
    ap (allocation_at c.args.self.now.worker) e ∙ ap (λ (v : WorkspaceValue). allocation_at v.worker c.self.inside.destination) (sym c.self.view_is) ∙ shown c.self.view_is c.self.inside.config.shape c.self.inside.allocation c.self.inside.aside.items c.self.inside.done.items (Some c.self.inside.held) c.self.inside.destination c.self.inside.into raw (Small c.args.at) c.place_behind-place.result c.self.invariant.4 refl c.self.invariant.0 c.place_behind-place.ensures in
    let none = ap (λ (v : WorkspaceValue). v.worker.proposal) (sym c.self.view_is) in
    record {
      outcome = Lost c.in-Lost.first;
      bid = c.place_behind-place.result;
      fits = bid_is c.args.self.now.claim c.place_behind-place.result c.args.self.now.worker (place_word (Small c.args.at)) raw d (named c.self.inside.config.shape c.self.inside.into) there (place_is c.self.view_is c.self.inside.config.shape c.self.inside.allocation c.self.inside.aside.items c.self.inside.done.items (Some c.self.inside.held) c.self.inside.destination c.self.inside.into raw (Small c.args.at) c.place_behind-place.result c.self.invariant.4 refl c.self.invariant.0 c.place_behind-place.ensures);
      given = subst (λ o. g.C.Cells.race_gives c.args.cells.now c.args.number c.place_behind-place.result o c.race.new.self) c.in-Lost.is c.in-Ok.ensures.exact;
      learns = subst (λ o. Learns (g.C.Cells.known c.args.pass.now) (g.C.Cells.known c.race.new.pass) c.args.number (Some (place_after o c.place_behind-place.result))) c.in-Lost.is c.in-Ok.ensures.known;
      won = subst (λ o. RaceEnds (g.C.Cells.known c.args.pass.now c.args.number) (g.C.Cells.won c.args.pass.now) (g.C.Cells.won c.race.new.pass) c.args.number c.place_behind-place.result o) c.in-Lost.is c.in-Ok.ensures.won;
      worker = c.finish.ensures.finished ∙ ap (λ (v : WorkspaceValue). (let x : WorkspaceValue = record v { worker = finish_slot (Some (place_word c.in-Lost.first)) v.worker } in x)) c.self.view_is ∙ ap (λ (w : Worker). (let x : WorkspaceValue = record c.args.self.now { worker = w } in x)) (lost_is c.args.self.now.worker (place_word (Small c.args.at)) raw d (named c.self.inside.config.shape c.self.inside.into) (place_word c.in-Lost.first) there none);
    }

pub returns-in-Won-clause-raced : goal.returns-in-Won-clause-raced
returns-in-Won-clause-raced g c = λ _ raw r.
    let d = destination_of (objects_of c.args.heap.now) (small_word c.args.at.block c.args.at.offset) in
    let e : d ≡ c.self.inside.destination = goes_there c.args.heap.now c.self.inside.config (small_word c.args.at.block c.args.at.offset) (step_pair c.args.stands) c.self.inside.destination (ap (λ (v : WorkspaceValue). v.config) c.self.view_is ∙ c.requires.config) c.requires.stands (c.goes_into-goes_here.ensures.goes.0 c.if-not-goes_here.false) in
    let there : allocation_at c.args.self.now.worker d ≡ Some (named c.self.inside.config.shape c.self.inside.into) =
    ap (allocation_at c.args.self.now.worker) e ∙ ap (λ (v : WorkspaceValue). allocation_at v.worker c.self.inside.destination) (sym c.self.view_is) ∙ shown c.self.view_is c.self.inside.config.shape c.self.inside.allocation c.self.inside.aside.items c.self.inside.done.items (Some c.self.inside.held) c.self.inside.destination c.self.inside.into raw (Small c.args.at) c.place_behind-place.result c.self.invariant.4 refl c.self.invariant.0 c.place_behind-place.ensures in
    let is : c.note_origin.new.self ≡ copied c.self.inside.into raw (Small c.args.at) = c.note_origin.ensures ∙ ap (λ (b : BlockValue). noted b c.to_word.result) (c.push_copy.ensures.pushed raw r) ∙ ap (noted (pushed c.self.inside.into raw)) c.to_word.ensures in
    let name = ap (λ (v : WorkspaceValue). slice_index v.names c.args.number) c.self.view_is ∙ c.requires.name in
    let more = won_more c.self.inside.names.numbers c.self.inside.won.items c.push_reserved.new.self.items (record { number = c.args.number; place = c.new.result }) (place_word (Small c.args.at)) (place_word c.place_behind-place.result) c.push_reserved.ensures.items name c.new.ensures in
    record {
      outcome = Won;
      bid = c.place_behind-place.result;
      fits = bid_is c.args.self.now.claim c.place_behind-place.result c.args.self.now.worker (place_word (Small c.args.at)) raw d (named c.self.inside.config.shape c.self.inside.into) there (place_is c.self.view_is c.self.inside.config.shape c.self.inside.allocation c.self.inside.aside.items c.self.inside.done.items (Some c.self.inside.held) c.self.inside.destination c.self.inside.into raw (Small c.args.at) c.place_behind-place.result c.self.invariant.4 refl c.self.invariant.0 c.place_behind-place.ensures);
      given = subst (λ o. g.C.Cells.race_gives c.args.cells.now c.args.number c.place_behind-place.result o c.race.new.self) c.in-Won.is c.in-Ok.ensures.exact;
      learns = subst (λ o. Learns (g.C.Cells.known c.args.pass.now) (g.C.Cells.known c.race.new.pass) c.args.number (Some (place_after o c.place_behind-place.result))) c.in-Won.is c.in-Ok.ensures.known;
      won = subst (λ o. RaceEnds (g.C.Cells.known c.args.pass.now c.args.number) (g.C.Cells.won c.args.pass.now) (g.C.Cells.won c.race.new.pass) c.args.number c.place_behind-place.result o) c.in-Won.is c.in-Ok.ensures.won;
      worker =
          c.finish-in-Won.ensures.finished
          ∙ won_is c.self.view_is c.self.inside.config.shape c.self.inside.allocation c.self.inside.aside.items c.self.inside.done.items (Some c.self.inside.held) c.self.inside.destination c.self.inside.into raw (Small c.args.at) c.place_behind-place.result c.self.invariant.4 refl c.self.invariant.0 c.place_behind-place.ensures c.note_origin.new.self is (renaming_of c.self.inside.names.numbers (map won_value c.push_reserved.new.self.items)) more
          ∙ ap (λ to. (let x : WorkspaceValue = record c.args.self.now { worker = after_race (with_copy_proposed c.args.self.now.worker (place_word (Small c.args.at)) raw to) None } in x)) (sym e);
    }

pub push_copy-requires : goal.push_copy-requires
push_copy-requires g c =
    let raw = c.requires.object.0 in
    let size = c.size_from-size.ensures raw c.requires.object.1 in
    let fits = c.fits.ensures.0 c.if-not-fits.false in
    (raw, c.requires.object.1, size, omega (arith, fits, size))
