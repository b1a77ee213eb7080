use Rattle.std.proofs.Common.{◌≡◌, true, false, Ok, Some, None, refl, sym, ap, subst, ◌∙◌, inr}
use Rattle.std.specs.Prelude.{is_some}
use Rattle.std.specs.Option.{option_map}
use Rattle.model.specs.Graph.{object_at}
use Rattle.layout.specs.Place.{place_word, small_word}
use Rattle.heap.specs.StepPairs.{step_pair}
use Rattle.workers.specs.Setting.{is_collected, destination_of}
use Rattle.workers.specs.WorkerSteps.{current_slot}
use Rattle.scavenge.specs.Shown.{WorkspaceValue, name_of, with_copy_proposed}
use Rattle.scavenge.specs.Told.{Tells}
use Rattle.scavenge.specs.Slots.{seen, objects_of, Looks}
use Rattle.scavenge.specs.Evacuates.{WantsMore, ProposesThere}
use Rattle.scavenge.proofs.Empty.{numbered_in, collected, looks_none}
use Rattle.scavenge.proofs.AtOnce.{lies, lies_there, small_there, old_there, looks_old, proposes_there, wants_block}
use Rattle.scavenge.proofs.evacuating.evacuate.Goals as goal

pub returns-in_default-number-clause-looked : goal.returns-in_default-number-clause-looked
returns-in_default-number-clause-looked g c = λ _ seat.
    let word = small_word c.in-Small.at.block c.in-Small.at.offset in
    let current : current_slot (seen c.args.heap.now c.args.collection.now) c.args.workspace.now.worker ≡ Some (Some word) =
    sym c.slot.ensures ∙ ap (option_map (option_map place_word)) c.in-Some.is ∙ ap (λ t. Some (option_map place_word t)) c.in-Some-target.is ∙ ap (λ p. Some (Some (place_word p))) c.in-Small.is in
    looks_old c.args.heap.now c.args.collection.now (g.C.Cells.look_gives c.args.cells.now) (g.C.Cells.known c.args.pass.now) seat c.args.workspace.now c.finish-in_default-number.new.self word current
    (old_there c.args.heap.now c.args.collection.now word c.in-Small.at.offset c.find_small-number.result.block.now (step_pair c.find_small-number.result.at) c.find_small-number.result.number c.in_default-number.is c.find_small-number.ensures) c.finish-in_default-number.ensures

pub returns-in-Ok-true-clause-raced : goal.returns-in-Ok-true-clause-raced
returns-in-Ok-true-clause-raced g c = λ _.
    let word = small_word c.in-Small.at.block c.in-Small.at.offset in
    let there = c.find_small-number.ensures in
    let d = destination_of (objects_of c.args.heap.now) word in
    let found = numbered_in c.args.heap.now c.args.collection.now word c.in-Small.at.offset c.find_small-number.result.block.now (step_pair c.find_small-number.result.at) c.find_small-number.result.number c.in-Some-number.number c.in-Some-number.is there in
    let small = small_there c.args.heap.now c.args.collection.now word c.in-Small.at.offset c.find_small-number.result.block.now (step_pair c.find_small-number.result.at) c.find_small-number.result.number there in
    let young : is_collected (seen c.args.heap.now c.args.collection.now) word ≡ true = collected c.args.heap.now c.args.collection.now word found.0 in
    let current : current_slot (seen c.args.heap.now c.args.collection.now) c.args.workspace.now.worker ≡ Some (Some word) =
    sym c.slot.ensures ∙ ap (option_map (option_map place_word)) c.in-Some.is ∙ ap (λ t. Some (option_map place_word t)) c.in-Some-target.is ∙ ap (λ p. Some (Some (place_word p))) c.in-Small.is in
    let tells : Tells c.args.heap.now c.args.collection.now (g.C.Cells.look_gives c.args.cells.now) (g.C.Cells.known c.args.pass.now) (g.C.Cells.known c.look.new.pass) word None =
    record { number = c.in-Some-number.number; of = record { in_range = found.1.in_range; is = found.1.is }; given = c.in_default-look.ensures.exact; learns = c.in_default-look.ensures.known }
    in
    let l = lies (object_at c.args.heap.now.graph word) c.in-Small.at.offset c.find_small-number.result.block.now (lies_there c.args.heap.now c.args.collection.now word c.in-Small.at.offset c.find_small-number.result.block.now (step_pair c.find_small-number.result.at) c.find_small-number.result.number there).0 in
    let raced : c.in-Ok-true.field-0 ≡ true = c.in-Ok-true.field-0-test in
    let fits = c.in-Ok-true.ensures.fits c.in-Ok-true.field-0 refl l.0 l.1.0 ∙ raced in
    let r = c.in-Ok-true.ensures.raced (ap Ok raced) l.0 l.1.0 in
    let proposing : WorkspaceValue = record c.args.workspace.now { worker = with_copy_proposed c.args.workspace.now.worker word l.0 d } in
    let p : ProposesThere (objects_of c.args.heap.now) word c.args.workspace.now proposing =
    proposes_there c.args.heap.now c.args.workspace.now word d l.0 c.requires.open.config l.1.1 small refl fits in
    record {
      between = c.look.new.pass;
      proposing = proposing;
      fit = subst (λ cells. g.C.Cells.fits cells c.look.new.pass) c.look.ensures.cells c.look.ensures.keeps.pass;
      still = c.look.ensures.won;
      looks = λ seat. looks_none c.args.heap.now c.args.collection.now (g.C.Cells.look_gives c.args.cells.now) (g.C.Cells.known c.args.pass.now) (g.C.Cells.known c.look.new.pass) seat seat c.args.workspace.now proposing word current young tells (p.proposes seat);
      proposed = ap (λ (v : WorkspaceValue). is_some v.worker.proposal) p.worker;
      races = record {
        outcome = r.outcome;
        bid = r.bid;
        fits = r.fits;
        ends = record {
          number = c.in-Some-number.number;
          of = record { in_range = found.1.in_range; is = found.1.is ∙ sym (ap (λ (v : WorkspaceValue). name_of v.worker.proposal) p.worker) };
          given = subst (λ cells. g.C.Cells.race_gives cells c.in-Some-number.number r.bid r.outcome c.race_small.new.cells) c.look.ensures.cells r.given;
          learns = r.learns;
          won = r.won;
        };
        worker = r.worker;
      };
    }

pub returns-in-Ok-false-clause-left : goal.returns-in-Ok-false-clause-left
returns-in-Ok-false-clause-left g c = λ _.
    let word = small_word c.in-Small.at.block c.in-Small.at.offset in
    let there = c.find_small-number.ensures in
    let found = numbered_in c.args.heap.now c.args.collection.now word c.in-Small.at.offset c.find_small-number.result.block.now (step_pair c.find_small-number.result.at) c.find_small-number.result.number c.in-Some-number.number c.in-Some-number.is there in
    let small = small_there c.args.heap.now c.args.collection.now word c.in-Small.at.offset c.find_small-number.result.block.now (step_pair c.find_small-number.result.at) c.find_small-number.result.number there in
    let current : current_slot (seen c.args.heap.now c.args.collection.now) c.args.workspace.now.worker ≡ Some (Some word) =
    sym c.slot.ensures ∙ ap (option_map (option_map place_word)) c.in-Some.is ∙ ap (λ t. Some (option_map place_word t)) c.in-Some-target.is ∙ ap (λ p. Some (Some (place_word p))) c.in-Small.is in
    let l = lies (object_at c.args.heap.now.graph word) c.in-Small.at.offset c.find_small-number.result.block.now (lies_there c.args.heap.now c.args.collection.now word c.in-Small.at.offset c.find_small-number.result.block.now (step_pair c.find_small-number.result.at) c.find_small-number.result.number there).0 in
    let none : c.in-Ok-false.field-0 ≡ false = c.in-Ok-false.field-0-test in
    let full = c.in-Ok-false.ensures.fits c.in-Ok-false.field-0 refl l.0 l.1.0 ∙ none in (
      (c.in-Ok-false.ensures.none (ap Ok none)).0,
      record {
        leads = record {
          name = word;
          number = c.in-Some-number.number;
          slot = current;
          of = record { in_range = found.1.in_range; is = found.1.is };
          given = c.in_default-look.ensures.exact;
        };
        wants = inr (wants_block c.args.heap.now c.args.workspace.now word l.0 c.requires.open.config l.1.1 small full);
      },
    )

pub returns-in-Err-clause-looked : goal.returns-in-Err-clause-looked
returns-in-Err-clause-looked g c = λ is seat.
    let word = small_word c.in-Small.at.block c.in-Small.at.offset in
    let found = numbered_in c.args.heap.now c.args.collection.now word c.in-Small.at.offset c.find_small-number.result.block.now (step_pair c.find_small-number.result.at) c.find_small-number.result.number c.in-Some-number.number c.in-Some-number.is c.find_small-number.ensures in
    let young : is_collected (seen c.args.heap.now c.args.collection.now) word ≡ true = collected c.args.heap.now c.args.collection.now word found.0 in
    let current : current_slot (seen c.args.heap.now c.args.collection.now) c.args.workspace.now.worker ≡ Some (Some word) =
    sym c.slot.ensures ∙ ap (option_map (option_map place_word)) c.in-Some.is ∙ ap (λ t. Some (option_map place_word t)) c.in-Some-target.is ∙ ap (λ p. Some (Some (place_word p))) c.in-Small.is in
    let tells : Tells c.args.heap.now c.args.collection.now (g.C.Cells.look_gives c.args.cells.now) (g.C.Cells.known c.args.pass.now) (g.C.Cells.known c.look.new.pass) word None =
    record { number = c.in-Some-number.number; of = record { in_range = found.1.in_range; is = found.1.is }; given = c.in_default-look.ensures.exact; learns = c.in_default-look.ensures.known }
    in
    let e = c.in-Err.ensures.err in
    let p : ProposesThere (objects_of c.args.heap.now) word c.args.workspace.now c.propose_alone.new.workspace =
    subst (λ (w : WorkspaceValue). ProposesThere (objects_of c.args.heap.now) word w c.propose_alone.new.workspace) e.0
    (c.propose_alone.ensures.proposed is) in
    let looked : Looks c.args.heap.now c.args.collection.now (g.C.Cells.look_gives c.args.cells.now) (g.C.Cells.known c.args.pass.now) (g.C.Cells.known c.look.new.pass) seat seat c.args.workspace.now c.propose_alone.new.workspace =
    looks_none c.args.heap.now c.args.collection.now (g.C.Cells.look_gives c.args.cells.now) (g.C.Cells.known c.args.pass.now) (g.C.Cells.known c.look.new.pass) seat seat c.args.workspace.now c.propose_alone.new.workspace word current young tells (p.proposes seat) in
    subst (λ known. Looks c.args.heap.now c.args.collection.now (g.C.Cells.look_gives c.args.cells.now) (g.C.Cells.known c.args.pass.now) (g.C.Cells.known known) seat seat c.args.workspace.now c.propose_alone.new.workspace) (sym e.2) looked

pub returns-in-Err-clause-left : goal.returns-in-Err-clause-left
returns-in-Err-clause-left g c = λ is.
    let word = small_word c.in-Small.at.block c.in-Small.at.offset in
    let found = numbered_in c.args.heap.now c.args.collection.now word c.in-Small.at.offset c.find_small-number.result.block.now (step_pair c.find_small-number.result.at) c.find_small-number.result.number c.in-Some-number.number c.in-Some-number.is c.find_small-number.ensures in
    let current : current_slot (seen c.args.heap.now c.args.collection.now) c.args.workspace.now.worker ≡ Some (Some word) =
    sym c.slot.ensures ∙ ap (option_map (option_map place_word)) c.in-Some.is ∙ ap (λ t. Some (option_map place_word t)) c.in-Some-target.is ∙ ap (λ p. Some (Some (place_word p))) c.in-Small.is in
    let e = c.in-Err.ensures.err in (
      c.propose_alone.ensures.none is ∙ e.0,
      record {
        leads = record {
          name = word;
          number = c.in-Some-number.number;
          slot = current;
          of = record { in_range = found.1.in_range; is = found.1.is };
          given = c.in_default-look.ensures.exact;
        };
        wants = subst (λ (w : WorkspaceValue). WantsMore (objects_of c.args.heap.now) w.worker word) e.0 (c.propose_alone.ensures.wants is);
      },
    )
