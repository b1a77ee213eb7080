use Rattle.std.proofs.Common.{rules, ◌≡◌, true, Some, None, sym, ap, ◌∙◌}
use Rattle.std.specs.Option.{option_map}
use Rattle.layout.specs.Place.{place_word}
use Rattle.workers.specs.Setting.{is_collected}
use Rattle.workers.specs.WorkerSteps.{current_slot}
use Rattle.scavenge.specs.Told.{Tells}
use Rattle.scavenge.specs.Slots.{seen}
use Rattle.scavenge.proofs.Empty.{numbered, collected, looks_none}
use Rattle.scavenge.proofs.looking.look.Goals as goal

pub propose-requires-clause-room : goal.propose-requires-clause-room
propose-requires-clause-room g c =
    let found = numbered c.args.heap.now c.args.collection.now (place_word c.in-Some-target.name) c.in-Some-target_of.found c.in-Some-number.number c.in-Some-number.is c.in-Some-target_of.ensures in
    let young : is_collected (seen c.args.heap.now c.args.collection.now) (place_word c.in-Some-target.name) ≡ true = collected c.args.heap.now c.args.collection.now (place_word c.in-Some-target.name) found.0 in
    c.requires.room (place_word c.in-Some-target.name) young

pub returns-in_ok-propose-in-None-clause-ok : goal.returns-in_ok-propose-in-None-clause-ok
returns-in_ok-propose-in-None-clause-ok g c = λ _.
    let found = numbered c.args.heap.now c.args.collection.now (place_word c.in-Some-target.name) c.in-Some-target_of.found c.in-Some-number.number c.in-Some-number.is c.in-Some-target_of.ensures in
    let young : is_collected (seen c.args.heap.now c.args.collection.now) (place_word c.in-Some-target.name) ≡ true = collected c.args.heap.now c.args.collection.now (place_word c.in-Some-target.name) found.0 in
    let current : current_slot (seen c.args.heap.now c.args.collection.now) c.args.workspace.now.worker ≡ Some (Some (place_word c.in-Some-target.name)) = sym c.slot.ensures ∙ ap (option_map (option_map place_word)) c.in-Some.is ∙ ap (λ t. Some (option_map place_word t)) c.in-Some-target.is in
    let tells : Tells c.args.heap.now c.args.collection.now (g.C.Cells.look_gives c.args.cells.now) (g.C.Cells.known c.args.pass.now) (g.C.Cells.known c.look.new.pass) (place_word c.in-Some-target.name) None =
    record { number = c.in-Some-number.number; of = record { in_range = found.1.in_range; is = found.1.is }; given = c.in-None.ensures.exact; learns = c.in-None.ensures.known }
    in
    looks_none c.args.heap.now c.args.collection.now (g.C.Cells.look_gives c.args.cells.now) (g.C.Cells.known c.args.pass.now) (g.C.Cells.known c.look.new.pass) c.args.seat.now c.propose.new.seat c.args.workspace.now c.propose.new.workspace (place_word c.in-Some-target.name) current young tells c.in_ok-propose-in-None.ensures.ok

pub returns-in-Some-look-clause-ok : goal.returns-in-Some-look-clause-ok
returns-in-Some-look-clause-ok g c = search rules
