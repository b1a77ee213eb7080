use Rattle.std.proofs.Common.{◌≡◌, true, None}
use Rattle.layout.specs.Place.{place_word}
use Rattle.workers.specs.Setting.{is_collected}
use Rattle.scavenge.specs.Told.{Tells}
use Rattle.scavenge.specs.Slots.{seen}
use Rattle.scavenge.proofs.Empty.{numbered, collected, looks_none}
use Rattle.scavenge.proofs.evacuating.look_there.Goals as goal

pub returns-clause-looked : goal.returns-clause-looked
returns-clause-looked g c = λ is seat.
    let word = place_word c.args.name in
    let found = numbered c.args.heap.now c.args.collection.now word c.find_there-found.result c.in-Some.number c.in-Some.is c.find_there-found.ensures in
    let young : is_collected (seen c.args.heap.now c.args.collection.now) word ≡ true = collected c.args.heap.now c.args.collection.now word found.0 in
    let tells : Tells c.args.heap.now c.args.collection.now (g.C.Cells.look_gives c.args.cells.now) (g.C.Cells.known c.args.pass.now) (g.C.Cells.known c.look.new.pass) word None =
    record { number = c.in-Some.number; of = record { in_range = found.1.in_range; is = found.1.is }; given = c.in_default-look.ensures.exact; learns = c.in_default-look.ensures.known }
    in
    let p = c.propose_alone.ensures.proposed is in
    looks_none c.args.heap.now c.args.collection.now (g.C.Cells.look_gives c.args.cells.now) (g.C.Cells.known c.args.pass.now) (g.C.Cells.known c.look.new.pass) seat seat c.args.workspace.now c.propose_alone.new.workspace word c.requires.slot young tells (p.proposes seat)

pub returns-clause-left : goal.returns-clause-left
returns-clause-left g c = λ is.
    let word = place_word c.args.name in
    let found = numbered c.args.heap.now c.args.collection.now word c.find_there-found.result c.in-Some.number c.in-Some.is c.find_there-found.ensures in (
      c.propose_alone.ensures.none is,
      record {
        leads = record {
          name = word;
          number = c.in-Some.number;
          slot = c.requires.slot;
          of = record { in_range = found.1.in_range; is = found.1.is };
          given = c.in_default-look.ensures.exact;
        };
        wants = c.propose_alone.ensures.wants is;
      },
    )
