use Rattle.std.proofs.Common.{◌≡◌, [], refl, sym, ap, ◌∙◌, arith}
use Rattle.workers.specs.WorkerSteps.{has_open_work}
use Rattle.one_worker.specs.SerialValue.{lane_of, setting_in}
use Rattle.scavenge.specs.Waiting.{waiting_in}
use Rattle.scavenge.proofs.OpenBlocks.{open_there, none_there}
use Rattle.one_worker.proofs.Order.{nothing_left, empty_of}
use Rattle.one_worker.proofs.serial_steps.events.find_work.Goals as goal

pub own-requires-clause-work : goal.own-requires-clause-work
own-requires-clause-work g c =
    let r = open_there 0 c.args.serial.now.workspace.worker.allocation c.in-Some.d (sym c.lowest_open.ensures ∙ c.in-Some.is) in
    let e : c.in-Some.d ≡ r.0 = omega (arith, r.1.0) in
    ap (has_open_work c.args.serial.now.workspace.worker) e ∙ r.1.1

pub returns-clause-none : goal.returns-clause-none
returns-clause-none g c e = (
  record {
    out = record {
      free = nothing_left (setting_in c.args.serial.now) c.args.serial.now.workspace.worker [] c.requires.no_proposal c.requires.no_slot c.requires.no_hand;
      no_aside = empty_of c.args.serial.now.workspace.worker.aside c.has_aside.result c.has_aside.ensures.1 c.if-has_aside.false;
      no_large = empty_of c.args.serial.now.workspace.worker.large c.has_large.result c.has_large.ensures.1 c.if-has_large.false;
      all_scanned = none_there 0 c.args.serial.now.workspace.worker.allocation (sym c.lowest_open.ensures ∙ c.in_default.is);
    };
    queue = empty_of (waiting_in (lane_of c.args.serial.now)) c.has_queued.result c.has_queued.ensures.1 c.if-has_queued.false;
  },
  refl,
)
