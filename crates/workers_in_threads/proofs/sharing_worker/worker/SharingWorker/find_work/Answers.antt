use Rattle.std.proofs.Common.{◌≡◌, Ok, sym, ap, subst, ◌∙◌, arith}
use Rattle.workers.specs.WorkerSteps.{has_open_work, IsFree}
use Rattle.scavenge.proofs.OpenBlocks.{open_there, none_there}
use Rattle.workers_in_threads.specs.SharingValue.{setting_in}
use Rattle.workers_in_threads.proofs.Order.{empty_of, is_free}
use Rattle.workers_in_threads.proofs.sharing_worker.worker.SharingWorker.find_work.Goals as goal

pub own-requires-clause-work : goal.own-requires-clause-work
own-requires-clause-work g c =
    let r = open_there 0 c.take_any.new.self.workspace.worker.allocation c.in-Some.d (sym c.lowest_open.ensures ∙ c.in-Some.is) in
    let e : c.in-Some.d ≡ r.0 = omega (arith, r.1.0) in
    ap (has_open_work c.take_any.new.self.workspace.worker) e ∙ r.1.1

pub returns-clause-none : goal.returns-clause-none
returns-clause-none g c e =
    let none = c.in_ok-take_any.ensures.none (ap Ok c.if-branch.false) in
    let free = is_free (setting_in c.args.self.now) c.args.self.now.workspace.worker c.requires.no_proposal c.requires.no_slot c.requires.no_hand in
    let aside = empty_of c.args.self.now.workspace.worker.aside c.has_aside.result c.has_aside.ensures.1 c.if-has_aside.false in
    let w = c.take_any.new.self.workspace.worker in
    record {
      out = record {
        free = subst IsFree (sym none.0) free;
        no_aside = ap (λ v. v.aside) none.0 ∙ aside;
        no_large = empty_of w.large c.has_large.result c.has_large.ensures.1 c.if-has_large.false;
        all_scanned = none_there 0 w.allocation (sym c.lowest_open.ensures ∙ c.in_default.is);
      };
      cleared = none.1;
    }
