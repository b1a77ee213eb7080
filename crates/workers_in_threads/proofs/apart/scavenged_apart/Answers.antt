use Rattle.std.proofs.Common.{◌≡◌, length, sym, ap, subst, ◌∙◌, arith}
use Rattle.block_pool.specs.ClaimsValue.{ClaimsValue}
use Rattle.idle_count.specs.VerdictValue.{VerdictSeatValue, untold}
use Rattle.pending_queues.specs.PendingValue.{Source}
use Rattle.scavenge.specs.Handed.{CopiesKeyValue}
use Rattle.workers_in_threads.specs.Kits.{AreKits, AreBroughtBack}
use Rattle.workers_in_threads.proofs.Taking.{popped}
use Rattle.workers_in_threads.proofs.apart.scavenged_apart.Goals as goal

pub work_in_threads-requires-clause-kits : goal.work_in_threads-requires-clause-kits
work_in_threads-requires-clause-kits g c κs within =
    subst (λ m. AreKits (g.S.SharedCells.limit c.args.cells.now) (g.S.SharedCells.is_pass c.args.cells.now) g.S.SharedCells.won c.args.heap.now c.args.collection.now c.in_ok-claims.claims c.in_ok-queues.queues c.in_ok-idle.idle c.in_ok-verdict.verdict m c.in_ok-kits.kits.items)
    (sym c.in_ok-kits.ensures.many) c.in_ok-kits.ensures.kits

pub work_in_threads-requires-clause-few : goal.work_in_threads-requires-clause-few
work_in_threads-requires-clause-few g c = omega (arith, c.in_ok-kits.ensures.many, c.len-workers.ensures, c.args.passes.ok.0, c.requires.few)

pub work_in_threads-requires-clause-voice : goal.work_in_threads-requires-clause-voice
work_in_threads-requires-clause-voice g c κs within = ap (λ (s : VerdictSeatValue). s.name) (popped (λ s. s ≡ untold c.in_ok-verdict.verdict) _ _ _ c.in-Some.ensures.items c.in_ok-verdict.ensures.seats)

pub returns : goal.returns
returns g c =
    let many : c.len-workers.result ≡ length c.args.passes.items = c.len-workers.ensures ∙ c.args.passes.ok.0 in
    let kits : length c.in_ok-kits.kits.items ≡ length c.args.passes.items = c.in_ok-kits.ensures.many ∙ many in
    let Is = AreBroughtBack (g.S.SharedCells.is_pass c.args.cells.now) g.S.SharedCells.known g.S.SharedCells.won c.args.heap.now c.args.collection.now in
    let shared = c.in_ok-apart.ensures.shared in
    record {
      brought = c.in_ok-brought.brought.items;
      count = c.in_ok-brought.ensures.0 ∙ kits;
      ready = c.requires.ready;
      free = ap (λ (x : ClaimsValue). x.source.free) shared.0 ∙ c.in_ok-claims.ensures.free ∙ c.in_ok-share.ensures ∙ c.free.ensures ∙ c.requires.ready.opened.free;
      shares = ap (λ (x : ClaimsValue). x.source.seats) shared.0 ∙ c.in_ok-claims.ensures.count.0 ∙ many;
      lanes = ap (λ (q : Source g.row.A.Denot CopiesKeyValue). length q.lanes) shared.1 ∙ c.in_ok-queues.ensures.many ∙ many;
      each = subst (λ q. Is c.in_ok-apart.apart.seats.claims q (length c.args.passes.items) c.in_ok-brought.brought.items) (sym shared.1)
          (subst (λ x. Is x c.in_ok-queues.queues (length c.args.passes.items) c.in_ok-brought.brought.items) (sym shared.0)
          (subst (λ m. Is c.in_ok-claims.claims c.in_ok-queues.queues m c.in_ok-brought.brought.items) kits c.in_ok-brought.ensures.1));
      lists = c.in_ok-apart.ensures.lists;
    }
