use Rattle.std.proofs.Common.{Err, refl, ap, inr, arith}
use Rattle.trace_session.specs.Made.{collected}
use Rattle.trace_session.proofs.PrintedSteps.{room_made}
use Rattle.trace_session.proofs.trace_prints.printing.make_room.Goals as goal

pub returns-in-Ok-write_collection-clause-ok : goal.returns-in-Ok-write_collection-clause-ok
returns-in-Ok-write_collection-clause-ok g c =
    rw c.reuse.ensures (λ config store stands.
    room_made _ _ config store stands _ _ _ _ _ _ c.in-Ok-collect_one.ensures.ok (collected 0 _ _ _ _ stands.made (record { collects = c.in-Ok-collect_one.ensures.ok; scans = c.in-Ok-collect_one.ensures.alone })) c.in-Ok-write_collection.ensures.bytes)

pub returns-in-Err-HeapFull-clause-err : goal.returns-in-Err-HeapFull-clause-err
returns-in-Err-HeapFull-clause-err g c = (
  refl,
  record { short = c.in-Err-HeapFull.ensures.full (ap (λ e. Err e) c.in-Err-HeapFull.field-0-is); stuck = inr (c.in-Err-HeapFull.ensures.stuck (ap (λ e. Err e) c.in-Err-HeapFull.field-0-is)) },
  ap (λ h. record c.args.session.now { heap = h }) c.in-Err-HeapFull.ensures.err,
  refl,
)

pub unreachable-requires : goal.unreachable-requires
unreachable-requires g c =
    let none = c.in-Err-NoGeneration.ensures.no_generation.0 (ap (λ e. Err e) c.in-Err-NoGeneration.field-0-is) in
    let range = c.generations-generations.ensures.in_range in
    omega (arith, none, range.some_generation, ap (λ x. x.shape.generations) c.config.ensures)
