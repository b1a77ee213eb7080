use Rattle.std.proofs.Common.{Err, refl, ap, arith}
use Rattle.trace_session.specs.Made.{collected_apart}
use Rattle.trace_session.proofs.Apart.{must_be_box}
use Rattle.trace_session.proofs.PrintedSteps.{room_made}
use Rattle.trace_session.proofs.trace_prints.apart.make_room_apart.Goals as goal

pub returns-in-Ok-write_collection-clause-ok : goal.returns-in-Ok-write_collection-clause-ok
returns-in-Ok-write_collection-clause-ok g c =
    rw c.reuse.ensures (λ config store stands.
    room_made _ _ config store stands _ _ _ _ _ _ c.in-Ok-collect.ensures.ok.collects (collected_apart 0 _ _ _ _ _ stands.made c.in-Ok-collect.ensures.ok) c.in-Ok-write_collection.ensures.bytes)

pub returns-in-Err-HeapFull-clause-err : goal.returns-in-Err-HeapFull-clause-err
returns-in-Err-HeapFull-clause-err g c = (
  refl,
  record { short = c.in-Err-HeapFull.ensures.full (ap (λ e. Err e) c.in-Err-HeapFull.field-0-is); stuck = c.in-Err-HeapFull.ensures.stuck (ap (λ e. Err e) c.in-Err-HeapFull.field-0-is) },
  ap (λ h. record c.args.session.now { heap = h }) c.in-Err-HeapFull.ensures.err,
  refl,
)

pub returns-in-Err-Unsettled-clause-err : goal.returns-in-Err-Unsettled-clause-err
returns-in-Err-Unsettled-clause-err g c = (
  refl,
  must_be_box c.args.crew.now.kind (λ word. c.in-Err-Unsettled.ensures.words word (ap (λ e. Err e) c.in-Err-Unsettled.field-0-is)),
  ap (λ h. record c.args.session.now { heap = h }) c.in-Err-Unsettled.ensures.err,
  refl,
)

pub unreachable-requires-in-Err-NoGeneration : goal.unreachable-requires-in-Err-NoGeneration
unreachable-requires-in-Err-NoGeneration g c =
    let none = c.in-Err-NoGeneration.ensures.generation.0 (ap (λ e. Err e) c.in-Err-NoGeneration.field-0-is) in
    let range = c.generations-generations.ensures.in_range in
    omega (arith, none, range.some_generation, ap (λ x. x.shape.generations) c.config.ensures)
