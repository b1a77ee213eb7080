use Rattle.std.proofs.Common.{Err, refl, ap, arith}
use Rattle.trace_session.specs.Refusals.{IsFullToCollect}
use Rattle.trace_session.specs.Made.{collected_apart}
use Rattle.trace_session.proofs.Apart.{must_be_box}
use Rattle.trace_session.proofs.PrintedSteps.{steps_collect, collect_full, collect_sound, collect_nowhere}
use Rattle.trace_session.proofs.trace_prints.apart.collect_apart.Goals as goal

pub returns-in-Ok-write_collection-clause-ok : goal.returns-in-Ok-write_collection-clause-ok
returns-in-Ok-write_collection-clause-ok g c =
    rw c.reuse.ensures (λ config store stands.
    steps_collect _ _ config store stands c.args.generation _ _ _ _ _ _ c.in-Ok-collect.ensures.ok.collects
    (collected_apart c.args.generation _ _ _ _ _ stands.made c.in-Ok-collect.ensures.ok)
    (omega (arith, c.if-generation-generations.false, c.generations.ensures.value, ap (λ x. x.shape.generations) c.config.ensures))
    c.in-Ok-write_collection.ensures.bytes)

pub returns-then-generation-generations-clause-err : goal.returns-then-generation-generations-clause-err
returns-then-generation-generations-clause-err g c = (
  refl,
  λ config store stands.
      collect_nowhere _ _ config store stands c.args.generation
      (omega (arith, c.if-generation-generations.true, c.generations.ensures.value, ap (λ x. x.shape.generations) c.config.ensures)),
  refl,
)

pub returns-in-Err-HeapFull-clause-err : goal.returns-in-Err-HeapFull-clause-err
returns-in-Err-HeapFull-clause-err g c =
    let short : IsFullToCollect c.args.session.now.heap c.args.generation c.args.crew.now.workers = record { short = c.in-Err-HeapFull.ensures.full (ap (λ e. Err e) c.in-Err-HeapFull.field-0-is); stuck = c.in-Err-HeapFull.ensures.stuck (ap (λ e. Err e) c.in-Err-HeapFull.field-0-is) } in (
      refl,
      short,
      λ config store stands.
          collect_full _ _ config store stands c.args.crew.now.workers c.args.generation
          (omega (arith, c.if-generation-generations.false, c.generations.ensures.value, ap (λ x. x.shape.generations) c.config.ensures))
          short,
      refl,
    )

pub returns-in_default-clause-err : goal.returns-in_default-clause-err
returns-in_default-clause-err g c = (
  refl,
  λ config store stands.
      collect_sound _ _ config store stands c.args.generation
      (omega (arith, c.if-generation-generations.false, c.generations.ensures.value, ap (λ x. x.shape.generations) c.config.ensures)),
  refl,
)

pub returns-in-Err-NoMemory-clause-err : goal.returns-in-Err-NoMemory-clause-err
returns-in-Err-NoMemory-clause-err g c = (
  refl,
  λ config store stands.
      collect_sound _ _ config store stands c.args.generation
      (omega (arith, c.if-generation-generations.false, c.generations.ensures.value, ap (λ x. x.shape.generations) c.config.ensures)),
  refl,
)

pub returns-in-Err-Unsettled-clause-err : goal.returns-in-Err-Unsettled-clause-err
returns-in-Err-Unsettled-clause-err g c = (
  refl,
  must_be_box c.args.crew.now.kind (λ word. c.in-Err-Unsettled.ensures.words word (ap (λ e. Err e) c.in-Err-Unsettled.field-0-is)),
  λ config store stands.
      collect_sound _ _ config store stands c.args.generation
      (omega (arith, c.if-generation-generations.false, c.generations.ensures.value, ap (λ x. x.shape.generations) c.config.ensures)),
  refl,
)
