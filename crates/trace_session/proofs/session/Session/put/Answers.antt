use Rattle.std.proofs.Common.{Err, refl, sym, ap}
use Rattle.trace_session.specs.Does.{writes}
use Rattle.trace_session.proofs.FieldSteps.{never_unrooted, put_no_field, steps_put}
use Rattle.trace_session.proofs.session.Session.put.Goals as goal

pub returns-in-Ok-clause-ok : goal.returns-in-Ok-clause-ok
returns-in-Ok-clause-ok g c = λ config store stands.
    steps_put _ _ config store stands c.args.name.now c.in-Some.root.number (sym c.in-Some.ensures) c.args.field c.args.value _ c.in-Ok.ensures.field c.in-Ok.ensures.ok

pub returns-in-Err-NoRoot-clause-err : goal.returns-in-Err-NoRoot-clause-err
returns-in-Err-NoRoot-clause-err g c =
    (refl, λ config store stands. absurd (never_unrooted _ _ config store stands c.args.name.now c.in-Some.root.number (sym c.in-Some.ensures) (c.in-Err-NoRoot.ensures.no_root.0 (ap (λ e. Err e) c.in-Err-NoRoot.field-0-is))))

pub returns-in-Err-BadField-clause-err : goal.returns-in-Err-BadField-clause-err
returns-in-Err-BadField-clause-err g c =
    (refl, λ config store stands. put_no_field _ _ config store stands c.args.name.now c.in-Some.root.number (sym c.in-Some.ensures) c.args.field c.args.value (c.in-Err-BadField.ensures.bad_field.0 (ap (λ e. Err e) c.in-Err-BadField.field-0-is)).1)

pub returns-in-Ok-clause-own : goal.returns-in-Ok-clause-own
returns-in-Ok-clause-own g c = writes (sym c.in-Some.ensures) c.in-Ok.ensures.ok
