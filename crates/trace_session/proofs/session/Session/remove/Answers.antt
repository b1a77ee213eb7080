use Rattle.std.proofs.Common.{refl, sym, rules}
use Rattle.std.proofs.lemmas.Bool.{true≢false}
use Rattle.trace_session.specs.Does.{releases}
use Rattle.trace_session.proofs.SessionSteps.{steps_drop, root_there}
use Rattle.trace_session.proofs.session.Session.remove.Goals as goal

pub returns-in-Ok-clause-ok : goal.returns-in-Ok-clause-ok
returns-in-Ok-clause-ok g c = λ config store stands.
    steps_drop _ _ config store stands c.args.name.now c.in-Some.root.number _ _ (sym c.in-Some.ensures) c.in-Ok.ensures.ok c.remove-root.ensures.names

pub returns-in-Err-clause-err : goal.returns-in-Err-clause-err
returns-in-Err-clause-err g c =
    (refl, λ config store stands. absurd (true≢false (sym (c.in-Err.ensures.known.1 (root_there _ _ config store stands c.args.name.now c.in-Some.root.number (sym c.in-Some.ensures))))))

pub returns-in_default-clause-err : goal.returns-in_default-clause-err
returns-in_default-clause-err g c = search rules

pub returns-in-Ok-clause-own : goal.returns-in-Ok-clause-own
returns-in-Ok-clause-own g c = rw (c.in-Ok.ensures.ok, c.remove-root.ensures.names) (releases (sym c.in-Some.ensures))
