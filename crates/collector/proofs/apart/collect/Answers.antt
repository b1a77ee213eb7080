use Rattle.std.proofs.Common.{◌≡◌, refl, sym, ap, subst, ◌∙◌, ⊎_elim, arith}
use Rattle.std.specs.Prelude.{IfSome}
use Rattle.steps.specs.CollectionValue.{CollectionValue}
use Rattle.steps.specs.declared.heap_values.collection.Settled.{Settled}
use Rattle.settling.specs.Collects.{ScansOnce}
use Rattle.workers_in_threads.specs.Reports.{ReportsApart}
use Rattle.collector.proofs.ByThreads.{apart_collects}
use Rattle.collector.proofs.apart.collect.Goals as goal

pub returns-in_default-commit-clause-config : goal.returns-in_default-commit-clause-config
returns-in_default-commit-clause-config g c = (λ e. absurd (cc), λ h. absurd (⊎_elim (λ z. omega (arith, z, c.if-n-eq0.false)) (λ l. omega (arith, l, c.if-n-gt-MOST_WORKERS.false)) h))

pub returns-clause-config : goal.returns-clause-config
returns-clause-config g c = (λ e. absurd (cc), λ h. absurd (⊎_elim (λ z. omega (arith, z, c.if-n-eq0.false)) (λ l. omega (arith, l, c.if-n-gt-MOST_WORKERS.false)) h))

pub returns-clause-ok : goal.returns-clause-ok
returns-clause-ok g c =
    let same : c.in-Some.settled.collection ≡ c.in-Ok.collection = subst (λ o. IfSome o (λ (s : Settled g.row.A.Denot). s.collection ≡ c.in-Ok.collection)) c.in-Some.is c.in_ok-brought.ensures.collection in
    let generation = ap (λ (k : CollectionValue). k.generation) same in
    rw (← c.take_spare-spare.ensures) (apart_collects c.take_spare-spare.new.self c.commit.new.self c.args.generation c.in-Some.settled.collection.generation c.args.n c.in-Ok-commit.report.kept c.in-Ok-commit.report.freed c.in-Some.settled.workers.items c.in-Ok-commit.report.workers.items
    c.in-Some.settled.deliveries.items c.in-Ok-commit.report.deliveries.items
    (generation ∙ c.in-Ok.ensures.ok.generation)
    (subst (λ m. ReportsApart c.take_spare-spare.new.self m c.args.n c.in-Some.settled.workers.items c.in-Some.settled.deliveries.items) (sym generation)
    (subst (λ o. IfSome o (λ (s : Settled g.row.A.Denot). ReportsApart c.take_spare-spare.new.self c.in-Ok.collection.generation c.args.n s.workers.items s.deliveries.items)) c.in-Some.is c.in_ok-brought.ensures.apart))
    (subst (λ m. ScansOnce c.take_spare-spare.new.self m c.in-Some.settled.workers.items) (sym generation)
    (subst (λ o. IfSome o (λ (s : Settled g.row.A.Denot). ScansOnce c.take_spare-spare.new.self c.in-Ok.collection.generation s.workers.items)) c.in-Some.is c.in_ok-brought.ensures.once))
    (rw c.in-Ok-commit.ensures.workers refl) (rw c.in-Ok-commit.ensures.deliveries refl) c.in-Ok-commit.ensures.ok c.in-Ok-commit.ensures.kept c.in-Ok-commit.ensures.won c.in-Ok-commit.ensures.freed)

pub returns-clause-alone : goal.returns-clause-alone
returns-clause-alone g c = λ e. absurd (omega (arith, e, c.if-n-eq1.false))
