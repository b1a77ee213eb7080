use Rattle.std.proofs.Common.{refl, sym, ap, subst, ◌∙◌, arith}
use Rattle.model.specs.Config.{Config}
use Rattle.steps.specs.CollectionValue.{CollectionValue}
use Rattle.settling.specs.Collects.{ScansOnce}
use Rattle.one_worker.proofs.Concluding.{collects, told_alone}
use Rattle.one_worker.proofs.collecting.collect_one.Goals as goal

pub returns-clause-ok : goal.returns-clause-ok
returns-clause-ok g c =
    let generation = ap (λ (k : CollectionValue). k.generation) c.in_ok-settled.ensures.collection in
    rw (← c.take_spare-spare.ensures) (collects c.take_spare-spare.new.self c.commit.new.self c.args.generation c.in_ok-settled.settled.collection.generation c.in_ok-commit.field-0.kept c.in_ok-commit.field-0.freed c.in_ok-settled.settled.workers.items c.in_ok-commit.field-0.workers.items
    (generation ∙ c.in_ok-collection.ensures.ok.generation)
    (subst (λ n. ScansOnce c.take_spare-spare.new.self n c.in_ok-settled.settled.workers.items) (sym generation) c.in_ok-settled.ensures.once)
    (rw c.in_ok-commit.ensures.workers refl) c.in_ok-commit.ensures.ok c.in_ok-commit.ensures.kept c.in_ok-commit.ensures.won c.in_ok-commit.ensures.freed)

pub returns-clause-alone : goal.returns-clause-alone
returns-clause-alone g c =
    rw (← c.take_spare-spare.ensures) (told_alone c.take_spare-spare.new.self c.args.generation c.in_ok-collection.collection.generation c.in_ok-settled.settled.workers.items c.in_ok-commit.field-0.workers.items c.in_ok-settled.settled.deliveries.items c.in_ok-commit.field-0.deliveries.items
    c.in_ok-collection.ensures.ok.generation (rw c.in_ok-commit.ensures.workers refl) (rw c.in_ok-commit.ensures.deliveries refl) c.in_ok-settled.ensures.scanned)

pub returns-then-generation-generations-clause-no_generation : goal.returns-then-generation-generations-clause-no_generation
returns-then-generation-generations-clause-no_generation g c = (λ e. omega (arith, c.if-generation-generations.true, c.generations.ensures.value, ap (λ (k : Config). k.shape.generations) c.config.ensures), λ h. refl)

pub returns-then-generation-generations-clause-full : goal.returns-then-generation-generations-clause-full
returns-then-generation-generations-clause-full g c = λ e. absurd (cc)
