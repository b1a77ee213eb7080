-- A block that was to be exported is put back.
use Rattle.std.proofs.Common.{◌≡◌, true, false, ◌∷◌, sym, ap, ◌∙◌}
use Rattle.model.specs.Destination.{Shape}
use Rattle.block_pool.specs.BlockValue.{BlockValue}
use Rattle.workers.specs.Worker.{Worker}
use Rattle.workers.specs.WorkerSteps.{after_aside, without_oldest}
use Rattle.scavenge.specs.Named.{named}
use Rattle.scavenge.specs.Shown.{WorkspaceValue, Begins}

-- the block that was handed out is in front again
pub same_aside : (w : Worker) (shape : Shape) (b : BlockValue) → Begins shape w.aside b → (let x : Worker = record (after_aside w) { aside = named shape b ∷ (after_aside w).aside } in x) ≡ w
same_aside w shape b first = ap (λ bs. (let x : Worker = record (without_oldest w bs) { aside = named shape b ∷ (without_oldest w bs).aside } in x)) first.is ∙ ap (λ bs. (let x : Worker = record w { aside = bs } in x)) (sym first.is)

pub back_again : (w : WorkspaceValue) (b b' : BlockValue) (mid new : WorkspaceValue) → Begins w.config.shape w.worker.aside b → mid ≡ record w { worker = after_aside w.worker; spare = true } → b' ≡ b
    → new ≡ record mid { worker = record mid.worker { aside = named mid.config.shape b' ∷ mid.worker.aside }; spare = false } → new ≡ record w { spare = false }
back_again w b b' mid new first m be n =
    n
    ∙ ap (λ (x : WorkspaceValue). (let y : WorkspaceValue = record x { worker = record x.worker { aside = named x.config.shape b' ∷ x.worker.aside }; spare = false } in y)) m
    ∙ ap (λ x. (let y : WorkspaceValue = record w { worker = record (after_aside w.worker) { aside = named w.config.shape x ∷ (after_aside w.worker).aside }; spare = false } in y)) be
    ∙ ap (λ x. (let y : WorkspaceValue = record w { worker = x; spare = false } in y)) (same_aside w.worker w.config.shape b first)
