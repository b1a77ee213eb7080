-- What holds of a collection by one worker lasts where the worker's own part alone changes.
use Rattle.std.proofs.Common.{◌≡◌, Bool, true, false, Result, Ok, Err, refl, sym, ap, subst, ◌∙◌}
use Rattle.std.specs.Prelude.{OnOk, OnErr}
use Rattle.std.specs.Ordering.{nat_cmp}
use Rattle.std.specs.FinMap.{find}
use Rattle.workers.specs.Worker.{Worker}
use Rattle.workers.specs.WorkerRun.{WorkerRun, History, Act, after, CanAct, noted, go}
use Rattle.workers.specs.System.{opening_worker}
use Rattle.workers.specs.Joined.{Each}
use Rattle.workers.specs.Ready.{IsHanded}
use Rattle.scavenge.specs.Shown.{WorkspaceValue}
use Rattle.one_worker.specs.SerialValue.{SerialValue, setting_in, targets_in, destinations_in}
use Rattle.one_worker.specs.IsSerial.{IsSerial, HasWorked}

-- what was taken in a collection is as workers hand it on
abbrev pub AreTaken : SerialValue → History → Type 0
AreTaken v h = Each (IsHanded v.heap.graph v.collection.generation v.heap.config.shape v.heap.config.block_words 1) h.taken

-- the worker did one thing more
pub worked_on : (v : SerialValue) (act : Act) (new : Worker) → HasWorked v → CanAct (setting_in v) v.workspace.worker act → new ≡ after (setting_in v) v.workspace.worker act
    → ((h : History) → AreTaken v h → AreTaken v (noted (setting_in v) v.workspace.worker act h)) → HasWorked (record v { workspace = record v.workspace { worker = new } })
worked_on v act new k can is handed =
    record {
      history = noted (setting_in v) v.workspace.worker act k.history;
      run = subst (λ w. WorkerRun (setting_in v) (opening_worker (destinations_in v) 1 (targets_in v) 0) w (noted (setting_in v) v.workspace.worker act k.history)) (sym is) (go act k.run can);
      taken = handed k.history k.taken;
    }

-- neither cells nor draws nor the queue had a part in it
pub acted_alone : (v : SerialValue) (act : Act) (new : WorkspaceValue) → IsSerial v → CanAct (setting_in v) v.workspace.worker act → new ≡ record v.workspace { worker = after (setting_in v) v.workspace.worker act }
    → (after (setting_in v) v.workspace.worker act).won ≡ v.workspace.worker.won → ((h : History) → AreTaken v h → AreTaken v (noted (setting_in v) v.workspace.worker act h)) → IsSerial (record v { workspace = new })
acted_alone v act new k can is won handed =
    subst (λ (w : WorkspaceValue). IsSerial (record v { workspace = w })) (sym is)
    (record {
      ready = k.ready;
      config = k.config;
      names = k.names;
      claim = k.claim;
      cells = record { fits = k.cells.fits; passes = k.cells.passes; count = k.cells.count; shown = λ name number of. k.cells.shown name number of ∙ ap (λ ws. find nat_cmp name ws) (sym won) };
      draws = record { free = k.draws.free; seats = k.draws.seats; seat = k.draws.seat };
      queue = record { key = k.queue.key; lanes = k.queue.lanes; seat = k.queue.seat; taken = k.queue.taken; labels = k.queue.labels; noted = k.queue.noted };
      worked = worked_on v act (after (setting_in v) v.workspace.worker act) k.worked can refl handed;
    })

-- the call succeeded, or changed nothing
pub either : {X E : Type 0} (v : SerialValue) (r : Result X E) (new next : WorkspaceValue) → IsSerial v → OnOk r (new ≡ next) → OnErr r (new ≡ v.workspace) → (new ≡ next → IsSerial (record v { workspace = new })) → IsSerial (record v { workspace = new })
either v (Ok x) new next k ok err f = f ok
either v (Err e) new next k ok err f = subst (λ (w : WorkspaceValue). IsSerial (record v { workspace = w })) (sym err) k

-- the call did something, or changed nothing
pub either_or : {E : Type 0} (v : SerialValue) (r : Result Bool E) (new next : WorkspaceValue) → IsSerial v → (r ≡ Ok true → new ≡ next) → (r ≡ Ok false → new ≡ v.workspace) → OnErr r (new ≡ v.workspace) → (new ≡ next → IsSerial (record v { workspace = new })) → IsSerial (record v { workspace = new })
either_or v (Ok true) new next k some none err f = f (some refl)
either_or v (Ok false) new next k some none err f = subst (λ (w : WorkspaceValue). IsSerial (record v { workspace = w })) (sym (none refl)) k
either_or v (Err e) new next k some none err f = subst (λ (w : WorkspaceValue). IsSerial (record v { workspace = w })) (sym err) k

pub acted_or : (v : SerialValue) (did : Bool) (new next : WorkspaceValue) → IsSerial v → (did ≡ true → new ≡ next) → (did ≡ false → new ≡ v.workspace) → (new ≡ next → IsSerial (record v { workspace = new })) → IsSerial (record v { workspace = new })
acted_or v true new next k some none f = f (some refl)
acted_or v false new next k some none f = subst (λ (w : WorkspaceValue). IsSerial (record v { workspace = w })) (sym (none refl)) k
