-- What holds of a worker among several lasts with each thing that it does.
use Rattle.std.proofs.Common.{◌≡◌, ℕ, Bool, true, false, List, Option, Result, Ok, Err, refl, sym, ap, subst, ◌∙◌}
use Rattle.std.specs.Prelude.{OnOk, OnErr}
use Rattle.layout.specs.declared.place.Place.{Place}
use Rattle.steps.specs.HeapValue.{HeapValue}
use Rattle.steps.specs.CollectionValue.{CollectionValue}
use Rattle.workers.specs.Worker.{Worker}
use Rattle.workers.specs.WorkerRun.{History, Act, Scanned, Owned, OwnedLarge, after, CanAct, noted, go}
use Rattle.workers.specs.Joined.{Each}
use Rattle.workers.specs.Ordered.{InTurn}
use Rattle.workers.specs.Ready.{IsHanded}
use Rattle.scavenge.specs.Shown.{WorkspaceValue}
use Rattle.workers_in_threads.specs.SharingValue.{SharingValue, setting_for, setting_in, worker_of, labelled_from}
use Rattle.workers_in_threads.specs.IsSharing.{IsSharing, HasWorked, KnowsPair}
use Rattle.workers_in_threads.specs.Sharing.{IsSame}

-- what the history of an act alone is
pub record IsAlone (act : Act) : Type 0 where
  pub notes : (heap : HeapValue) (c : CollectionValue) (n : ℕ) (w : Worker) (h : History) → noted (setting_for heap c n) w act h ≡ h
  pub turn : (heap : HeapValue) (c : CollectionValue) (n t : ℕ) (h : History) → InTurn (setting_for heap c n) t act h

pub scans_alone : IsAlone Scanned
scans_alone = record { notes = λ heap c n w h. refl; turn = λ heap c n t h. tt }

pub owns_alone : (d : ℕ) → IsAlone (Owned d)
owns_alone d = record { notes = λ heap c n w h. refl; turn = λ heap c n t h. tt }

pub owns_large_alone : IsAlone OwnedLarge
owns_large_alone = record { notes = λ heap c n w h. refl; turn = λ heap c n t h. tt }

module _ {C P A : Type 0} (fits : C → P → Type 0) (limit : C → ℕ) (known : P → ℕ → Option Place) (won : P → List (ℕ × Place)) (at_home : C → P → Type 0) where
  abbrev pub with_part : SharingValue C P A → WorkspaceValue → SharingValue C P A
  with_part v new = record v { workspace = new }

  abbrev pub Keeps : SharingValue C P A → SharingValue C P A → Type 0
  Keeps old new = IsSharing fits limit known won new × IsSame at_home old new

  pub same_part : (v : SharingValue C P A) (new : WorkspaceValue) → IsSame at_home v (with_part v new)
  same_part v new = record { heap = refl; collection = refl; claims = refl; queues = refl; workers = refl; number = refl; home = λ cells h. h }

  -- neither cells nor draws nor queues had a part in it
  pub acted_alone : (v : SharingValue C P A) (act : Act) (new : WorkspaceValue) → IsSharing fits limit known won v → IsAlone act → CanAct (setting_in v) (worker_of v) act
      → new ≡ record v.workspace { worker = after (setting_in v) (worker_of v) act } → (after (setting_in v) (worker_of v) act).won ≡ (worker_of v).won → IsSharing fits limit known won (with_part v new)
  acted_alone v act new k alone can is won_same =
      subst (λ (w : WorkspaceValue). IsSharing fits limit known won (with_part v w)) (sym is)
      (record {
        ready = k.ready;
        member = k.member;
        config = k.config;
        names = k.names;
        fits_cells = k.fits_cells;
        cells = k.cells;
        free = k.free;
        draws = k.draws;
        seat = k.seat;
        lanes = k.lanes;
        key = k.key;
        queued = k.queued;
        worked = worked;
      })
    where
      same : noted (setting_in v) (worker_of v) act k.worked.history ≡ k.worked.history
      same = alone.notes v.heap v.collection v.workers (worker_of v) k.worked.history

      worked : HasWorked v.heap v.collection v.workers v.seat.index (known v.pass) (won v.pass) v.draws v.seat (after (setting_in v) (worker_of v) act)
      worked =
          record {
            history = noted (setting_in v) (worker_of v) act k.worked.history;
            run = go act k.worked.run can;
            turns = (alone.turn v.heap v.collection v.workers v.seat.index k.worked.history, k.worked.turns);
            handed = subst (λ (x : History). Each (IsHanded v.heap.graph v.collection.generation v.heap.config.shape v.heap.config.block_words v.workers) x.taken) (sym same) k.worked.handed;
            knows = subst (λ (x : History). Each (KnowsPair v.heap v.collection (known v.pass)) x.known) (sym same) k.worked.knows;
            won_are = k.worked.won_are ∙ sym won_same;
            numbers = k.worked.numbers;
            drawn = k.worked.drawn ∙ ap (λ (x : History). x.drawn) (sym same);
            exported = k.worked.exported ∙ ap (λ (x : History). labelled_from v.seat.index 0 x.exported) (sym same);
            taken = k.worked.taken ∙ ap (λ (x : History). x.taken) (sym same);
          }

  -- the worker's part is as it was, but for the room to put a block back
  pub stood : (v : SharingValue C P A) (new : WorkspaceValue) → IsSharing fits limit known won v → new.config ≡ v.workspace.config → new.names ≡ v.workspace.names → new.worker ≡ v.workspace.worker → IsSharing fits limit known won (with_part v new)
  stood v new k config names worker =
      record {
        ready = k.ready;
        member = k.member;
        config = config ∙ k.config;
        names = names ∙ k.names;
        fits_cells = k.fits_cells;
        cells = k.cells;
        free = k.free;
        draws = k.draws;
        seat = k.seat;
        lanes = k.lanes;
        key = k.key;
        queued = k.queued;
        worked = subst (HasWorked v.heap v.collection v.workers v.seat.index (known v.pass) (won v.pass) v.draws v.seat) (sym worker) k.worked;
      }

  -- the call succeeded, or changed nothing
  pub either : {X E : Type 0} (v : SharingValue C P A) (r : Result X E) (new next : WorkspaceValue) → IsSharing fits limit known won v → OnOk r (new ≡ next) → OnErr r (new ≡ v.workspace)
      → (new ≡ next → IsSharing fits limit known won (with_part v new)) → IsSharing fits limit known won (with_part v new)
  either v (Ok x) new next k ok err f = f ok
  either v (Err e) new next k ok err f = subst (λ (w : WorkspaceValue). IsSharing fits limit known won (with_part v w)) (sym err) k

  pub either_or : {E : Type 0} (v : SharingValue C P A) (r : Result Bool E) (new next : WorkspaceValue) → IsSharing fits limit known won v → (r ≡ Ok true → new ≡ next) → (r ≡ Ok false → new ≡ v.workspace) → OnErr r (new ≡ v.workspace)
      → (new ≡ next → IsSharing fits limit known won (with_part v new)) → IsSharing fits limit known won (with_part v new)
  either_or v (Ok true) new next k some none err f = f (some refl)
  either_or v (Ok false) new next k some none err f = subst (λ (w : WorkspaceValue). IsSharing fits limit known won (with_part v w)) (sym (none refl)) k
  either_or v (Err e) new next k some none err f = subst (λ (w : WorkspaceValue). IsSharing fits limit known won (with_part v w)) (sym err) k

  pub acted_or : (v : SharingValue C P A) (did : Bool) (new next : WorkspaceValue) → IsSharing fits limit known won v → (did ≡ true → new ≡ next) → (did ≡ false → new ≡ v.workspace)
      → (new ≡ next → IsSharing fits limit known won (with_part v new)) → IsSharing fits limit known won (with_part v new)
  acted_or v true new next k some none f = f (some refl)
  acted_or v false new next k some none f = subst (λ (w : WorkspaceValue). IsSharing fits limit known won (with_part v w)) (sym (none refl)) k

  -- what is the same of two steps is the same of both together
  pub same_both : (a b c : SharingValue C P A) → IsSame at_home a b → IsSame at_home b c → IsSame at_home a c
  same_both a b c p q =
      record {
        heap = q.heap ∙ p.heap;
        collection = q.collection ∙ p.collection;
        claims = q.claims ∙ p.claims;
        queues = q.queues ∙ p.queues;
        workers = q.workers ∙ p.workers;
        number = q.number ∙ p.number;
        home = λ cells h. q.home cells (p.home cells h);
      }

  pub same_as : (a b : SharingValue C P A) → b ≡ a → IsSame at_home a b
  same_as a b e = subst (IsSame at_home a) (sym e) (record { heap = refl; collection = refl; claims = refl; queues = refl; workers = refl; number = refl; home = λ cells h. h })

  -- a call that changes nothing comes before, and the result has another name
  pub same_over : (a b c d : SharingValue C P A) → b ≡ a → IsSame at_home b c → d ≡ c → IsSame at_home a d
  same_over a b c d e p f = subst (IsSame at_home a) (sym f) (subst (λ v. IsSame at_home v c) e p)
