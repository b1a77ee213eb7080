-- One event after another.
use Rattle.std.proofs.Common.{◌≡◌, ℕ, zero, suc, ◌+◌, ◌<◌, List, [], ◌∷◌, ◌++◌, length, map, take, Some, refl, sym, ap, subst, ◌∙◌, arith}
use Rattle.std.specs.Prelude.{slice_get, slice_index_or}
use Rattle.std.proofs.lemmas.Option.{slice_get-get_or}
use Rattle.steps.specs.HeapValue.{HeapValue}
use Rattle.steps.specs.CollectionValue.{CollectionValue}
use Rattle.workers.specs.System.{Event}
use Rattle.workers.specs.Steps.{Step, stay}
use Rattle.workers.specs.Lawful.{IsLawful, next_lawful}
use Rattle.workers.specs.Measure.{measure, young_names_of}
use Rattle.workers.specs.Finish.{Stepped}
use Rattle.workers.specs.Finish as finish
use Rattle.workers.proofs.Finish.{lawful_choice}
use Rattle.workers.proofs.OneMore.{run_more, stepped_more}
use Rattle.workers.proofs.Reached.{reached_falls, young_covers}
use Rattle.machine.specs.declared.workers_in_turn.event.Event.{Event as Named}
use Rattle.machine.specs.SystemEvents.{event_of}
use Rattle.machine.specs.InterleavedValue.{setting_for}
use Rattle.machine.proofs.Places.{get-map}
use Rattle.machine.specs.declared.step_error.StepError.{StepError}
use Rattle.machine.specs.declared.step_error.StepError.TheVariants.{NotLawful, HeapFull, NoMemory}
use Rattle.machine.specs.MachineValue.{MachineValue, HasReached, setting_in}
use Rattle.machine.specs.Events.{IsSameCollection, Comes, Ran, WentOn, IsFullForEvent, Stopped, IsStuck}

take_next : {A : Type 0} (xs : List A) (i : ℕ) (x : A) → slice_get xs i ≡ Some x → take (i + 1) xs ≡ take i xs ++ x ∷ []
take_next [] i x e = absurd (cc)
take_next (y ∷ ys) zero x e = let q : y ≡ x = cc in ap (λ z. z ∷ []) q
take_next (y ∷ ys) (suc i) x e = let k : suc i + 1 ≡ suc (i + 1) = omega arith in ap (λ j. take j (y ∷ ys)) k ∙ ap (λ zs. y ∷ zs) (take_next ys i x e)

same_setting : (old new : MachineValue) → IsSameCollection old new → setting_in new ≡ setting_in old
same_setting old new same =
    ap (λ (h : HeapValue). setting_for h new.collection new.workers) same.heap ∙ ap (λ (c : CollectionValue). setting_for old.heap c new.workers) same.collection ∙ ap (setting_for old.heap old.collection) same.workers

itself : (m : MachineValue) → IsSameCollection m m
itself m = record { heap = refl; collection = refl; workers = refl }

onward : (old mid new : MachineValue) → IsSameCollection old mid → IsSameCollection mid new → IsSameCollection old new
onward old mid new a b = record { heap = b.heap ∙ a.heap; collection = b.collection ∙ a.collection; workers = b.workers ∙ a.workers }

step_of : (old mid new : MachineValue) (event : Event) → IsSameCollection old mid → Comes event mid new → Step (setting_in old) mid.system event new.system
step_of old mid new event same comes = subst (λ s. Step s mid.system event new.system) (same_setting old mid same) comes.step

pub ran_none : (m : MachineValue) → Ran [] m m
ran_none m = record { same = itself m; run = stay }

pub ran_on : (events : List Event) (i : ℕ) (e : Event) (old mid new : MachineValue) → slice_get events i ≡ Some e → Ran (take i events) old mid → Comes e mid new → Ran (take (i + 1) events) old new
ran_on events i e old mid new at ran comes =
    subst (λ es. Ran es old new) (sym (take_next events i e at))
    (record { same = onward old mid new ran.same comes.same; run = run_more (setting_in old) e ran.run (step_of old mid new e ran.same comes) })

pub stopped_on : (events : List Event) (i : ℕ) (e : Event) (error : StepError) (old mid new : MachineValue) → new ≡ mid → slice_get events i ≡ Some e → Ran (take i events) old mid
    → (error ≡ NotLawful → ¬ IsLawful (setting_in mid) mid.system e) → (error ≡ HeapFull → IsFullForEvent e mid)
    → (error ≡ NoMemory → IsLawful (setting_in mid) mid.system e) → Stopped events i error old new
stopped_on events i e error old mid new is at ran unlawful full memory =
    subst (λ (m : MachineValue). Stopped events i error old m) (sym is) (record { event = e; there = at; ran = ran; unlawful = unlawful; full = full; memory = memory })

pub event_at : (xs : List Named) (i : ℕ) (d : Named) → i < length xs → slice_get (map event_of xs) i ≡ Some (event_of (slice_index_or xs i d))
event_at xs i d l = get-map event_of xs i (slice_index_or xs i d) (slice_get-get_or xs i d l)

-- what is left to do, of the collected objects
abbrev pub left_to_do : MachineValue → ℕ
left_to_do m = measure (setting_in m) (young_names_of m.heap.graph m.collection.generation) m.system

pub went_none : (m : MachineValue) → WentOn m m
went_none m = record { same = itself m; count = 0; run = finish.stay }

pub went_on : (old mid new : MachineValue) (event : Event) → WentOn old mid → next_lawful (setting_in mid) mid.system ≡ Some event → Comes event mid new → WentOn old new
went_on old mid new event went next comes =
    record {
      same = onward old mid new went.same comes.same;
      count = went.count + 1;
      run = stepped_more (setting_in old) event went.run (subst (λ s. next_lawful s mid.system ≡ Some event) (same_setting old mid went.same) next) (step_of old mid new event went.same comes);
    }

pub went_still : (old mid new : MachineValue) → WentOn old mid → new ≡ mid → WentOn old new
went_still old mid new went is = subst (λ (m : MachineValue). WentOn old m) (sym is) went

pub is_stuck : (mid new : MachineValue) (event : Event) → new ≡ mid → next_lawful (setting_in mid) mid.system ≡ Some event → IsFullForEvent event mid → IsStuck new
is_stuck mid new event is next full = subst (λ (m : MachineValue). IsStuck m) (sym is) (record { event = event; is_next = next; full = full })

-- what comes next makes it less
pub less_left : (mid new : MachineValue) (event : Event) → HasReached mid → next_lawful (setting_in mid) mid.system ≡ Some event → Comes event mid new → left_to_do new < left_to_do mid
less_left mid new event reached next comes =
    subst (λ h. Left h new.collection new.workers < left_to_do mid) (sym comes.same.heap)
    (subst (λ c. Left mid.heap c new.workers < left_to_do mid) (sym comes.same.collection)
    (subst (λ n. Left mid.heap mid.collection n < left_to_do mid) (sym comes.same.workers)
    (reached_falls (setting_in mid) _ mid.workers _ mid.heap.free mid.system reached (young_names_of mid.heap.graph mid.collection.generation)
    (young_covers mid.heap.graph mid.collection.generation mid.heap.config.shape mid.heap.config.block_words mid.workers) new.system event comes.step ((lawful_choice (setting_in mid)).no_wake mid.system event next))))
  where
    Left : HeapValue → CollectionValue → ℕ → ℕ
    Left heap c n = measure (setting_for heap c n) (young_names_of heap.graph c.generation) new.system
