-- A line that is a command does what the command does.
use Rattle.std.proofs.Common.{◌≡◌, ℕ, List, [], Option, Some, None, Result, Ok, Err, refl, sym, subst, ap, ◌∙◌}
use Rattle.std.specs.Prelude.{IfOk, IfErr, is_ok}
use Rattle.heap_text.specs.Streams.{Output}
use Rattle.heap_text.proofs.Streams.{Appends-nil}
use Rattle.model.specs.declared.kind.Kind.{Kind}
use Rattle.model.specs.Config.{Config}
use Rattle.model.specs.Store.{Store}
use Rattle.model.specs.Commands.{Command, New, Set, Put, Get, Drop, Collect, Census, Heap}
use Rattle.trace_text.specs.Grammar.{entry_of, ◌>>=◌}
use Rattle.trace_session.specs.declared.trace_lines.fault.Fault.{Fault}
use Rattle.trace_session.specs.declared.trace_lines.fault.Fault.TheVariants.{BadTrace, BadSchedule, HeapFull, NoMemory, Unsettled, ReadFailed, WriteFailed}
use Rattle.trace_session.specs.declared.trace_lines.attempt.Attempt.{Attempt}
use Rattle.trace_session.specs.declared.trace_lines.attempt.Attempt.TheVariants.{Done, NurseryFull}
use Rattle.trace_session.specs.Attempts.{MatchAttempt}
use Rattle.trace_session.specs.CollectsFirst.{CollectsFirst, ReadCollectsFirst, LineCollectsFirst}
use Rattle.trace_session.specs.Faults.{never, AtFault}
use Rattle.trace_session.specs.Outcome.{line_step, entry_step, command_step}
use Rattle.trace_session.specs.Sound.{IsSoundTraceLine, IsSoundCommand}
use Rattle.trace_session.specs.Stepped.{AtEach, StepsTo, StepsQuietly}
use Rattle.trace_session.specs.Refusals.{MayBeFull, CommandMayBeFull, ReadWantsBlocks, LacksBlocks, IsFullFor}
use Rattle.trace_session.specs.SessionType.{Session}
use Rattle.trace_session.specs.Commands.{MakesNone, IsNoCollection}
use Rattle.heap.specs.HeapValue.{HeapValue}
use Rattle.trace_session.specs.Does.{Rooted, Does, LineDoes}

pub line_is : (config : Config) (store : Store) (line : List ℕ) (command : Command) → entry_of line ≡ Ok (Some command) → line_step config store line ≡ command_step config store command
unfolding line_step
line_is config store line command says = ap (λ (read : Result (Option Command) Kind). read >>= entry_step config store) says

pub line_sound : (config : Config) (store : Store) (line : List ℕ) (command : Command) → entry_of line ≡ Ok (Some command) → IsSoundCommand config store command → IsSoundTraceLine config store line
line_sound config store line command says sound = ap is_ok (line_is config store line command says) ∙ sound

line_full : (config : Config) (store : Store) (line : List ℕ) (command : Command) → entry_of line ≡ Ok (Some command) → CommandMayBeFull 1 config store command → MayBeFull 1 config store line
line_full config store line command says may = record {
  sound = line_sound config store line command says may.sound;
  wants = subst (ReadWantsBlocks 1 config store) (sym says) may.wants;
}

-- a command that makes no object collects nothing first
makes_none : (config : Config) (store : Store) (command : Command) → MakesNone command → ¬ CollectsFirst config store command
makes_none config store (New text m p q) none = absurd none
makes_none config store (Set text i target) none = λ first. first
makes_none config store (Put text i value) none = λ first. first
makes_none config store (Get new_text text i) none = λ first. first
makes_none config store (Drop text) none = λ first. first
makes_none config store (Collect g) none = λ first. first
makes_none config store Census none = λ first. first
makes_none config store Heap none = λ first. first

-- a line that is a command does to the heap what that does
module _ (heap : HeapValue) (names : Rooted) (after : HeapValue) (names' : Rooted) (line : List ℕ) where
  pub command_does : (command : Command) → entry_of line ≡ Ok (Some command) → (IsNoCollection (Ok (Some command)) → Does heap names command after names') → IsNoCollection (entry_of line) → LineDoes heap names (entry_of line) after names'
  command_does command says does = subst (λ read. IsNoCollection read → LineDoes heap names read after names') (sym says) does

  pub new_does : (command : Command) → entry_of line ≡ Ok (Some command) → (r : Result Attempt Fault) → IfOk r (λ a. MatchAttempt a (Does heap names command after names') (Unit {0}))
      → IfOk r (λ a. MatchAttempt a (IsNoCollection (entry_of line) → LineDoes heap names (entry_of line) after names') (Unit {0}))
  new_does command says (Ok Done) does = command_does command says (λ plain. does)
  new_does command says (Ok NurseryFull) does = tt
  new_does command says (Err e) does = tt

-- a command that shows what is there
pub shows_unchanged : {A : Type 0} (before after : Session A) (command : Command) → after ≡ before → Does before.heap before.names command before.heap before.names → Does before.heap before.names command after.heap after.names
shows_unchanged before after command same does = subst (λ s. Does before.heap before.names command s.heap s.names) (sym same) does

-- a line that is nothing changes nothing
pub nothing_does : (heap : HeapValue) (names : Rooted) (line : List ℕ) → entry_of line ≡ Ok None → LineDoes heap names (entry_of line) heap names
nothing_does heap names line says = subst (λ read. LineDoes heap names read heap names) (sym says) (refl, refl)

-- a line that is a new object
pub new_line : (stands stands' : Config → Store → Type 0) (line : List ℕ) (command : Command) → entry_of line ≡ Ok (Some command) → (held : Output) (r : Result Attempt Fault)
    → IfOk r (λ a. AtEach stands (λ config store. MatchAttempt a (StepsQuietly stands' config (command_step config store command) × ¬ CollectsFirst config store command) (IsSoundCommand config store command × CollectsFirst config store command)))
    → IfOk r (λ a. AtEach stands (λ config store. MatchAttempt a (StepsTo stands' config (line_step config store line) held held × ¬ LineCollectsFirst config store line) (IsSoundTraceLine config store line × LineCollectsFirst config store line)))
new_line stands stands' line command says held (Ok Done) steps = λ config store there.
    let done = steps config store there in
    (record { next = done.0.next; out = []; steps = line_is config store line command says ∙ done.0.steps; stands' = done.0.stands'; held = Appends-nil held }, λ first. done.1 (subst (ReadCollectsFirst config store) says first))
new_line stands stands' line command says held (Ok NurseryFull) full = λ config store there.
    let f = full config store there in
    (line_sound config store line command says f.0, subst (ReadCollectsFirst config store) (sym says) f.1)
new_line stands stands' line command says held (Err e) f = tt

-- a new object that may not be made
pub new_fault : {A : Type 0} (session : Session A) (stands : Config → Store → Type 0) (number : ℕ) (line text : List ℕ) (m p q : ℕ) → entry_of line ≡ Ok (Some (New text m p q)) → {W : Type 0} (held : W) (written : Type 0) (r : Result Attempt Fault)
    → IfErr r (AtFault (record never { trace = λ at kind. (at ≡ number) × AtEach stands (λ config store. command_step config store (New text m p q) ≡ Err kind); full = λ at. (at ≡ Some number) × LacksBlocks session.heap p q × AtEach stands (λ config store. CommandMayBeFull 1 config store (New text m p q) × ¬ CollectsFirst config store (New text m p q)); memory = λ at. (at ≡ Some number) × AtEach stands (λ config store. IsSoundCommand config store (New text m p q)) }))
    → IfErr r (AtFault (record never { trace = λ at kind. (at ≡ number) × AtEach stands (λ config store. line_step config store line ≡ Err kind) × (held ≡ held); full = λ at. (at ≡ Some number) × IsFullFor 1 session.heap (entry_of line) × AtEach stands (λ config store. MayBeFull 1 config store line × ¬ LineCollectsFirst config store line) × (held ≡ held); memory = λ at. (at ≡ Some number) × AtEach stands (λ config store. IsSoundTraceLine config store line) × (held ≡ held); write = written }))
new_fault session stands number line text m p q says held written (Ok a) facts = tt
new_fault session stands number line text m p q says held written (Err (BadTrace at kind)) facts = (facts.0, λ config store there. line_is config store line (New text m p q) says ∙ facts.1 config store there, refl)
new_fault session stands number line text m p q says held written (Err (BadSchedule at kind)) facts = absurd facts
new_fault session stands number line text m p q says held written (Err (HeapFull at)) facts = (
  facts.0,
  subst (IsFullFor 1 session.heap) (sym says) facts.1,
  λ config store there. let may = facts.2 config store there in (line_full config store line (New text m p q) says may.0, λ first. may.1 (subst (ReadCollectsFirst config store) says first)),
  refl,
)
new_fault session stands number line text m p q says held written (Err (NoMemory at)) facts = (facts.0, λ config store there. line_sound config store line (New text m p q) says (facts.1 config store there), refl)
new_fault session stands number line text m p q says held written (Err (Unsettled at)) facts = absurd facts
new_fault session stands number line text m p q says held written (Err ReadFailed) facts = absurd facts
new_fault session stands number line text m p q says held written (Err WriteFailed) facts = absurd facts

module _ {A : Type 0} (session : Session A) (stands : Config → Store → Type 0) (number : ℕ) (line : List ℕ) (command : Command) (says : entry_of line ≡ Ok (Some command)) {W : Type 0} (old new : W) (written : Type 0) where
  pub line_fault : (e : Fault)
      → AtFault (record never { trace = λ at kind. (at ≡ number) × AtEach stands (λ config store. command_step config store command ≡ Err kind) × (new ≡ old); full = λ at. (at ≡ Some number) × MakesNone command × IsFullFor 1 session.heap (Ok (Some command)) × AtEach stands (λ config store. CommandMayBeFull 1 config store command) × (new ≡ old); memory = λ at. (at ≡ Some number) × AtEach stands (λ config store. IsSoundCommand config store command) × (new ≡ old); write = written }) e
      → AtFault (record never { trace = λ at kind. (at ≡ number) × AtEach stands (λ config store. line_step config store line ≡ Err kind) × (new ≡ old); full = λ at. (at ≡ Some number) × IsFullFor 1 session.heap (entry_of line) × AtEach stands (λ config store. MayBeFull 1 config store line × ¬ LineCollectsFirst config store line) × (new ≡ old); memory = λ at. (at ≡ Some number) × AtEach stands (λ config store. IsSoundTraceLine config store line) × (new ≡ old); write = written }) e
  line_fault (BadTrace at kind) facts = (facts.0, λ config store there. line_is config store line command says ∙ facts.1 config store there, facts.2)
  line_fault (BadSchedule at kind) facts = absurd facts
  line_fault (HeapFull at) facts = (
    facts.0,
    subst (IsFullFor 1 session.heap) (sym says) facts.2,
    λ config store there. (line_full config store line command says (facts.3 config store there), λ first. makes_none config store command facts.1 (subst (ReadCollectsFirst config store) says first)),
    facts.4,
  )
  line_fault (NoMemory at) facts = (facts.0, λ config store there. line_sound config store line command says (facts.1 config store there), facts.2)
  line_fault (Unsettled at) facts = absurd facts
  line_fault ReadFailed facts = facts
  line_fault WriteFailed facts = facts
