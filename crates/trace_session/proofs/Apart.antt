-- What a fault tells of a line whose collections are those of workers on threads of their own.
use Rattle.std.proofs.Common.{◌≡◌, ℕ, List, Option, Some, None, Result, Ok, Err, refl, sym, subst, ◌∙◌, inl, inr}
use Rattle.std.specs.Prelude.{OnOk, IfErr}
use Rattle.heap_text.specs.Streams.{Output}
use Rattle.model.specs.declared.kind.Kind.{Kind}
use Rattle.model.specs.Config.{Config}
use Rattle.model.specs.Store.{Store}
use Rattle.model.specs.Commands.{Command, New, Set, Put, Get, Drop, Collect, Census, Heap}
use Rattle.heap.specs.HeapValue.{HeapValue}
use Rattle.collector.specs.declared.apart.CellKind.{CellKind}
use Rattle.collector.specs.declared.apart.CellKind.TheVariants as kinds
use Rattle.trace_text.specs.Grammar.{entry_of}
use Rattle.trace_session.specs.declared.trace_lines.fault.Fault.{Fault}
use Rattle.trace_session.specs.declared.trace_lines.fault.Fault.TheVariants.{BadTrace, BadSchedule, HeapFull, NoMemory, Unsettled, ReadFailed, WriteFailed}
use Rattle.trace_session.specs.CollectsFirst.{ReadCollectsFirst, LineCollectsFirst, IsSoundSoFar, auto_line}
use Rattle.trace_session.specs.Commands.{IsNoCollection}
use Rattle.trace_session.specs.Faults.{never, AtFault}
use Rattle.trace_session.specs.Outcome.{line_step, command_step}
use Rattle.trace_session.specs.Sound.{IsSoundTraceLine, IsSoundCommand}
use Rattle.trace_session.specs.Stepped.{AtEach, StepsTo, Writes}
use Rattle.trace_session.specs.Refusals.{IsFullFor, IsFullForLine, ReadWantsBlocks, CommandMayBeFull, MayBeFull, IsFullToCollect}
use Rattle.trace_session.proofs.CommandLine.{line_is, line_sound}
use Rattle.trace_session.proofs.Twice.{silent}

-- there are two kinds of cells
pub must_be_box : (k : CellKind) → ¬ (k ≡ kinds.Word) → k ≡ kinds.Box
must_be_box kinds.Box not_word = refl
must_be_box kinds.Word not_word = absurd (not_word refl)

-- what follows from a fault where no thread shares cells follows where some do, if it does where cells are unsettled
pub tells_apart : (trace trace' : ℕ → Kind → Type 0) (full full' memory memory' : Option ℕ → Type 0) (unsettled unsettled' : ℕ → Type 0) (read read' write write' : Type 0) (e : Fault)
    → (AtFault (record never { trace = trace; full = full; memory = memory; read = read; write = write }) e → AtFault (record never { trace = trace'; full = full'; memory = memory'; read = read'; write = write' }) e)
    → ((at : ℕ) → unsettled at → unsettled' at)
    → AtFault (record never { trace = trace; full = full; memory = memory; unsettled = unsettled; read = read; write = write }) e → AtFault (record never { trace = trace'; full = full'; memory = memory'; unsettled = unsettled'; read = read'; write = write' }) e
tells_apart trace trace' full full' memory memory' unsettled unsettled' read read' write write' (BadTrace at kind) others unsettled_too f = others f
tells_apart trace trace' full full' memory memory' unsettled unsettled' read read' write write' (BadSchedule at kind) others unsettled_too f = absurd f
tells_apart trace trace' full full' memory memory' unsettled unsettled' read read' write write' (HeapFull at) others unsettled_too f = others f
tells_apart trace trace' full full' memory memory' unsettled unsettled' read read' write write' (NoMemory at) others unsettled_too f = others f
tells_apart trace trace' full full' memory memory' unsettled unsettled' read read' write write' (Unsettled at) others unsettled_too f = unsettled_too at f
tells_apart trace trace' full full' memory memory' unsettled unsettled' read read' write write' ReadFailed others unsettled_too f = others f
tells_apart trace trace' full full' memory memory' unsettled unsettled' read read' write write' WriteFailed others unsettled_too f = others f

-- where no thread shared cells none are unsettled
pub never_unsettled : (trace : ℕ → Kind → Type 0) (full memory : Option ℕ → Type 0) (unsettled : ℕ → Type 0) (read write : Type 0) (e : Fault) → AtFault (record never { trace = trace; full = full; memory = memory; read = read; write = write }) e → AtFault (record never { trace = trace; full = full; memory = memory; unsettled = unsettled; read = read; write = write }) e
never_unsettled trace full memory unsettled read write (BadTrace at kind) f = f
never_unsettled trace full memory unsettled read write (BadSchedule at kind) f = f
never_unsettled trace full memory unsettled read write (HeapFull at) f = f
never_unsettled trace full memory unsettled read write (NoMemory at) f = f
never_unsettled trace full memory unsettled read write (Unsettled at) f = absurd f
never_unsettled trace full memory unsettled read write ReadFailed f = f
never_unsettled trace full memory unsettled read write WriteFailed f = f

-- the blocks that are wanting for what is no collection, and collects nothing first, are wanting however many workers collect
pub wants_by_any : (n : ℕ) (config : Config) (store : Store) (read : Result (Option Command) Kind) → IsNoCollection read → ¬ ReadCollectsFirst config store read → ReadWantsBlocks 1 config store read → ReadWantsBlocks n config store read
wants_by_any n config store (Err kind) plain later wants = absurd wants
wants_by_any n config store (Ok None) plain later wants = absurd wants
wants_by_any n config store (Ok (Some (New text m p q))) plain later (inl wants) = absurd (later wants.0)
wants_by_any n config store (Ok (Some (New text m p q))) plain later (inr lacks) = inr lacks
wants_by_any n config store (Ok (Some (Set text i target))) plain later wants = absurd wants
wants_by_any n config store (Ok (Some (Put text i value))) plain later wants = absurd wants
wants_by_any n config store (Ok (Some (Get new_text text i))) plain later wants = absurd wants
wants_by_any n config store (Ok (Some (Drop text))) plain later wants = absurd wants
wants_by_any n config store (Ok (Some (Collect g))) plain later wants = absurd plain
wants_by_any n config store (Ok (Some Census)) plain later wants = absurd wants
wants_by_any n config store (Ok (Some Heap)) plain later wants = absurd wants

pub full_by_any : (n : ℕ) (heap : HeapValue) (read : Result (Option Command) Kind) → IsNoCollection read → IsFullFor 1 heap read → IsFullFor n heap read
full_by_any n heap (Err kind) plain full = absurd full
full_by_any n heap (Ok None) plain full = absurd full
full_by_any n heap (Ok (Some (New text m p q))) plain full = full
full_by_any n heap (Ok (Some (Set text i target))) plain full = absurd full
full_by_any n heap (Ok (Some (Put text i value))) plain full = absurd full
full_by_any n heap (Ok (Some (Get new_text text i))) plain full = absurd full
full_by_any n heap (Ok (Some (Drop text))) plain full = absurd full
full_by_any n heap (Ok (Some (Collect g))) plain full = absurd plain
full_by_any n heap (Ok (Some Census)) plain full = absurd full
full_by_any n heap (Ok (Some Heap)) plain full = absurd full

pub may_by_any : (n : ℕ) (config : Config) (store : Store) (line : List ℕ) → IsNoCollection (entry_of line) → ¬ LineCollectsFirst config store line → MayBeFull 1 config store line → MayBeFull n config store line
may_by_any n config store line plain later may = record { sound = may.sound; wants = wants_by_any n config store (entry_of line) plain later may.wants }

-- a line that is a command to collect
module _ (line : List ℕ) (g : ℕ) (says : entry_of line ≡ Ok (Some (Collect g))) (stands : Config → Store → Type 0) where
  pub collects_line : {X E : Type 0} (r : Result X E) (stands' : Config → Store → Type 0) (old new : Output) → OnOk r (AtEach stands (λ config store. StepsTo stands' config (command_step config store (Collect g)) old new)) → OnOk r (AtEach stands (λ config store. StepsTo stands' config (line_step config store line) old new))
  collects_line (Ok x) stands' old new steps = λ config store there. subst (λ step. StepsTo stands' config step old new) (sym (line_is config store line (Collect g) says)) (steps config store there)
  collects_line (Err e) stands' old new steps = tt

  module _ (n number : ℕ) (heap : HeapValue) (box : Type 0) {W : Type 0} (contents : W → Output) (old new : W) (written : Type 0) where
    -- what a fault of the collection tells
    abbrev OfCollection : Fault → Type 0
    OfCollection e =
        AtFault (record never { trace = λ at kind. (at ≡ number) × AtEach stands (λ config store. command_step config store (Collect g) ≡ Err kind) × (new ≡ old); full = λ at. (at ≡ Some number) × IsFullToCollect heap g n × AtEach stands (λ config store. CommandMayBeFull n config store (Collect g)) × (new ≡ old); memory = λ at. (at ≡ Some number) × AtEach stands (λ config store. IsSoundCommand config store (Collect g)) × (new ≡ old); unsettled = λ at. (at ≡ number) × box × AtEach stands (λ config store. IsSoundCommand config store (Collect g)) × (new ≡ old); write = written }) e

    fault_of_collect : (e : Fault) → OfCollection e
        → AtFault (record never { trace = λ at kind. (at ≡ number) × AtEach stands (λ config store. (line_step config store line ≡ Err kind) × (new ≡ old)); full = λ at. (at ≡ Some number) × AtEach stands (λ config store. MayBeFull n config store line × (new ≡ old)); memory = λ at. (at ≡ Some number) × AtEach stands (λ config store. Writes (IsSoundSoFar config store line) (contents old) (contents new)); unsettled = λ at. (at ≡ number) × box × AtEach stands (λ config store. IsSoundTraceLine config store line × (new ≡ old)); write = written }) e
    fault_of_collect (BadTrace at kind) f = (f.0, λ config store there. (line_is config store line (Collect g) says ∙ f.1 config store there, f.2))
    fault_of_collect (BadSchedule at kind) f = absurd f
    fault_of_collect (HeapFull at) f = (
      f.0,
      λ config store there. let may = f.2 config store there in (record { sound = line_sound config store line (Collect g) says may.sound; wants = subst (ReadWantsBlocks n config store) (sym says) may.wants }, f.3),
    )
    fault_of_collect (NoMemory at) f = (
      f.0,
      λ config store there. silent stands number line (λ c s. ⊥) (λ c s w. w ≡ auto_line s) contents old config store new f.2 (line_sound config store line (Collect g) says (f.1 config store there)),
    )
    fault_of_collect (Unsettled at) f = (f.0, f.1, λ config store there. (line_sound config store line (Collect g) says (f.2 config store there), f.3))
    fault_of_collect ReadFailed f = absurd f
    fault_of_collect WriteFailed f = f

    pub faults_of_collect : {X : Type 0} (r : Result X Fault) → IfErr r OfCollection
        → IfErr r (AtFault (record never { trace = λ at kind. (at ≡ number) × AtEach stands (λ config store. (line_step config store line ≡ Err kind) × (new ≡ old)); full = λ at. (at ≡ Some number) × AtEach stands (λ config store. MayBeFull n config store line × (new ≡ old)); memory = λ at. (at ≡ Some number) × AtEach stands (λ config store. Writes (IsSoundSoFar config store line) (contents old) (contents new)); unsettled = λ at. (at ≡ number) × box × AtEach stands (λ config store. IsSoundTraceLine config store line × (new ≡ old)); write = written }))
    faults_of_collect (Ok x) f = tt
    faults_of_collect (Err e) f = fault_of_collect e f

    -- where it says that the heap is full
    pub with_full : {X : Type 0} (r : Result X Fault) (at : Option ℕ) → r ≡ Err (HeapFull at) → IfErr r OfCollection → AtEach stands (λ config store. IsFullForLine n heap config store line)
    with_full r at is f = λ config store there. inl (subst (IsFullFor n heap) (sym says) (subst (λ x. IfErr x OfCollection) is f).1)

-- what is told where it says that the heap is full
pub full_of : (trace : ℕ → Kind → Type 0) (full memory : Option ℕ → Type 0) (unsettled : ℕ → Type 0) (read write : Type 0) (e : Fault) (at : Option ℕ) → e ≡ HeapFull at → AtFault (record never { trace = trace; full = full; memory = memory; unsettled = unsettled; read = read; write = write }) e → full at
full_of trace full memory unsettled read write e at is f = subst (λ x. AtFault (record never { trace = trace; full = full; memory = memory; unsettled = unsettled; read = read; write = write }) x) is f
