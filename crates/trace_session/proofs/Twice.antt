-- A line that is carried out once generation 0 was collected for it.
use Rattle.std.proofs.Common.{◌≡◌, ℕ, ◌+◌, true, List, [], ◌++◌, Option, None, Some, Result, Ok, Err, refl, sym, ap, subst, ◌∙◌, ◌⊎◌, inl, inr, append-nil}
use Rattle.heap_text.specs.Streams.{Output, Appends}
use Rattle.heap_text.proofs.Streams.{Appends-nil, Appends-trans}
use Rattle.model.specs.declared.kind.Kind.{Kind}
use Rattle.model.specs.Config.{Config}
use Rattle.model.specs.Store.{Store, collected}
use Rattle.std.proofs.lemmas.Bool.{true≢false, and_parts}
use Rattle.std.specs.Prelude.{not, is_some}
use Rattle.model.specs.Commands.{Command, Outcome, room_in, is_large_size, New, Set, Put, Get, Drop, Collect, Census, Heap}
use Rattle.trace_text.specs.Grammar.{entry_of}
use Rattle.trace_session.specs.declared.trace_lines.fault.Fault.{Fault}
use Rattle.trace_session.specs.declared.trace_lines.fault.Fault.TheVariants.{BadTrace, BadSchedule, HeapFull, NoMemory, Unsettled, ReadFailed, WriteFailed}
use Rattle.trace_session.specs.declared.trace_lines.attempt.Attempt.{Attempt}
use Rattle.trace_session.specs.Attempts.{MatchAttempt}
use Rattle.trace_session.specs.CollectsFirst.{ReadCollectsFirst, LineCollectsFirst, auto_line}
use Rattle.trace_session.specs.Faults.{never, AtFault}
use Rattle.trace_session.specs.Outcome.{line_step}
use Rattle.trace_session.specs.Sound.{IsSoundTraceLine}
use Rattle.trace_session.specs.Stepped.{AtEach, StepsTo, Writes}
use Rattle.trace_session.proofs.SecondAttempt.{line_again}
use Rattle.trace_session.specs.Refusals.{MayBeFull, HasFullHeap, ReadWantsBlocks}

-- what a step writes, and the store that it leaves
abbrev text_of : Outcome → List ℕ
text_of (Ok done) = done.1
text_of (Err kind) = []

abbrev store_of : Store → Outcome → Store
store_of other (Ok done) = done.0
store_of other (Err kind) = other

-- what is known of an attempt whose answer is known
pub told : (P Q : Type 0) (a b : Attempt) → a ≡ b → MatchAttempt a P Q → MatchAttempt b P Q
told P Q a b is known = subst (λ x. MatchAttempt x P Q) is known

full_again : (n : ℕ) (config : Config) (store next : Store) (read : Result (Option Command) Kind) → ReadCollectsFirst config store read → ReadWantsBlocks n config next read → ReadCollectsFirst config next read
full_again n config store next (Err kind) first wants = first
full_again n config store next (Ok None) first wants = first
full_again n config store next (Ok (Some (New text m p q))) first (inl wants) = wants.0
full_again n config store next (Ok (Some (New text m p q))) first (inr lacks) =
    let small : not (is_large_size config (1 + p + q)) ≡ true = (and_parts (not (is_large_size config (1 + p + q))) (not (is_some (room_in config m (1 + p + q) store))) first).0 in
    let large : is_large_size config (1 + p + q) ≡ true = rw (← lacks.stands.config_is) lacks.lacks.large in
    absurd (true≢false (sym (rw large at small)))
full_again n config store next (Ok (Some (Set text i target))) first wants = absurd first
full_again n config store next (Ok (Some (Put text i value))) first wants = absurd first
full_again n config store next (Ok (Some (Get new_text text i))) first wants = absurd first
full_again n config store next (Ok (Some (Drop text))) first wants = absurd first
full_again n config store next (Ok (Some (Collect g))) first wants = absurd first
full_again n config store next (Ok (Some Census)) first wants = absurd first
full_again n config store next (Ok (Some Heap)) first wants = absurd first

pub wants_blocks : (n : ℕ) (config : Config) (store : Store) (read : Result (Option Command) Kind) → ReadCollectsFirst config store read → HasFullHeap n config store 0 → ReadWantsBlocks n config store read
wants_blocks n config store (Err kind) first short = absurd first
wants_blocks n config store (Ok None) first short = absurd first
wants_blocks n config store (Ok (Some (New text m p q))) first short = inl (first, short)
wants_blocks n config store (Ok (Some (Set text i target))) first short = absurd first
wants_blocks n config store (Ok (Some (Put text i value))) first short = absurd first
wants_blocks n config store (Ok (Some (Get new_text text i))) first short = absurd first
wants_blocks n config store (Ok (Some (Drop text))) first short = absurd first
wants_blocks n config store (Ok (Some (Collect g))) first short = absurd first
wants_blocks n config store (Ok (Some Census)) first short = absurd first
wants_blocks n config store (Ok (Some Heap)) first short = absurd first

-- of a line: what its attempts tell, where Full says when blocks may be wanting, and Made what is written where room is made
module _ (stands : Config → Store → Type 0) (number : ℕ) (line : List ℕ) (Full : Config → Store → Type 0) (Made : Config → Store → List ℕ → Type 0) {W : Type 0} (contents : W → Output) (old : W) where
  abbrev SoFar : Config → Store → List ℕ → Type 0
  SoFar config store written = IsSoundTraceLine config store line × ((written ≡ []) ⊎ (LineCollectsFirst config store line × Made config store written))

  -- what a fault of the line tells
  abbrev Tells : (new : W) (failed : Type 0) → Fault → Type 0
  Tells new failed e =
      AtFault (record never { trace = λ at kind. (at ≡ number) × AtEach stands (λ config store. (line_step config store line ≡ Err kind) × (new ≡ old)); full = λ at. (at ≡ Some number) × AtEach stands (λ config store. Full config store × (new ≡ old)); memory = λ at. (at ≡ Some number) × AtEach stands (λ config store. Writes (SoFar config store) (contents old) (contents new)); write = failed }) e

  -- where it says that the heap is full
  pub tells_full : (new : W) (failed : Type 0) (e : Fault) (at : Option ℕ) → e ≡ HeapFull at → Tells new failed e → AtEach stands Full
  tells_full new failed e at is told = λ config store there. ((subst (Tells new failed) is told).1 config store there).0

  pub silent : (config : Config) (store : Store) (new : W) → new ≡ old → IsSoundTraceLine config store line → Writes (SoFar config store) (contents old) (contents new)
  silent config store new same sound = record {
    written = [];
    held = subst (λ w. Appends (contents old) (contents w) []) (sym same) (Appends-nil (contents old));
    holds = (sound, inl refl);
  }

  -- a first attempt
  pub first_fault : {Lacks : Type 0} → ((config : Config) (store : Store) → MayBeFull 1 config store line → ¬ LineCollectsFirst config store line → Lacks → Full config store) → (new : W) (failed : Type 0) (e : Fault)
      → AtFault (record never { trace = λ at kind. (at ≡ number) × AtEach stands (λ config store. line_step config store line ≡ Err kind) × (new ≡ old); full = λ at. (at ≡ Some number) × Lacks × AtEach stands (λ config store. MayBeFull 1 config store line × ¬ LineCollectsFirst config store line) × (new ≡ old); memory = λ at. (at ≡ Some number) × AtEach stands (λ config store. IsSoundTraceLine config store line) × (new ≡ old); write = failed }) e
      → Tells new failed e
  first_fault full new failed (BadTrace at kind) f = (f.0, λ config store there. (f.1 config store there, f.2))
  first_fault full new failed (BadSchedule at kind) f = f
  first_fault full new failed (HeapFull at) f = (f.0, λ config store there. let may = f.2 config store there in (full config store may.0 may.1 f.1, f.3))
  first_fault full new failed (NoMemory at) f = (f.0, λ config store there. silent config store new f.2 (f.1 config store there))
  first_fault full new failed (Unsettled line) f = absurd f
  first_fault full new failed ReadFailed f = f
  first_fault full new failed WriteFailed f = f

  -- a line that wants room first
  module _ (wants : AtEach stands (λ config store. IsSoundTraceLine config store line × LineCollectsFirst config store line)) where
    -- where no room was made, though nothing had changed
    pub room_fault : (before : W) → before ≡ old → (Short : Type 0) → ((config : Config) (store : Store) → stands config store → IsSoundTraceLine config store line → LineCollectsFirst config store line → Short → Full config store)
        → {S : Type 0} (session session' : S) (new : W) (failed failed' : Type 0) → (failed → failed') → (e : Fault)
        → AtFault (record never { full = λ at. (at ≡ Some number) × Short × (session' ≡ session) × (new ≡ before); memory = λ at. (at ≡ Some number) × (session' ≡ session) × (new ≡ before); write = failed }) e
        → Tells new failed' e
    room_fault before same Short full session session' new failed failed' told (BadTrace at kind) f = absurd f
    room_fault before same Short full session session' new failed failed' told (BadSchedule at kind) f = f
    room_fault before same Short full session session' new failed failed' told (HeapFull at) f = (
      f.0,
      λ config store there.
          let w = wants config store there in
          (full config store there w.0 w.1 f.1, f.3 ∙ same),
    )
    room_fault before same Short full session session' new failed failed' told (NoMemory at) f = (f.0, λ config store there. silent config store new (f.2 ∙ same) (wants config store there).0)
    room_fault before same Short full session session' new failed failed' told (Unsettled line) f = absurd f
    room_fault before same Short full session session' new failed failed' told ReadFailed f = f
    room_fault before same Short full session session' new failed failed' told WriteFailed f = told f

    -- where room was made, in a session that stands for what the collection leaves
    module _ (mid : Config → Store → Type 0) (between : Output) (room : AtEach stands (λ config store. mid config (collected config 0 store) × Writes (Made config store) (contents old) between)) where
      -- what the second attempt does, and that it writes nothing
      pub done_twice : (last : Config → Store → Type 0) (new : Output) → AtEach mid (λ config store. StepsTo last config (line_step config store line) between new)
          → AtEach stands (λ config store. (next : Store) × ((line_step config store line ≡ Ok (next, auto_line store)) × last config next × Writes (Made config store) (contents old) new))
      done_twice last new steps = λ config store there.
          let w = wants config store there in
          let made = room config store there in
          let again = line_again config store line w.1 w.0 in
          let done = steps config (collected config 0 store) made.0 in
          let both : Ok (again.next, []) ≡ Ok (done.next, done.out) = sym again.there_is ∙ done.steps in
          let nothing : done.out ≡ [] = sym (ap text_of both) in
          let same : done.next ≡ again.next = sym (ap (store_of again.next) both) in
          let own = made.1 in
          let all : Appends (contents old) new (own.written ++ done.out) = Appends-trans (contents old) between new own.written done.out own.held done.held in
          (done.next, (rw same again.here_is, done.stands', record { written = own.written; held = subst (λ out. Appends (contents old) new out) (ap (λ out. own.written ++ out) nothing ∙ append-nil own.written) all; holds = own.holds }))

      -- there is room now
      pub no_full_twice : AtEach mid (λ config store. IsSoundTraceLine config store line × LineCollectsFirst config store line) → (P : Config → Store → Type 0) → AtEach stands P
      no_full_twice full P = λ config store there.
          let w = wants config store there in
          let again = line_again config store line w.1 w.0 in
          absurd (again.has_room (full config (collected config 0 store) (room config store there).0).1)

      pub second_fault : (Lacks : Type 0) (before new : W) (failed failed' : Type 0) → contents before ≡ between → (failed → failed') → (e : Fault)
          → AtFault (record never { trace = λ at kind. (at ≡ number) × AtEach mid (λ config store. line_step config store line ≡ Err kind) × (new ≡ before); full = λ at. (at ≡ Some number) × Lacks × AtEach mid (λ config store. MayBeFull 1 config store line × ¬ LineCollectsFirst config store line) × (new ≡ before); memory = λ at. (at ≡ Some number) × AtEach mid (λ config store. IsSoundTraceLine config store line) × (new ≡ before); write = failed }) e
          → Tells new failed' e
      second_fault Lacks before new failed failed' same told (BadTrace at kind) f = (
        f.0,
        λ config store there.
            let w = wants config store there in
            let again = line_again config store line w.1 w.0 in
            let both : Ok (again.next, []) ≡ Err kind = sym again.there_is ∙ f.1 config (collected config 0 store) (room config store there).0 in
            absurd (cc),
      )
      second_fault Lacks before new failed failed' same told (BadSchedule at kind) f = f
      second_fault Lacks before new failed failed' same told (HeapFull at) f = (
        f.0,
        λ config store there.
            let w = wants config store there in
            let may = f.2 config (collected config 0 store) (room config store there).0 in
            absurd (may.1 (full_again 1 config store (collected config 0 store) (entry_of line) w.1 may.0.wants)),
      )
      second_fault Lacks before new failed failed' same told (NoMemory at) f = (
        f.0,
        λ config store there.
            let w = wants config store there in
            let own = (room config store there).1 in
            record {
              written = own.written;
              held = subst (λ v. Appends (contents old) (contents v) own.written) (sym f.2) (subst (λ c. Appends (contents old) c own.written) (sym same) own.held);
              holds = (w.0, inr (w.1, own.holds));
            },
      )
      second_fault Lacks before new failed failed' same told (Unsettled line) f = absurd f
      second_fault Lacks before new failed failed' same told ReadFailed f = f
      second_fault Lacks before new failed failed' same told WriteFailed f = told f
