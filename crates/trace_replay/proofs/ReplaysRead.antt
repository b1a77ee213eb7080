-- A replay goes on by one line that is read, and stops at one.
use Rattle.std.proofs.Common.{◌≡◌, ℕ, ◌+◌, ◌<◌, ◌≤◌, List, [], ◌∷◌, ◌++◌, length, Some, None, Ok, Err, refl, sym, subst, arith}
use Rattle.std.specs.Prelude.{MatchOption, IsTrue}
use Rattle.heap_text.specs.Streams.{Input, Output, Appends, OfGiven, OfInput}
use Rattle.heap_text.proofs.Streams.{Gives-nil, Appends-nil}
use Rattle.model.specs.declared.kind.Kind.TheVariants.{LineTooLong, UnfinishedLine}
use Rattle.model.specs.Commands.{Collect}
use Rattle.trace_text.specs.Grammar.{entry_of}
use Rattle.trace_session.specs.declared.trace_lines.fault.Fault.{Fault}
use Rattle.trace_session.specs.declared.trace_lines.fault.Fault.TheVariants.{BadTrace, BadSchedule, HeapFull, NoMemory, Unsettled, ReadFailed, WriteFailed}
use Rattle.trace_session.specs.Faults.{never, AtFault}
use Rattle.trace_session.specs.Lines.{LinesValue, Moves, Cuts, Waits}
use Rattle.trace_session.specs.Pieces.{finished, pieces}
use Rattle.trace_session.specs.Outcome.{line_step}
use Rattle.trace_session.specs.Stepped.{AtEach, Writes}
use Rattle.trace_session.specs.declared.session.Session.{Session}
use Rattle.trace_session.specs.Session.{Stands}
use Rattle.trace_session.proofs.LineLemmas.{Moves-trans, OfInput-here}
use Rattle.trace_replay.specs.Replays.{state_of, CollectsTo, LineReplayed, ReplaysTo, ReplaysAll}
use Rattle.trace_replay.specs.ReplayStops.{AfterCollect, HasTraceFault, HasScheduleFault, WantsRoom, WantsBlocks, IsLineSoFar, IsSoundAt, Quietly, StopsIn, LeavesNothingWhole, ReplaysWholeIn, outside}
use Rattle.trace_replay.specs.ReplayStops as stops
use Rattle.trace_session.proofs.LineLemmas.{at_line, at_wait, OfInput-map, OfGiven-map, moves_as, stops_pending, stops_ended, given_moved, stops_after, given_after}
use Rattle.trace_session.proofs.PieceLemmas.{begins_long, no_whole_lines}
use Rattle.trace_replay.proofs.LineByLine as by_text

-- ---- the line that was cut off last

module _ {A : Type 0} (old : Session A) (n number : ℕ) (line : List ℕ) (a : LinesValue) (line_is : line ≡ a.line) where
  -- it is no collection
  pub goes_by_line : (new : Session A) (i : Input) (printed printed' : Output)
      → AtEach (Stands old) (λ config store. LineReplayed new config n (state_of old store) line printed printed')
      → Moves a a i i (λ text rest. AtEach (Stands old) (λ config store. ReplaysTo new config n (state_of old store) number (finished a.line ∷ pieces text) (number + 1) rest printed printed'))
  goes_by_line new i printed printed' done = record {
    bytes = [];
    gave = Gives-nil i;
    reads = omega arith;
    holds = λ more config store stands. by_text.goes_by_line config n new (state_of old store) number a.line (a.pending ++ more) printed printed'
        (subst (λ l. LineReplayed new config n (state_of old store) l printed printed') line_is (done config store stands));
  }

  pub goes_by_schedule : (new : Session A) (g : ℕ) (b : LinesValue) (i j : Input) (number' : ℕ) (printed printed' : Output) → entry_of line ≡ Ok (Some (Collect g))
      → Moves a b i j (λ text rest. AtEach (Stands old) (λ config store. CollectsTo new config n g (state_of old store) number text number' rest printed printed'))
      → Moves a b i j (λ text rest. AtEach (Stands old) (λ config store. ReplaysTo new config n (state_of old store) number (finished a.line ∷ pieces text) number' rest printed printed'))
  goes_by_schedule new g b i j number' printed printed' asks to = moves_as a b i j to (λ text rest h config store stands.
      by_text.goes_by_schedule config n new (state_of old store) number g a.line text number' rest printed printed'
      (subst (λ l. entry_of l ≡ Ok (Some (Collect g))) line_is asks) (h config store stands))

  module _ {W : Type 0} (contents : W → Output) (before new : W) (written : Type 0) where
    pub fault_of_line : (read : Type 0) (i : Input) (e : Fault)
        → AtFault (record never { trace = λ at kind. (at ≡ number) × AtEach (Stands old) (λ config store. (line_step config store line ≡ Err kind) × (new ≡ before)); full = λ at. (at ≡ Some number) × AtEach (Stands old) (λ config store. WantsRoom config n (state_of old store) line × (new ≡ before)); memory = λ at. (at ≡ Some number) × AtEach (Stands old) (λ config store. Writes (IsLineSoFar config n (state_of old store) line) (contents before) (contents new)); write = written }) e
        → AtFault (record never { trace = λ at kind. OfInput a.pending i i (λ text. AtEach (Stands old) (λ config store. HasTraceFault config n kind (state_of old store) number (finished a.line ∷ pieces text) at × (new ≡ before))); schedule = λ at kind. OfInput a.pending i i (λ text. AtEach (Stands old) (λ config store. HasScheduleFault config n kind (state_of old store) number (finished a.line ∷ pieces text) at × (new ≡ before))); full = λ at. MatchOption at ⊥ (λ k. OfInput a.pending i i (λ text. AtEach (Stands old) (λ config store. WantsBlocks config n (state_of old store) number (finished a.line ∷ pieces text) k × (new ≡ before)))); memory = λ at. MatchOption at ⊥ (λ k. OfInput a.pending i i (λ text. AtEach (Stands old) (λ config store. Writes (IsSoundAt config n (state_of old store) number (finished a.line ∷ pieces text) k) (contents before) (contents new)))); read = read; write = written }) e
    fault_of_line read i (BadTrace at kind) f = OfInput-here a i (λ text config store stands.
        let fault = f.1 config store stands in
        (outside {p = finished a.line} refl f.0 (subst (λ l. line_step config store l ≡ Err kind) line_is fault.0), fault.1))
    fault_of_line read i (BadSchedule at kind) f = absurd f
    fault_of_line read i (HeapFull None) f = absurd (let is = f.0 in cc)
    fault_of_line read i (HeapFull (Some at)) f = OfInput-here a i (λ text config store stands.
        let fault = f.1 config store stands in
        (stops.outside {line = a.line} refl (let is = f.0 in cc) (subst (λ l. WantsRoom config n (state_of old store) l) line_is fault.0), fault.1))
    fault_of_line read i (NoMemory None) f = absurd (let is = f.0 in cc)
    fault_of_line read i (NoMemory (Some at)) f = OfInput-here a i (λ text config store stands.
        let own = f.1 config store stands in
        record {
          written = own.written;
          held = own.held;
          holds = stops.outside {line = a.line} refl (let is = f.0 in cc) (subst (λ l. IsLineSoFar config n (state_of old store) l own.written) line_is own.holds);
        })
    fault_of_line read i (Unsettled at) f = absurd f
    fault_of_line read i ReadFailed f = absurd f
    fault_of_line read i WriteFailed f = f

    -- that of a line with its schedule
    pub fault_of_schedule : (g : ℕ) → entry_of line ≡ Ok (Some (Collect g)) → (i j : Input) (failed : Type 0) (e : Fault)
        → AtFault (record never { trace = λ at kind. OfInput a.pending i j (λ text. AtEach (Stands old) (λ config store. AfterCollect g text (λ left. HasTraceFault config n kind (state_of old store) number left at))) × (new ≡ before); schedule = λ at kind. OfInput a.pending i j (λ text. AtEach (Stands old) (λ config store. AfterCollect g text (λ left. HasScheduleFault config n kind (state_of old store) number left at))) × (new ≡ before); full = λ at. MatchOption at ⊥ (λ k. OfInput a.pending i j (λ text. AtEach (Stands old) (λ config store. AfterCollect g text (λ left. WantsBlocks config n (state_of old store) number left k)))) × (new ≡ before); memory = λ at. MatchOption at ⊥ (λ k. OfInput a.pending i j (λ text. AtEach (Stands old) (λ config store. AfterCollect g text (λ left. IsSoundAt config n (state_of old store) number left k [])))) × (new ≡ before); read = OfGiven a.pending i j (λ text. AtEach (Stands old) (λ config store. AfterCollect g text (LeavesNothingWhole config n (state_of old store)))) × (new ≡ before) × failed; write = written }) e
        → AtFault (record never { trace = λ at kind. OfInput a.pending i j (λ text. AtEach (Stands old) (λ config store. HasTraceFault config n kind (state_of old store) number (finished a.line ∷ pieces text) at × (new ≡ before))); schedule = λ at kind. OfInput a.pending i j (λ text. AtEach (Stands old) (λ config store. HasScheduleFault config n kind (state_of old store) number (finished a.line ∷ pieces text) at × (new ≡ before))); full = λ at. MatchOption at ⊥ (λ k. OfInput a.pending i j (λ text. AtEach (Stands old) (λ config store. WantsBlocks config n (state_of old store) number (finished a.line ∷ pieces text) k × (new ≡ before)))); memory = λ at. MatchOption at ⊥ (λ k. OfInput a.pending i j (λ text. AtEach (Stands old) (λ config store. Writes (IsSoundAt config n (state_of old store) number (finished a.line ∷ pieces text) k) (contents before) (contents new)))); read = OfGiven a.pending i j (λ text. AtEach (Stands old) (λ config store. LeavesNothingWhole config n (state_of old store) (finished a.line ∷ pieces text))) × (new ≡ before) × failed; write = written }) e
    fault_of_schedule g asks i j failed (BadTrace at kind) f =
        OfInput-map a.pending i j f.0 (λ text h config store stands. (h config store stands a.line (subst (λ l. entry_of l ≡ Ok (Some (Collect g))) line_is asks), f.1))
    fault_of_schedule g asks i j failed (BadSchedule at kind) f =
        OfInput-map a.pending i j f.0 (λ text h config store stands. (h config store stands a.line (subst (λ l. entry_of l ≡ Ok (Some (Collect g))) line_is asks), f.1))
    fault_of_schedule g asks i j failed (HeapFull None) f = absurd f.0
    fault_of_schedule g asks i j failed (HeapFull (Some at)) f =
        OfInput-map a.pending i j f.0 (λ text h config store stands. (h config store stands a.line (subst (λ l. entry_of l ≡ Ok (Some (Collect g))) line_is asks), f.1))
    fault_of_schedule g asks i j failed (NoMemory None) f = absurd f.0
    fault_of_schedule g asks i j failed (NoMemory (Some at)) f = OfInput-map a.pending i j f.0 (λ text h config store stands. record {
      written = [];
      held = subst (λ w. Appends (contents before) (contents w) []) (sym f.1) (Appends-nil (contents before));
      holds = h config store stands a.line (subst (λ l. entry_of l ≡ Ok (Some (Collect g))) line_is asks);
    })
    fault_of_schedule g asks i j failed (Unsettled at) f = absurd f
    fault_of_schedule g asks i j failed ReadFailed f = (
      OfGiven-map a.pending i j f.0 (λ text h config store stands. h config store stands a.line (subst (λ l. entry_of l ≡ Ok (Some (Collect g))) line_is asks)),
      f.1,
      f.2,
    )
    fault_of_schedule g asks i j failed WriteFailed f = f

-- ---- one line after another

-- before any line
pub starts : (n : ℕ) {A : Type 0} (session : Session A) (a : LinesValue) (i : Input) (printed : Output)
    → Moves a a i i (λ text rest. AtEach (Stands session) (λ config store. ReplaysTo session config n (state_of session store) 1 (pieces text) 1 rest printed printed))
starts n session a i printed = record {
  bytes = [];
  gave = Gives-nil i;
  reads = omega arith;
  holds = λ more config store stands. by_text.starts config n session store 1 (a.pending ++ more) printed stands;
}

module _ {A : Type 0} (old mid : Session A) (n number : ℕ) {W : Type 0} (contents : W → Output) (printed : Output) (before : W) (a b c : LinesValue) (i j k : Input)
    (so_far : Moves a b i j (λ text rest. AtEach (Stands old) (λ config store. ReplaysTo mid config n (state_of old store) 1 (pieces text) number rest printed (contents before)))) where
  -- a line was cut off
  module _ (cut : Cuts b c j k) where
    before_line : Moves a c i k (λ text rest. AtEach (Stands old) (λ config store. ReplaysTo mid config n (state_of old store) 1 (pieces text) number (c.line ++ 10 ∷ rest) printed (contents before)))
    before_line = at_line a b c i j k so_far cut

    pub goes_on : (new : Session A) (d : LinesValue) (l : Input) (number' : ℕ) (printed' : Output)
        → Moves c d k l (λ text rest. AtEach (Stands mid) (λ config store. ReplaysTo new config n (state_of mid store) number (finished c.line ∷ pieces text) number' rest (contents before) printed'))
        → Moves a d i l (λ text rest. AtEach (Stands old) (λ config store. ReplaysTo new config n (state_of old store) 1 (pieces text) number' rest printed printed'))
    goes_on new d l number' printed' next = Moves-trans a c d i k l
        (λ text after rest p q. by_text.goes_on old mid n 1 text number (c.line ++ 10 ∷ after) contents printed before p c.line after refl cut.free new number' rest printed' q) before_line next

    pub fault_of_next : (l : Input) (new : W) (failed failed' written written' : Type 0) → (failed → failed') → (written → written') → (e : Fault)
        → AtFault (record never { trace = λ at kind. OfInput c.pending k l (λ text. AtEach (Stands mid) (λ config store. HasTraceFault config n kind (state_of mid store) number (finished c.line ∷ pieces text) at × (new ≡ before))); schedule = λ at kind. OfInput c.pending k l (λ text. AtEach (Stands mid) (λ config store. HasScheduleFault config n kind (state_of mid store) number (finished c.line ∷ pieces text) at × (new ≡ before))); full = λ at. MatchOption at ⊥ (λ m. OfInput c.pending k l (λ text. AtEach (Stands mid) (λ config store. WantsBlocks config n (state_of mid store) number (finished c.line ∷ pieces text) m × (new ≡ before)))); memory = λ at. MatchOption at ⊥ (λ m. OfInput c.pending k l (λ text. AtEach (Stands mid) (λ config store. Writes (IsSoundAt config n (state_of mid store) number (finished c.line ∷ pieces text) m) (contents before) (contents new)))); read = OfGiven c.pending k l (λ text. AtEach (Stands mid) (λ config store. LeavesNothingWhole config n (state_of mid store) (finished c.line ∷ pieces text))) × (new ≡ before) × failed; write = written }) e
        → AtFault (record never { trace = λ at kind. OfInput a.pending i l (λ text. AtEach (Stands old) (λ config store. StopsIn (Quietly (HasTraceFault config n kind)) config n (state_of old store) 1 (pieces text) at printed (contents new))); schedule = λ at kind. OfInput a.pending i l (λ text. AtEach (Stands old) (λ config store. StopsIn (Quietly (HasScheduleFault config n kind)) config n (state_of old store) 1 (pieces text) at printed (contents new))); full = λ at. MatchOption at ⊥ (λ m. OfInput a.pending i l (λ text. AtEach (Stands old) (λ config store. StopsIn (Quietly (WantsBlocks config n)) config n (state_of old store) 1 (pieces text) m printed (contents new)))); memory = λ at. MatchOption at ⊥ (λ m. OfInput a.pending i l (λ text. AtEach (Stands old) (λ config store. StopsIn (IsSoundAt config n) config n (state_of old store) 1 (pieces text) m printed (contents new)))); read = OfGiven a.pending i l (λ text. AtEach (Stands old) (λ config store. ReplaysWholeIn config n (state_of old store) (pieces text) printed (contents new))) × failed'; write = written' }) e
    fault_of_next l new failed failed' written written' read told (BadTrace at kind) f = stops_after a c i k before_line l f
        (λ text after p q. by_text.stops_silently old mid n 1 text number (c.line ++ 10 ∷ after) contents printed before p c.line after refl cut.free (λ config. HasTraceFault config n kind) at new q)
    fault_of_next l new failed failed' written written' read told (BadSchedule at kind) f = stops_after a c i k before_line l f
        (λ text after p q. by_text.stops_silently old mid n 1 text number (c.line ++ 10 ∷ after) contents printed before p c.line after refl cut.free (λ config. HasScheduleFault config n kind) at new q)
    fault_of_next l new failed failed' written written' read told (HeapFull None) f = f
    fault_of_next l new failed failed' written written' read told (HeapFull (Some at)) f = stops_after a c i k before_line l f
        (λ text after p q. by_text.stops_silently old mid n 1 text number (c.line ++ 10 ∷ after) contents printed before p c.line after refl cut.free (λ config. WantsBlocks config n) at new q)
    fault_of_next l new failed failed' written written' read told (NoMemory None) f = f
    fault_of_next l new failed failed' written written' read told (NoMemory (Some at)) f = stops_after a c i k before_line l f
        (λ text after p q. by_text.stops_somewhere old mid n 1 text number (c.line ++ 10 ∷ after) contents printed before p c.line after refl cut.free (λ config. IsSoundAt config n) at (contents new) q)
    fault_of_next l new failed failed' written written' read told (Unsettled line) f = absurd f
    fault_of_next l new failed failed' written written' read told ReadFailed f = (
      given_after a c i k before_line l f.0 (λ text after p q. by_text.stops_used_up old mid n 1 text number (c.line ++ 10 ∷ after) contents printed before p c.line after refl cut.free new f.1 q),
      read f.2,
    )
    fault_of_next l new failed failed' written written' read told WriteFailed f = told f

  -- no line feed came
  module _ (wait : Waits b c j k) where
    before_rest : Moves a c i k (λ text rest. AtEach (Stands old) (λ config store. ReplaysTo mid config n (state_of old store) 1 (pieces text) number rest printed (contents before)))
    before_rest = at_wait a b c i j k so_far wait

    pub ends_long : 4096 < length c.pending
        → OfInput a.pending i k (λ text. AtEach (Stands old) (λ config store. StopsIn (Quietly (HasTraceFault config n LineTooLong)) config n (state_of old store) 1 (pieces text) number printed (contents before)))
    ends_long long = stops_pending a c i k before_rest (λ text more h config store stands.
        by_text.ends_long config n mid (state_of old store) 1 (pieces text) number (c.pending ++ more) printed (contents before) (h config store stands) (begins_long c.pending more wait.free long))

    pub ends_unfinished : IsTrue k.ended → 0 < length c.pending → length c.pending ≤ 4096
        → OfInput a.pending i k (λ text. AtEach (Stands old) (λ config store. StopsIn (Quietly (HasTraceFault config n UnfinishedLine)) config n (state_of old store) 1 (pieces text) number printed (contents before)))
    ends_unfinished ended some short = stops_ended a c i k before_rest ended (λ text h config store stands.
        by_text.ends_unfinished config n mid (state_of old store) 1 (pieces text) number c.pending printed (contents before) (h config store stands) wait.free some short)

    pub ends_whole : length c.pending ≡ 0 → OfGiven a.pending i k (λ text. AtEach (Stands old) (λ config store. ReplaysAll config n (state_of old store) (pieces text) printed (contents before)))
    ends_whole none = given_moved a c i k before_rest (λ text h config store stands.
        by_text.ends_whole config n mid (state_of old store) 1 (pieces text) number c.pending printed (contents before) (h config store stands) none)

    pub uses_up : OfGiven a.pending i k (λ text. AtEach (Stands old) (λ config store. ReplaysWholeIn config n (state_of old store) (pieces text) printed (contents before)))
    uses_up = given_moved a c i k before_rest (λ text h config store stands.
        by_text.uses_up config n mid (state_of old store) 1 (pieces text) number c.pending printed (contents before) (h config store stands) _ refl (stops.outside (no_whole_lines c.pending wait.free)))
