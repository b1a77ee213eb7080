-- What is said of a session is said of a whole trace.
use Rattle.std.proofs.Common.{◌≡◌, ℕ, ◌-◌, ◌^◌, ◌<◌, ◌⊎◌, List, [], Some, None, Result, Ok, Err, refl, ap, subst, sym, arith}
use Rattle.std.specs.Prelude.{MatchOption, IfErr, IsTrue, OnOk}
use Rattle.heap_text.specs.Streams.{Input, Output, OfGiven, OfInput}
use Rattle.model.specs.Config.{Config}
use Rattle.model.specs.Store.{empty_store}
use Rattle.trace_session.specs.declared.trace_lines.fault.Fault.{Fault}
use Rattle.trace_session.specs.declared.trace_lines.fault.Fault.TheVariants.{BadTrace, BadSchedule, HeapFull, NoMemory, Unsettled, ReadFailed, WriteFailed}
use Rattle.trace_session.specs.Faults.{never, AtFault}
use Rattle.trace_session.specs.Lines.{LinesValue, IsOutOfReads, most_left}
use Rattle.trace_session.specs.Pieces.{Piece, pieces}
use Rattle.trace_session.specs.Stepped.{AtEach}
use Rattle.trace_session.specs.declared.session.Session.{Session}
use Rattle.trace_session.specs.Session.{Stands}
use Rattle.trace_replay.specs.Replays.{State, state_of, ReplaysAll, IsFirst, IsReplayed}
use Rattle.trace_replay.specs.ReplayStops.{HasTraceFault, HasScheduleFault, WantsBlocks, IsSoundAt, Quietly, StopsIn, Stops, ReplaysWholeIn, ReplaysWhole, IsReplayDone, IsReplayStopped}
use Rattle.trace_session.proofs.LineLemmas.{OfInput-map, OfGiven-map}
use Rattle.steps.specs.HeapValue.{empty_heap}

-- a session as it is made
pub first_state : {A : Type 0} (session : Session A) (config : Config) → (session.heap ≡ empty_heap config) × (session.names ≡ []) → IsFirst config (state_of session (empty_store config))
first_state session config is = record { heap_is = is.0; names_are = is.1; store_is = refl }

-- before the first read
abbrev pub IsFresh : LinesValue → Type 0
IsFresh lines = lines ≡ record { pending = []; line = []; reads = 2 ^ 64 - 1 }

pub little_left : (lines : LinesValue) → IsFresh lines → most_left lines < 2 ^ 81
little_left lines fresh = subst (λ (v : LinesValue). most_left v < 2 ^ 81) (sym fresh) (omega arith)

module _ {A : Type 0} (session : Session A) (config : Config) (stands : Stands session config (empty_store config)) (is_first : IsFirst config (state_of session (empty_store config))) (n : ℕ) (lines : LinesValue) (fresh : IsFresh lines) (i j : Input) (printed printed' : Output) where
  nothing_pending : lines.pending ≡ []
  nothing_pending = ap (λ (v : LinesValue). v.pending) fresh

  whole_trace : OfGiven lines.pending i j (λ text. AtEach (Stands session) (λ config store. ReplaysAll config n (state_of session store) (pieces text) printed printed'))
      → OfGiven [] i j (IsReplayed config n printed printed')
  whole_trace all = subst (λ front. OfGiven front i j (IsReplayed config n printed printed')) nothing_pending
      (OfGiven-map lines.pending i j all (λ text h. record { first = state_of session (empty_store config); begins = is_first; holds = stands; replays = h config (empty_store config) stands }))

  whole_so_far : OfGiven lines.pending i j (λ text. AtEach (Stands session) (λ config store. ReplaysWholeIn config n (state_of session store) (pieces text) printed printed'))
      → OfGiven [] i j (ReplaysWhole config n printed printed')
  whole_so_far all = subst (λ front. OfGiven front i j (ReplaysWhole config n printed printed')) nothing_pending
      (OfGiven-map lines.pending i j all (λ text h. record { first = state_of session (empty_store config); begins = is_first; holds = stands; replays = h config (empty_store config) stands }))

  stops_somewhere : (P : Config → State → ℕ → List Piece → ℕ → List ℕ → Type 0) (at : ℕ)
      → OfInput lines.pending i j (λ text. AtEach (Stands session) (λ config store. StopsIn (P config) config n (state_of session store) 1 (pieces text) at printed printed'))
      → OfInput [] i j (Stops (P config) config n at printed printed')
  stops_somewhere P at stops = subst (λ front. OfInput front i j (Stops (P config) config n at printed printed')) nothing_pending
      (OfInput-map lines.pending i j stops (λ text h. record { first = state_of session (empty_store config); begins = is_first; holds = stands; stops = h config (empty_store config) stands }))

  no_reads_left : {F : Type 0} → F ⊎ IsOutOfReads lines.reads i j → F ⊎ IsOutOfReads (2 ^ 64 - 1) i j
  no_reads_left {F} failed = subst (λ reads. F ⊎ IsOutOfReads reads i j) (ap (λ (v : LinesValue). v.reads) fresh) failed

  fault_of_trace : (untouched failed written : Type 0) → (e : Fault)
      → AtFault (record never { trace = λ at kind. OfInput lines.pending i j (λ text. AtEach (Stands session) (λ config store. StopsIn (Quietly (HasTraceFault config n kind)) config n (state_of session store) 1 (pieces text) at printed printed')); schedule = λ at kind. OfInput lines.pending i j (λ text. AtEach (Stands session) (λ config store. StopsIn (Quietly (HasScheduleFault config n kind)) config n (state_of session store) 1 (pieces text) at printed printed')); full = λ at. MatchOption at ⊥ (λ line. OfInput lines.pending i j (λ text. AtEach (Stands session) (λ config store. StopsIn (Quietly (WantsBlocks config n)) config n (state_of session store) 1 (pieces text) line printed printed'))); memory = λ at. MatchOption at ⊥ (λ line. OfInput lines.pending i j (λ text. AtEach (Stands session) (λ config store. StopsIn (IsSoundAt config n) config n (state_of session store) 1 (pieces text) line printed printed'))); read = OfGiven lines.pending i j (λ text. AtEach (Stands session) (λ config store. ReplaysWholeIn config n (state_of session store) (pieces text) printed printed')) × (failed ⊎ IsOutOfReads lines.reads i j); write = written }) e
      → IsReplayStopped config n untouched i j printed printed' failed written e
  fault_of_trace untouched failed written (BadTrace at kind) f = stops_somewhere (λ config. Quietly (HasTraceFault config n kind)) at f
  fault_of_trace untouched failed written (BadSchedule at kind) f = stops_somewhere (λ config. Quietly (HasScheduleFault config n kind)) at f
  fault_of_trace untouched failed written (HeapFull None) f = absurd f
  fault_of_trace untouched failed written (HeapFull (Some at)) f = stops_somewhere (λ config. Quietly (WantsBlocks config n)) at f
  fault_of_trace untouched failed written (NoMemory None) f = absurd f
  fault_of_trace untouched failed written (NoMemory (Some at)) f = stops_somewhere (λ config. IsSoundAt config n) at f
  fault_of_trace untouched failed written (Unsettled line) f = absurd f
  fault_of_trace untouched failed written ReadFailed f = (whole_so_far f.0, no_reads_left f.1)
  fault_of_trace untouched failed written WriteFailed f = f

  -- of what carrying it out answers
  pub whole_if_ok : {T E : Type 0} (r : Result T E)
      → OnOk r (IsTrue j.ended × OfGiven lines.pending i j (λ text. AtEach (Stands session) (λ config store. ReplaysAll config n (state_of session store) (pieces text) printed printed')))
      → OnOk r (IsReplayDone config n i j printed printed')
  whole_if_ok (Ok x) all = record { ended = all.0; replayed = whole_trace all.1 }
  whole_if_ok (Err e) all = tt

  pub fault_if_err : (untouched failed written : Type 0) → {T : Type 0} (r : Result T Fault)
      → IfErr r (AtFault (record never { trace = λ at kind. OfInput lines.pending i j (λ text. AtEach (Stands session) (λ config store. StopsIn (Quietly (HasTraceFault config n kind)) config n (state_of session store) 1 (pieces text) at printed printed')); schedule = λ at kind. OfInput lines.pending i j (λ text. AtEach (Stands session) (λ config store. StopsIn (Quietly (HasScheduleFault config n kind)) config n (state_of session store) 1 (pieces text) at printed printed')); full = λ at. MatchOption at ⊥ (λ line. OfInput lines.pending i j (λ text. AtEach (Stands session) (λ config store. StopsIn (Quietly (WantsBlocks config n)) config n (state_of session store) 1 (pieces text) line printed printed'))); memory = λ at. MatchOption at ⊥ (λ line. OfInput lines.pending i j (λ text. AtEach (Stands session) (λ config store. StopsIn (IsSoundAt config n) config n (state_of session store) 1 (pieces text) line printed printed'))); read = OfGiven lines.pending i j (λ text. AtEach (Stands session) (λ config store. ReplaysWholeIn config n (state_of session store) (pieces text) printed printed')) × (failed ⊎ IsOutOfReads lines.reads i j); write = written }))
      → IfErr r (IsReplayStopped config n untouched i j printed printed' failed written)
  fault_if_err untouched failed written (Ok x) f = tt
  fault_if_err untouched failed written (Err e) f = fault_of_trace untouched failed written e f
