-- A run goes on by one line, and stops at one.
use Rattle.std.proofs.Common.{◌≡◌, ℕ, ◌+◌, ◌<◌, ◌≤◌, ◌⊎◌, inl, inr, List, [], ◌∷◌, ◌++◌, length, length-append, map, Option, Some, None, Err, take, refl, sym, ap, subst, ◌∙◌, append_assoc, append-nil, arith}
use Rattle.std.specs.Prelude.{IsTrue}
use Rattle.std.proofs.lemmas.List.{map-append, length-map}
use Rattle.heap_text.specs.Streams.{Input, Output, OfGiven, OfInput}
use Rattle.heap_text.proofs.Streams.{Appends-nil}
use Rattle.model.specs.declared.kind.Kind.{Kind}
use Rattle.model.specs.declared.kind.Kind.TheVariants.{LineTooLong, UnfinishedLine}
use Rattle.model.specs.Config.{Config}
use Rattle.model.specs.Store.{Store}
use Rattle.trace_session.specs.declared.trace_lines.fault.Fault.{Fault}
use Rattle.trace_session.specs.declared.trace_lines.fault.Fault.TheVariants.{BadTrace, BadSchedule, HeapFull, NoMemory, Unsettled, ReadFailed, WriteFailed}
use Rattle.trace_session.specs.CollectsFirst.{IsSoundSoFar}
use Rattle.trace_session.specs.Faults.{never, AtFault}
use Rattle.trace_session.specs.Lines.{LinesValue, Moves, Waits, Cuts, Found, IsOutOfReads}
use Rattle.trace_session.specs.declared.trace_lines.lines.Next.{Next}
use Rattle.trace_session.specs.Pieces.{HasNoFeed, finished, pieces, whole_lines}
use Rattle.trace_session.specs.Outcome.{outcome_from, line_step}
use Rattle.trace_session.specs.Sound.{IsSoundTraceLine}
use Rattle.trace_session.specs.Carried.{Silently, Prints}
use Rattle.trace_session.specs.Stepped.{AtEach, StepsTo, Writes}
use Rattle.trace_session.proofs.PieceLemmas.{pieces_line, whole_lines_are}
use Rattle.trace_session.proofs.CarriedLemmas.{CarriesOut-none, Carried-before, line_joins, fault_of_line, leaves}
use Rattle.trace_session.proofs.TextLemmas.{ends_done, ends_unfinished, ends_long, prints_stop}
use Rattle.trace_session.proofs.LineLemmas.{Moves-trans, moves_as, stops_moved, stops_pending, stops_ended, given_moved, at_wait, out_after}
use Rattle.trace_driver.specs.Running.{IsRunDoneAt, IsRunStoppedAt}
use Rattle.trace_replay.specs.Refusals.{MayBeFull}
use Rattle.trace_session.proofs.Carrying.{CarriesOutTo}

-- the text is so many lines from the first on, each ended by a line feed, and the rest
pub record HasLines (text : List ℕ) (number : ℕ) (rest : List ℕ) : Type 0 where
  pub lines : List (List ℕ)
  pub text_is : pieces text ≡ map finished lines ++ pieces rest
  pub number_is : number ≡ 1 + length lines

-- they were carried out at each store for which the session stands
pub record HasCarriedOut (stands stands' : Config → Store → Type 0) (number : ℕ) (o o' : Output) (text rest : List ℕ) : Type 0 where
  pub carries : AtEach stands (λ config store. CarriesOutTo stands' config 1 store text number rest o o')
  pub has : HasLines text number rest

pub carried_none : (stands : Config → Store → Type 0) (o : Output) (text rest : List ℕ) → text ≡ rest → HasCarriedOut stands stands 1 o o text rest
carried_none stands o text rest same = subst (λ rest. HasCarriedOut stands stands 1 o o text rest) same
    (record {
      carries = λ config store at. record { next = store; stands' = at; carries = CarriesOut-none config 1 store text o };
      has = record { lines = []; text_is = refl; number_is = refl };
    })

-- and the next line
pub carried_on : (stands stands' stands'' : Config → Store → Type 0) (number : ℕ) (o o' o'' : Output) (text rest line next : List ℕ) → HasCarriedOut stands stands' number o o' text rest → rest ≡ line ++ 10 ∷ next → HasNoFeed line
    → AtEach stands' (λ config store. StepsTo stands'' config (line_step config store line) o' o'') → HasCarriedOut stands stands'' (number + 1) o o'' text next
carried_on stands stands' stands'' number o o' o'' text rest line next so_far is free steps = record {
  carries = line_joins stands stands' 1 text number rest o o' so_far.carries line next is free stands'' o'' steps;
  has = record {
    lines = so_far.has.lines ++ line ∷ [];
    text_is = so_far.has.text_is ∙ ap (λ ps. map finished so_far.has.lines ++ ps) (ap pieces is ∙ pieces_line line next free)
        ∙ sym (append_assoc (map finished so_far.has.lines) (finished line ∷ []) (pieces next)) ∙ ap (λ ps. ps ++ pieces next) (sym (map-append finished so_far.has.lines (line ∷ [])));
    number_is = omega (arith, so_far.has.number_is, length-append so_far.has.lines (line ∷ []));
  };
}

take_front : {X : Type 0} (xs ys : List X) (n : ℕ) → n ≡ length xs → take n (xs ++ ys) ≡ xs
take_front [] ys n is = rw is refl
take_front (x ∷ xs) ys n is = rw is (ap (λ zs. x ∷ zs) (take_front xs ys (length xs) refl))

-- where no line feed follows, these are the lines that are whole, and they were printed
pub carried_whole : (stands stands' : Config → Store → Type 0) (number : ℕ) (o o' : Output) (text rest : List ℕ) → HasNoFeed rest → HasCarriedOut stands stands' number o o' text rest
    → AtEach stands (λ config store. Prints (outcome_from config 1 store (whole_lines (pieces text))) None o o')
carried_whole stands stands' number o o' text rest free so_far = λ config store there.
    let at = so_far.carries config store there in
    let before = Carried-before config 1 store text at.carries.out at.carries.lines at.next rest at.carries.carried [] in
    let count : at.carries.lines ≡ length (map finished so_far.has.lines) = omega (arith, at.carries.number_is, so_far.has.number_is, length-map so_far.has.lines finished) in
    let front : take at.carries.lines (pieces (text ++ [])) ≡ map finished so_far.has.lines = ap (λ xs. take at.carries.lines (pieces xs)) (append-nil text) ∙ ap (λ ps. take at.carries.lines ps) so_far.has.text_is ∙ take_front (map finished so_far.has.lines) (pieces rest) at.carries.lines count in
    let whole : whole_lines (pieces text) ≡ map finished so_far.has.lines = ap whole_lines so_far.has.text_is ∙ whole_lines_are so_far.has.lines rest free in
    let is : outcome_from config 1 store (whole_lines (pieces text)) ≡ record { store = at.next; output = at.carries.out; fault = None } = ap (λ ps. outcome_from config 1 store ps) (whole ∙ sym front) ∙ before in
    record { fault_is = ap (λ r. r.fault) is; held = rw (ap (λ r. r.output) is) at.carries.held }

-- the next line after these was cut off
pub record AtLine (stands stands' : Config → Store → Type 0) (number : ℕ) (o o' : Output) (line text rest : List ℕ) : Type 0 where
  pub mid : List ℕ
  pub so_far : HasCarriedOut stands stands' number o o' text mid
  pub mid_is : mid ≡ line ++ 10 ∷ rest

module _ (stands stands' : Config → Store → Type 0) (number : ℕ) (o o' : Output) (a b c : LinesValue) (i j k : Input) (moves : Moves a b i j (HasCarriedOut stands stands' number o o')) where
  at_line : (line : List ℕ) → line ≡ c.line → Cuts b c j k → Moves a c i k (AtLine stands stands' number o o' line)
  at_line line same cuts = Moves-trans a b c i j k (λ text mid rest so_far is. record { mid = mid; so_far = so_far; mid_is = is ∙ ap (λ l. l ++ 10 ∷ rest) (sym same) }) moves cuts.moves

  free_line : (line : List ℕ) → line ≡ c.line → Cuts b c j k → HasNoFeed line
  free_line line same cuts = subst HasNoFeed (sym same) cuts.free

  waiting : Waits b c j k → Moves a c i k (HasCarriedOut stands stands' number o o')
  waiting waits = at_wait a b c i j k moves waits

  pub is_done : Waits b c j k → length c.pending ≡ 0 → IsTrue k.ended → IsRunDoneAt stands a.pending i k o o'
  is_done waits none ended = record {
    ended = ended;
    prints = given_moved a c i k (waiting waits) (λ text so_far. λ config store there. let at = so_far.carries config store there in ends_done config 1 store text number at.next c.pending o o' at.carries none);
  }

  pub is_unfinished : Waits b c j k → 0 < length c.pending → length c.pending ≤ 4096 → IsTrue k.ended → OfInput a.pending i k (λ text. AtEach stands (λ config store. Prints (outcome_from config 1 store (pieces text)) (Some (number, UnfinishedLine)) o o'))
  is_unfinished waits some short ended =
      stops_ended a c i k (waiting waits) ended (λ text so_far. λ config store there. let at = so_far.carries config store there in ends_unfinished config 1 store text number at.next c.pending o o' at.carries waits.free some short)

  pub is_too_long : Waits b c j k → 4096 < length c.pending → OfInput a.pending i k (λ text. AtEach stands (λ config store. Prints (outcome_from config 1 store (pieces text)) (Some (number, LineTooLong)) o o'))
  is_too_long waits long =
      stops_pending a c i k (waiting waits) (λ text more so_far. λ config store there. let at = so_far.carries config store there in ends_long config 1 store text number at.next c.pending more o o' at.carries waits.free long)

  pub is_cut_off : (failed same failed_read : Type 0) → (failed → failed_read) → Waits b c j k → failed ⊎ (same × IsOutOfReads b.reads j k)
      → OfGiven a.pending i k (λ text. AtEach stands (λ config store. Prints (outcome_from config 1 store (whole_lines (pieces text))) None o o')) × (failed_read ⊎ IsOutOfReads a.reads i k)
  is_cut_off failed same failed_read told waits why = (given_moved a c i k (waiting waits) (λ text so_far. carried_whole stands stands' number o o' text c.pending waits.free so_far), out why)
    where
      out : failed ⊎ (same × IsOutOfReads b.reads j k) → failed_read ⊎ IsOutOfReads a.reads i k
      out (inl failed) = inl (told failed)
      out (inr none) = inr (out_after a b i j k moves none.1)

  -- the line was carried out
  pub goes_on : (line : List ℕ) → line ≡ c.line → (stands'' : Config → Store → Type 0) (o'' : Output) → Cuts b c j k → AtEach stands' (λ config store. StepsTo stands'' config (line_step config store line) o' o'') → Moves a c i k (HasCarriedOut stands stands'' (number + 1) o o'')
  goes_on line same stands'' o'' cuts steps =
      moves_as a c i k (at_line line same cuts) (λ text rest at. carried_on stands stands' stands'' number o o' o'' text at.mid line rest at.so_far at.mid_is (free_line line same cuts) steps)

  -- its fault is that of the run
  pub line_stops : (line : List ℕ) → line ≡ c.line → (n : ℕ) (boxed : Type 0) {T : Type 0} (output : T → Output) (before new : T) (failed failed_read failed_write : Type 0) → output before ≡ o' → (failed → failed_write) → Cuts b c j k → (e : Fault)
      → AtFault (record never { trace = λ at kind. (at ≡ number) × AtEach stands' (λ config store. (line_step config store line ≡ Err kind) × (new ≡ before)); full = λ at. (at ≡ Some number) × AtEach stands' (λ config store. MayBeFull n config store line × (new ≡ before)); memory = λ at. (at ≡ Some number) × AtEach stands' (λ config store. Writes (IsSoundSoFar config store line) (output before) (output new)); unsettled = λ at. (at ≡ number) × boxed × AtEach stands' (λ config store. IsSoundTraceLine config store line × (new ≡ before)); write = failed }) e
      → IsRunStoppedAt stands n boxed a.pending a.reads i k o (output new) failed_read failed_write e
  line_stops line same_line n boxed output before new failed failed_read failed_write same told cuts (BadTrace at kind) f =
      stops_moved a c i k (at_line line same_line cuts)
      (λ text rest l. λ config store there. prints_stop config 1 store text at kind o (output new)
      (fault_of_line stands stands' 1 text number l.mid o o' l.so_far.carries line rest l.mid_is (free_line line same_line cuts) (MayBeFull n) output before new failed (BadTrace at kind) same f config store there))
  line_stops line same_line n boxed output before new failed failed_read failed_write same told cuts (BadSchedule at kind) f = absurd f
  line_stops line same_line n boxed output before new failed failed_read failed_write same told cuts (HeapFull at) f =
      stops_moved a c i k (at_line line same_line cuts) (λ text rest l. fault_of_line stands stands' 1 text number l.mid o o' l.so_far.carries line rest l.mid_is (free_line line same_line cuts) (MayBeFull n) output before new failed (HeapFull at) same f)
  line_stops line same_line n boxed output before new failed failed_read failed_write same told cuts (NoMemory at) f =
      stops_moved a c i k (at_line line same_line cuts) (λ text rest l. fault_of_line stands stands' 1 text number l.mid o o' l.so_far.carries line rest l.mid_is (free_line line same_line cuts) (MayBeFull n) output before new failed (NoMemory at) same f)
  line_stops line same_line n boxed output before new failed failed_read failed_write same told cuts (Unsettled at) f = (
    f.1,
    stops_moved a c i k (at_line line same_line cuts)
        (λ text rest l. leaves stands stands' 1 text number l.mid o o' l.so_far.carries line rest l.mid_is (free_line line same_line cuts) (λ config. Silently (IsSoundTraceLine config)) (Some at) (ap (λ x. Some x) f.0) (output new)
        (λ config store there.
        let here = f.2 config store there in
        rw (here.1, same) (record { written = []; held = Appends-nil o'; holds = (here.0, refl) }))),
  )
  line_stops line same_line n boxed output before new failed failed_read failed_write same told cuts ReadFailed f = absurd f
  line_stops line same_line n boxed output before new failed failed_read failed_write same told cuts WriteFailed f = told f

-- where one worker collects, no cells are shared
pub not_unsettled : (trace : ℕ → Kind → Type 0) (full memory : Option ℕ → Type 0) (unsettled : ℕ → Type 0) (read write : Type 0) (e : Fault) → AtFault (record never { trace = trace; full = full; memory = memory; read = read; write = write }) e → AtFault (record never { trace = trace; full = full; memory = memory; unsettled = unsettled; read = read; write = write }) e
not_unsettled trace full memory unsettled read write (BadTrace at kind) f = f
not_unsettled trace full memory unsettled read write (BadSchedule at kind) f = f
not_unsettled trace full memory unsettled read write (HeapFull at) f = f
not_unsettled trace full memory unsettled read write (NoMemory at) f = f
not_unsettled trace full memory unsettled read write (Unsettled at) f = absurd f
not_unsettled trace full memory unsettled read write ReadFailed f = f
not_unsettled trace full memory unsettled read write WriteFailed f = f

-- what was found is this
pub found_is : (next next' : Next) (a b : LinesValue) (i j : Input) → next ≡ next' → Found next a b i j → Found next' a b i j
found_is next next' a b i j is found = subst (λ n. Found n a b i j) is found
