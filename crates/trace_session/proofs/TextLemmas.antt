-- A text carried out to its end.
use Rattle.std.proofs.Common.{◌≡◌, ℕ, ◌+◌, ◌-◌, ◌<◌, ◌≤◌, false, List, [], ◌∷◌, ◌++◌, take, length, Option, Some, None, Err, refl, ap, ◌∙◌, append-nil, arith, rules}
use Rattle.std.specs.Prelude.{nat_lt, slice_get}
use Rattle.heap_text.specs.Streams.{Output}
use Rattle.model.specs.declared.kind.Kind.{Kind}
use Rattle.model.specs.declared.kind.Kind.TheVariants.{LineTooLong, UnfinishedLine}
use Rattle.model.specs.Config.{Config}
use Rattle.model.specs.Store.{Store, empty_store}
use Rattle.trace_session.specs.Pieces.{HasNoFeed, finished, pieces}
use Rattle.trace_text.specs.Grammar.{entry_of}
use Rattle.trace_session.specs.Outcome.{after, outcome_from, outcome_before, line_step}
use Rattle.trace_session.specs.Carried.{LeavesBefore, LeavesOutput, Prints}
use Rattle.trace_session.proofs.PieceLemmas.{pieces_last, BeginsLong, long_finished, long_unfinished, begins_long, long_line}
use Rattle.trace_session.proofs.CarriedLemmas.{Carried-whole}
use Rattle.trace_session.proofs.Carrying.{CarriesOut, StopsAt}

-- the rest after the lines that were carried out ends the run
ends_as : (config : Config) (number : ℕ) (store : Store) (text : List ℕ) (number' : ℕ) (store' : Store) (rest : List ℕ) (old new : Output) (fault : Option (ℕ × Kind)) → CarriesOut config number store text number' store' rest old new → outcome_from config number' store' (pieces rest) ≡ record { store = store'; output = []; fault = fault } → Prints (outcome_from config number store (pieces text)) fault old new
ends_as config number store text number' store' rest old new fault carries ends =
    let whole = Carried-whole config number store text carries.out carries.lines store' rest carries.carried [] in
    let plain : outcome_from config number store (pieces text) ≡ after carries.out (outcome_from config (number + carries.lines) store' (pieces rest)) = simp append-nil at whole in
    let at_number : outcome_from config number store (pieces text) ≡ after carries.out (outcome_from config number' store' (pieces rest)) = rw carries.number_is plain in
    let is : outcome_from config number store (pieces text) ≡ record { store = store'; output = carries.out ++ []; fault = fault } = at_number ∙ ap (λ o. after carries.out o) ends in
    record {
      fault_is = ap (λ o. o.fault) is;
      held = rw (ap (λ o. o.output) is, append-nil carries.out) carries.held;
    }

unfinished_is : (config : Config) (number : ℕ) (store : Store) (rest : List ℕ) → HasNoFeed rest → 0 < length rest → length rest ≤ 4096 → outcome_from config number store (pieces rest) ≡ record { store = store; output = []; fault = Some (number, UnfinishedLine) }
unfinished_is config number store [] free some short = elim some [ ]
unfinished_is config number store (b ∷ bs) free some short =
    let fits : nat_lt 4096 (length (b ∷ bs)) ≡ false = search rules in
    rw (pieces_last (b ∷ bs) free, fits) refl

line_too_long : (config : Config) (store : Store) (text : List ℕ) → 4096 < length text → line_step config store text ≡ Err LineTooLong
unfolding line_step entry_of
line_too_long config store text long = rw (long_line text long) refl

-- a text that begins with more bytes than a line may have
long_starts : (config : Config) (number : ℕ) (store : Store) (text : List ℕ) → BeginsLong (pieces text) → outcome_from config number store (pieces text) ≡ record { store = store; output = []; fault = Some (number, LineTooLong) }
long_starts config number store text (long_finished {line = front} is long) = rw (is, line_too_long config store front long) refl
long_starts config number store text (long_unfinished {line = front} is long) = rw (is, long_line front long) refl

done_is : (config : Config) (number : ℕ) (store : Store) (rest : List ℕ) → length rest ≡ 0 → outcome_from config number store (pieces rest) ≡ record { store = store; output = []; fault = None }
unfolding pieces
done_is config number store [] none = refl
done_is config number store (b ∷ bs) none = absurd (omega (arith, none))

module _ (config : Config) (number : ℕ) (store : Store) (text : List ℕ) (number' : ℕ) (store' : Store) (rest : List ℕ) (old new : Output) (carries : CarriesOut config number store text number' store' rest old new) where
  pub ends_done : length rest ≡ 0 → Prints (outcome_from config number store (pieces text)) None old new
  ends_done none = ends_as config number store text number' store' rest old new None carries (done_is config number' store' rest none)

  pub ends_unfinished : HasNoFeed rest → 0 < length rest → length rest ≤ 4096 → Prints (outcome_from config number store (pieces text)) (Some (number', UnfinishedLine)) old new
  ends_unfinished free some short = ends_as config number store text number' store' rest old new _ carries (unfinished_is config number' store' rest free some short)

-- so many bytes without a line feed, whatever follows them
pub ends_long : (config : Config) (number : ℕ) (store : Store) (text : List ℕ) (number' : ℕ) (store' : Store) (rest more : List ℕ) (old new : Output) → CarriesOut config number store text number' store' (rest ++ more) old new → HasNoFeed rest → 4096 < length rest
    → Prints (outcome_from config number store (pieces text)) (Some (number', LineTooLong)) old new
ends_long config number store text number' store' rest more old new carries free long =
    ends_as config number store text number' store' (rest ++ more) old new _ carries (long_starts config number' store' (rest ++ more) (begins_long rest more free long))

pub prints_stop : (config : Config) (number : ℕ) (store : Store) (text : List ℕ) (line : ℕ) (kind : Kind) (old new : Output) → StopsAt config number store text line kind old new → Prints (outcome_from config number store (pieces text)) (Some (line, kind)) old new
prints_stop config number store text line kind old new at =
    let is : outcome_from config number store (pieces text) ≡ record { store = at.store'; output = at.out; fault = Some (line, kind) } = simp append-nil at (at.stops []) in
    record {
      fault_is = ap (λ o. o.fault) is;
      held = rw (ap (λ o. o.output) is) at.held;
    }

-- of a whole trace
pub leaves_output : (P : Store → List ℕ → List ℕ → Type 0) (config : Config) (text : List ℕ) (line : ℕ) (old new : Output) → LeavesBefore P config 1 (empty_store config) text (Some line) old new → LeavesOutput P config line old new text
leaves_output P config text line old new before =
    let line_is : line ≡ 1 + before.lines = cc (before.line_is) in
    let lines : line - 1 ≡ before.lines = omega (arith, line_is) in
    let printed : outcome_from config 1 (empty_store config) (take before.lines (pieces text)) ≡ record { store = before.store'; output = before.out; fault = None } = simp append-nil at (before.printed []) in
    let is : outcome_before config line text ≡ record { store = before.store'; output = before.out; fault = None } = rw lines printed in
    let there : slice_get (pieces text) before.lines ≡ Some (finished before.refused) = simp append-nil at (before.there []) in
    record {
      refused = before.refused;
      written = before.written;
      counted = omega (arith, line_is);
      there = rw lines there;
      sound = ap (λ o. o.fault) is;
      held = rw (ap (λ o. o.output) is) before.held;
      holds = rw (ap (λ o. o.store) is) before.holds;
    }
