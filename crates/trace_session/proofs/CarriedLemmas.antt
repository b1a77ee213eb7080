-- How carried lines join.
use Rattle.std.proofs.Common.{◌≡◌, ℕ, suc, ◌+◌, ◌-◌, List, [], ◌∷◌, ◌++◌, take, drop, get_or, length, length-drop, Ok, Err, refl, sym, ap, ◌∙◌, append_assoc, arith, zero-add, add-zero, take_all, append-nil, Option, Some, None}
use Rattle.std.specs.Prelude.{slice_get}
use Rattle.std.proofs.lemmas.List.{drop-drop, get_or-drop}
use Rattle.std.proofs.lemmas.Option.{slice_get_read}
use Rattle.heap_text.specs.Streams.{Output}
use Rattle.heap_text.proofs.Streams.{Appends-nil, Appends-trans}
use Rattle.model.specs.declared.kind.Kind.{Kind}
use Rattle.model.specs.Config.{Config}
use Rattle.model.specs.Store.{Store}
use Rattle.model.specs.Commands.{Run}
use Rattle.trace_session.specs.declared.trace_lines.fault.Fault.{Fault}
use Rattle.trace_session.specs.declared.trace_lines.fault.Fault.TheVariants.{BadTrace, BadSchedule, HeapFull, NoMemory, Unsettled, ReadFailed, WriteFailed}
use Rattle.trace_session.specs.Faults.{never, AtFault}
use Rattle.trace_session.specs.Pieces.{HasNoFeed, finished, pieces}
use Rattle.trace_session.specs.Outcome.{after, outcome_from, line_step}
use Rattle.trace_session.specs.CollectsFirst.{IsSoundSoFar}
use Rattle.trace_session.specs.Carried.{Silently, LeavesBefore}
use Rattle.trace_session.specs.Stepped.{AtEach, StepsTo, Writes}
use Rattle.trace_session.proofs.PieceLemmas.{pieces_line}
use Rattle.trace_session.proofs.Carrying.{Carried, CarriesOut, StopsAt, CarriesOutTo}

after-after : (a b : List ℕ) (o : Run) → after a (after b o) ≡ after (a ++ b) o
after-after a b o = ap (λ xs. record { store = o.store; output = xs; fault = o.fault }) (sym (append_assoc a b o.output))

pub Carried-none : (config : Config) (number : ℕ) (store : Store) (text : List ℕ) → Carried config number store text [] 0 store text
Carried-none config number store text = record { each = λ k more. rw (zero-add k, add-zero number) refl; left = λ more. refl }

Carried-line : (config : Config) (number : ℕ) (store : Store) (line rest : List ℕ) (next : Store) (out : List ℕ) → HasNoFeed line → line_step config store line ≡ Ok (next, out) → Carried config number store (line ++ 10 ∷ rest) out 1 next rest
Carried-line config number store line rest next out free steps = record {
  each = λ k more.
      let first : pieces ((line ++ 10 ∷ rest) ++ more) ≡ finished line ∷ pieces (rest ++ more) = rw (append_assoc line (10 ∷ rest) more) (pieces_line line (rest ++ more) free) in
      let more_lines : 1 + k ≡ suc k = omega arith in
      rw (first, more_lines, steps) refl;
  left = λ more.
      let first : pieces ((line ++ 10 ∷ rest) ++ more) ≡ finished line ∷ pieces (rest ++ more) = rw (append_assoc line (10 ∷ rest) more) (pieces_line line (rest ++ more) free) in
      rw first refl;
}

pub Carried-trans : (config : Config) (number : ℕ) (store : Store) (text a : List ℕ) (i : ℕ) (c : Store) (mid left b : List ℕ) (j : ℕ) (d : Store) (rest : List ℕ) → Carried config number store text a i c (mid ++ left) → Carried config (number + i) c mid b j d rest → Carried config number store text (a ++ b) (i + j) d (rest ++ left)
Carried-trans config number store text a i c mid left b j d rest first second = record {
  each = λ k more.
      let then_second : outcome_from config (number + i) c (take (j + k) (pieces ((mid ++ left) ++ more))) ≡ after b (outcome_from config (number + i + j) d (take k (pieces ((rest ++ left) ++ more)))) = rw (append_assoc mid left more, append_assoc rest left more) (second.each k (left ++ more)) in
      let lines : i + j + k ≡ i + (j + k) = omega arith in
      let number_is : number + (i + j) ≡ number + i + j = omega arith in
      rw (lines, number_is) (first.each (j + k) more ∙ ap (λ o. after a o) then_second ∙ after-after a b _);
  left = λ more.
      let then_second : drop j (pieces ((mid ++ left) ++ more)) ≡ pieces ((rest ++ left) ++ more) = rw (append_assoc mid left more, append_assoc rest left more) (second.left (left ++ more)) in
      sym (drop-drop j i (pieces (text ++ more))) ∙ ap (λ ps. drop j ps) (first.left more) ∙ then_second;
}

-- over the whole text, and whatever follows it
pub Carried-whole : (config : Config) (number : ℕ) (store : Store) (text out : List ℕ) (i : ℕ) (c : Store) (rest : List ℕ) → Carried config number store text out i c rest → (more : List ℕ) → outcome_from config number store (pieces (text ++ more)) ≡ after out (outcome_from config (number + i) c (pieces (rest ++ more)))
Carried-whole config number store text out i c rest carried more =
    let k = length (pieces (text ++ more)) + length (pieces (rest ++ more)) in
    let all : take (i + k) (pieces (text ++ more)) ≡ pieces (text ++ more) = take_all _ _ (omega arith) in
    let others : take k (pieces (rest ++ more)) ≡ pieces (rest ++ more) = take_all _ _ (omega arith) in
    ap (λ ps. outcome_from config number store ps) (sym all) ∙ carried.each k more ∙ ap (λ ps. after out (outcome_from config (number + i) c ps)) others

-- the lines before the next one print out, without a fault
pub Carried-before : (config : Config) (number : ℕ) (store : Store) (text out : List ℕ) (i : ℕ) (c : Store) (rest : List ℕ) → Carried config number store text out i c rest → (more : List ℕ) → outcome_from config number store (take i (pieces (text ++ more))) ≡ record { store = c; output = out; fault = None }
Carried-before config number store text out i c rest carried more =
    let none : i + 0 ≡ i = omega arith in
    ap (λ n. outcome_from config number store (take n (pieces (text ++ more)))) (sym none) ∙ carried.each 0 more ∙ ap (λ xs. record { store = c; output = xs; fault = None }) (append-nil out)

-- where a list goes on after i elements is its element i
slice_get_at : {X : Type 0} (xs ys : List X) (i : ℕ) (x : X) → drop i xs ≡ x ∷ ys → slice_get xs i ≡ Some x
slice_get_at xs ys i x begins =
    let len : length xs - i ≡ suc (length ys) = sym (length-drop i xs) ∙ ap length begins in
    let none : i + 0 ≡ i = omega arith in
    let at : get_or xs (i + 0) x ≡ x = sym (get_or-drop i xs 0 x) ∙ ap (λ zs. get_or zs 0 x) begins in
    slice_get_read xs (length xs) i x refl (omega arith) (sym (rw none at at))

pub CarriesOut-none : (config : Config) (number : ℕ) (store : Store) (text : List ℕ) (held : Output) → CarriesOut config number store text number store text held held
CarriesOut-none config number store text held = record {
  out = [];
  lines = 0;
  number_is = omega arith;
  held = Appends-nil held;
  carried = Carried-none config number store text;
}

module _ (config : Config) (number : ℕ) (store : Store) (text : List ℕ) (number' : ℕ) (store' : Store) (rest : List ℕ) (old now : Output) (so_far : CarriesOut config number store text number' store' rest old now) (line next : List ℕ) (is : rest ≡ line ++ 10 ∷ next) (free : HasNoFeed line) where
  pub CarriesOut-line : (stands : Config → Store → Type 0) (new : Output) → StepsTo stands config (line_step config store' line) now new → CarriesOutTo stands config number store text (number' + 1) next old new
  CarriesOut-line stands new done =
      let first : Carried config number store text so_far.out so_far.lines store' ((line ++ 10 ∷ next) ++ []) = rw (append-nil (line ++ 10 ∷ next), ← is) so_far.carried in
      let second : Carried config (number + so_far.lines) store' (line ++ 10 ∷ next) done.out 1 done.next next = Carried-line config (number + so_far.lines) store' line next done.next done.out free done.steps in
      let both = Carried-trans config number store text so_far.out so_far.lines store' (line ++ 10 ∷ next) [] done.out 1 done.next next first second in
      record {
        next = done.next;
        stands' = done.stands';
        carries = record {
          out = so_far.out ++ done.out;
          lines = so_far.lines + 1;
          number_is = omega (arith, so_far.number_is);
          held = Appends-trans old now new so_far.out done.out so_far.held done.held;
          carried = rw append-nil at both;
        };
      }

  first_piece : (more : List ℕ) → pieces (rest ++ more) ≡ finished line ∷ pieces (next ++ more)
  first_piece more = rw (is, append_assoc line (10 ∷ next) more) (pieces_line line (next ++ more) free)

  pub stops_at : (at : ℕ) (kind : Kind) → at ≡ number' → line_step config store' line ≡ Err kind → StopsAt config number store text at kind old now
  stops_at at kind here fault = record {
    out = so_far.out;
    store' = store';
    held = so_far.held;
    stops = λ more.
        let stop : outcome_from config (number + so_far.lines) store' (pieces (rest ++ more)) ≡ record { store = store'; output = []; fault = Some (at, kind) } = rw (first_piece more, fault, here, so_far.number_is) refl in
        Carried-whole _ _ _ _ _ _ _ _ so_far.carried more ∙ ap (λ o. after so_far.out o) stop ∙ ap (λ xs. record { store = store'; output = xs; fault = Some (at, kind) }) (append-nil so_far.out);
  }

  pub leaves_before : (P : Store → List ℕ → List ℕ → Type 0) (at : Option ℕ) → at ≡ Some number' → (new : Output) → Writes (P store' line) now new → LeavesBefore P config number store text at old new
  leaves_before P at here new own = record {
    out = so_far.out;
    lines = so_far.lines;
    store' = store';
    refused = line;
    written = own.written;
    line_is = here ∙ ap (λ n. Some n) so_far.number_is;
    held = Appends-trans old now new so_far.out own.written so_far.held own.held;
    printed = Carried-before _ _ _ _ _ _ _ _ so_far.carried;
    there = λ more. slice_get_at _ _ so_far.lines _ (so_far.carried.left more ∙ first_piece more);
    holds = own.holds;
  }

-- at each store for which a session stands
module _ (stands stands' : Config → Store → Type 0) (number : ℕ) (text : List ℕ) (number' : ℕ) (rest : List ℕ) (old now : Output) (so_far : AtEach stands (λ config store. CarriesOutTo stands' config number store text number' rest old now)) (line next : List ℕ) (is : rest ≡ line ++ 10 ∷ next) (free : HasNoFeed line) where
  pub line_joins : (stands'' : Config → Store → Type 0) (new : Output) → AtEach stands' (λ config store. StepsTo stands'' config (line_step config store line) now new) → AtEach stands (λ config store. CarriesOutTo stands'' config number store text (number' + 1) next old new)
  line_joins stands'' new steps = λ config store at.
      let here = so_far config store at in
      CarriesOut-line config number store text number' here.next rest old now here.carries line next is free stands'' new (steps config here.next here.stands')

  pub leaves : (P : Config → Store → List ℕ → List ℕ → Type 0) (at : Option ℕ) → at ≡ Some number' → (new : Output) → AtEach stands' (λ config store. Writes (P config store line) now new) → AtEach stands (λ config store. LeavesBefore (P config) config number store text at old new)
  leaves P at here new own = λ config store there.
      let before = so_far config store there in
      leaves_before config number store text number' before.next rest old now before.carries line next is free (P config) at here new (own config before.next before.stands')

  pub fault_of_line : (wants : Config → Store → List ℕ → Type 0) {T : Type 0} (contents : T → Output) (before new : T) (failed : Type 0) (e : Fault) → contents before ≡ now
      → AtFault (record never { trace = λ at kind. (at ≡ number') × AtEach stands' (λ config store. (line_step config store line ≡ Err kind) × (new ≡ before)); full = λ at. (at ≡ Some number') × AtEach stands' (λ config store. wants config store line × (new ≡ before)); memory = λ at. (at ≡ Some number') × AtEach stands' (λ config store. Writes (IsSoundSoFar config store line) (contents before) (contents new)); write = failed }) e
      → AtFault (record never { trace = λ at kind. AtEach stands (λ config store. StopsAt config number store text at kind old (contents new)); full = λ at. AtEach stands (λ config store. LeavesBefore (Silently (wants config)) config number store text at old (contents new)); memory = λ at. AtEach stands (λ config store. LeavesBefore (IsSoundSoFar config) config number store text at old (contents new)); write = failed }) e
  fault_of_line wants contents before new failed (BadTrace at kind) same facts = λ config store there.
      let here = so_far config store there in
      let fault = facts.1 config here.next here.stands' in
      rw (fault.1, same) (stops_at config number store text number' here.next rest old now here.carries line next is free at kind facts.0 fault.0)
  fault_of_line wants contents before new failed (BadSchedule at kind) same facts = absurd facts
  fault_of_line wants contents before new failed (HeapFull at) same facts =
      leaves (λ config. Silently (wants config)) at facts.0 (contents new)
      (λ config store there.
      let fault = facts.1 config store there in
      rw (fault.1, same) (record { written = []; held = Appends-nil now; holds = (fault.0, refl) }))
  fault_of_line wants contents before new failed (NoMemory at) same facts = leaves IsSoundSoFar at facts.0 (contents new) (rw (← same) facts.1)
  fault_of_line wants contents before new failed (Unsettled line) same facts = absurd facts
  fault_of_line wants contents before new failed ReadFailed same facts = facts
  fault_of_line wants contents before new failed WriteFailed same facts = facts
