-- A replay goes on by one line, and stops at one.
use Rattle.std.proofs.Common.{◌≡◌, ℕ, ◌+◌, ◌<◌, ◌≤◌, true, false, List, [], ◌∷◌, ◌++◌, length, length-append, map, Some, Result, Ok, Err, refl, sym, ap, subst, ◌∙◌, append_assoc, append-nil, arith, rules, ◌⊎◌, inl, inr}
use Rattle.std.specs.Prelude.{nat_lt, IfOk, IfErr}
use Rattle.heap_text.specs.Streams.{Output, Appends}
use Rattle.heap_text.proofs.Streams.{Appends-nil, Appends-trans}
use Rattle.std.proofs.lemmas.List.{length-map}
use Rattle.model.specs.declared.kind.Kind.TheVariants.{LineTooLong, UnfinishedLine}
use Rattle.model.specs.Config.{Config}
use Rattle.model.specs.Store.{Store}
use Rattle.model.specs.Commands.{Collect}
use Rattle.trace_text.specs.Grammar.{entry_of}
use Rattle.trace_session.specs.Pieces.{HasNoFeed, Piece, finished, unfinished, pieces}
use Rattle.trace_session.specs.Outcome.{line_step}
use Rattle.trace_session.specs.Stepped.{AtEach, Writes}
use Rattle.trace_session.proofs.PieceLemmas.{pieces_line, pieces_last}
use Rattle.trace_session.specs.declared.session.Session.{Session}
use Rattle.trace_session.specs.Session.{Stands}
use Rattle.trace_replay.specs.Replays.{State, state_of, Steps, StepsWithRoom, Replays, stay, step, with_room, collection, CollectsTo, LineReplayed, ReplaysTo, ReplaysAll}
use Rattle.trace_replay.specs.ReplayStops.{HasTraceFault, Quietly, StopsIn, LeavesNothingWhole, ReplaysWholeIn, outside}
use Rattle.trace_session.proofs.PieceLemmas.{BeginsLong, long_finished, long_unfinished}

-- what follows for each answer
pub if_ok : {T E : Type 0} {P Q : T → Type 0} → ((x : T) → P x → Q x) → (r : Result T E) → IfOk r P → IfOk r Q
if_ok f (Ok x) p = f x p
if_ok f (Err e) p = tt

pub if_err : {T E : Type 0} {P Q : E → Type 0} → ((e : E) → P e → Q e) → (r : Result T E) → IfErr r P → IfErr r Q
if_err f (Ok x) p = tt
if_err f (Err e) p = f e p

long_line : (config : Config) (store : Store) (line : List ℕ) → 4096 < length line → line_step config store line ≡ Err LineTooLong
unfolding line_step entry_of
long_line config store line long =
    let too_long : nat_lt 4096 (length line) ≡ true = search rules in
    rw too_long refl

module _ (config : Config) (n : ℕ) where
  pub replays_append : {s mid last : State} {a b : List Piece} {out more : List ℕ} → Replays config n s a out mid → Replays config n mid b more last → Replays config n s (a ++ b) (out ++ more) last
  replays_append stay then = then
  replays_append {s} {last = last} {b = b} {more = more} (step {line = line} {out = out} {more = rest_out} {rest = rest} steps rest_is) then =
      subst (λ o. Replays config n s (finished line ∷ (rest ++ b)) o last) (sym (append_assoc out rest_out more)) (step steps (replays_append rest_is then))
  replays_append {s} {last = last} {b = b} {more = more} (with_room {line = line} {out = out} {more = rest_out} {rest = rest} steps rest_is) then =
      subst (λ o. Replays config n s (finished line ∷ (rest ++ b)) o last) (sym (append_assoc out rest_out more)) (with_room steps (replays_append rest_is then))
  replays_append {s} {last = last} {b = b} {more = more} (collection {line = line} {out = out} {more = rest_out} {lines = lines} {rest = rest} ends asks collects commits rest_is) then =
      subst (λ ps. Replays config n s (finished line ∷ ps) ((out ++ rest_out) ++ more) last) (sym (append_assoc (map finished lines) (finished ends ∷ rest) b))
      (subst (λ o. Replays config n s (finished line ∷ (map finished lines ++ finished ends ∷ (rest ++ b))) o last) (sym (append_assoc out rest_out more)) (collection ends asks collects commits (replays_append rest_is then)))

  module _ {A : Type 0} (session : Session A) (old : State) (number : ℕ) where
    one_line : {new : State} (line : List ℕ) (out : List ℕ) → Steps config old line out new ⊎ StepsWithRoom config n old line out new → Replays config n old (finished line ∷ []) (out ++ []) new
    one_line line out (inl steps) = step steps stay
    one_line line out (inr steps) = with_room steps stay

    pub goes_by_line : (line after : List ℕ) (printed printed' : Output) → LineReplayed session config n old line printed printed'
        → ReplaysTo session config n old number (finished line ∷ pieces after) (number + 1) after printed printed'
    goes_by_line line after printed printed' done = record {
      store' = done.store';
      stands' = done.stands';
      lines = finished line ∷ [];
      out = done.out ++ [];
      replays = one_line line done.out done.steps;
      left_is = refl;
      number_is = refl;
      held = rw (append-nil done.out) done.held;
    }

    pub goes_by_schedule : (g : ℕ) (line text : List ℕ) (number' : ℕ) (rest : List ℕ) (printed printed' : Output) → entry_of line ≡ Ok (Some (Collect g)) → CollectsTo session config n g old number text number' rest printed printed'
        → ReplaysTo session config n old number (finished line ∷ pieces text) number' rest printed printed'
    goes_by_schedule g line text number' rest printed printed' asks to =
        let c = to.collected in
        record {
          store' = to.store';
          stands' = c.collection.holds;
          lines = finished line ∷ (map finished c.lines ++ finished c.ends ∷ []);
          out = c.out ++ [];
          replays = collection c.ends asks c.collection c.commits stay;
          left_is = ap (λ ps. finished line ∷ ps) (c.pieces_are ∙ sym (append_assoc (map finished c.lines) (finished c.ends ∷ []) (pieces rest)));
          number_is = omega (arith, c.number_is, length-append (map finished c.lines), length-map c.lines finished);
          held = rw (append-nil c.out) c.held;
        }

  module _ {A : Type 0} (mid : Session A) (old : State) (number : ℕ) (left : List Piece) (number' : ℕ) (rest : List ℕ) (printed printed' : Output) (so_far : ReplaysTo mid config n old number left number' rest printed printed') where
    pub joins : (new : Session A) (left' : List Piece) (number'' : ℕ) (rest' : List ℕ) (printed'' : Output) → pieces rest ≡ left' → ReplaysTo new config n (state_of mid so_far.store') number' left' number'' rest' printed' printed''
        → ReplaysTo new config n old number left number'' rest' printed printed''
    joins new left' number'' rest' printed'' is next = record {
      store' = next.store';
      stands' = next.stands';
      lines = so_far.lines ++ next.lines;
      out = so_far.out ++ next.out;
      replays = replays_append so_far.replays next.replays;
      left_is = so_far.left_is ∙ ap (λ ps. so_far.lines ++ ps) (is ∙ next.left_is) ∙ sym (append_assoc so_far.lines next.lines (pieces rest'));
      number_is = omega (arith, so_far.number_is, next.number_is, length-append so_far.lines);
      held = Appends-trans printed printed' printed'' so_far.out next.out so_far.held next.held;
    }

    pub stops_here : (P : State → ℕ → List Piece → ℕ → List ℕ → Type 0) (left' : List Piece) (at : ℕ) (printed'' : Output) → pieces rest ≡ left' → Writes (P (state_of mid so_far.store') number' left' at) printed' printed'' → StopsIn P config n old number left at printed printed''
    stops_here P left' at printed'' is own = record {
      lines = so_far.lines;
      out = so_far.out;
      mid = state_of mid so_far.store';
      replays = so_far.replays;
      left = left';
      all_are = so_far.left_is ∙ ap (λ ps. so_far.lines ++ ps) is;
      written = own.written;
      held = Appends-trans printed printed' printed'' so_far.out own.written so_far.held own.held;
      holds = subst (λ k. P (state_of mid so_far.store') k left' at own.written) so_far.number_is own.holds;
    }

    -- at a line that has written nothing
    pub stops_quietly : (P : State → ℕ → List Piece → ℕ → Type 0) (left' : List Piece) (at : ℕ) → pieces rest ≡ left' → P (state_of mid so_far.store') number' left' at → StopsIn (Quietly P) config n old number left at printed printed'
    stops_quietly P left' at is holds = stops_here (Quietly P) left' at printed' is (record { written = []; held = Appends-nil printed'; holds = (holds, refl) })

    no_pieces : (text : List ℕ) → length text ≡ 0 → pieces text ≡ []
    unfolding pieces
    no_pieces [] none = refl
    no_pieces (b ∷ bs) none = absurd (omega (arith, none))

    one_piece : (text : List ℕ) → HasNoFeed text → 0 < length text → pieces text ≡ unfinished text ∷ []
    one_piece [] free some = elim some [ ]
    one_piece (b ∷ bs) free some = pieces_last (b ∷ bs) free

    pub ends_whole : length rest ≡ 0 → ReplaysAll config n old left printed printed'
    ends_whole none = record {
      last = state_of mid so_far.store';
      out = so_far.out;
      replays = subst (λ ps. Replays config n old ps so_far.out (state_of mid so_far.store')) (sym (so_far.left_is ∙ ap (λ ps. so_far.lines ++ ps) (no_pieces rest none) ∙ append-nil so_far.lines)) so_far.replays;
      held = so_far.held;
    }

    pub ends_long : BeginsLong (pieces rest) → StopsIn (Quietly (HasTraceFault config n LineTooLong)) config n old number left number' printed printed'
    ends_long (long_finished {line = line} {more = more} is long) =
        stops_quietly (HasTraceFault config n LineTooLong) _ number' is (outside {p = finished line} refl refl (long_line config (state_of mid so_far.store').store line long))
    ends_long (long_unfinished {line = line} is long) =
        let too_long : nat_lt 4096 (length line) ≡ true = search rules in
        stops_quietly (HasTraceFault config n LineTooLong) _ number' is (outside {p = unfinished line} refl refl (rw too_long refl))

    pub ends_unfinished : HasNoFeed rest → 0 < length rest → length rest ≤ 4096 → StopsIn (Quietly (HasTraceFault config n UnfinishedLine)) config n old number left number' printed printed'
    ends_unfinished free some short =
        let fits : nat_lt 4096 (length rest) ≡ false = search rules in
        stops_quietly (HasTraceFault config n UnfinishedLine) _ number' (one_piece rest free some) (outside {p = unfinished rest} refl refl (rw fits refl))

    -- reads came to no whole line more
    pub uses_up : (left' : List Piece) → pieces rest ≡ left' → LeavesNothingWhole config n (state_of mid so_far.store') left' → ReplaysWholeIn config n old left printed printed'
    uses_up left' is none = record {
      lines = so_far.lines;
      out = so_far.out;
      mid = state_of mid so_far.store';
      replays = so_far.replays;
      left = left';
      all_are = so_far.left_is ∙ ap (λ ps. so_far.lines ++ ps) is;
      held = so_far.held;
      whole = none;
    }

-- before any line
pub starts : (config : Config) (n : ℕ) {A : Type 0} (session : Session A) (store : Store) (number : ℕ) (text : List ℕ) (printed : Output) → Stands session config store → ReplaysTo session config n (state_of session store) number (pieces text) number text printed printed
starts config n session store number text printed stands = record { store' = store; stands' = stands; lines = []; out = []; replays = stay; left_is = refl; number_is = omega arith; held = Appends-nil printed }

-- at each store for which a session stands
module _ {A : Type 0} (old mid : Session A) (n number : ℕ) (text : List ℕ) (number' : ℕ) (rest : List ℕ) {W : Type 0} (contents : W → Output) (printed : Output) (before : W) (so_far : AtEach (Stands old) (λ config store. ReplaysTo mid config n (state_of old store) number (pieces text) number' rest printed (contents before)))
    (line after : List ℕ) (is : rest ≡ line ++ 10 ∷ after) (free : HasNoFeed line) where
  pieces_is : pieces rest ≡ finished line ∷ pieces after
  pieces_is = ap pieces is ∙ pieces_line line after free

  pub goes_on : (new : Session A) (number'' : ℕ) (rest' : List ℕ) (printed'' : Output)
      → AtEach (Stands mid) (λ config store. ReplaysTo new config n (state_of mid store) number' (finished line ∷ pieces after) number'' rest' (contents before) printed'')
      → AtEach (Stands old) (λ config store. ReplaysTo new config n (state_of old store) number (pieces text) number'' rest' printed printed'')
  goes_on new number'' rest' printed'' next = λ config store stands.
      let here = so_far config store stands in
      joins config n mid (state_of old store) number (pieces text) number' rest printed (contents before) here new _ number'' rest' printed'' pieces_is (next config here.store' here.stands')

  -- reads came to no whole line of its schedule more
  pub stops_used_up : (new : W) → new ≡ before → AtEach (Stands mid) (λ config store. LeavesNothingWhole config n (state_of mid store) (finished line ∷ pieces after))
      → AtEach (Stands old) (λ config store. ReplaysWholeIn config n (state_of old store) (pieces text) printed (contents new))
  stops_used_up new same none = λ config store stands.
      let here = so_far config store stands in
      subst (λ w. ReplaysWholeIn config n (state_of old store) (pieces text) printed (contents w)) (sym same)
      (uses_up config n mid (state_of old store) number (pieces text) number' rest printed (contents before) here _ pieces_is (none config here.store' here.stands'))

  pub stops_somewhere : (P : Config → State → ℕ → List Piece → ℕ → List ℕ → Type 0) (at : ℕ) (printed'' : Output) → AtEach (Stands mid) (λ config store. Writes (P config (state_of mid store) number' (finished line ∷ pieces after) at) (contents before) printed'')
      → AtEach (Stands old) (λ config store. StopsIn (P config) config n (state_of old store) number (pieces text) at printed printed'')
  stops_somewhere P at printed'' own = λ config store stands.
      let here = so_far config store stands in
      stops_here config n mid (state_of old store) number (pieces text) number' rest printed (contents before) here (P config) _ at printed'' pieces_is (own config here.store' here.stands')

  pub stops_silently : (P : Config → State → ℕ → List Piece → ℕ → Type 0) (at : ℕ) (new : W) → AtEach (Stands mid) (λ config store. P config (state_of mid store) number' (finished line ∷ pieces after) at × (new ≡ before))
      → AtEach (Stands old) (λ config store. StopsIn (Quietly (P config)) config n (state_of old store) number (pieces text) at printed (contents new))
  stops_silently P at new holds = stops_somewhere (λ config. Quietly (P config)) at (contents new) (λ config store stands.
      let fault = holds config store stands in
      record { written = []; held = subst (λ w. Appends (contents before) (contents w) []) (sym fault.1) (Appends-nil (contents before)); holds = (fault.0, refl) })
