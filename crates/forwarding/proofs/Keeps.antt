-- Each step keeps the rule.
use Rattle.std.proofs.Common.{◌≡◌, ◌≢◌, ℕ, zero, suc, ◌+◌, ◌<◌, Bool, eqb, List, [], ◌∷◌, ◌++◌, All, set, length, get_or, Some, None, sym, refl, ap, ◌∙◌, subst, ⊎_elim, arith, eq-eqb, ne_eqb, length-set, get_or-set_same, get_or-set_other}
use Rattle.std.specs.Prelude.{Option}
use Rattle.std.proofs.lemmas.List.{set-get_or}
use Rattle.std.proofs.lemmas.List.Elements.{All-cons, All-push, All-append, All-nil, All-weaker}
use mathlib.Core.Logic.{dite}
use mathlib.Core.Option.{none, some, some-injective, some-ne-none}
use native.Mathlib.Decide.{ℕ_discrete}
use lib.ListN.{get_elem?}
use prog.Atomic.{either}
use Rattle.atomic_table.specs.Table.{State, Me, Step, step, keeps, stepped, opening, Allows, Splits, Joins}
use Rattle.atomic_table.proofs.Lists.{at_set, at_snoc}
use Rattle.layout.specs.declared.place.Place.{Place}
use Rattle.layout.specs.declared.place.Place.TheVariants.{Small, Large}
use Rattle.layout.specs.Place.{place_word, pointer_word}
use Rattle.layout.proofs.Pointers.{pointer_word-one_to_one}
use Rattle.model.proofs.Totals.{total-set, total-same, total-snoc}
use Rattle.forwarding.specs.declared.word_cells.plays.Mind.{Mind}
use Rattle.forwarding.specs.declared.word_cells.plays.Plan.{Plan}
use Rattle.forwarding.specs.Settled.{Pairs, wins_of, ones}
use Rattle.forwarding.specs.Kept.{mind, set_count, IsShown, IsSoundMind, IsKeptWords, newcomer, dealt, both, spent, learn, win, Looked, RacedBy, Raced}
use Rattle.forwarding.specs.Known.{known_in, Lasts}
use Rattle.forwarding.proofs.PairLemmas.{known_all, none_unless, wins_of-append, wins_of-itself, wins_of-another}

abbrev pub St : Type 0
St = State (Unit {0}) Mind

abbrev pub Sat : Type 0
Sat = Me (Unit {0}) Mind

-- no place has the word 0
pub place_word-set : (p : Place) → place_word p ≢ 0
place_word-set (Small at) = λ e. omega arith
place_word-set (Large of) = λ e. omega arith

pub set_count-set : (n : ℕ) → n ≢ 0 → set_count n ≡ 1
set_count-set n ne = rw (ne_eqb n 0 ne)

pub set_count-pointer : (o : Option Place) → set_count (pointer_word o) ≡ ones o
set_count-pointer None = refl
set_count-pointer (Some p) = set_count-set (place_word p) (place_word-set p)

-- each word is that of a pointer
pub pointer_at : (plan : Plan) (s : St) → IsKeptWords plan s → (i : ℕ) → (o : Option Place) × (pointer_word o ≡ get_or s.words i 0)
pointer_at plan s r i = dite (ℕ_discrete (get_or s.words i 0) 0)
    (λ zero_there. (None, sym zero_there))
    (λ there. let t = r.set i there in (Some t.0, sym t.1))

-- one view has other pairs, no part and no win more
moved : (plan : Plan) (s : St) (homes : List (mathlib.Core.Option.Option (Unit {0}))) (id : ℕ) (v w : Mind) → IsKeptWords plan s → get_elem? s.views id ≡ some v → w.parts ≡ v.parts → w.won ≡ v.won → All (IsShown s.words) w.known
    → IsKeptWords plan (record { words = s.words; homes = homes; views = set s.views id w })
moved plan s homes id v w r at parts won known =
    let mine : IsSoundMind s.words w = record { known = known; won = subst (λ (xs : Pairs). All (IsShown s.words) xs) (sym won) (r.sound id v at).won; spent = λ z. won ∙ (r.sound id v at).spent (sym parts ∙ z) } in
    record {
      wide = r.wide;
      spare = r.spare;
      whole = total-same (λ (u : Mind). u.parts) s.views id v w at parts ∙ r.whole;
      sound = λ i u e. ⊎_elim (λ (t : (i ≡ id) × (w ≡ u)). subst (λ (z : Mind). IsSoundMind s.words z) t.1 mine) (λ (t : (i ≢ id) × (get_elem? s.views i ≡ some u)). r.sound i u t.1) (at_set s.views id i w u e);
      once = λ name. total-same (λ (u : Mind). wins_of name u.won) s.views id v w at (ap (wins_of name) won) ∙ r.once name;
      set = r.set;
    }

learned : (plan : Plan) (s : St) (homes : List (mathlib.Core.Option.Option (Unit {0}))) (id : ℕ) (v : Mind) (i : ℕ) (o : Option Place) → IsKeptWords plan s → get_elem? s.views id ≡ some v → pointer_word o ≡ get_or s.words i 0
    → IsKeptWords plan (record { words = s.words; homes = homes; views = set s.views id (learn i o v) })
learned plan s homes id v i None r at is = moved plan s homes id v v r at refl refl (r.sound id v at).known
learned plan s homes id v i (Some p) r at is = moved plan s homes id v (learn i (Some p) v) r at refl refl (All-cons (IsShown s.words) (i, p) v.known (sym is) (r.sound id v at).known)

-- a load, or an exchange that finds another number
stays : (plan : Plan) (s : St) (id : ℕ) (me : Sat) (i : ℕ) (o : Option Place) → IsKeptWords plan s → get_elem? s.views id ≡ some me.0 → pointer_word o ≡ get_or s.words i 0
    → IsKeptWords plan (stepped s i (get_or s.words i 0) id me.1 (learn i o me.0) keeps)
stays plan s id me i o r at is =
    subst (λ (ws : List ℕ). IsKeptWords plan (record { words = ws; homes = s.homes; views = set s.views id (learn i o me.0) })) (sym (set-get_or s.words i 0)) (learned plan s s.homes id me.0 i o r at is)

lasting : (words : List ℕ) (known : Pairs) (i : ℕ) (o : Option Place) → All (IsShown words) known → pointer_word o ≡ get_or words i 0 → Lasts known i o
lasting words known i o a is p e =
    pointer_word-one_to_one o (Some p) (is ∙ known_all (IsShown words) known i p a e)

pub looks : (plan : Plan) (slots id : ℕ) (me : Sat) (i : ℕ) → Allows (IsKeptWords plan) slots id me i (λ n. n) (Looked (step slots i 0 0 none) me)
looks plan slots id me i s r _ at _ =
    let t = pointer_at plan s r i in
    (learn i t.0 me.0, keeps, tt, stays plan s id me i t.0 r at t.1, (t.0, t.1, refl, lasting s.words me.0.known i t.0 (r.sound id me.0 at).known t.1))

-- a pair of another word is still shown
shown_set : (words : List ℕ) (i new : ℕ) → get_or words i 0 ≡ 0 → (x : ℕ × Place) → IsShown words x → IsShown (set words i new) x
shown_set words i new zero_there x shown = dite (ℕ_discrete x.0 i)
    (λ is. absurd (place_word-set x.1 (sym shown ∙ (ap (λ (k : ℕ). get_or words k 0) is ∙ zero_there))))
    (λ ne. get_or-set_other words i x.0 new 0 ne ∙ shown)

won_here : (plan : Plan) (s : St) (id : ℕ) (me : Sat) (i new : ℕ) (p : Place) → IsKeptWords plan s → get_elem? s.views id ≡ some me.0 → get_or s.words i 0 ≡ 0 → new ≡ place_word p → i < plan.count → me.0.parts ≢ 0
    → IsKeptWords plan (stepped s i new id me.1 (win i p me.0) keeps)
won_here plan s id me i new p r at empty shows within part =
    let w : Mind = win i p me.0 in
    let v : Mind = me.0 in
    let words' : List ℕ = set s.words i new in
    let mine = r.sound id v at in
    let there : get_or words' i 0 ≡ new = get_or-set_same s.words i new 0 (let wide = r.wide in omega arith) in
    let new_pair : IsShown words' (i, p) = there ∙ shows in
    let still : (xs : Pairs) → All (IsShown s.words) xs → All (IsShown words') xs = All-weaker (IsShown s.words) (IsShown words') (shown_set s.words i new empty) in
    let sound_w : IsSoundMind words' w = record {
      known = All-cons (IsShown words') (i, p) v.known new_pair (still v.known mine.known);
      won = All-push (IsShown words') v.won (i, p) (still v.won mine.won) new_pair;
      spent = λ z. absurd (part z);
    } in
    record {
      wide = length-set s.words i new ∙ r.wide;
      spare = get_or-set_other s.words i plan.count new 0 (λ e. omega arith) ∙ r.spare;
      whole = total-same (λ (u : Mind). u.parts) s.views id v w at refl ∙ r.whole;
      sound = λ j u e. ⊎_elim (λ (t : (j ≡ id) × (w ≡ u)). subst (λ (z : Mind). IsSoundMind words' z) t.1 sound_w)
          (λ (t : (j ≢ id) × (get_elem? s.views j ≡ some u)). let old = r.sound j u t.1 in record { known = still u.known old.known; won = still u.won old.won; spent = old.spent }) (at_set s.views id j w u e);
      once = λ name. let sum = total-set (λ (u : Mind). wins_of name u.won) s.views id v w at in let more = wins_of-append name v.won ((i, p) ∷ []) in let was = r.once name in dite (ℕ_discrete i name)
          (λ is. let before : set_count (get_or s.words name 0) ≡ 0 = ap set_count (ap (λ (k : ℕ). get_or s.words k 0) (sym is) ∙ empty) in
          let after : set_count (get_or words' name 0) ≡ 1 = ap set_count (ap (λ (k : ℕ). get_or words' k 0) (sym is) ∙ (there ∙ shows)) ∙ set_count-set (place_word p) (place_word-set p) in
          let one = wins_of-itself i name p is in omega arith)
          (λ ne. let same : set_count (get_or words' name 0) ≡ set_count (get_or s.words name 0) = ap set_count (get_or-set_other s.words i name new 0 (λ e. ne (sym e))) in
          let no_more = wins_of-another i name p ne in omega arith);
      set = λ name nonzero. dite (ℕ_discrete name i)
          (λ is. (p, ap (λ (k : ℕ). get_or words' k 0) is ∙ (there ∙ shows)))
          (λ ne. let same = get_or-set_other s.words i name new 0 ne in let old = r.set name (λ z. nonzero (same ∙ z)) in (old.0, same ∙ old.1));
    }

pub races : (plan : Plan) (slots id : ℕ) (me : Sat) (i new : ℕ) (p : Place) → new ≡ place_word p → i < plan.count → me.0.parts ≢ 0
    → Allows (IsKeptWords plan) slots id me i (λ n. either (eqb n 0) new n) (Raced (step slots i 0 new none) me)
races plan slots id me i new p shows within part s r _ at _ =
    let x : ℕ = get_or s.words i 0 in
    let st : Step (Unit {0}) = step slots i 0 new none in
    let mine = r.sound id me.0 at in
    dite (ℕ_discrete x 0)
    (λ hit.
    let unknown : known_in me.0.known i ≡ None = none_unless (known_in me.0.known i) (λ q e. let sees : x ≡ place_word q = known_all (IsShown s.words) me.0.known i q mine.known e in place_word-set q (sym sees ∙ hit)) in
    let w : Mind = win i p me.0 in (
      w,
      keeps,
      tt,
      subst (λ (b : Bool). IsKeptWords plan (stepped s i (either b new x) id me.1 w keeps)) (sym (eq-eqb x 0 hit)) (won_here plan s id me i new p r at hit shows within part),
      subst (λ (b : Bool). RacedBy b st me x (w, me.1)) (sym (eq-eqb x 0 hit)) (p, sym shows, refl, unknown),
    ))
    (λ miss.
    let t = r.set i miss in
    let w : Mind = learn i (Some t.0) me.0 in (
      w,
      keeps,
      tt,
      subst (λ (b : Bool). IsKeptWords plan (stepped s i (either b new x) id me.1 w keeps)) (sym (ne_eqb x 0 miss)) (stays plan s id me i (Some t.0) r at (sym t.1)),
      subst (λ (b : Bool). RacedBy b st me x (w, me.1)) (sym (ne_eqb x 0 miss)) (t.0, sym t.1, refl, lasting s.words me.0.known i (Some t.0) mine.known (sym t.1)),
    ))

only : (v u : Mind) (i : ℕ) → get_elem? (v ∷ []) i ≡ some u → v ≡ u
only v u zero e = some-injective v u e
only v u (suc i) e = absurd (some-ne-none u (sym e))

pub opens : (plan : Plan) (words : List ℕ) → length words ≡ plan.count + 1 → ((name : ℕ) → get_or words name 0 ≡ 0) → IsKeptWords plan (opening words [] (mind plan.passes [] []))
opens plan words wide zeros =
    let v : Mind = mind plan.passes [] [] in
    record {
      wide = wide;
      spare = zeros plan.count;
      whole = omega arith;
      sound = λ i u e. subst (λ (z : Mind). IsSoundMind words z) (only v u i e) (record { known = All-nil (IsShown words); won = All-nil (IsShown words); spent = λ _. refl });
      once = λ name. sym (ap set_count (zeros name));
      set = λ name nonzero. absurd (nonzero (zeros name));
    }

pub deals : (plan : Plan) (id : ℕ) (v : Mind) → 1 < v.parts → Splits (IsKeptWords plan) id v (dealt v) newcomer
deals plan id v more s r at =
    let mine = r.sound id v at in
    let vs : List Mind = set s.views id (dealt v) in
    let dealt_sound : IsSoundMind s.words (dealt v) = record { known = mine.known; won = mine.won; spent = λ z. absurd (omega arith) } in
    let new_sound : IsSoundMind s.words newcomer = record { known = All-nil (IsShown s.words); won = All-nil (IsShown s.words); spent = λ _. refl } in
    record {
      wide = r.wide;
      spare = r.spare;
      whole = (let a = total-snoc (λ (u : Mind). u.parts) vs newcomer in let b = total-set (λ (u : Mind). u.parts) s.views id v (dealt v) at in let w = r.whole in omega arith);
      sound = λ i u e. ⊎_elim
          (λ (t : get_elem? vs i ≡ some u). ⊎_elim (λ (y : (i ≡ id) × (dealt v ≡ u)). subst (λ (z : Mind). IsSoundMind s.words z) y.1 dealt_sound) (λ (y : (i ≢ id) × (get_elem? s.views i ≡ some u)). r.sound i u y.1) (at_set s.views id i (dealt v) u t))
          (λ (t : newcomer ≡ u). subst (λ (z : Mind). IsSoundMind s.words z) t new_sound) (at_snoc vs newcomer u i e);
      once = λ name. let a = total-snoc (λ (u : Mind). wins_of name u.won) vs newcomer in let b = total-set (λ (u : Mind). wins_of name u.won) s.views id v (dealt v) at in let w = r.once name in omega arith;
      set = r.set;
    }

pub gathers : (plan : Plan) (id : ℕ) (v : Mind) (other : ℕ) (w : Mind) → Joins (IsKeptWords plan) id v other w (both v w) spent
gathers plan id v other w s r at apart at' =
    let vs : List Mind = set s.views id (both v w) in
    let there : get_elem? s.views other ≡ some w = ⊎_elim (λ (y : (other ≡ id) × (both v w ≡ w)). absurd (apart y.0)) (λ (y : (other ≢ id) × (get_elem? s.views other ≡ some w)). y.1) (at_set s.views id other (both v w) w at') in
    let mine = r.sound id v at in
    let theirs = r.sound other w there in
    let P : ℕ × Place → Type 0 = IsShown s.words in
    let both_sound : IsSoundMind s.words (both v w) = record {
      known = All-append P w.known v.known theirs.known mine.known;
      won = All-append P w.won v.won theirs.won mine.won;
      spent = λ z. let a = mine.spent (omega arith) in let b = theirs.spent (omega arith) in (λ k. b k ++ a k);
    } in
    let spent_sound : IsSoundMind s.words spent = record { known = All-nil P; won = All-nil P; spent = λ _. refl } in
    record {
      wide = r.wide;
      spare = r.spare;
      whole = (let a = total-set (λ (u : Mind). u.parts) s.views id v (both v w) at in let b = total-set (λ (u : Mind). u.parts) vs other w spent at' in let t = r.whole in omega arith);
      sound = λ i u e. ⊎_elim (λ (y : (i ≡ other) × (spent ≡ u)). subst (λ (z : Mind). IsSoundMind s.words z) y.1 spent_sound)
          (λ (y : (i ≢ other) × (get_elem? vs i ≡ some u)). ⊎_elim (λ (x : (i ≡ id) × (both v w ≡ u)). subst (λ (z : Mind). IsSoundMind s.words z) x.1 both_sound) (λ (x : (i ≢ id) × (get_elem? s.views i ≡ some u)). r.sound i u x.1) (at_set s.views id i (both v w) u y.1))
          (at_set vs other i spent u e);
      once = λ name. let a = total-set (λ (u : Mind). wins_of name u.won) s.views id v (both v w) at in let b = total-set (λ (u : Mind). wins_of name u.won) vs other w spent at' in let c = wins_of-append name w.won v.won in let t = r.once name in omega arith;
      set = r.set;
    }
