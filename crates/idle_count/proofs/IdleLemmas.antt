-- Each step keeps the rule of the idle count, and what who gathered all seats knows.
use Rattle.std.proofs.Common.{◌≡◌, ◌≢◌, ℕ, ◌+◌, ◌-◌, ◌%◌, ◌^◌, ◌<◌, ◌≤◌, ◌==◌, Bool, true, false, List, [], ◌∷◌, ◌++◌, set, get_or, max, refl, sym, ap, ◌∙◌, subst, ⊎_elim, arith, eqb, eq-eqb, ne_eqb, length-set, get_or-set_same}
use mathlib.Core.Logic.{dite}
use mathlib.Core.Option.{none, some, some-injective, some-ne-none}
use native.Mathlib.Decide.{ℕ_discrete, dec_le}
use lib.ListN.{get_elem?}
use prog.Atomic.{either}
use Rattle.atomic_table.specs.Table.{State, Me, step, keeps, stepped, Seen, Allows, Splits, Joins}
use Rattle.atomic_table.proofs.Lists.{at_set, at_snoc}
use Rattle.model.specs.Total.{total}
use Rattle.model.proofs.Totals.{total-set, total-same, total-snoc, total-at, total-below, total-whole}
use Rattle.idle_count.specs.declared.idle_plays.Share.{Share}
use Rattle.idle_count.specs.Idled.{share, idles_in, IsSoundShare, IsKeptIdling, newcomer, dealt, both, spent, Rested, Looked, after_wake, Woke}

abbrev St : Type 0
St = State (Unit {0}) Share

abbrev Sat : Type 0
Sat = Me (Unit {0}) Share

-- what holds of one new view and of all others holds of all
each_sound : (seats word : ℕ) (views : List Share) (id : ℕ) (w : Share) → IsSoundShare seats word w
    → ((j : ℕ) (u : Share) → get_elem? views j ≡ some u → IsSoundShare seats word u) → (j : ℕ) (u : Share) → get_elem? (set views id w) j ≡ some u → IsSoundShare seats word u
each_sound seats word views id w mine others j u e = ⊎_elim
    (λ (t : (j ≡ id) × (w ≡ u)). subst (IsSoundShare seats word) t.1 mine)
    (λ (t : (j ≢ id) × (get_elem? views j ≡ some u)). others j u t.1)
    (at_set views id j w u e)

-- one view changes, and the word with it
moved : (seats : ℕ) (s : St) (id : ℕ) (me : Sat) (w : Share) (word : ℕ) → IsKeptIdling seats s → get_elem? s.views id ≡ some me.0 → w.parts ≡ me.0.parts → IsSoundShare seats word w
    → word ≡ idles_in (set s.views id w) → (get_or s.words 0 0 ≡ seats → word ≡ seats) → IsKeptIdling seats (stepped s 0 word id me.1 w keeps)
moved seats s id me w word r at parts mine counted lasts =
    let wide = r.wide in
    let there : get_or (set s.words 0 word) 0 0 ≡ word = get_or-set_same s.words 0 word 0 (omega arith) in
    record {
      wide = length-set s.words 0 word ∙ r.wide;
      whole = total-same (λ (u : Share). u.parts) s.views id me.0 w at parts ∙ r.whole;
      sound = subst (λ n. (j : ℕ) (u : Share) → get_elem? (set s.views id w) j ≡ some u → IsSoundShare seats n u) (sym there)
          (each_sound seats word s.views id w mine (λ j u e. let old = r.sound j u e in record { same = old.same; idles = old.idles; ended = λ part end. lasts (old.ended part end) }));
      word = there ∙ counted;
    }

-- no more seats are idle than there are
all_idles : (seats : ℕ) (s : St) → IsKeptIdling seats s → idles_in s.views ≤ seats
all_idles seats s r =
    let below = total-below (λ (u : Share). u.idles) (λ (u : Share). u.parts) s.views (λ i u e. (r.sound i u e).idles) in
    let whole = r.whole in omega arith

-- who isn't idle knows that not all are
not_all : (seats : ℕ) (s : St) (id : ℕ) (v : Share) → IsKeptIdling seats s → get_elem? s.views id ≡ some v → v.parts ≡ 1 → v.idles ≡ 0 → get_or s.words 0 0 < seats
not_all seats s id v r at part busy =
    let w : Share = share v.seats v.parts 1 v.seen v.steps in
    let more = total-set (λ (u : Share). u.idles) s.views id v w at in
    let same = total-same (λ (u : Share). u.parts) s.views id v w at refl in
    let most = total-below (λ (u : Share). u.idles) (λ (u : Share). u.parts) (set s.views id w) (λ j u e. ⊎_elim
    (λ (t : (j ≡ id) × (w ≡ u)). subst (λ (z : Share). z.idles ≤ z.parts) t.1 (omega arith))
    (λ (t : (j ≢ id) × (get_elem? s.views j ≡ some u)). (r.sound j u t.1).idles) (at_set s.views id j w u e)) in
    let all = r.whole in let c = r.word in omega arith

pub rests : (seats slots id : ℕ) (me : Sat) → me.0.parts ≡ 1 → me.0.idles ≡ 0 → seats < 2 ^ 32
    → Allows (IsKeptIdling seats) slots id me 0 (λ n. (n + 1) % 2 ^ 64) (Rested (step slots 0 1 0 none) me)
rests seats slots id me part busy small s r _ at _ =
    let x : ℕ = get_or s.words 0 0 in
    let v : Share = me.0 in
    let w : Share = share v.seats v.parts (v.idles + 1) (x + 1) (v.steps + 1) in
    let low = not_all seats s id v r at part busy in
    let next : x + 1 ≡ (x + 1) % 2 ^ 64 = omega arith in
    let mine = r.sound id v at in
    let known : v.seats ≡ seats = mine.same (λ z. omega arith) in
    let counted : x + 1 ≡ idles_in (set s.views id w) = (let t = total-set (λ (u : Share). u.idles) s.views id v w at in let c = r.word in omega arith) in
    let sound : IsSoundShare seats (x + 1) w = record { same = mine.same; idles = omega arith; ended = λ _ end. omega arith } in (
      w,
      keeps,
      tt,
      subst (λ n. IsKeptIdling seats (stepped s 0 n id me.1 w keeps)) next (moved seats s id me w (x + 1) r at refl sound counted (λ all. absurd (omega arith))),
      record { after = refl; low = omega arith },
    )

-- the word stays, and so does what the seat counts as
stays : (seats : ℕ) (s : St) (id : ℕ) (me : Sat) (w : Share) → IsKeptIdling seats s → get_elem? s.views id ≡ some me.0 → w.parts ≡ me.0.parts → w.idles ≡ me.0.idles → IsSoundShare seats (get_or s.words 0 0) w
    → IsKeptIdling seats (stepped s 0 (get_or s.words 0 0) id me.1 w keeps)
stays seats s id me w r at parts idles mine = moved seats s id me w (get_or s.words 0 0) r at parts mine (r.word ∙ sym (total-same (λ (u : Share). u.idles) s.views id me.0 w at idles)) (λ all. all)

pub looks : (seats slots id : ℕ) (me : Sat) → me.0.parts ≡ 1 → Allows (IsKeptIdling seats) slots id me 0 (λ n. n) (Looked (step slots 0 0 0 none) me)
looks seats slots id me part s r _ at _ =
    let x : ℕ = get_or s.words 0 0 in
    let v : Share = me.0 in
    let w : Share = share v.seats v.parts v.idles x (v.steps + 1) in
    let mine = r.sound id v at in
    let known : v.seats ≡ seats = mine.same (λ z. omega arith) in
    let c = r.word in
    let few = all_idles seats s r in
    let sound : IsSoundShare seats x w = record { same = mine.same; idles = mine.idles; ended = λ _ end. omega arith } in (
      w,
      keeps,
      tt,
      stays seats s id me w r at refl refl sound,
      record {
        after = refl;
        least = (let h = total-at (λ (u : Share). u.idles) s.views id v at in omega arith);
        most = omega arith;
        lasting = λ end. mine.ended (λ z. omega arith) (omega arith) ∙ sym known;
      },
    )

wakes_seen : (seats slots id : ℕ) (me : Sat) → me.0.parts ≡ 1 → me.0.idles ≡ 1 → 0 < me.0.seen → me.0.seen < seats
    → Allows (IsKeptIdling seats) slots id me 0 (λ n. either (eqb n me.0.seen) (me.0.seen - 1) n) (Woke (step slots 0 me.0.seen (me.0.seen - 1) none) me)
wakes_seen seats slots id me part idle some_idle going s r _ at _ =
    let x : ℕ = get_or s.words 0 0 in
    let v : Share = me.0 in
    let mine = r.sound id v at in
    let w : Share = after_wake v (x == v.seen) in
    let kept : IsKeptIdling seats (stepped s 0 (either (eqb x v.seen) (v.seen - 1) x) id me.1 w keeps) = dite (ℕ_discrete x v.seen)
    (λ hit.
    let awake : Share = after_wake v true in
    let sound : IsSoundShare seats (v.seen - 1) awake = record { same = mine.same; idles = omega arith; ended = λ _ end. absurd (omega arith) } in
    let counted : v.seen - 1 ≡ idles_in (set s.views id awake) = (let t = total-set (λ (u : Share). u.idles) s.views id v awake at in let c = r.word in omega arith) in
    subst (λ (b : Bool). IsKeptIdling seats (stepped s 0 (either b (v.seen - 1) x) id me.1 (after_wake v b) keeps)) (sym (eq-eqb x v.seen hit))
    (moved seats s id me awake (v.seen - 1) r at refl sound counted (λ all. absurd (omega arith))))
    (λ miss.
    let asleep : Share = after_wake v false in
    let sound : IsSoundShare seats x asleep = record { same = mine.same; idles = mine.idles; ended = mine.ended } in
    subst (λ (b : Bool). IsKeptIdling seats (stepped s 0 (either b (v.seen - 1) x) id me.1 (after_wake v b) keeps)) (sym (ne_eqb x v.seen miss))
    (stays seats s id me asleep r at refl refl sound)) in
    (w, keeps, tt, kept, refl)

-- the same, where the seat says what it has seen
pub wakes : (seats slots id : ℕ) (me : Sat) (seen : ℕ) → me.0.seen ≡ seen → me.0.parts ≡ 1 → me.0.idles ≡ 1 → 0 < seen → seen < seats
    → Allows (IsKeptIdling seats) slots id me 0 (λ n. either (eqb n seen) (seen - 1) n) (Woke (step slots 0 seen (seen - 1) none) me)
wakes seats slots id me seen is part idle some_idle going =
    subst (λ k. Allows (IsKeptIdling seats) slots id me 0 (λ n. either (eqb n k) (k - 1) n) (Woke (step slots 0 k (k - 1) none) me)) is
    (wakes_seen seats slots id me part idle (omega arith) (omega arith))

-- a change of views that keeps each sum
sums : (seats : ℕ) (s : St) (vs : List Share) → IsKeptIdling seats s → total (λ (u : Share). u.parts) vs ≡ total (λ (u : Share). u.parts) s.views → idles_in vs ≡ idles_in s.views
    → ((i : ℕ) (v : Share) → get_elem? vs i ≡ some v → IsSoundShare seats (get_or s.words 0 0) v) → IsKeptIdling seats (record { words = s.words; homes = s.homes; views = vs })
sums seats s vs r parts idles sound = record {
  wide = r.wide;
  whole = parts ∙ r.whole;
  sound = sound;
  word = r.word ∙ sym idles;
}

pub deals : (seats id : ℕ) (v : Share) → 0 < v.parts → v.seats ≡ seats → v.idles ≡ 0 → v.seen ≡ 0 → Splits (IsKeptIdling seats) id v (dealt v) (newcomer v)
deals seats id v more known busy unseen s r at =
    let x : ℕ = get_or s.words 0 0 in
    let vs : List Share = set s.views id (dealt v) in
    let some_seats : 0 < seats = (let t = total-at (λ (u : Share). u.parts) s.views id v at in let w = r.whole in omega arith) in
    let new : IsSoundShare seats x (newcomer v) = record { same = λ _. known; idles = omega arith; ended = λ _ end. absurd (omega arith) } in
    let left : IsSoundShare seats x (dealt v) = record { same = λ _. known; idles = omega arith; ended = λ _ end. absurd (omega arith) } in
    sums seats s (vs ++ newcomer v ∷ []) r
    (let a = total-snoc (λ (u : Share). u.parts) vs (newcomer v) in let b = total-set (λ (u : Share). u.parts) s.views id v (dealt v) at in omega arith)
    (let a = total-snoc (λ (u : Share). u.idles) vs (newcomer v) in let b = total-set (λ (u : Share). u.idles) s.views id v (dealt v) at in omega arith)
    (λ i u e. ⊎_elim
    (λ (t : get_elem? vs i ≡ some u). each_sound seats x s.views id (dealt v) left r.sound i u t)
    (λ (t : newcomer v ≡ u). subst (IsSoundShare seats x) t new) (at_snoc vs (newcomer v) u i e))

-- whichever of two has seen the end, it has come
ended_by : (v w seats word : ℕ) → (seats ≤ v → word ≡ seats) → (seats ≤ w → word ≡ seats) → seats ≤ max v w → word ≡ seats
ended_by v w seats word one other end = dite (dec_le seats v) one (λ low. other (omega arith))

pub gathers : (seats id : ℕ) (v : Share) (other : ℕ) (w : Share) → v.parts ≢ 0 → w.parts ≢ 0 → Joins (IsKeptIdling seats) id v other w (both v w) spent
gathers seats id v other w part its_part s r at apart at' =
    let x : ℕ = get_or s.words 0 0 in
    let vs : List Share = set s.views id (both v w) in
    let there : get_elem? s.views other ≡ some w = ⊎_elim
    (λ (y : (other ≡ id) × (both v w ≡ w)). absurd (apart y.0))
    (λ (y : (other ≢ id) × (get_elem? s.views other ≡ some w)). y.1) (at_set s.views id other (both v w) w at') in
    let mine = r.sound id v at in
    let theirs = r.sound other w there in
    let sound : IsSoundShare seats x (both v w) = record {
      same = λ _. mine.same part;
      idles = (let a = mine.idles in let b = theirs.idles in omega arith);
      ended = λ _ end. ended_by v.seen w.seen seats x (mine.ended part) (theirs.ended its_part) end;
    } in
    let gone : IsSoundShare seats x spent = record { same = λ z. absurd (z refl); idles = omega arith; ended = λ z. absurd (z refl) } in
    sums seats s (set vs other spent) r
    (let a = total-set (λ (u : Share). u.parts) s.views id v (both v w) at in let b = total-set (λ (u : Share). u.parts) vs other w spent at' in omega arith)
    (let a = total-set (λ (u : Share). u.idles) s.views id v (both v w) at in let b = total-set (λ (u : Share). u.idles) vs other w spent at' in omega arith)
    (each_sound seats x vs other spent gone (each_sound seats x s.views id (both v w) sound r.sound))

-- what who has every part knows of the end
pub record IsEnd (seats word : ℕ) (v : Share) : Type 0 where
  pub idles : word ≡ v.idles
  pub most : v.idles ≤ seats
  pub ended : 0 < seats → seats ≤ v.seen → word ≡ seats

first_word : (words : List ℕ) (w : ℕ) → get_elem? words 0 ≡ some w → get_or words 0 0 ≡ w
first_word [] w e = absurd (some-ne-none w (sym e))
first_word (x ∷ xs) w e = some-injective x w e

-- the end, from the table as it was closed
pub closes : (seats id : ℕ) (v : Share) (words : List ℕ) (word : ℕ) → (s : St) × Seen (IsKeptIdling seats) id v s × (s.words ≡ words) → get_elem? words 0 ≡ some word → v.parts ≡ seats → IsEnd seats word v
closes seats id v words word final at parts =
    let s : St = final.0 in
    let r = final.1.0 in
    let mine = r.sound id v final.1.1 in
    let read : get_or s.words 0 0 ≡ word = ap (λ (ws : List ℕ). get_or ws 0 0) final.2 ∙ first_word words word at in
    let whole = total-whole (λ (u : Share). u.parts) (λ (u : Share). u.idles) s.views (λ i u e z. let h = (r.sound i u e).idles in omega arith) id v final.1.1 (r.whole ∙ sym parts) in
    record {
      idles = sym read ∙ (r.word ∙ whole);
      most = (let h = mine.idles in omega arith);
      ended = λ some_seats end. sym read ∙ mine.ended (λ z. omega arith) end;
    }
