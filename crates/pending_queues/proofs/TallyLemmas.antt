-- Each step keeps the rule of a tally, and what who gathered all seats knows.
use Rattle.std.proofs.Common.{rules, ◌≡◌, ◌≢◌, ℕ, ◌+◌, ◌%◌, ◌^◌, ◌<◌, ◌≤◌, List, [], ◌∷◌, ◌++◌, set, get_or, max, refl, sym, ap, ◌∙◌, subst, ⊎_elim, arith, length-set, get_or-set_same}
use mathlib.Core.Option.{none, some}
use lib.ListN.{get_elem?}
use Rattle.atomic_table.specs.Table.{State, opening, Me, step, keeps, stepped, Allows, Splits, Joins}
use Rattle.atomic_table.proofs.Lists.{at_set, at_snoc}
use Rattle.model.specs.Total.{total}
use Rattle.model.proofs.Totals.{total-set, total-same, total-snoc, total-whole}
use Rattle.pending_queues.specs.declared.tally.tally_plays.Count.{Count}
use Rattle.pending_queues.specs.Tallied.{known, raised_in, IsSoundCount, IsKeptTally, newcomer, dealt, both, spent, Raised, Saw, Checked}

abbrev St : Type 0
St = State (Unit {0}) Count

abbrev Sat : Type 0
Sat = Me (Unit {0}) Count

abbrev parts_in : List Count → ℕ
parts_in = total (λ (v : Count). v.parts)

-- one more is one more, also where the word wraps
wraps : (word n : ℕ) → word ≡ n % 2 ^ 64 → (word + 1) % 2 ^ 64 ≡ (n + 1) % 2 ^ 64
wraps word n is = omega arith

-- the views after a step by one seat
stepped_sound : (seats : ℕ) (s : St) (id : ℕ) (v w : Count) (more : ℕ) → IsKeptTally seats s → raised_in s.views ≤ more → IsSoundCount more w
    → (j : ℕ) (u : Count) → get_elem? (set s.views id w) j ≡ some u → IsSoundCount more u
stepped_sound seats s id v w more r grown mine j u e = ⊎_elim
    (λ (t : (j ≡ id) × (w ≡ u)). subst (IsSoundCount more) t.1 mine)
    (λ (t : (j ≢ id) × (get_elem? s.views j ≡ some u)).
    let old = r.sound j u t.1 in let seen = old.seen in record { partless = old.partless; seen = omega arith })
    (at_set s.views id j w u e)

pub raises : (seats slots id : ℕ) (me : Sat) → 0 < me.0.parts
    → Allows (IsKeptTally seats) slots id me 0 (λ n. (n + 1) % 2 ^ 64) (Raised (step slots 0 1 0 none) me)
raises seats slots id me part s r _ at _ =
    let v : Count = me.0 in
    let w : Count = known v.parts (v.raised + 1) v.seen in
    let more : raised_in (set s.views id w) ≡ raised_in s.views + 1 = (let t = total-set (λ (u : Count). u.raised) s.views id v w at in omega arith) in
    let mine = r.sound id v at in
    let seen = mine.seen in
    let wide = r.wide in
    let kept : IsKeptTally seats (stepped s 0 ((get_or s.words 0 0 + 1) % 2 ^ 64) id me.1 w keeps) = record {
      wide = length-set s.words 0 _ ∙ r.wide;
      whole = total-same (λ (u : Count). u.parts) s.views id v w at refl ∙ r.whole;
      sound = stepped_sound seats s id v w _ r (omega arith) (record { partless = λ z. absurd (omega arith); seen = omega arith });
      word = get_or-set_same s.words 0 _ 0 (omega arith) ∙ (wraps _ _ r.word ∙ ap (λ n. n % 2 ^ 64) (sym more));
    } in (w, keeps, tt, kept, refl)

pub reads : (seats slots id : ℕ) (me : Sat)
    → Allows (IsKeptTally seats) slots id me 0 (λ n. n) (Saw (step slots 0 0 0 none) me)
reads seats slots id me s r _ at _ =
    let v : Count = me.0 in
    let w : Count = known v.parts v.raised (max v.seen (get_or s.words 0 0)) in
    let same : raised_in (set s.views id w) ≡ raised_in s.views = total-same (λ (u : Count). u.raised) s.views id v w at refl in
    let mine = r.sound id v at in
    let word = r.word in
    let wide = r.wide in
    let kept : IsKeptTally seats (stepped s 0 (get_or s.words 0 0) id me.1 w keeps) = record {
      wide = length-set s.words 0 _ ∙ r.wide;
      whole = total-same (λ (u : Count). u.parts) s.views id v w at refl ∙ r.whole;
      sound = stepped_sound seats s id v w _ r (omega arith) (record { partless = mine.partless; seen = omega arith });
      word = get_or-set_same s.words 0 _ 0 (omega arith) ∙ (r.word ∙ ap (λ n. n % 2 ^ 64) (sym same));
    } in (w, keeps, tt, kept, refl)

-- a change of views that keeps each sum
sums : (seats : ℕ) (s : St) (vs : List Count) → IsKeptTally seats s → parts_in vs ≡ parts_in s.views → raised_in vs ≡ raised_in s.views
    → ((i : ℕ) (v : Count) → get_elem? vs i ≡ some v → IsSoundCount (raised_in s.views) v)
    → IsKeptTally seats (record { words = s.words; homes = s.homes; views = vs })
sums seats s vs r parts raised sound = record {
  wide = r.wide;
  whole = parts ∙ r.whole;
  sound = subst (λ n. (i : ℕ) (v : Count) → get_elem? vs i ≡ some v → IsSoundCount n v) (sym raised) sound;
  word = r.word ∙ ap (λ n. n % 2 ^ 64) (sym raised);
}

pub deals : (seats id : ℕ) (v : Count) → 0 < v.parts → v.raised ≡ 0 → v.seen ≡ 0 → Splits (IsKeptTally seats) id v (dealt v) (newcomer v)
deals seats id v more unraised unseen s r at =
    let vs : List Count = set s.views id (dealt v) in
    let new : IsSoundCount (raised_in s.views) (newcomer v) = record { partless = λ _. refl; seen = omega arith } in
    let left : IsSoundCount (raised_in s.views) (dealt v) = record { partless = λ _. unraised; seen = omega arith } in
    sums seats s (vs ++ newcomer v ∷ []) r
    (let a = total-snoc (λ (u : Count). u.parts) vs (newcomer v) in let b = total-set (λ (u : Count). u.parts) s.views id v (dealt v) at in omega arith)
    (let a = total-snoc (λ (u : Count). u.raised) vs (newcomer v) in let b = total-set (λ (u : Count). u.raised) s.views id v (dealt v) at in omega arith)
    (λ i u e. ⊎_elim
    (λ (t : get_elem? vs i ≡ some u). stepped_sound seats s id v (dealt v) _ r (omega arith) left i u t)
    (λ (t : newcomer v ≡ u). subst (IsSoundCount (raised_in s.views)) t new) (at_snoc vs (newcomer v) u i e))

pub gathers : (seats id : ℕ) (v : Count) (other : ℕ) (w : Count) → v.parts ≢ 0 → Joins (IsKeptTally seats) id v other w (both v w) spent
gathers seats id v other w part s r at apart at' =
    let vs : List Count = set s.views id (both v w) in
    let there : get_elem? s.views other ≡ some w = ⊎_elim
    (λ (y : (other ≡ id) × (both v w ≡ w)). absurd (apart y.0))
    (λ (y : (other ≢ id) × (get_elem? s.views other ≡ some w)). y.1) (at_set s.views id other (both v w) w at') in
    let mine = (r.sound id v at).seen in
    let theirs = (r.sound other w there).seen in
    let sound : IsSoundCount (raised_in s.views) (both v w) = record { partless = λ z. absurd (omega arith); seen = omega arith } in
    let none : IsSoundCount (raised_in s.views) spent = record { partless = λ _. refl; seen = omega arith } in
    sums seats s (set vs other spent) r
    (let a = total-set (λ (u : Count). u.parts) s.views id v (both v w) at in let b = total-set (λ (u : Count). u.parts) vs other w spent at' in omega arith)
    (let a = total-set (λ (u : Count). u.raised) s.views id v (both v w) at in let b = total-set (λ (u : Count). u.raised) vs other w spent at' in omega arith)
    (λ i u e. ⊎_elim
    (λ (y : (i ≡ other) × (spent ≡ u)). subst (IsSoundCount (raised_in s.views)) y.1 none)
    (λ (y : (i ≢ other) × (get_elem? vs i ≡ some u)). stepped_sound seats s id v (both v w) _ r (omega arith) sound i u y.1)
    (at_set vs other i spent u e))

-- who has every part has raised all, and so as often as it has seen
pub checks : (seats slots id : ℕ) (me : Sat) → me.0.parts ≡ seats
    → Allows (IsKeptTally seats) slots id me 0 (λ n. n) (Checked (step slots 0 0 0 none) me)
checks seats slots id me parts s r _ at _ =
    let v : Count = me.0 in
    let same : raised_in (set s.views id v) ≡ raised_in s.views = total-same (λ (u : Count). u.raised) s.views id v v at refl in
    let mine = r.sound id v at in
    let wide = r.wide in
    let whole = total-whole (λ (u : Count). u.parts) (λ (u : Count). u.raised) s.views (λ i u e z. (r.sound i u e).partless z) id v at (r.whole ∙ sym parts) in
    let seen = mine.seen in
    let kept : IsKeptTally seats (stepped s 0 (get_or s.words 0 0) id me.1 v keeps) = record {
      wide = length-set s.words 0 _ ∙ r.wide;
      whole = total-same (λ (u : Count). u.parts) s.views id v v at refl ∙ r.whole;
      sound = stepped_sound seats s id v v _ r (omega arith) (record { partless = mine.partless; seen = omega arith });
      word = get_or-set_same s.words 0 _ 0 (omega arith) ∙ (r.word ∙ ap (λ n. n % 2 ^ 64) (sym same));
    } in (v, keeps, tt, kept, (refl, omega arith))

-- a tally of zero, of which one who has all parts knows nothing more
pub opens : (seats : ℕ) → IsKeptTally seats (opening {S = Unit {0}} (0 ∷ []) [] (known seats 0 0))
opens seats = search rules
