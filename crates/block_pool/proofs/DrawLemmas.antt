-- Each step on the counter keeps its rule, and what the rule says at the end.
use Rattle.std.proofs.Common.{◌≡◌, ◌≢◌, ℕ, suc, ◌+◌, ◌%◌, ◌^◌, ◌<◌, ◌≤◌, Bool, true, false, List, [], ◌∷◌, ◌++◌, take, drop, eq-eqb, set, length, get_or, nat_lt, min, refl, sym, ap, ◌∙◌, subst, ⊎_elim, arith, length-set, length-append, get_or-set_same}
use Rattle.std.proofs.lemmas.Bool.Decides.{nat_tests}
use Rattle.std.proofs.Math.Seq.{take-length}
use Rattle.std.proofs.lemmas.List.{take_more, take-append-drop}
use mathlib.Core.Logic.{dite}
use mathlib.Core.Option.{none, some, some-injective, some-ne-none}
use native.Mathlib.Decide.{ℕ_discrete, dec_le}
use lib.ListN.{get_elem?}
use Rattle.atomic_table.specs.Table.{State, Me, step, keeps, stepped, Seen, Allows, Splits, Joins}
use Rattle.atomic_table.proofs.Lists.{at_set, at_snoc}
use Rattle.model.specs.Total.{total}
use Rattle.model.proofs.Times.{times-append}
use Rattle.model.proofs.Totals.{total-set, total-same, total-snoc, total-at, total-whole, total-below}
use Rattle.block_pool.specs.declared.claims.claim_plays.Share.{Share}
use Rattle.block_pool.specs.Drawn.{share, times_in, drawn_in, outs_in, IsSoundDraws, IsKeptDraws, newcomer, dealt, both, spent, after_draw, Drew}

abbrev St : Type 0
St = State (Unit {0}) Share

abbrev Sat : Type 0
Sat = Me (Unit {0}) Share

pub times-take : (x k : ℕ) (xs : List ℕ) → times_in x (take k xs) ≤ times_in x xs
times-take x k xs = let parts : times_in x (take k xs) + times_in x (drop k xs) ≡ times_in x xs = sym (times-append (λ k. k) x (take k xs) (drop k xs)) ∙ ap (times_in x) (take-append-drop k xs) in omega arith

times-self : (x : ℕ) → times_in x (x ∷ []) ≡ 1
times-self x = rw (eq-eqb x x refl) (omega arith)

outs_few : (free : List ℕ) (seats : ℕ) (s : St) → IsKeptDraws free seats s → outs_in s.views ≤ seats
outs_few free seats s r = let h = total-below (λ (v : Share). v.outs) (λ (v : Share). v.parts) s.views (λ i v at. (r.sound i v at).outs) in let w = r.whole in omega arith

-- one more of the free list
taken_more : (x : ℕ) (free : List ℕ) (n : ℕ) → n < length free → times_in x (take (n + 1) free) ≡ times_in x (take n free) + times_in x (get_or free n 0 ∷ [])
taken_more x free n low = ap (times_in x) (take_more free n 0 low) ∙ times-append (λ k. k) x (take n free) (get_or free n 0 ∷ [])

-- the seat drew the number at the place found
takes_next : (free : List ℕ) (seats : ℕ) (s : St) (id : ℕ) (me : Sat) → IsKeptDraws free seats s → get_elem? s.views id ≡ some me.0 → me.0.free ≡ free → me.0.parts ≡ 1 → me.0.outs ≡ 0 → get_or s.words 0 0 < length free
    → IsKeptDraws free seats (stepped s 0 (get_or s.words 0 0 + 1) id me.1 (share me.0.free me.0.seats me.0.parts (me.0.drawn ++ get_or me.0.free (get_or s.words 0 0) 0 ∷ []) me.0.outs) keeps)
takes_next free seats s id me r at same part in_play low =
    let x : ℕ = get_or s.words 0 0 in
    let v : Share = me.0 in
    let number : ℕ = get_or v.free x 0 in
    let w : Share = share v.free v.seats v.parts (v.drawn ++ number ∷ []) v.outs in
    let none_out : outs_in s.views ≡ 0 = dite (ℕ_discrete (outs_in s.views) 0) (λ e. e) (λ some_out. let u = r.used_up (omega arith) in let c = r.counter in absurd (omega arith)) in
    let outs : outs_in (set s.views id w) ≡ outs_in s.views = total-same (λ (u : Share). u.outs) s.views id v w at refl in
    let more : drawn_in (set s.views id w) ≡ drawn_in s.views + 1 = (let t = total-set (λ (u : Share). length u.drawn) s.views id v w at in let n : length (v.drawn ++ number ∷ []) ≡ length v.drawn + 1 = length-append v.drawn (number ∷ []) ∙ omega arith in omega arith) in
    let counted : x ≡ drawn_in s.views = (let c = r.counter in omega arith) in
    let wide = r.wide in
    let mine = r.sound id v at in
    record {
      wide = length-set s.words 0 (x + 1) ∙ r.wide;
      whole = total-same (λ (u : Share). u.parts) s.views id v w at refl ∙ r.whole;
      sound = λ j u e. ⊎_elim (λ (t : (j ≡ id) × (w ≡ u)). subst (λ (z : Share). IsSoundDraws z) t.1 (record { drawn = λ z. absurd (omega arith); outs = mine.outs }))
          (λ (t : (j ≢ id) × (get_elem? s.views j ≡ some u)). r.sound j u t.1) (at_set s.views id j w u e);
      counter = (let there = get_or-set_same s.words 0 (x + 1) 0 (omega arith) in omega arith);
      few = omega arith;
      used_up = λ some_out. absurd (omega arith);
      once = λ y.
          let t = total-set (λ (u : Share). times_in y u.drawn) s.views id v w at in
          let a = times-append (λ k. k) y v.drawn (number ∷ []) in
          let was = r.once y in
          let next : times_in y (take (drawn_in s.views + 1) free) ≡ times_in y (take (drawn_in s.views) free) + times_in y (number ∷ []) =
          taken_more y free (drawn_in s.views) (omega arith) ∙ ap (λ (n : ℕ). times_in y (take (drawn_in s.views) free) + times_in y (n ∷ [])) (ap (λ (n : ℕ). get_or free n 0) (sym counted) ∙ ap (λ (ns : List ℕ). get_or ns x 0) (sym same)) in
          let sum : total (λ (u : Share). times_in y u.drawn) (set s.views id w) ≡ times_in y (take (drawn_in s.views) free) + times_in y (number ∷ []) = omega arith in
          sum ∙ (sym next ∙ ap (λ (n : ℕ). times_in y (take n free)) (sym more));
    }

-- the seat found none left
takes_none : (free : List ℕ) (seats : ℕ) (s : St) (id : ℕ) (me : Sat) → IsKeptDraws free seats s → get_elem? s.views id ≡ some me.0 → me.0.parts ≡ 1 → me.0.outs ≡ 0 → length free ≤ get_or s.words 0 0
    → IsKeptDraws free seats (stepped s 0 (get_or s.words 0 0 + 1) id me.1 (share me.0.free me.0.seats me.0.parts me.0.drawn (me.0.outs + 1)) keeps)
takes_none free seats s id me r at part in_play high =
    let x : ℕ = get_or s.words 0 0 in
    let v : Share = me.0 in
    let w : Share = share v.free v.seats v.parts v.drawn (v.outs + 1) in
    let all_drawn : drawn_in s.views ≡ length free = dite (ℕ_discrete (outs_in s.views) 0) (λ e. let c = r.counter in let f = r.few in omega arith) (λ some_out. r.used_up (omega arith)) in
    let was_in : v.outs ≡ 0 = in_play in
    let outs : outs_in (set s.views id w) ≡ outs_in s.views + 1 = (let t = total-set (λ (u : Share). u.outs) s.views id v w at in omega arith) in
    let same : drawn_in (set s.views id w) ≡ drawn_in s.views = total-same (λ (u : Share). length u.drawn) s.views id v w at refl in
    let wide = r.wide in
    let mine = r.sound id v at in
    record {
      wide = length-set s.words 0 (x + 1) ∙ r.wide;
      whole = total-same (λ (u : Share). u.parts) s.views id v w at refl ∙ r.whole;
      sound = λ j u e. ⊎_elim (λ (t : (j ≡ id) × (w ≡ u)). subst (λ (z : Share). IsSoundDraws z) t.1 (record { drawn = mine.drawn; outs = omega arith }))
          (λ (t : (j ≢ id) × (get_elem? s.views j ≡ some u)). r.sound j u t.1) (at_set s.views id j w u e);
      counter = (let there = get_or-set_same s.words 0 (x + 1) 0 (omega arith) in let c = r.counter in omega arith);
      few = omega arith;
      used_up = λ _. same ∙ all_drawn;
      once = λ y. total-same (λ (u : Share). times_in y u.drawn) s.views id v w at refl ∙ (r.once y ∙ ap (λ (n : ℕ). times_in y (take n free)) (sym same));
    }

-- no draw has given the number that is next
fresh_next : (free : List ℕ) (seats : ℕ) (s : St) (id : ℕ) (v : Share) → IsKeptDraws free seats s → ((x : ℕ) → times_in x free ≤ 1) → get_elem? s.views id ≡ some v → get_or s.words 0 0 < length free → times_in (get_or free (get_or s.words 0 0) 0) v.drawn ≡ 0
fresh_next free seats s id v r distinct at low =
    let x : ℕ = get_or s.words 0 0 in
    let number : ℕ = get_or free x 0 in
    let counted : drawn_in s.views ≡ x = dite (ℕ_discrete (outs_in s.views) 0) (λ e. let c = r.counter in omega arith) (λ some_out. let u = r.used_up (omega arith) in let c = r.counter in absurd (omega arith)) in
    let mine = total-at (λ (u : Share). times_in number u.drawn) s.views id v at in
    let before : total (λ (u : Share). times_in number u.drawn) s.views ≡ times_in number (take x free) = r.once number ∙ ap (λ (n : ℕ). times_in number (take n free)) counted in
    let more = taken_more number free x low in
    let itself = times-self number in
    let once = distinct number in
    let all = times-take number (x + 1) free in
    omega arith

-- a seat has drawn no more than there are
few_more : (free : List ℕ) (seats : ℕ) (s : St) (id : ℕ) (v : Share) → IsKeptDraws free seats s → v.free ≡ free → get_elem? s.views id ≡ some v → (b : Bool) → nat_lt (get_or s.words 0 0) (length v.free) ≡ b → length (after_draw v (get_or s.words 0 0) b).drawn ≤ length v.free
few_more free seats s id v r same at true low =
    let mine = total-at (λ (u : Share). length u.drawn) s.views id v at in
    let c = r.counter in
    let n = length-append v.drawn (get_or v.free (get_or s.words 0 0) 0 ∷ []) in
    let below : get_or s.words 0 0 < length v.free = grind (arith, nat_tests) in
    omega arith
few_more free seats s id v r same at false high =
    let mine = total-at (λ (u : Share). length u.drawn) s.views id v at in
    let f = r.few in
    let e = ap length same in
    omega arith

-- the only seat finds none only where it drew all
all_used_up : (free : List ℕ) (seats : ℕ) (s : St) (id : ℕ) (v : Share) → IsKeptDraws free seats s → get_elem? s.views id ≡ some v → v.parts ≡ 1 → v.outs ≡ 0 → seats ≡ 1 → length free ≤ get_or s.words 0 0 → (x : ℕ) → times_in x v.drawn ≡ times_in x free
all_used_up free seats s id v r at part in_play alone high x =
    let whole : total (λ (u : Share). u.parts) s.views ≡ v.parts = r.whole ∙ (alone ∙ sym part) in
    let drawn = total-whole (λ (u : Share). u.parts) (λ (u : Share). length u.drawn) s.views (λ i u e z. ap length ((r.sound i u e).drawn z)) id v at whole in
    let outs = total-whole (λ (u : Share). u.parts) (λ (u : Share). u.outs) s.views (λ i u e z. let h = (r.sound i u e).outs in omega arith) id v at whole in
    let all : drawn_in s.views ≡ length free = (let c = r.counter in let f = r.few in omega arith) in
    let mine = total-whole (λ (u : Share). u.parts) (λ (u : Share). times_in x u.drawn) s.views (λ i u e z. ap (times_in x) ((r.sound i u e).drawn z)) id v at whole in
    sym mine ∙ (r.once x ∙ ap (λ (n : ℕ). times_in x (take n free)) all ∙ ap (times_in x) (take-length free))

pub draws : (free : List ℕ) (seats slots id : ℕ) (me : Sat) → me.0.free ≡ free → me.0.seats ≡ seats → me.0.parts ≡ 1 → me.0.outs ≡ 0 → length free + seats < 2 ^ 63 → ((x : ℕ) → times_in x free ≤ 1)
    → Allows (IsKeptDraws free seats) slots id me 0 (λ n. (n + 1) % 2 ^ 64) (Drew (step slots 0 1 0 none) me)
draws free seats slots id me same many part in_play small distinct s r _ at _ =
    let x : ℕ = get_or s.words 0 0 in
    let few_out = outs_few free seats s r in
    let next : x + 1 ≡ (x + 1) % 2 ^ 64 = (let c = r.counter in let f = r.few in omega arith) in
    let known : length me.0.free ≡ length free = ap length same in
    let w : Share = after_draw me.0 x (nat_lt x (length me.0.free)) in
    let kept : IsKeptDraws free seats (stepped s 0 (x + 1) id me.1 w keeps) = dite (dec_le (suc x) (length free))
    (λ (low : x < length free). let t : nat_lt x (length me.0.free) ≡ true = grind (arith, nat_tests) in subst (λ (b : Bool). IsKeptDraws free seats (stepped s 0 (x + 1) id me.1 (after_draw me.0 x b) keeps)) (sym t) (takes_next free seats s id me r at same part in_play low))
    (λ high. let t : nat_lt x (length me.0.free) ≡ false = grind (arith, nat_tests) in subst (λ (b : Bool). IsKeptDraws free seats (stepped s 0 (x + 1) id me.1 (after_draw me.0 x b) keeps)) (sym t) (takes_none free seats s id me r at part in_play (omega arith))) in (
      w,
      keeps,
      tt,
      subst (λ (n : ℕ). IsKeptDraws free seats (stepped s 0 n id me.1 w keeps)) next kept,
      record {
        after = refl;
        few = few_more free seats s id me.0 r same at (nat_lt x (length me.0.free)) refl;
        fresh = λ low. subst (λ (ns : List ℕ). times_in (get_or ns x 0) me.0.drawn ≡ 0) (sym same) (fresh_next free seats s id me.0 r distinct at (omega arith));
        used_up = λ alone high y. all_used_up free seats s id me.0 r at part in_play (sym many ∙ alone) (omega arith) y ∙ ap (times_in y) (sym same);
      },
    )

-- a change of views that keeps each sum
sums : (free : List ℕ) (seats : ℕ) (s : St) (vs : List Share) → IsKeptDraws free seats s → total (λ (u : Share). u.parts) vs ≡ total (λ (u : Share). u.parts) s.views → drawn_in vs ≡ drawn_in s.views → outs_in vs ≡ outs_in s.views
    → ((x : ℕ) → total (λ (u : Share). times_in x u.drawn) vs ≡ total (λ (u : Share). times_in x u.drawn) s.views) → ((i : ℕ) (v : Share) → get_elem? vs i ≡ some v → IsSoundDraws v)
    → IsKeptDraws free seats (record { words = s.words; homes = s.homes; views = vs })
sums free seats s vs r parts drawn outs same sound = record {
  wide = r.wide;
  whole = parts ∙ r.whole;
  sound = sound;
  counter = (let c = r.counter in omega arith);
  few = (let f = r.few in omega arith);
  used_up = λ some_out. drawn ∙ r.used_up (omega arith);
  once = λ x. same x ∙ (r.once x ∙ ap (λ (n : ℕ). times_in x (take n free)) (sym drawn));
}

pub deals : (free : List ℕ) (seats id : ℕ) (v : Share) → 0 < v.parts → v.drawn ≡ [] → v.outs ≡ 0 → Splits (IsKeptDraws free seats) id v (dealt v) (newcomer v)
deals free seats id v more nothing in_play s r at =
    let vs : List Share = set s.views id (dealt v) in
    let is_in : v.outs ≡ 0 = in_play in
    sums free seats s (vs ++ newcomer v ∷ []) r
    (let a = total-snoc (λ (u : Share). u.parts) vs (newcomer v) in let b = total-set (λ (u : Share). u.parts) s.views id v (dealt v) at in omega arith)
    (let a = total-snoc (λ (u : Share). length u.drawn) vs (newcomer v) in let b = total-set (λ (u : Share). length u.drawn) s.views id v (dealt v) at in omega arith)
    (let a = total-snoc (λ (u : Share). u.outs) vs (newcomer v) in let b = total-set (λ (u : Share). u.outs) s.views id v (dealt v) at in omega arith)
    (λ x. let a = total-snoc (λ (u : Share). times_in x u.drawn) vs (newcomer v) in let b = total-set (λ (u : Share). times_in x u.drawn) s.views id v (dealt v) at in omega arith)
    (λ i u e. ⊎_elim
    (λ (t : get_elem? vs i ≡ some u). ⊎_elim (λ (y : (i ≡ id) × (dealt v ≡ u)). subst (λ (z : Share). IsSoundDraws z) y.1 (record { drawn = λ z. nothing; outs = omega arith })) (λ (y : (i ≢ id) × (get_elem? s.views i ≡ some u)). r.sound i u y.1) (at_set s.views id i (dealt v) u t))
    (λ (t : newcomer v ≡ u). subst (λ (z : Share). IsSoundDraws z) t (record { drawn = λ _. refl; outs = omega arith })) (at_snoc vs (newcomer v) u i e))

pub gathers : (free : List ℕ) (seats id : ℕ) (v : Share) (other : ℕ) (w : Share) → v.parts ≢ 0 → Joins (IsKeptDraws free seats) id v other w (both v w) spent
gathers free seats id v other w part s r at apart at' =
    let vs : List Share = set s.views id (both v w) in
    let there : get_elem? s.views other ≡ some w = ⊎_elim (λ (y : (other ≡ id) × (both v w ≡ w)). absurd (apart y.0)) (λ (y : (other ≢ id) × (get_elem? s.views other ≡ some w)). y.1) (at_set s.views id other (both v w) w at') in
    let mine = r.sound id v at in
    let theirs = r.sound other w there in
    sums free seats s (set vs other spent) r
    (let a = total-set (λ (u : Share). u.parts) s.views id v (both v w) at in let b = total-set (λ (u : Share). u.parts) vs other w spent at' in omega arith)
    (let a = total-set (λ (u : Share). length u.drawn) s.views id v (both v w) at in let b = total-set (λ (u : Share). length u.drawn) vs other w spent at' in let n : length (w.drawn ++ v.drawn) ≡ length w.drawn + length v.drawn = length-append w.drawn v.drawn in omega arith)
    (let a = total-set (λ (u : Share). u.outs) s.views id v (both v w) at in let b = total-set (λ (u : Share). u.outs) vs other w spent at' in omega arith)
    (λ x. let a = total-set (λ (u : Share). times_in x u.drawn) s.views id v (both v w) at in let b = total-set (λ (u : Share). times_in x u.drawn) vs other w spent at' in let n = times-append (λ k. k) x w.drawn v.drawn in omega arith)
    (λ i u e. ⊎_elim (λ (y : (i ≡ other) × (spent ≡ u)). subst (λ (z : Share). IsSoundDraws z) y.1 (record { drawn = λ _. refl; outs = omega arith }))
    (λ (y : (i ≢ other) × (get_elem? vs i ≡ some u)). ⊎_elim (λ (x : (i ≡ id) × (both v w ≡ u)). subst (λ (z : Share). IsSoundDraws z) x.1 (record { drawn = λ z. absurd (omega arith); outs = (let a = mine.outs in let b = theirs.outs in omega arith) })) (λ (x : (i ≢ id) × (get_elem? s.views i ≡ some u)). r.sound i u x.1) (at_set s.views id i (both v w) u y.1))
    (at_set vs other i spent u e))

-- what who has every part knows of the end, where k numbers were drawn
pub record IsEnd (free : List ℕ) (k word : ℕ) (v : Share) : Type 0 where
  pub most : k ≤ length free
  pub once : (x : ℕ) → times_in x v.drawn ≡ times_in x (take k free)
  pub all : 0 < v.outs → k ≡ length free
  pub read : min word (length free) ≡ k

pub ends : (free : List ℕ) (seats : ℕ) (s : St) (id : ℕ) (v : Share) → IsKeptDraws free seats s → get_elem? s.views id ≡ some v → v.parts ≡ seats → IsEnd free (length v.drawn) (get_or s.words 0 0) v
ends free seats s id v r at parts =
    let whole : total (λ (u : Share). u.parts) s.views ≡ v.parts = r.whole ∙ sym parts in
    let drawn = total-whole (λ (u : Share). u.parts) (λ (u : Share). length u.drawn) s.views (λ i u e z. ap length ((r.sound i u e).drawn z)) id v at whole in
    let outs = total-whole (λ (u : Share). u.parts) (λ (u : Share). u.outs) s.views (λ i u e z. let h = (r.sound i u e).outs in omega arith) id v at whole in
    let c = r.counter in
    let f = r.few in
    record {
      most = omega arith;
      once = λ x. sym (total-whole (λ (u : Share). u.parts) (λ (u : Share). times_in x u.drawn) s.views (λ i u e z. ap (times_in x) ((r.sound i u e).drawn z)) id v at whole) ∙ (r.once x ∙ ap (λ (n : ℕ). times_in x (take n free)) drawn);
      all = λ some_out. sym drawn ∙ r.used_up (omega arith);
      read = dite (ℕ_discrete (outs_in s.views) 0) (λ e. omega arith) (λ some_out. let u = r.used_up (omega arith) in omega arith);
    }

first_word : (words : List ℕ) (w : ℕ) → get_elem? words 0 ≡ some w → get_or words 0 0 ≡ w
first_word [] w e = absurd (some-ne-none w (sym e))
first_word (x ∷ xs) w e = some-injective x w e

-- the end, from the table as it was closed
pub closes : (free : List ℕ) (seats id : ℕ) (v : Share) (words : List ℕ) (word : ℕ) → (s : St) × Seen (IsKeptDraws free seats) id v s × (s.words ≡ words) → get_elem? words 0 ≡ some word → v.parts ≡ seats → IsEnd free (length v.drawn) word v
closes free seats id v words word final at parts = subst (λ (n : ℕ). IsEnd free (length v.drawn) n v) (ap (λ (ws : List ℕ). get_or ws 0 0) final.2 ∙ first_word words word at) (ends free seats final.0 id v final.1.0 final.1.1 parts)
