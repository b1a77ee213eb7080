-- What all passes know and won together.
use Rattle.std.proofs.Common.{◌≡◌, ◌≢◌, ℕ, zero, suc, ◌+◌, ◌<◌, ◌≤◌, ◌==◌, if◌then◌else◌, List, [], ◌∷◌, All, map, length, get_or, Some, None, refl, sym, ap, ◌∙◌, subst, arith, eq-eqb, ne_eqb, length-append}
use Rattle.std.specs.Prelude.{Option, AllPairs}
use Rattle.std.specs.List.{sum_by, Contains}
use Rattle.std.proofs.lemmas.List.{get_or_past}
use Rattle.std.proofs.lemmas.List.Sums.{sum_by-cons}
use Rattle.std.proofs.lemmas.List.Elements.{All-head, All-tail, All-append, All-weaker}
use mathlib.Core.Logic.{dite}
use native.Mathlib.Decide.{ℕ_discrete, dec_le}
use Rattle.layout.specs.declared.place.Place.{Place}
use Rattle.forwarding.specs.declared.box_cells.bid.Bid.{Bid}
use Rattle.forwarding.specs.Settled.{Pairs, wins_of, ones, all_pairs, Agree, IsSettled}
use Rattle.model.specs.Total.{times}
use Rattle.forwarding.specs.BoxSettled.{AllWon}
use Rattle.forwarding.specs.Noted.{NotedValue, IsSoundNotes, IsApart, bid_at, bid_of, place_of, known_at, won_by}
use Rattle.forwarding.specs.Gathered.{IsCovered, IsGathered, win_count}
use Rattle.model.proofs.Times.{times-append}
use Rattle.forwarding.proofs.Wins.{sum_names, sum_zero, sum_wins, sum_le, sum_same, sum_first}
use Rattle.forwarding.proofs.Noting.{place_lasts, ones_most}

-- a name that was won stands in a pair
pub wins_has : (name : ℕ) (xs : Pairs) → 0 < wins_of name xs → (place : Place) × Contains xs (name, place)
wins_has name [] h = absurd (omega arith)
wins_has name (x ∷ xs) h = dite (ℕ_discrete x.0 name)
    (λ is. (x.1, (0, omega arith, ap (λ (n : ℕ). (n, x.1)) is)))
    (λ ne. let more : wins_of name (x ∷ xs) ≡ wins_of name xs = rw (ne_eqb x.0 name ne) (omega arith) in
    let r = wins_has name xs (omega arith) in (r.0, (suc r.1.0, omega (arith, r.1.1), r.1.2)))

-- and a name that stands in a pair was won
pub has_wins : (name : ℕ) (place : Place) (xs : Pairs) (k : ℕ) → k < length xs → get_or xs k (name, place) ≡ (name, place) → 0 < wins_of name xs
has_wins name place [] k l e = absurd (omega arith)
has_wins name place (x ∷ xs) zero l e = let one : wins_of name (x ∷ xs) ≡ 1 + wins_of name xs = rw (eq-eqb x.0 name (ap (λ (y : ℕ × Place). y.0) e)) (omega arith) in omega arith
has_wins name place (x ∷ xs) (suc k) l e = let r = has_wins name place xs k (omega arith) e in omega arith

-- what holds of each pair holds of one that is there
pub at_pair : (P : ℕ × Place → Type 0) (xs : Pairs) (x : ℕ × Place) → All P xs → Contains xs x → P x
at_pair P xs x each there = subst P there.2 (each there.0 x there.1)

-- numbers that differ stand in the list once at most
times-none : (n : ℕ) (ps : List NotedValue) → All (λ (q : NotedValue). q.number ≢ n) ps → times (λ (q : NotedValue). q.number) n ps ≡ 0
times-none n [] differ = refl
times-none n (q ∷ qs) differ =
    let P : NotedValue → Type 0 = λ (p : NotedValue). p.number ≢ n in
    let r = times-none n qs (All-tail P q qs differ) in
    rw (ne_eqb q.number n (All-head P q qs differ)) (omega arith)

pub times-once : (n : ℕ) (ps : List NotedValue) → AllPairs IsApart ps → times (λ (q : NotedValue). q.number) n ps ≤ 1
times-once n [] apart = omega arith
times-once n (p ∷ ps) apart =
    let rest : AllPairs IsApart ps = λ i j d less l. apart (suc i) (suc j) d (omega arith) (omega arith) in
    dite (ℕ_discrete p.number n)
    (λ is. let none = times-none n ps (λ k d l e. apart 0 (suc k) d (omega arith) (omega arith) (is ∙ sym e)) in let one : times (λ (q : NotedValue). q.number) n (p ∷ ps) ≡ 1 + times (λ (q : NotedValue). q.number) n ps = rw (eq-eqb p.number n is) (omega arith) in omega arith)
    (λ ne. let r = times-once n ps rest in let same : times (λ (q : NotedValue). q.number) n (p ∷ ps) ≡ times (λ (q : NotedValue). q.number) n ps = rw (ne_eqb p.number n ne) (omega arith) in omega arith)

pub map_read : (known : List (Option Bid)) (i : ℕ) → get_or (map place_of known) i None ≡ place_of (bid_at known i)
map_read [] i = refl
map_read (x ∷ xs) zero = refl
map_read (x ∷ xs) (suc i) = map_read xs i

ones_place : (o : Option Bid) → ones (place_of o) ≡ ones o
ones_place None = refl
ones_place (Some b) = refl

pub ones_few : (known : List (Option Bid)) → sum_by ones known ≤ length known
ones_few [] = omega arith
ones_few (x ∷ known) = let r = ones_few known in let s = sum_by-cons ones x known in let o = ones_most x in omega arith

pub sum_ones : (known : List (Option Bid)) → sum_by ones known ≡ sum_names (λ k. ones (bid_at known k)) (length known)
sum_ones [] = sym (sum_zero (λ (k : ℕ). ones (bid_at [] k)))
sum_ones (x ∷ known) = let r = sum_ones known in let c = sum_by-cons ones x known in let s = sum_first (λ (k : ℕ). ones (bid_at (x ∷ known) k)) (length known) in omega arith

pub count_pairs : (ps : List NotedValue) → length (all_pairs won_by ps) ≡ sum_by win_count ps
count_pairs [] = refl
count_pairs (p ∷ ps) = let r = count_pairs ps in let c = sum_by-cons win_count p ps in let a = length-append p.won (all_pairs won_by ps) in omega arith

nobody : NotedValue
nobody = record { number = 0; cells = []; known = []; won = [] }

-- a pass that won a name knows its own bid of it
won_own : (p : NotedValue) (name : ℕ) → IsSoundNotes p.number p.known p.won → 0 < wins_of name p.won → (place : Place) × (bid_at p.known name ≡ Some (bid_of place p.number))
won_own p name s h = let x = wins_has name p.won h in (x.0, at_pair (λ (y : ℕ × Place). bid_at p.known y.0 ≡ Some (bid_of y.1 p.number)) p.won (name, x.0) s.own x.1)

module _ (all : List (Option Bid)) where
  -- what a pass knows is known to all
  pub known_to_all : (p : NotedValue) (name : ℕ) (place : Place) → IsCovered all p → known_at p name ≡ Some place → place_of (bid_at all name) ≡ Some place
  known_to_all p name place c e = place_lasts (bid_at p.known name) (bid_at all name) (λ b f. c.1 name b f) place e

  no_wins : (p : NotedValue) (name : ℕ) → IsCovered all p → bid_at all name ≡ None → wins_of name p.won ≡ 0
  no_wins p name c none = dite (ℕ_discrete (wins_of name p.won) 0)
      (λ is. is)
      (λ ne. let x = won_own p name c.0 (omega arith) in let known = c.1 name (bid_of x.0 p.number) x.1 in absurd (cc))

  few_wins : (p : NotedValue) (name : ℕ) (b : Bid) → IsCovered all p → bid_at all name ≡ Some b → wins_of name p.won ≤ (if p.number == b.pass then 1 else 0)
  few_wins p name b c is = dite (ℕ_discrete (wins_of name p.won) 0)
      (λ zero_wins. omega arith)
      (λ ne. let x = won_own p name c.0 (omega arith) in
      let known = c.1 name (bid_of x.0 p.number) x.1 in
      let same : p.number ≡ b.pass = ap number_in (sym known ∙ is) in
      let once = c.0.once name in
      let one : ones (bid_at p.known name) ≡ 1 = ap ones x.1 in
      rw (eq-eqb p.number b.pass same) (omega arith))
    where
      number_in : Option Bid → ℕ
      number_in None = b.pass
      number_in (Some d) = d.pass

  -- a name that is known to nobody was won by nobody
  pub none_won : (ps : List NotedValue) (name : ℕ) → All (IsCovered all) ps → bid_at all name ≡ None → wins_of name (all_pairs won_by ps) ≡ 0
  none_won [] name c none = refl
  none_won (p ∷ ps) name c none =
      let here = no_wins p name (All-head (IsCovered all) p ps c) none in
      let r = none_won ps name (All-tail (IsCovered all) p ps c) none in
      let a = times-append (λ (x : ℕ × Place). x.0) name p.won (all_pairs won_by ps) in omega arith

  -- a name was won by passes with the number of its bid
  pub few_won : (ps : List NotedValue) (name : ℕ) (b : Bid) → All (IsCovered all) ps → bid_at all name ≡ Some b → wins_of name (all_pairs won_by ps) ≤ times (λ (p : NotedValue). p.number) b.pass ps
  few_won [] name b c is = omega arith
  few_won (p ∷ ps) name b c is =
      let here = few_wins p name b (All-head (IsCovered all) p ps c) is in
      let r = few_won ps name b (All-tail (IsCovered all) p ps c) is in
      let a = times-append (λ (x : ℕ × Place). x.0) name p.won (all_pairs won_by ps) in omega arith

  -- each pair that was won is known to all
  pub won_known : (ps : List NotedValue) → All (IsCovered all) ps → All (λ (x : ℕ × Place). place_of (bid_at all x.0) ≡ Some x.1) (all_pairs won_by ps)
  won_known [] c = λ k d l. absurd (omega arith)
  won_known (p ∷ ps) c =
      let P : ℕ × Place → Type 0 = λ (x : ℕ × Place). place_of (bid_at all x.0) ≡ Some x.1 in
      let here = All-head (IsCovered all) p ps c in
      All-append P p.won (all_pairs won_by ps)
      (All-weaker (λ (x : ℕ × Place). bid_at p.known x.0 ≡ Some (bid_of x.1 p.number)) P (λ x e. ap place_of (here.1 x.0 (bid_of x.1 p.number) e)) p.won here.0.own)
      (won_known ps (All-tail (IsCovered all) p ps c))

  module _ (passes : List NotedValue) (apart : AllPairs IsApart passes) (g : IsGathered (length passes) passes all) where
    covered : All (IsCovered all) passes
    covered = λ k d l. g.covers k d l

    pub agree : Agree known_at passes
    agree = λ k d l k' d' l' name place other e f.
        let one = known_to_all (get_or passes k d) name place (covered k d l) e in
        let two = known_to_all (get_or passes k' d') name other (covered k' d' l') f in cc

    wins_few : (name : ℕ) → wins_of name (all_pairs won_by passes) ≤ ones (bid_at all name)
    wins_few name = at (bid_at all name) refl
      where
        at : (o : Option Bid) → bid_at all name ≡ o → wins_of name (all_pairs won_by passes) ≤ ones o
        at None e = let n = none_won passes name covered e in omega arith
        at (Some b) e = let n = few_won passes name b covered e in let o = times-once b.pass passes apart in omega arith

    -- no name was won twice
    pub wins_once : (name : ℕ) → wins_of name (all_pairs won_by passes) ≤ 1
    wins_once name = let few = wins_few name in let most = ones_most (bid_at all name) in omega arith

    below : All (λ (x : ℕ × Place). x.0 < length all) (all_pairs won_by passes)
    below = All-weaker (λ (x : ℕ × Place). place_of (bid_at all x.0) ≡ Some x.1) (λ (x : ℕ × Place). x.0 < length all)
        (λ x e. dite (dec_le (suc x.0) (length all)) (λ (b : x.0 < length all). b) (λ high. let past : place_of (bid_at all x.0) ≡ None = ap place_of (get_or_past all x.0 None (omega arith)) in absurd (cc)))
        (all_pairs won_by passes) (won_known passes covered)

    all_wins : sum_by win_count passes ≡ sum_names (λ k. wins_of k (all_pairs won_by passes)) (length all)
    all_wins = sym (count_pairs passes) ∙ sum_wins (length all) (all_pairs won_by passes) below

    -- no more was won than is known
    pub few_wins_in_all : sum_by win_count passes ≤ length all
    few_wins_in_all =
        let le = sum_le (λ k. wins_of k (all_pairs won_by passes)) (λ k. ones (bid_at all k)) (length all) wins_few in
        let w = all_wins in let o = sum_ones all in let f = ones_few all in omega arith

    -- where as much was won as is known, each name was won as often as it is known
    each_once : sum_by ones all ≡ sum_by win_count passes → (name : ℕ) → wins_of name (all_pairs won_by passes) ≡ ones (bid_at all name)
    each_once same name = dite (dec_le (suc name) (length all))
        (λ (inside : name < length all). sum_same (λ k. wins_of k (all_pairs won_by passes)) (λ k. ones (bid_at all k)) (length all) name wins_few inside (sym all_wins ∙ (sym same ∙ sum_ones all)))
        (λ high. let past : bid_at all name ≡ None = get_or_past all name None (omega arith) in none_won passes name covered past ∙ ap ones (sym past))

    pub settles : (count : ℕ) (f : List (Option Place)) → length all ≡ count → f ≡ map place_of all → sum_by ones all ≡ sum_by win_count passes → IsSettled known_at won_by passes count (λ name. get_or f name None)
    settles count f many is same =
        let reads : (name : ℕ) → get_or f name None ≡ place_of (bid_at all name) = λ name. ap (λ (ps : List (Option Place)). get_or ps name None) is ∙ map_read all name in
        record {
          known_settled = λ k d l name place e. reads name ∙ known_to_all (get_or passes k d) name place (covered k d l) e;
          won_settled = All-weaker (λ (x : ℕ × Place). place_of (bid_at all x.0) ≡ Some x.1) (λ (x : ℕ × Place). get_or f x.0 None ≡ Some x.1) (λ x e. reads x.0 ∙ e) (all_pairs won_by passes) (won_known passes covered);
          once = λ name. each_once same name ∙ (sym (ones_place (bid_at all name)) ∙ ap ones (sym (reads name)));
          none_past = λ name high. reads name ∙ ap place_of (get_or_past all name None (omega arith));
        }

    pub wins_all : sum_by ones all ≡ sum_by win_count passes → AllWon known_at won_by passes
    wins_all same = λ k d l name place e.
        let known = known_to_all (get_or passes k d) name place (covered k d l) e in
        let one : ones (bid_at all name) ≡ 1 = sym (ones_place (bid_at all name)) ∙ ap ones known in
        let won = wins_has name (all_pairs won_by passes) (let o = each_once same name in omega arith) in
        let there = at_pair (λ (x : ℕ × Place). place_of (bid_at all x.0) ≡ Some x.1) (all_pairs won_by passes) (name, won.0) (won_known passes covered) won.1 in
        let is : won.0 ≡ place = cc in
        subst (λ (p : Place). Contains (all_pairs won_by passes) (name, p)) is won.1

    pub not_all : sum_by ones all ≢ sum_by win_count passes → AllWon known_at won_by passes → ⊥
    not_all differ won =
        let each : (name : ℕ) → ones (bid_at all name) ≤ wins_of name (all_pairs won_by passes) = λ name. at name (bid_at all name) refl in
        let le = sum_le (λ k. ones (bid_at all k)) (λ k. wins_of k (all_pairs won_by passes)) (length all) each in
        let ge = sum_le (λ k. wins_of k (all_pairs won_by passes)) (λ k. ones (bid_at all k)) (length all) wins_few in
        let w = all_wins in let o = sum_ones all in
        differ (omega arith)
      where
        at : (name : ℕ) (o : Option Bid) → bid_at all name ≡ o → ones o ≤ wins_of name (all_pairs won_by passes)
        at name None e = omega arith
        at name (Some b) e =
            let k = g.only name b e in
            let there = won k.0 nobody k.1 name b.place (ap place_of (k.2 nobody)) in
            let h = has_wins name b.place (all_pairs won_by passes) there.0 there.1 there.2 in omega arith
