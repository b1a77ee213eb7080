-- The places are a renaming of what is live.
use Rattle.std.proofs.Common.{◌≡◌, ℕ, zero, suc, ◌+◌, ◌<◌, ◌≤◌, Bool, true, false, not, List, [], ◌∷◌, Option, Some, None, refl, sym, ap, subst, ◌∙◌, ◌⊎◌, inl, inr, arith, nat_eq, eqb-true, eq-eqb, true≢false, add-zero}
use Rattle.workers.specs.Block.{Block, Copy}
use Rattle.workers.specs.Setting.{Setting, is_collected, is_large_name}
use Rattle.workers.specs.WorkerRun.{no_history}
use Rattle.workers.specs.Places.{IsPair}
use Rattle.workers.specs.Total.{total, one_if, times, wins_of, ones}
use Rattle.workers.specs.Joined.{Each, OnSome, Part, HasRun, WasExported, Joined, blocks_of, somes}
use Rattle.workers.proofs.Lists.{Each-append, Each-zip, Each-map, Each-at, Each-at_all, at, at-none}
use Rattle.workers.proofs.Totals.{total_some, one_if-positive}
use Rattle.workers.proofs.Balance.{pairs_in}
use Rattle.workers.proofs.OnePart.{moves, draw_account, Each-somes}
use Rattle.workers.proofs.Deliveries.{deliveries-total}
use Rattle.workers.proofs.Won.{won_known, known_collected, won_stays, Stays}
use Rattle.workers.proofs.Laid.{Laid, LaidOut, HandLaid, moves_laid}
use Rattle.workers.proofs.Whole.{accounts, won_stands}
use Rattle.workers.proofs.Pointed.{HasPlace}

pub total-le : {A : Type 0} (f g : A → ℕ) (P : A → Type 0) → ((x : A) → P x → f x ≤ g x) → (xs : List A) → Each P xs → total f xs ≤ total g xs
total-le f g P k [] h = omega arith
total-le f g P k (x ∷ xs) h =
    let a : f x ≤ g x = k x h.0 in
    let b : total f xs ≤ total g xs = total-le f g P k xs h.1 in
    omega arith

pub zero-Each : {A : Type 0} (f : A → ℕ) (xs : List A) → total f xs ≡ 0 → Each (λ x. f x ≡ 0) xs
zero-Each f [] e = tt
zero-Each f (x ∷ xs) e = (omega arith, zero-Each f xs (omega arith))

pub Each-zero : {A : Type 0} (f : A → ℕ) (xs : List A) → Each (λ x. f x ≡ 0) xs → total f xs ≡ 0
Each-zero f [] h = refl
Each-zero f (x ∷ xs) h =
    let a : f x ≡ 0 = h.0 in
    let b : total f xs ≡ 0 = Each-zero f xs h.1 in
    omega arith

members-le : {A : Type 0} (f : A → ℕ) (xs : List A) → Each (λ x. f x ≤ total f xs) xs
members-le f [] = tt
members-le f (x ∷ xs) = (omega arith, Each-map (λ y. f y ≤ total f xs) (λ y. f y ≤ f x + total f xs) (λ y l. omega arith) xs (members-le f xs))

pub zero-or-positive : (n : ℕ) → (n ≡ 0) ⊎ (0 < n)
zero-or-positive zero = inl refl
zero-or-positive (suc n) = inr (omega arith)

pub one_if-not : (b : Bool) → one_if (not b) ≡ 0 → b ≡ true
one_if-not true e = refl
one_if-not false e = absurd (omega arith)

is_pair : Option ℕ → ℕ → Bool
is_pair None place = false
is_pair (Some x) place = nat_eq x place

pair_is : (o : Option ℕ) (place : ℕ) → o ≡ Some place → is_pair o place ≡ true
unfolding is_pair
pair_is o place e = ap (λ x. is_pair x place) e ∙ eq-eqb place place refl

is_pair-is : (o : Option ℕ) (place : ℕ) → is_pair o place ≡ true → o ≡ Some place
unfolding is_pair
is_pair-is None place e = absurd (true≢false (sym e))
is_pair-is (Some x) place e = ap Some (eqb-true x place e)

-- one part
module _ (setting : Setting) (part : Part) (r : HasRun setting part) where
  opens_laid : (P : Type 0) → LaidOut setting P part.start no_history
  opens_laid P =
      record {
        allocation = λ d. subst (OnSome _) (sym (at-none part.start.allocation r.opening.no_allocation d)) tt;
        hand = λ _. subst (λ x. HandLaid setting P x) (sym r.opening.no_hand) tt;
        aside = subst (Each (Laid setting)) (sym r.opening.no_aside) tt;
        done = λ _. subst (Each (Laid setting)) (sym r.opening.no_done) tt;
        exported = tt;
      }

  pub exported_laid : Each (Laid setting) part.history.exported
  exported_laid = let l : LaidOut setting ⊥ part.final part.history = moves_laid setting ⊥ (moves setting part r) (λ x. absurd x) (opens_laid ⊥) in l.exported

  blocks_laid : Each (Laid setting) part.history.taken → Each (Laid setting) (blocks_of part.final)
  blocks_laid taken =
      let l : LaidOut setting (Unit {0}) part.final part.history = moves_laid setting (Unit {0}) (moves setting part r) (λ _. taken) (opens_laid (Unit {0})) in
      Each-append (Laid setting) (somes part.final.allocation) part.final.done
      (Each-somes (Laid setting) part.final.allocation (Each-at_all (Laid setting) part.final.allocation (λ d. weaken d (at part.final.allocation d) (l.allocation d))))
      (l.done tt)
    where
      weaken : (d : ℕ) (o : Option Block) → OnSome (λ b. Laid setting b × (b.destination ≡ d)) o → OnSome (Laid setting) o
      weaken d None h = tt
      weaken d (Some b) h = h.0

  won_pairs : (f : ℕ → Option ℕ) → Each (IsPair f) part.history.known → Each (IsPair f) part.final.won
  won_pairs f k = won_known setting (IsPair f) (moves setting part r) k (subst (Each (IsPair f)) (sym r.opening.no_won) tt)

  pub won_collected : Each (λ (q : ℕ × ℕ). is_collected setting q.0 ≡ true) part.final.won
  won_collected =
      won_known setting (λ (q : ℕ × ℕ). is_collected setting q.0 ≡ true) (moves setting part r) (known_collected setting (moves setting part r) tt)
      (subst (Each (λ (q : ℕ × ℕ). is_collected setting q.0 ≡ true)) (sym r.opening.no_won) tt)

  won_stay : Each (Stays setting) part.final.won
  won_stay = won_stays setting (moves setting part r) (subst (Each (Stays setting)) (sym r.opening.no_won) tt)

module _ (setting : Setting) (f : ℕ → Option ℕ) (parts : List Part) (j : Joined setting f parts) where
  runs_known : Each (λ (p : Part). HasRun setting p × Each (IsPair f) p.history.known) parts
  runs_known = Each-zip (HasRun setting) (λ (p : Part). Each (IsPair f) p.history.known) parts j.runs j.known

  pub won_agrees : Each (λ (p : Part). Each (IsPair f) p.final.won) parts
  won_agrees = Each-map _ (λ (p : Part). Each (IsPair f) p.final.won) (λ p h. won_pairs setting p h.0 f h.1) parts runs_known

  -- each block that is left lies well, whoever drew it
  pub all_laid : Each (λ (p : Part). Each (Laid setting) (blocks_of p.final)) parts
  all_laid =
      Each-map (λ (p : Part). HasRun setting p × Each (WasExported parts) p.history.taken) (λ (p : Part). Each (Laid setting) (blocks_of p.final))
      (λ p h. blocks_laid setting p h.0 (taken_laid p h.1)) parts
      (Each-zip (HasRun setting) (λ (p : Part). Each (WasExported parts) p.history.taken) parts j.runs j.taken)
    where
      exports_laid : Each (λ (p : Part). Each (Laid setting) p.history.exported) parts
      exports_laid = Each-map (HasRun setting) (λ (p : Part). Each (Laid setting) p.history.exported) (λ p h. exported_laid setting p h) parts j.runs

      labelled : (b : Block) (label : Option (ℕ × ℕ)) → Laid setting b → Laid setting (record b { sent = label })
      labelled b label l = record { from = l.from; within = l.within }

      taken_laid : (p : Part) → Each (WasExported parts) p.history.taken → Each (Laid setting) p.history.taken
      taken_laid p h =
          Each-map (WasExported parts) (Laid setting)
          (λ b x. subst (Laid setting) (sym x.same) (labelled x.sent _ (Each-at (Laid setting) x.part.history.exported x.i x.sent x.there (Each-at (λ (q : Part). Each (Laid setting) q.history.exported) parts x.u x.part x.exporter exports_laid))))
          p.history.taken h

  -- the blocks that are left are those that were drawn
  pub drawn_left : (number : ℕ → ℕ) → total (λ (p : Part). total number p.history.drawn) parts ≡ total (λ (p : Part). total (λ (b : Block). number b.number) (blocks_of p.final)) parts
  drawn_left number =
      accounts (λ p. total number p.history.drawn) (λ p. total (λ (b : Block). number b.number) p.history.taken) (λ p. total (λ (b : Block). number b.number) (blocks_of p.final)) (λ p. total (λ (b : Block). number b.number) p.history.exported) (λ p. 0) parts
      (Each-map (HasRun setting) _ (λ p h. draw_account setting p h number ∙ sym (add-zero _)) parts j.runs)
      (deliveries-total parts j.taken j.taken_once (λ (b : Block). number b.number) (λ x label. refl))
      ∙ (let z : total (λ (p : Part). 0) parts ≡ 0 = Each-zero (λ (p : Part). 0) parts (Each-map (HasRun setting) _ (λ p h. refl) parts j.runs) in omega arith)

  pub block_drawn : Each (λ (p : Part). Each (λ (b : Block). 0 < total (λ (q : Part). times b.number q.history.drawn) parts) (blocks_of p.final)) parts
  block_drawn = go parts (λ k. members-le (λ (p : Part). total (λ (b : Block). one_if (nat_eq b.number k)) (blocks_of p.final)) parts)
    where
      on_blocks : (total_of : ℕ → ℕ) (all : (b : Block) → total_of b.number ≡ total (λ (q : Part). times b.number q.history.drawn) parts) (bs : List Block) → ((k : ℕ) → total (λ (b : Block). one_if (nat_eq b.number k)) bs ≤ total_of k) → Each (λ (b : Block). 0 < total (λ (q : Part). times b.number q.history.drawn) parts) bs
      on_blocks total_of all [] h = tt
      on_blocks total_of all (b ∷ bs) h = (
        let one : one_if (nat_eq b.number b.number) ≡ 1 = ap one_if (eq-eqb b.number b.number refl) in
            let l : one_if (nat_eq b.number b.number) + total (λ (x : Block). one_if (nat_eq x.number b.number)) bs ≤ total_of b.number = h b.number in
            let e : total_of b.number ≡ total (λ (q : Part). times b.number q.history.drawn) parts = all b in
            omega arith,
        on_blocks total_of all bs (λ k. (let l : one_if (nat_eq b.number k) + total (λ (x : Block). one_if (nat_eq x.number k)) bs ≤ total_of k = h k in omega arith)),
      )

      go : (ps : List Part) → ((k : ℕ) → Each (λ (p : Part). total (λ (b : Block). one_if (nat_eq b.number k)) (blocks_of p.final) ≤ total (λ (p : Part). total (λ (b : Block). one_if (nat_eq b.number k)) (blocks_of p.final)) parts) ps) → Each (λ (p : Part). Each (λ (b : Block). 0 < total (λ (q : Part). times b.number q.history.drawn) parts) (blocks_of p.final)) ps
      go [] h = tt
      go (p ∷ ps) h = (
        on_blocks (λ k. total (λ (p : Part). total (λ (b : Block). one_if (nat_eq b.number k)) (blocks_of p.final)) parts) (λ b. sym (drawn_left (λ n. one_if (nat_eq n b.number)))) (blocks_of p.final) (λ k. (h k).0),
        go ps (λ k. (h k).1),
      )

  -- each copy that is left stands at its name's place
  pub copies_placed : Each (λ (p : Part). Each (λ (b : Block). Each (λ (c : Copy). f c.name ≡ Some c.place) b.copies) (blocks_of p.final)) parts
  copies_placed =
      Each-map (λ (p : Part). total (pairs_in setting wrong) (blocks_of p.final) ≡ 0) _
      (λ p z. Each-map (λ (b : Block). pairs_in setting wrong b ≡ 0) _
      (λ b y. Each-map (λ (c : Copy). wrong (c.name, c.place) ≡ 0) (λ (c : Copy). f c.name ≡ Some c.place)
      (λ c x. is_pair-is (f c.name) c.place (one_if-not (is_pair (f c.name) c.place) x)) b.copies (zero-Each (λ (c : Copy). wrong (c.name, c.place)) b.copies y))
      (blocks_of p.final) (zero-Each (pairs_in setting wrong) (blocks_of p.final) z))
      parts (zero-Each (λ (p : Part). total (pairs_in setting wrong) (blocks_of p.final)) parts none_wrong)
    where
      wrong : ℕ × ℕ → ℕ
      wrong q = one_if (not (is_pair (f q.0) q.1))

      won_right : total (λ (p : Part). total (λ (q : ℕ × ℕ). one_if (not (is_pair (f q.0) q.1))) p.final.won) parts ≡ 0
      won_right =
          Each-zero _ parts (Each-map (λ (p : Part). Each (IsPair f) p.final.won) _
          (λ p h. Each-zero _ p.final.won (Each-map (IsPair f) (λ (q : ℕ × ℕ). one_if (not (is_pair (f q.0) q.1)) ≡ 0) (λ q e. ap (λ x. one_if (not x)) (pair_is (f q.0) q.1 e)) p.final.won h)) parts won_agrees)

      none_wrong : total (λ (p : Part). total (pairs_in setting (λ q. one_if (not (is_pair (f q.0) q.1)))) (blocks_of p.final)) parts ≡ 0
      none_wrong = let x = won_stands setting f parts j (λ q. one_if (not (is_pair (f q.0) q.1))) in let y = won_right in omega arith

  -- a name with a place was won, at that place
  pub won_by_some : (Q : ℕ × ℕ → Type 0) → Each (λ (p : Part). Each Q p.final.won) parts → (name place : ℕ) → f name ≡ Some place → (q : ℕ × ℕ) × ((q.0 ≡ name) × ((q.1 ≡ place) × Q q))
  won_by_some Q h name place e =
      let l : 0 < total (λ (p : Part). wins_of name p.final.won) parts = (let x : total (λ (p : Part). wins_of name p.final.won) parts ≡ 1 = j.won_once name ∙ ap ones e in omega arith) in
      let p = total_some (λ (p : Part). wins_of name p.final.won) (λ (p : Part). Each (λ q. Q q × IsPair f q) p.final.won) parts
      (Each-map (λ (p : Part). Each Q p.final.won × Each (IsPair f) p.final.won) _ (λ p x. Each-zip Q (IsPair f) p.final.won x.0 x.1) parts (Each-zip (λ (p : Part). Each Q p.final.won) (λ (p : Part). Each (IsPair f) p.final.won) parts h won_agrees)) l in
      let q = total_some (λ (q : ℕ × ℕ). one_if (nat_eq q.0 name)) (λ q. Q q × IsPair f q) p.0.final.won p.1.0 p.1.1 in
      let n : q.0.0 ≡ name = eqb-true _ _ (one_if-positive _ q.1.1) in
      let s : Some q.0.1 ≡ Some place = sym q.1.0.1 ∙ ap f n ∙ e in
      (q.0, (n, (cc, q.1.0.0)))

  pub placed_collected : (name : ℕ) → HasPlace f name → is_collected setting name ≡ true
  placed_collected name h =
      let q = won_by_some (λ (q : ℕ × ℕ). is_collected setting q.0 ≡ true) (Each-map (HasRun setting) _ (λ p r. won_collected setting p r) parts j.runs) name h.0 h.1 in
      subst (λ n. is_collected setting n ≡ true) q.1.0 q.1.1.1

  pub large_stays : (name place : ℕ) → f name ≡ Some place → is_large_name setting name ≡ true → place ≡ name
  large_stays name place e l =
      let q = won_by_some (Stays setting) (Each-map (HasRun setting) _ (λ p r. won_stay setting p r) parts j.runs) name place e in
      sym q.1.1.0 ∙ q.1.1.1 (subst (λ n. is_large_name setting n ≡ true) (sym q.1.0) l) ∙ q.1.0
