-- What one worker's finished run shows.
use Rattle.std.proofs.Common.{◌≡◌, ℕ, zero, suc, ◌+◌, ◌≤◌, Bool, true, false, List, [], ◌∷◌, Option, Some, None, refl, sym, ap, subst, ◌∙◌, cond, length, arith, ltb-false, true≢false, is_some, add-zero, not}
use Rattle.std.specs.Option.{option_and_then}
use Rattle.workers.specs.Block.{Block, Copy, empty_block, has_unscanned, front_copy, with_field, with_copy, with_front_moved}
use Rattle.workers.specs.Setting.{Setting, old_pointers, is_large_name}
use Rattle.workers.specs.Worker.{Worker}
use Rattle.workers.specs.WorkerRun.{no_history}
use Rattle.workers.specs.Places.{IsPair}
use Rattle.workers.specs.Total.{total, one_if}
use Rattle.workers.specs.Joined.{Each, OnSome, IsOpening, Part, HasRun, somes, blocks_of}
use Rattle.workers.proofs.Lists.{Each-append, at, none-OnSome, at-none, Each-at_all}
use Rattle.workers.proofs.Totals.{total-append, total-push, total-updated_same, front_total-updated, front_total-push, front_total_more, of_some}
use Rattle.workers.proofs.Moves.{Moves, Fit, HandFit}
use Rattle.workers.proofs.Acts.{run_moves, Stepped}
use Rattle.workers.proofs.Pointed.{Pointed, moves_pointed, Good, Copies, Wholly, HandGood, open_fields, IsLed}
use Rattle.workers.proofs.Balance.{InFront, balance, got, has, in_hand, pairs_in, scans_in, done_scanned}

pub total-somes : {A : Type 0} (f : A → ℕ) (xs : List (Option A)) → total f (somes xs) ≡ total (of_some f) xs
total-somes f [] = refl
total-somes f (None ∷ xs) = let h : total f (somes xs) ≡ total (of_some f) xs = total-somes f xs in omega arith
total-somes f (Some x ∷ xs) = ap (λ n. f x + n) (total-somes f xs)

pub Each-somes : {A : Type 0} (P : A → Type 0) (xs : List (Option A)) → Each (OnSome P) xs → Each P (somes xs)
Each-somes P [] h = tt
Each-somes P (None ∷ xs) h = Each-somes P xs h.1
Each-somes P (Some x ∷ xs) h = (h.0, Each-somes P xs h.1)

pub total-none : {A : Type 0} (f : A → ℕ) (xs : List (Option A)) → Each (λ b. b ≡ None) xs → total (of_some f) xs ≡ 0
total-none f [] h = refl
total-none f (x ∷ xs) h =
    let a : of_some f x ≡ 0 = ap (of_some f) h.0 in
    let b : total (of_some f) xs ≡ 0 = total-none f xs h.1 in
    omega arith

pub total-zero : {A : Type 0} (xs : List A) → total (λ _. 0) xs ≡ 0
total-zero [] = refl
total-zero (x ∷ xs) = let h : total (λ _. 0) xs ≡ 0 = total-zero xs in omega arith

pub opening-fit : (w : Worker) → IsOpening w → Fit w
opening-fit w o = subst (HandFit w) (sym o.no_hand) o.fields

-- what its start slots and scanned objects lead to has places
pub record Led (setting : Setting) (f : ℕ → Option ℕ) (part : Part) : Type 0 where
  pub starts : Each (λ t. IsLed setting f (Some t)) part.start.starts
  pub blocks : Each (λ (b : Block). Each (λ (c : Copy). Wholly setting f c.name c.pointers) b.copies) (blocks_of part.final)
  pub large : Each (λ n. Each (IsLed setting f) (old_pointers setting n)) part.final.large_done

module _ (setting : Setting) (part : Part) (r : HasRun setting part) where
  stepped : Stepped setting part.start no_history part.final part.history
  stepped = run_moves setting r.run (opening-fit part.start r.opening) r.room r.opening.no_proposal

  pub moves : Moves setting part.start no_history part.final part.history
  moves = stepped.moves

  scanned-open : (d : ℕ) → OnSome (λ b. has_unscanned b ≡ false) (at part.final.allocation d)
  scanned-open d = go (at part.final.allocation d) (r.out.all_scanned d)
    where
      on : (b : Block) (u : Bool) → has_unscanned b ≡ u → is_some (cond u (Some b) None) ≡ false → has_unscanned b ≡ false
      on b true u e = absurd (true≢false e)
      on b false u e = u

      go : (o : Option Block) → is_some (option_and_then (λ b. cond (has_unscanned b) (Some b) None) o) ≡ false → OnSome (λ b. has_unscanned b ≡ false) o
      go None e = tt
      go (Some b) e = on b (has_unscanned b) refl e

  -- every block that is left is scanned
  pub all_scanned : Each (λ b. has_unscanned b ≡ false) (blocks_of part.final)
  all_scanned =
      Each-append (λ b. has_unscanned b ≡ false) (somes part.final.allocation) part.final.done
      (Each-somes (λ b. has_unscanned b ≡ false) part.final.allocation (Each-at_all (λ b. has_unscanned b ≡ false) part.final.allocation scanned-open))
      (done_scanned setting moves (subst (Each (λ b. has_unscanned b ≡ false)) (sym r.opening.no_done) tt))

  module _ (f : ℕ → Option ℕ) (known : Each (IsPair f) part.history.known) where
    opens : (P : Type 0) → Pointed setting f P part.start part.start no_history
    opens P =
        record {
          starts = λ l. l;
          allocation = λ d. subst (OnSome _) (sym (at-none part.start.allocation r.opening.no_allocation d)) tt;
          hand = subst (HandGood setting f P part.start part.start.fields) (sym r.opening.no_hand) tt;
          aside = subst (Each (Good setting f 0)) (sym r.opening.no_aside) tt;
          done = λ _. subst (Each (Good setting f 0)) (sym r.opening.no_done) tt;
          exported = tt;
          large_done = subst (Each (λ n. Each (IsLed setting f) (old_pointers setting n))) (sym r.opening.no_large_done) tt;
        }

    pub exported_good : Each (Good setting f 0) part.history.exported
    exported_good =
        let p : Pointed setting f ⊥ part.start part.final part.history = moves_pointed setting f ⊥ part.start moves (opening-fit part.start r.opening) known (λ x. absurd x) (opens ⊥) in
        p.exported

    wholly-scanned : (front : ℕ) (cs : List Copy) → Copies setting f 0 front cs → length cs ≤ front → Each (λ (c : Copy). Wholly setting f c.name c.pointers) cs
    wholly-scanned front [] h l = tt
    wholly-scanned zero (c ∷ cs) h l = absurd (omega arith)
    wholly-scanned (suc front) (c ∷ cs) h l = (h.0, wholly-scanned front cs h.1 (omega arith))

    block-wholly : (b : Block) → Good setting f 0 b → has_unscanned b ≡ false → Each (λ (c : Copy). Wholly setting f c.name c.pointers) b.copies
    block-wholly b g u = wholly-scanned b.front b.copies g (ltb-false _ _ u)

    -- what it took was good
    pub led : Each (Good setting f 0) part.history.taken → Led setting f part
    led taken =
        record {
          starts = p.starts (subst (Each (λ t. IsLed setting f (Some t))) (sym r.out.free.no_starts) tt);
          blocks = both (blocks_of part.final) (Each-append (Good setting f 0) (somes part.final.allocation) part.final.done (Each-somes (Good setting f 0) part.final.allocation (Each-at_all (Good setting f 0) part.final.allocation open_good)) (p.done tt)) all_scanned;
          large = p.large_done;
        }
      where
        p : Pointed setting f (Unit {0}) part.start part.final part.history
        p = moves_pointed setting f (Unit {0}) part.start moves (opening-fit part.start r.opening) known (λ _. taken) (opens (Unit {0}))

        open_good : (d : ℕ) → OnSome (Good setting f 0) (at part.final.allocation d)
        open_good d = subst (λ x. OnSome (Good setting f (open_fields x part.final.fields d)) (at part.final.allocation d)) r.out.free.no_hand (p.allocation d)

        both : (bs : List Block) → Each (Good setting f 0) bs → Each (λ b. has_unscanned b ≡ false) bs → Each (λ (b : Block). Each (λ (c : Copy). Wholly setting f c.name c.pointers) b.copies) bs
        both [] g u = tt
        both (b ∷ bs) g u = (block-wholly b g.0 u.0, both bs g.1 u.1)

  -- the three accounts
  module _ (φ : Block → ℕ) where
    blocks-total : total φ (blocks_of part.final) ≡ total (of_some φ) part.final.allocation + total φ part.final.done
    blocks-total = total-append φ (somes part.final.allocation) part.final.done ∙ ap (λ n. n + total φ part.final.done) (total-somes φ part.final.allocation)

    account : (pair : ℕ × ℕ → ℕ) (scan number unshut shut : ℕ → ℕ)
        → ((n d : ℕ) → φ (empty_block n d) ≡ number n)
        → ((i : ℕ) (v : Option ℕ) (b : Block) → φ (with_field i v b) ≡ φ b)
        → ((c : Copy) (b : Block) → InFront b → is_large_name setting c.name ≡ false → φ (with_copy c b) ≡ φ b + pair (c.name, c.place))
        → ((b : Block) (c : Copy) → front_copy b ≡ Some c → φ (with_front_moved b) ≡ φ b + scan c.place)
        → ((n : ℕ) → is_large_name setting n ≡ true → pair (n, n) ≡ unshut n)
        → ((n : ℕ) → shut n ≡ unshut n + scan n)
        → total pair part.final.won + total scan part.final.scanned + total number part.history.drawn + total φ part.history.taken ≡ total φ (blocks_of part.final) + total φ part.history.exported + total shut part.final.large_done
    account pair scan number unshut shut a b c d e g =
        let x : got setting φ pair scan number unshut shut a b c d e g part.final part.history ≡ has setting φ pair scan number unshut shut a b c d e g part.final part.history =
        balance setting φ pair scan number unshut shut a b c d e g moves (none-OnSome InFront part.start.allocation r.opening.no_allocation) begins in
        let y = blocks-total in
        let z : in_hand setting φ pair scan number unshut shut a b c d e g part.final.hand ≡ 0 = ap (in_hand setting φ pair scan number unshut shut a b c d e g) r.out.free.no_hand in
        let u : total φ part.final.aside ≡ 0 = ap (total φ) r.out.no_aside in
        let v : total unshut part.final.large ≡ 0 = ap (total unshut) r.out.no_large in
        omega arith
      where
        begins : got setting φ pair scan number unshut shut a b c d e g part.start no_history ≡ has setting φ pair scan number unshut shut a b c d e g part.start no_history
        begins =
            let q1 : total pair part.start.won ≡ 0 = ap (total pair) r.opening.no_won in
            let q2 : total scan part.start.scanned ≡ 0 = ap (total scan) r.opening.no_scanned in
            let q3 : total (of_some φ) part.start.allocation ≡ 0 = total-none φ part.start.allocation r.opening.no_allocation in
            let q4 : total φ part.start.aside ≡ 0 = ap (total φ) r.opening.no_aside in
            let q5 : total φ part.start.done ≡ 0 = ap (total φ) r.opening.no_done in
            let q6 : in_hand setting φ pair scan number unshut shut a b c d e g part.start.hand ≡ 0 = ap (in_hand setting φ pair scan number unshut shut a b c d e g) r.opening.no_hand in
            let q7 : total unshut part.start.large ≡ 0 = ap (total unshut) r.opening.no_large in
            let q8 : total shut part.start.large_done ≡ 0 = ap (total shut) r.opening.no_large_done in
            omega arith

  -- what it won and took stands in what it left and exported
  pub won_account : (pair : ℕ × ℕ → ℕ) → total pair part.final.won + total (pairs_in setting pair) part.history.taken ≡ total (pairs_in setting pair) (blocks_of part.final) + total (pairs_in setting pair) part.history.exported + total (λ n. pair (n, n)) part.final.large_done
  won_account pair =
      let zero_scans = total-zero part.final.scanned in
      let zero_draws = total-zero part.history.drawn in
      let x = account (pairs_in setting pair) pair (λ _. 0) (λ _. 0) (λ n. pair (n, n)) (λ n. pair (n, n)) (λ n d. refl)
      (λ i v b. total-updated_same (λ (c : Copy). pair (c.name, c.place)) _ (λ c. refl) b.copies b.front)
      (λ c b i l. total-push (λ (c : Copy). pair (c.name, c.place)) b.copies c)
      (λ b c e. omega arith) (λ n l. refl) (λ n. omega arith) in
      omega arith

  -- and likewise what it scanned
  pub scan_account : (scan : ℕ → ℕ) → total scan part.final.scanned + total (scans_in setting scan) part.history.taken ≡ total (scans_in setting scan) (blocks_of part.final) + total (scans_in setting scan) part.history.exported + total scan part.final.large_done
  scan_account scan =
      let zero_won = total-zero part.final.won in
      let zero_draws = total-zero part.history.drawn in
      let x = account (scans_in setting scan) (λ _. 0) scan (λ _. 0) (λ _. 0) scan (λ n d. refl)
      (λ i v b. front_total-updated (λ (c : Copy). scan c.place) _ (λ c. refl) b.front b.copies b.front)
      (λ c b i l. front_total-push (λ (c : Copy). scan c.place) b.front b.copies c i ∙ sym (add-zero _))
      (λ b c e. front_total_more (λ (c : Copy). scan c.place) b.front b.copies c e) (λ n l. refl) (λ n. omega arith) in
      omega arith

  pub draw_account : (number : ℕ → ℕ) → total number part.history.drawn + total (λ b. number b.number) part.history.taken ≡ total (λ b. number b.number) (blocks_of part.final) + total (λ b. number b.number) part.history.exported
  draw_account number =
      let zero_won = total-zero part.final.won in
      let zero_scans = total-zero part.final.scanned in
      let zero_large = total-zero part.final.large_done in
      let x = account (λ b. number b.number) (λ _. 0) (λ _. 0) number (λ _. 0) (λ _. 0) (λ n d. refl) (λ i v b. refl) (λ c b i l. sym (add-zero _)) (λ b c e. sym (add-zero _)) (λ n l. refl) (λ n. refl) in
      omega arith

  -- large objects that are done are large, and copies are small
  pub large_are : total (λ n. one_if (not (is_large_name setting n))) part.final.large_done ≡ 0
  large_are =
      let z1 = total-zero part.final.won in
      let z2 = total-zero part.final.scanned in
      let z3 = total-zero part.history.drawn in
      let z4 = total-zero part.history.taken in
      let x = account (λ _. 0) (λ _. 0) (λ _. 0) (λ _. 0) (λ n. one_if (not (is_large_name setting n))) (λ n. one_if (not (is_large_name setting n))) (λ n d. refl) (λ i v b. refl) (λ c b i l. refl) (λ b c e. refl)
      (λ n l. sym (ap (λ y. one_if (not y)) l)) (λ n. sym (add-zero _)) in
      omega arith
