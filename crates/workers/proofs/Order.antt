-- In which order the workers together scanned.
use Rattle.std.proofs.Common.{◌≡◌, ◌≢◌, ℕ, zero, suc, ◌+◌, ◌-◌, ◌*◌, ◌/◌, ◌<◌, ◌≤◌, Bool, true, false, List, [], ◌∷◌, Option, Some, refl, sym, ap, subst, ◌∙◌, ◌⊎◌, inl, inr, ⊎_elim, arith, nat_eq, nat_le, eqb-true, eq-eqb, true≢false, slice_get, cond}
use Rattle.std.proofs.lemmas.Bool.{cases_eq}
use Rattle.std.specs.Option.{option_map_or}
use Rattle.model.specs.Graph.{is_large}
use Rattle.workers.specs.Block.{Block}
use Rattle.layout.specs.Place.{small_word}
use Rattle.workers.specs.Setting.{Setting, is_large_name}
use Rattle.workers.specs.WorkerRun.{no_history}
use Rattle.workers.specs.Total.{total, one_if, times}
use Rattle.workers.specs.Joined.{Each, Part, HasRun, WasExported, Joined}
use Rattle.workers.specs.Kept.{AreFresh}
use Rattle.workers.specs.Laid.{Laid}
use Rattle.workers.specs.Refused.{HasBegun}
use Rattle.workers.specs.Ordered.{in_block, places_in, IsRising, TurnRun, Ordered, draws_of, takes_of}
use Rattle.workers.proofs.Lists.{Each-map, Each-at, none-some}
use Rattle.workers.proofs.Balance.{scans_in}
use Rattle.workers.proofs.Deliveries.{deliveries-total}
use Rattle.workers.proofs.Whole.{scanned_once}
use Rattle.workers.proofs.OnePart.{total-none, total-zero}
use Rattle.workers.proofs.Renamed.{total-le, exported_laid, Each-zero}
use Rattle.workers.proofs.OneToOne.{won_place_once}
use Rattle.workers.proofs.Space.{moves}
use Rattle.workers.proofs.Owners.{is_it, OwnDrawn, own_drawn, moves_drew, won_in}
use Rattle.workers.proofs.Prefix.{located, member-le, no_kind, numbers, scans, large_done_are, all_laid, late, block_elsewhere}
use Rattle.workers.proofs.Rising.{Says, run_rising, all_below}

-- where one has it, no other does
pub apart : (g : Part → ℕ) (ps : List Part) (u t : ℕ) (pu pt : Part) → slice_get ps u ≡ Some pu → slice_get ps t ≡ Some pt → t ≢ u → total g ps ≤ 1 → 0 < g pu → g pt ≡ 0
apart g [] u t pu pt eu et n l p = absurd (none-some eu)
apart g (x ∷ ps) zero zero pu pt eu et n l p = absurd (n refl)
apart g (x ∷ ps) zero (suc t) pu pt eu et n l p =
    let q : x ≡ pu = cc in
    let a : g x ≡ g pu = ap g q in
    let m : g pt ≤ total g ps = member-le g ps t pt et in
    omega arith
apart g (x ∷ ps) (suc u) zero pu pt eu et n l p =
    let q : x ≡ pt = cc in
    let a : g x ≡ g pt = ap g q in
    let m : g pu ≤ total g ps = member-le g ps u pu eu in
    omega arith
apart g (x ∷ ps) (suc u) (suc t) pu pt eu et n l p = apart g ps u t pu pt eu et (λ e. n (ap suc e)) (omega arith) p

nothing_in : (xs : List ℕ) → Each (λ x. x < 0) xs → xs ≡ []
nothing_in [] h = refl
nothing_in (x ∷ xs) h = let l : x < 0 = h.0 in absurd (omega arith)

module _ (setting : Setting) (f : ℕ → Option ℕ) (parts : List Part) (j : Joined setting f parts) (small_blocks : setting.block_words ≤ 65536) (fresh : AreFresh setting parts) where
  begun : (p : Part) → HasRun setting p → HasBegun setting p
  begun p r = record { opening = r.opening; room = r.room; run = r.run }

  pub ran : (t : ℕ) (p : Part) → slice_get parts t ≡ Some p → HasRun setting p
  ran t p e = Each-at (HasRun setting) parts t p e j.runs

  opens_drawn : (k : ℕ) (p : Part) → HasRun setting p → OwnDrawn setting k p.start no_history
  opens_drawn k p r =
      let a = total-none (is_it setting k) p.start.allocation r.opening.no_allocation in
      let b : total (is_it setting k) p.start.aside ≡ 0 = ap (total (is_it setting k)) r.opening.no_aside in
      omega arith

  -- a block that was exported was drawn
  pub own_exports : (k : ℕ) (p : Part) → HasRun setting p → total (is_it setting k) p.history.exported ≤ times k p.history.drawn
  own_exports k p r =
      let o : OwnDrawn setting k p.final p.history = own_drawn setting k (moves setting p (begun p r)) (opens_drawn k p r) in
      let z = total-zero p.final.won in
      omega arith

  pub taken_total : (k : ℕ) → total (λ (p : Part). total (is_it setting k) p.history.taken) parts ≤ 1
  taken_total k =
      let a : total (λ (p : Part). total (is_it setting k) p.history.taken) parts ≡ total (λ (p : Part). total (is_it setting k) p.history.exported) parts = deliveries-total parts j.taken j.taken_once (is_it setting k) (λ x label. refl) in
      let b : total (λ (p : Part). total (is_it setting k) p.history.exported) parts ≤ total (λ (p : Part). times k p.history.drawn) parts =
      total-le (λ (p : Part). total (is_it setting k) p.history.exported) (λ (p : Part). times k p.history.drawn) (HasRun setting) (own_exports k) parts j.runs in
      let c = j.drawn_once k in
      omega arith

  pub taken_laid : (p : Part) → Each (WasExported parts) p.history.taken → Each (Laid setting) p.history.taken
  taken_laid p h =
      Each-map (WasExported parts) (Laid setting)
      (λ b x. (let l : Laid setting x.sent = Each-at (Laid setting) x.part.history.exported x.i x.sent x.there (exported_laid setting x.part (ran x.u x.part x.exporter)) in
      subst (Laid setting) (sym x.same) (record { from = l.from; within = l.within })))
      p.history.taken h

  -- no large object stands in a drawn block
  pub no_large_in : (k : ℕ) → 0 < draws_of k parts → (n : ℕ) → is_large_name setting n ≡ true → in_block k n ≡ false
  no_large_in k d n l = go (in_block k n) refl
    where
      go : (x : Bool) → in_block k n ≡ x → in_block k n ≡ false
      go false e = e
      go true e =
          let q : n / 65536 ≡ k + 1 = eqb-true _ _ e in
          let s : n ≡ small_word k (n - (k + 1) * 65536) = omega arith in
          absurd (true≢false (sym l ∙ ap (λ o. option_map_or (is_large setting.block_words) o false) (ap setting.object s ∙ fresh k (n - (k + 1) * 65536) d (omega arith))))

  module _ (k : ℕ) (d : 0 < draws_of k parts) (t : ℕ) (p : Part) (there : slice_get parts t ≡ Some p) where
    drawn_here : times k p.history.drawn ≤ 1
    drawn_here = let a = j.drawn_once k in let m : times k p.history.drawn ≤ total (λ (q : Part). times k q.history.drawn) parts = member-le (λ (q : Part). times k q.history.drawn) parts t p there in omega arith

    label : (b : Block) → WasExported parts b → ((i : ℕ) × (b.sent ≡ Some (t, i))) ⊎ (times b.number p.history.drawn ≡ 0)
    label b x =
        ⊎_elim
        (λ (e : x.u ≡ t). inl (x.i, ap (λ (y : Block). y.sent) x.same ∙ ap (λ u. Some (u, x.i)) e))
        (λ (n : x.u ≢ t).
        let one : one_if (nat_eq x.sent.number b.number) ≡ 1 = ap one_if (eq-eqb _ _ (sym (ap (λ (y : Block). y.number) x.same))) in
        let m : is_it setting b.number x.sent ≤ total (is_it setting b.number) x.part.history.exported = member-le (is_it setting b.number) x.part.history.exported x.i x.sent x.there in
        let o = own_exports b.number x.part (ran x.u x.part x.exporter) in
        inr (apart (λ (q : Part). times b.number q.history.drawn) parts x.u t x.part p x.exporter there (λ e. n (sym e)) (j.drawn_once b.number) (omega arith)))
        (cases_eq x.u t)

    taken_here : Each (WasExported parts) p.history.taken
    taken_here = Each-at (λ (q : Part). Each (WasExported parts) q.history.taken) parts t p there j.taken

    says : Says setting small_blocks k (no_large_in k d) t p.history.drawn drawn_here p.history
    says =
        record {
          drawn = omega arith;
          taken = (let a = taken_total k in let m : total (is_it setting k) p.history.taken ≤ total (λ (q : Part). total (is_it setting k) q.history.taken) parts = member-le (λ (q : Part). total (is_it setting k) q.history.taken) parts t p there in omega arith);
          labels = Each-map (WasExported parts) _ label p.history.taken taken_here;
          laid = taken_laid p taken_here;
        }

    pub part_rising : TurnRun setting t p → IsRising (places_in k p.final.scanned)
    part_rising r =
        let h = ran t p there in
        (run_rising setting small_blocks k (no_large_in k d) t p.history.drawn drawn_here h.opening h.room r.run r.turns says).1

    pub part_wins : times k p.history.drawn ≡ 0 → won_in setting k small_blocks (no_large_in k d) p.final ≡ 0
    part_wins z =
        ⊎_elim (λ e. e) (λ l. absurd (omega arith))
        (moves_drew setting k small_blocks (no_large_in k d) (moves setting p (begun p (ran t p there))) (opens_drawn k p (ran t p there)) (inl (ap (λ w. total (λ (q : ℕ × ℕ). one_if (in_block k q.1)) w) (ran t p there).opening.no_won)))

    -- who neither drew nor took the block scanned nothing in it
    pub part_scans : times k p.history.drawn ≡ 0 → takes_of k p ≡ 0 → places_in k p.final.scanned ≡ []
    part_scans z y =
        let r = begun p (ran t p there) in
        let l = all_laid setting p r (taken_laid p taken_here) in
        let n = numbers setting p r (λ m. one_if (nat_eq m k)) in
        let a : total (scans_in setting (late setting small_blocks k 0)) (located p.final) ≡ 0 = no_kind (is_it setting k) (scans_in setting (late setting small_blocks k 0)) (located p.final) (omega arith) (kinds (located p.final) l.0) in
        let b : total (scans_in setting (late setting small_blocks k 0)) p.history.exported ≡ 0 = no_kind (is_it setting k) (scans_in setting (late setting small_blocks k 0)) p.history.exported (omega arith) (kinds p.history.exported l.1) in
        let c : total (late setting small_blocks k 0) p.final.large_done ≡ 0 =
        Each-zero (late setting small_blocks k 0) p.final.large_done
        (Each-map (λ n. is_large_name setting n ≡ true) (λ n. late setting small_blocks k 0 n ≡ 0) (λ n q. ap (λ x. cond x (one_if (nat_le 0 n)) 0) (no_large_in k d n q)) p.final.large_done (large_done_are setting p r)) in
        let s = scans setting p r (late setting small_blocks k 0) in
        nothing_in (places_in k p.final.scanned) (all_below setting small_blocks k 0 p.final.scanned (omega arith))
      where
        kinds : (bs : List Block) → Each (Laid setting) bs → Each (λ b. is_it setting k b ≡ 0 → scans_in setting (late setting small_blocks k 0) b ≡ 0) bs
        kinds bs h = Each-map (Laid setting) (λ b. is_it setting k b ≡ 0 → scans_in setting (late setting small_blocks k 0) b ≡ 0)
            (λ b l z. block_elsewhere setting small_blocks k 0 b l (λ e. (let o : one_if (nat_eq b.number k) ≡ 1 = ap one_if (eq-eqb b.number k e) in absurd (omega arith)))) bs h

  pub ordered : ((t : ℕ) (part : Part) → slice_get parts t ≡ Some part → TurnRun setting t part) → Ordered setting parts
  ordered turns =
      record {
        won_scanned = λ place. scanned_once setting f parts j (λ x. one_if (nat_eq x place));
        scanned_once = λ place. (let a = scanned_once setting f parts j (λ x. one_if (nat_eq x place)) in let b = won_place_once setting f parts j small_blocks fresh place in omega arith);
        rising = λ k d t p there. part_rising k d t p there (turns t p there);
        one_takes = taken_total;
        one_draws = j.drawn_once;
        only_two = part_scans;
        one_wins = part_wins;
      }
