-- What the joined parts show.
use Rattle.std.proofs.Common.{◌≡◌, ℕ, zero, suc, ◌+◌, ◌<◌, true, false, List, [], ◌∷◌, Option, Some, refl, sym, ap, subst, ◌∙◌, ◌⊎◌, inl, inr, ⊎_elim, arith, nat_eq, nat_le, eqb-true, ltb-false, le-leb}
use Rattle.std.specs.Option.{option_map_or}
use Rattle.model.specs.Graph.{Graph, Object}
use Rattle.model.specs.Reached.{first, later}
use Rattle.model.specs.Live.{Live, IsStart, IsYoung}
use Rattle.model.specs.Destination.{Shape}
use Rattle.workers.specs.Block.{Block, Copy, has_unscanned}
use Rattle.workers.specs.Setting.{Setting, setting_of, old_pointers, old_field, is_collected}
use Rattle.workers.specs.Places.{IsPair}
use Rattle.workers.specs.Total.{total, one_if, times, ones}
use Rattle.workers.specs.Joined.{Each, OnSome, Part, HasRun, WasExported, Joined, blocks_of, named_in}
use Rattle.workers.proofs.Lists.{Each-zip, Each-map, Each-at, Each-get}
use Rattle.workers.proofs.Totals.{total_some, total-Each, front_total_all, one_if-positive}
use Rattle.workers.proofs.Pointed.{Good, Wholly, old_field-get, HasPlace, IsLed}
use Rattle.workers.proofs.Balance.{pairs_in, scans_in}
use Rattle.workers.proofs.OnePart.{Led, exported_good, led, won_account, scan_account, all_scanned}
use Rattle.workers.proofs.Deliveries.{deliveries-total}

pub accounts : (a t b e c : Part → ℕ) (ps : List Part) → Each (λ p. a p + t p ≡ b p + e p + c p) ps → total t ps ≡ total e ps → total a ps ≡ total b ps + total c ps
accounts a t b e c ps h s =
    let x = go ps h in
    omega arith
  where
    go : (qs : List Part) → Each (λ p. a p + t p ≡ b p + e p + c p) qs → total a qs + total t qs ≡ total b qs + total e qs + total c qs
    go [] h = refl
    go (q ∷ qs) h =
        let x : total a qs + total t qs ≡ total b qs + total e qs + total c qs = go qs h.1 in
        let y : a q + t q ≡ b q + e q + c q = h.0 in
        omega arith

pub positive-or : (a b : ℕ) → a + b ≡ 1 → (0 < a) ⊎ (0 < b)
positive-or zero b e = inr (omega arith)
positive-or (suc a) b e = inl (omega arith)

module _ (setting : Setting) (f : ℕ → Option ℕ) (parts : List Part) (j : Joined setting f parts) where
  good_exports : Each (λ (p : Part). Each (Good setting f 0) p.history.exported) parts
  good_exports =
      Each-map (λ (p : Part). HasRun setting p × Each (IsPair f) p.history.known) (λ (p : Part). Each (Good setting f 0) p.history.exported)
      (λ p h. exported_good setting p h.0 f h.1) parts
      (Each-zip (HasRun setting) (λ (p : Part). Each (IsPair f) p.history.known) parts j.runs j.known)

  good_taken : (p : Part) → Each (WasExported parts) p.history.taken → Each (Good setting f 0) p.history.taken
  good_taken p h =
      Each-map (WasExported parts) (Good setting f 0)
      (λ b x. subst (Good setting f 0) (sym x.same) (Each-at (Good setting f 0) x.part.history.exported x.i x.sent x.there (Each-at (λ (q : Part). Each (Good setting f 0) q.history.exported) parts x.u x.part x.exporter good_exports)))
      p.history.taken h

  -- each worker's start slots and scanned objects lead to places
  pub leds : Each (Led setting f) parts
  leds =
      Each-map (λ (p : Part). (HasRun setting p × Each (IsPair f) p.history.known) × Each (WasExported parts) p.history.taken) (Led setting f)
      (λ p h. led setting p h.0.0 f h.0.1 (good_taken p h.1)) parts
      (Each-zip (λ (p : Part). HasRun setting p × Each (IsPair f) p.history.known) (λ (p : Part). Each (WasExported parts) p.history.taken) parts
      (Each-zip (HasRun setting) (λ (p : Part). Each (IsPair f) p.history.known) parts j.runs j.known) j.taken)

  -- what was won stands in the blocks that are left, or is a large object that is done
  pub won_stands : (pair : ℕ × ℕ → ℕ) → total (λ (p : Part). total pair p.final.won) parts ≡ total (λ (p : Part). total (pairs_in setting pair) (blocks_of p.final)) parts + total (λ (p : Part). total (λ n. pair (n, n)) p.final.large_done) parts
  won_stands pair =
      accounts (λ p. total pair p.final.won) (λ p. total (pairs_in setting pair) p.history.taken) (λ p. total (pairs_in setting pair) (blocks_of p.final)) (λ p. total (pairs_in setting pair) p.history.exported) (λ p. total (λ n. pair (n, n)) p.final.large_done) parts
      (Each-map (HasRun setting) _ (λ p h. won_account setting p h pair) parts j.runs)
      (deliveries-total parts j.taken j.taken_once (pairs_in setting pair) (λ x label. refl))

  scanned_stands : (scan : ℕ → ℕ) → total (λ (p : Part). total scan p.final.scanned) parts ≡ total (λ (p : Part). total (scans_in setting scan) (blocks_of p.final)) parts + total (λ (p : Part). total scan p.final.large_done) parts
  scanned_stands scan =
      accounts (λ p. total scan p.final.scanned) (λ p. total (scans_in setting scan) p.history.taken) (λ p. total (scans_in setting scan) (blocks_of p.final)) (λ p. total (scans_in setting scan) p.history.exported) (λ p. total scan p.final.large_done) parts
      (Each-map (HasRun setting) _ (λ p h. scan_account setting p h scan) parts j.runs)
      (deliveries-total parts j.taken j.taken_once (scans_in setting scan) (λ x label. refl))

  -- what was scanned is what was won, place for place
  pub scanned_once : (scan : ℕ → ℕ) → total (λ (p : Part). total scan p.final.scanned) parts ≡ total (λ (p : Part). total (λ (q : ℕ × ℕ). scan q.1) p.final.won) parts
  scanned_once scan =
      let a = scanned_stands scan in
      let b = won_stands (λ q. scan q.1) in
      let c : total (λ (p : Part). total (scans_in setting scan) (blocks_of p.final)) parts ≡ total (λ (p : Part). total (pairs_in setting (λ q. scan q.1)) (blocks_of p.final)) parts =
      total-Each (λ (p : Part). total (scans_in setting scan) (blocks_of p.final)) (λ (p : Part). total (pairs_in setting (λ q. scan q.1)) (blocks_of p.final)) (HasRun setting)
      (λ p h. total-Each (scans_in setting scan) (pairs_in setting (λ q. scan q.1)) (λ b. has_unscanned b ≡ false) (λ b u. front_total_all (λ (c : Copy). scan c.place) b.front b.copies (ltb-false _ _ u)) (blocks_of p.final) (all_scanned setting p h))
      parts j.runs in
      omega arith

  -- a name with a place stands once, as a copy or as a large object
  pub stands_once : (name : ℕ) → total (λ (p : Part). total (named_in name) (blocks_of p.final)) parts + total (λ (p : Part). times name p.final.large_done) parts ≡ ones (f name)
  stands_once name = sym (won_stands (λ q. one_if (nat_eq q.0 name))) ∙ j.won_once name

  -- its pointers lead to places
  pub pointers_placed : (name : ℕ) → HasPlace f name → Each (IsLed setting f) (old_pointers setting name)
  pointers_placed name h =
      ⊎_elim
      (λ l. (
      let p = total_some (λ (p : Part). total (named_in name) (blocks_of p.final)) (Led setting f) parts leds l in
      let b = total_some (named_in name) (λ (b : Block). Each (λ (c : Copy). Wholly setting f c.name c.pointers) b.copies) (blocks_of p.0.final) p.1.0.blocks p.1.1 in
      let c = total_some (λ (c : Copy). one_if (nat_eq c.name name)) (λ (c : Copy). Wholly setting f c.name c.pointers) b.0.copies b.1.0 b.1.1 in
      let e : c.0.name ≡ name = eqb-true _ _ (one_if-positive _ c.1.1) in
      subst (λ n. Each (IsLed setting f) (old_pointers setting n)) e c.1.0.led))
      (λ l. (
      let p = total_some (λ (p : Part). times name p.final.large_done) (Led setting f) parts leds l in
      let n = total_some (λ n. one_if (nat_eq n name)) (λ n. Each (IsLed setting f) (old_pointers setting n)) p.0.final.large_done p.1.0.large p.1.1 in
      let e : n.0 ≡ name = eqb-true _ _ (one_if-positive _ n.1.1) in
      subst (λ n. Each (IsLed setting f) (old_pointers setting n)) e n.1.0))
      (positive-or _ _ (stands_once name ∙ ap ones h.1))

  pub edge_placed : (name i target : ℕ) → HasPlace f name → old_field setting name i ≡ Some (Some target) → is_collected setting target ≡ true → HasPlace f target
  edge_placed name i target h e y =
      subst (OnSome (IsLed setting f)) (sym (old_field-get setting name i) ∙ e) (Each-get (IsLed setting f) (old_pointers setting name) i (pointers_placed name h)) y

  pub start_placed : (target : ℕ) → 0 < total (λ (p : Part). times target p.start.starts) parts → is_collected setting target ≡ true → HasPlace f target
  start_placed target l y =
      let p = total_some (λ (p : Part). times target p.start.starts) (Led setting f) parts leds l in
      let t = total_some (λ n. one_if (nat_eq n target)) (λ n. IsLed setting f (Some n)) p.0.start.starts p.1.0.starts p.1.1 in
      let e : t.0 ≡ target = eqb-true _ _ (one_if-positive _ t.1.1) in
      subst (λ n. IsLed setting f (Some n)) e t.1.0 y

  -- the pointers of each copy that is left are finished
  pub all_finished : Each (λ (p : Part). Each (λ (b : Block). Each (λ (c : Copy). Wholly setting f c.name c.pointers) b.copies) (blocks_of p.final)) parts
  all_finished = Each-map (Led setting f) _ (λ p l. l.blocks) parts leds

pub young-collected : (graph : Graph) (g : ℕ) (shape : Shape) (block_words workers name : ℕ) → IsYoung graph g name → is_collected (setting_of graph g shape block_words workers) name ≡ true
young-collected graph g shape block_words workers name y = ap (λ o. option_map_or (λ (x : Object). nat_le x.generation g) o false) y.there ∙ le-leb _ _ y.young

-- every live object has a place
module _ (graph : Graph) (g : ℕ) (shape : Shape) (block_words workers : ℕ) (f : ℕ → Option ℕ) (parts : List Part)
    (j : Joined (setting_of graph g shape block_words workers) f parts)
    (starts : (target : ℕ) → IsStart graph g target → 0 < total (λ (p : Part). times target p.start.starts) parts) where
  pub live_placed : (name : ℕ) → Live graph g name → HasPlace f name
  live_placed name (first s) = start_placed (setting_of graph g shape block_words workers) f parts j name (starts name s) (young-collected graph g shape block_words workers name s.0)
  live_placed name (later {m = m} r e) = edge_placed (setting_of graph g shape block_words workers) f parts j m e.i name (live_placed m r) e.leads (young-collected graph g shape block_words workers name e.young)
