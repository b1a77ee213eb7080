-- One worker by itself scans in the order in which it copied: its scans, and what it exports, takes and owns.
use Rattle.std.proofs.Common.{◌≡◌, ◌≢◌, ℕ, ◌<◌, ◌≤◌, Bool, true, false, not, List, [], ◌∷◌, ◌++◌, Option, Some, refl, sym, ap, subst, ◌∙◌, set, cond, length, arith, filter}
use Rattle.std.proofs.lemmas.List.{append_assoc}
use Rattle.std.specs.Option.{option_map}
use Rattle.workers.specs.Block.{Block, Copy, has_unscanned, with_front_moved}
use Rattle.workers.specs.Setting.{Setting}
use Rattle.workers.specs.Worker.{Worker, Hand, Nothing, Open, Holding, HoldingLarge, current_in}
use Rattle.workers.specs.WorkerSteps.{scan_open, scan_hand, log_scan, after_scan, without_oldest, after_aside, after_take, after_own, claim_first, after_own_large}
use Rattle.workers.specs.Joined.{OnSome}
use Rattle.workers.specs.Alone.{TellsSmall}
use Rattle.workers.proofs.Lists.{Each-set, mapped, at-Each, get-lt, length-set_any}
use Rattle.workers.proofs.Moves.{HandFit, Fit, front_there, name_place, front_of}
use Rattle.workers.proofs.AloneLists.{left_in, waiting, open_waiting, in_hand, large_in_hand, left-none, left-next, waiting-push, open-is, open-set, filter-yes, filter-no, next_passes}
use Rattle.workers.proofs.AloneOrder.{Orders, OpenBlock, behind_hand, places_won, held-open, nothing-open, large-open, not-true}

module _ (setting : Setting) (free : List ℕ) (small : ℕ → Bool) (tells : TellsSmall setting free small) (room : setting.block_words ≤ 65536) where
  abbrev Ordered : Worker → List Block → Type 0
  Ordered = Orders setting free small tells room

  abbrev large : ℕ → Bool
  large place = not (small place)

  -- the first place that waits is scanned
  small_step : (scanned : List ℕ) (p : ℕ) (old new won : List ℕ) → old ≡ p ∷ new → filter small scanned ++ old ≡ filter small won → (filter small (scanned ++ p ∷ []) ++ new ≡ filter small won) × (large p ≡ false)
  small_step scanned p old new won e h =
      let k : filter small scanned ++ p ∷ new ≡ filter small won = ap (λ x. filter small scanned ++ x) (sym e) ∙ h in
      let yes : small p ≡ true = next_passes small (filter small scanned) p new won k in
      (ap (λ x. x ++ new) (filter-yes small scanned p yes) ∙ append_assoc (filter small scanned) (p ∷ []) new ∙ k, ap not yes)

  pub scan_orders : (w : Worker) (q : List Block) → Fit w → w.hand ≢ Nothing → Ordered w q → Ordered (after_scan w) q
  scan_orders w q f some h = go w.hand refl
    where
      go : (hand : Hand) → w.hand ≡ hand → Ordered (scan_hand (log_scan w (current_in w hand)) hand) q
      go Nothing e = absurd (some e)
      go (Open d) e =
          let x : HandFit w (Open d) = subst (HandFit w) e f in
          let c = front_there x.0 x.1.1 in
          let a : current_in w (Open d) ≡ Some (name_place c.0) = ap front_of x.1.0 ∙ ap (option_map name_place) c.1 in
          let path : scan_hand (log_scan w (current_in w (Open d))) (Open d) ≡ scan_open (record w { fields = 0; scanned = w.scanned ++ c.0.place ∷ [] }) d (Some (with_front_moved x.0)) =
          ap (λ y. scan_hand (log_scan w y) (Open d)) a ∙ ap (λ y. scan_open (record w { fields = 0; scanned = w.scanned ++ c.0.place ∷ [] }) d (mapped with_front_moved y)) x.1.0 in
          let r = h.first d e in
          let line : (y o : List ℕ) → y ≡ [] → y ++ (waiting q ++ (waiting w.aside ++ o)) ≡ o =
          λ y o n. ap (λ z. z ++ (waiting q ++ (waiting w.aside ++ o))) n ∙ ap (λ z. waiting z ++ (waiting w.aside ++ o)) r.0 ∙ ap (λ z. waiting z ++ o) r.1 in
          let old : in_hand w.hand ++ behind_hand w q ≡ c.0.place ∷ left_in (with_front_moved x.0) =
          line (in_hand w.hand) (open_waiting w.allocation) (ap in_hand e) ∙ open-is w.allocation d x.0 h.one x.1.0 ∙ left-next x.0 c.0 c.1 in
          let s = small_step w.scanned c.0.place _ (left_in (with_front_moved x.0)) (places_won w) old h.small_ones in
          let after : open_waiting (set w.allocation d (Some (with_front_moved x.0))) ≡ left_in (with_front_moved x.0) = open-set w.allocation d x.0 h.one x.1.0 (with_front_moved x.0) in
          let o : OpenBlock free x.0 = at-Each (OpenBlock free) w.allocation d x.0 x.1.0 h.blocks in
          let l : x.0.front < length x.0.copies = get-lt x.0.copies x.0.front c.0 c.1 in
          subst (λ y. Ordered y q) (sym path) (record {
            one = subst (λ n. n ≤ 1) (sym (length-set_any w.allocation d (Some (with_front_moved x.0)))) h.one;
            blocks = Each-set (OnSome (OpenBlock free)) w.allocation d (Some (with_front_moved x.0)) (o.0, omega arith) h.blocks;
            first = λ y p. r;
            small_ones = ap (λ y. filter small (w.scanned ++ c.0.place ∷ []) ++ y) (line _ _ (empty (has_unscanned (with_front_moved x.0))) ∙ after) ∙ s.0;
            large_ones = ap (λ y. filter large (w.scanned ++ c.0.place ∷ []) ++ (y ++ w.large)) (empty_large (has_unscanned (with_front_moved x.0)) ∙ sym (ap large_in_hand e)) ∙ ap (λ y. y ++ (large_in_hand w.hand ++ w.large)) (filter-no large w.scanned c.0.place s.1) ∙ h.large_ones;
          })
        where
          empty : (b : Bool) → in_hand (cond b (Open d) Nothing) ≡ []
          empty true = refl
          empty false = refl

          empty_large : (b : Bool) → large_in_hand (cond b (Open d) Nothing) ≡ []
          empty_large true = refl
          empty_large false = refl
      go (Holding b) e =
          let u : HandFit w (Holding b) = subst (HandFit w) e f in
          let c = front_there b u in
          let a : current_in w (Holding b) ≡ Some (name_place c.0) = ap (option_map name_place) c.1 in
          let old : in_hand w.hand ++ behind_hand w q ≡ c.0.place ∷ (left_in (with_front_moved b) ++ behind_hand w q) =
          ap (λ y. y ++ behind_hand w q) (ap in_hand e ∙ left-next b c.0 c.1) in
          let s = small_step w.scanned c.0.place _ (left_in (with_front_moved b) ++ behind_hand w q) (places_won w) old h.small_ones in
          let k = ap (λ y. filter large (w.scanned ++ c.0.place ∷ []) ++ (y ++ w.large)) (sym (ap large_in_hand e)) ∙ ap (λ y. y ++ (large_in_hand w.hand ++ w.large)) (filter-no large w.scanned c.0.place s.1) ∙ h.large_ones in
          subst (λ y. Ordered y q) (sym (ap (λ y. scan_hand (log_scan w y) (Holding b)) a)) (last c.0 (has_unscanned (with_front_moved b)) refl s.0 k)
        where
          last : (c : Copy) (u : Bool) → has_unscanned (with_front_moved b) ≡ u
              → filter small (w.scanned ++ c.place ∷ []) ++ (left_in (with_front_moved b) ++ behind_hand w q) ≡ filter small (places_won w)
              → filter large (w.scanned ++ c.place ∷ []) ++ ([] ++ w.large) ≡ filter large (places_won w)
              → Ordered (cond u (record w { fields = 0; scanned = w.scanned ++ c.place ∷ []; hand = Holding (with_front_moved b) }) (record w { fields = 0; scanned = w.scanned ++ c.place ∷ []; hand = Nothing; done = w.done ++ with_front_moved b ∷ [] })) q
          last c true u s k = record { one = h.one; blocks = h.blocks; first = λ d p. absurd (held-open p); small_ones = s; large_ones = k }
          last c false u s k =
              record {
                one = h.one;
                blocks = h.blocks;
                first = λ d p. absurd (nothing-open p);
                small_ones = ap (λ y. filter small (w.scanned ++ c.place ∷ []) ++ (y ++ behind_hand w q)) (sym (left-none (with_front_moved b) u)) ∙ s;
                large_ones = k;
              }
      go (HoldingLarge n) e =
          let k : filter large w.scanned ++ n ∷ w.large ≡ filter large (places_won w) = ap (λ y. filter large w.scanned ++ (large_in_hand y ++ w.large)) (sym e) ∙ h.large_ones in
          let yes : large n ≡ true = next_passes large (filter large w.scanned) n w.large (places_won w) k in
          record {
            one = h.one;
            blocks = h.blocks;
            first = λ d p. absurd (nothing-open p);
            small_ones = ap (λ y. y ++ behind_hand w q) (filter-no small w.scanned n (not-true (small n) yes)) ∙ ap (λ y. filter small w.scanned ++ (in_hand y ++ behind_hand w q)) (sym e) ∙ h.small_ones;
            large_ones = ap (λ y. y ++ w.large) (filter-yes large w.scanned n yes) ∙ append_assoc (filter large w.scanned) (n ∷ []) w.large ∙ k;
          }

  -- the oldest block aside goes to the back of the queue
  pub export_orders : (w : Worker) (q : List Block) (b : Block) (bs : List Block) (sent : Option (ℕ × ℕ)) → w.aside ≡ b ∷ bs → Ordered w q → Ordered (after_aside w) (q ++ record b { sent = sent } ∷ [])
  export_orders w q b bs sent e h =
      subst (λ y. Ordered y (q ++ record b { sent = sent } ∷ [])) (sym (ap (without_oldest w) e)) (record {
        one = h.one;
        blocks = h.blocks;
        first = λ d p. absurd (cons-nil (sym e ∙ (h.first d p).1));
        small_ones =
            ap (λ y. filter small w.scanned ++ (in_hand w.hand ++ y))
            (ap (λ y. y ++ (waiting bs ++ open_waiting w.allocation)) (waiting-push q (record b { sent = sent }))
            ∙ append_assoc (waiting q) (left_in b) (waiting bs ++ open_waiting w.allocation)
            ∙ ap (λ y. waiting q ++ y) (sym (append_assoc (left_in b) (waiting bs) (open_waiting w.allocation)))
            ∙ ap (λ y. waiting q ++ (waiting y ++ open_waiting w.allocation)) (sym e)) ∙ h.small_ones;
        large_ones = h.large_ones;
      })
    where
      cons-nil : {A : Type 0} {x : A} {xs : List A} → x ∷ xs ≡ [] → ⊥
      cons-nil p = cc

  -- the queue's front block is taken in hand
  pub take_orders : (w : Worker) (b : Block) (rest : List Block) → w.hand ≡ Nothing → Ordered w (b ∷ rest) → Ordered (after_take w b) rest
  take_orders w b rest e h =
      record {
        one = h.one;
        blocks = h.blocks;
        first = λ d p. absurd (held-open p);
        small_ones =
            ap (λ y. filter small w.scanned ++ y) (sym (append_assoc (left_in b) (waiting rest) (waiting w.aside ++ open_waiting w.allocation)))
            ∙ ap (λ y. filter small w.scanned ++ (in_hand y ++ (waiting (b ∷ rest) ++ (waiting w.aside ++ open_waiting w.allocation)))) (sym e) ∙ h.small_ones;
        large_ones = ap (λ y. filter large w.scanned ++ (large_in_hand y ++ w.large)) (sym e) ∙ h.large_ones;
      }

  -- the allocation block is taken in hand where nothing else waits
  pub own_orders : (w : Worker) (q : List Block) (d : ℕ) → w.hand ≡ Nothing → q ≡ [] → w.aside ≡ [] → Ordered w q → Ordered (after_own w d) q
  own_orders w q d e n a h =
      record {
        one = h.one;
        blocks = h.blocks;
        first = λ _ _. (n, a);
        small_ones = ap (λ y. filter small w.scanned ++ (in_hand y ++ behind_hand w q)) (sym e) ∙ h.small_ones;
        large_ones = ap (λ y. filter large w.scanned ++ (large_in_hand y ++ w.large)) (sym e) ∙ h.large_ones;
      }

  pub own_large_orders : (w : Worker) (q : List Block) → w.hand ≡ Nothing → Ordered w q → Ordered (after_own_large w) q
  own_large_orders w q e h = go w.large refl
    where
      go : (ns : List ℕ) → w.large ≡ ns → Ordered (claim_first w ns) q
      go [] l = h
      go (n ∷ ns) l =
          record {
            one = h.one;
            blocks = h.blocks;
            first = λ d p. absurd (large-open p);
            small_ones = ap (λ y. filter small w.scanned ++ (in_hand y ++ behind_hand w q)) (sym e) ∙ h.small_ones;
            large_ones = ap (λ y. filter large w.scanned ++ y) (sym l) ∙ ap (λ y. filter large w.scanned ++ (large_in_hand y ++ w.large)) (sym e) ∙ h.large_ones;
          }
