-- The scanned places of a block rise.
use Rattle.std.proofs.Common.{◌≡◌, ℕ, ◌+◌, ◌<◌, ◌≤◌, Bool, true, false, List, [], ◌∷◌, ◌++◌, Option, Some, None, refl, sym, ap, subst, ◌∙◌, ◌⊎◌, inl, inr, ⊎_elim, cond, arith, nat_eq, nat_le, eqb-true, eq-eqb, leb-false, true≢false, slice_get}
use Rattle.std.specs.Prelude.{if◌then◌else◌}
use Rattle.std.specs.Option.{option_map}
use Rattle.workers.specs.Block.{Block, Copy, has_unscanned, front_copy, with_front_moved}
use Rattle.workers.specs.Setting.{Setting, is_collected, is_large_name, destination_of}
use Rattle.workers.specs.Worker.{Worker, Proposal, Copied, Claimed, Hand, Nothing, Open, Holding, HoldingLarge, allocation_at, current_in, current_object}
use Rattle.workers.specs.WorkerSteps.{current_slot, write_hand, finish_first, finish_slot, draws_for, is_open_at, retired, propose_into, look_at, look_slot, after_look, race_of, scan_open, scan_hand, log_scan, without_oldest, claim_first, collected_target, draw_at}
use Rattle.workers.specs.WorkerRun.{WorkerRun, stay, go, Act, Looked, Raced, Scanned, Exported, Took, Owned, OwnedLarge, after, History, no_history, noted, first_alone}
use Rattle.workers.specs.Total.{total, one_if, times}
use Rattle.workers.specs.Joined.{Each, Part, IsOpening, Roomy, somes}
use Rattle.workers.specs.Laid.{Laid}
use Rattle.workers.specs.Refused.{HasBegun}
use Rattle.workers.specs.Ordered.{in_block, places_in, IsRising, LeftHere, InTurn, RunsInTurn}
use Rattle.workers.proofs.Lists.{Each-append, Each-left, Each-right, Each-map, Each-at, get-append, get-lt, none-some}
use Rattle.workers.proofs.Totals.{total-push, one_if-positive}
use Rattle.workers.proofs.Moves.{HandFit, Fit, moves_fit, front_there, name_place, front_of}
use Rattle.workers.proofs.Balance.{scans_in}
use Rattle.workers.proofs.OnePart.{opening-fit, total-none, total-zero}
use Rattle.workers.proofs.Renamed.{Each-zero, zero-or-positive}
use Rattle.workers.proofs.Space.{moves}
use Rattle.workers.proofs.Owners.{is_it, own_drawn, OwnDrawn}
use Rattle.workers.proofs.Prefix.{held, located, member-le, Picked, pick, no_kind, alone, somes-at, numbers, scans, large_done_are, hand_is, all_laid, late, block_elsewhere, block_before, front_number}

-- scanned lists change by a scan alone
module _ where
  either-scanned : (b : Bool) (x y : Worker) (v : List ℕ) → x.scanned ≡ v → y.scanned ≡ v → (cond b x y).scanned ≡ v
  either-scanned true x y v p q = p
  either-scanned false x y v p q = q

  finish-scanned : (v : Option ℕ) (w : Worker) → (finish_slot v w).scanned ≡ w.scanned
  finish-scanned v w = on_starts w.starts
    where
      on_hand : (hand : Hand) → (write_hand v w hand).scanned ≡ w.scanned
      on_hand Nothing = refl
      on_hand (Open d) = refl
      on_hand (Holding b) = refl
      on_hand (HoldingLarge n) = refl

      on_starts : (xs : List ℕ) → (finish_first v w xs).scanned ≡ w.scanned
      on_starts [] = on_hand w.hand
      on_starts (t ∷ ts) = refl

  retired-scanned : (w : Worker) (d : ℕ) (o : Option Block) → (retired w d o).scanned ≡ w.scanned
  retired-scanned w d None = refl
  retired-scanned w d (Some b) = either-scanned (is_open_at d w.hand) _ _ w.scanned refl (either-scanned (has_unscanned b) _ _ w.scanned refl refl)

  propose-scanned : (setting : Setting) (w : Worker) (name d : ℕ) (o : Option Block) → (propose_into setting w name d o).scanned ≡ w.scanned
  propose-scanned setting w name d None = refl
  propose-scanned setting w name d (Some b) = refl

  look_at-scanned : (setting : Setting) (w : Worker) (cell : Option ℕ) (number name : ℕ) → (look_at setting w cell number name).scanned ≡ w.scanned
  look_at-scanned setting w (Some place) number name = finish-scanned (Some place) w
  look_at-scanned setting w None number name =
      either-scanned (is_large_name setting name) _ _ w.scanned refl
      (propose-scanned setting _ name (destination_of setting name) _ ∙ either-scanned (draws_for setting w name) _ _ w.scanned (retired-scanned w (destination_of setting name) (allocation_at w (destination_of setting name))) refl)

  look-scanned : (setting : Setting) (w : Worker) (cell : Option ℕ) (number : ℕ) → (after_look setting w cell number).scanned ≡ w.scanned
  look-scanned setting w cell number = go (current_slot setting w)
    where
      go : (o : Option (Option ℕ)) → (look_slot setting w cell number o).scanned ≡ w.scanned
      go None = refl
      go (Some None) = finish-scanned None w
      go (Some (Some name)) = either-scanned (is_collected setting name) _ _ w.scanned (look_at-scanned setting w cell number name) (finish-scanned (Some name) w)

  race-scanned : (w : Worker) (o : Option Proposal) (lost : Option ℕ) → (race_of w o lost).scanned ≡ w.scanned
  race-scanned w None lost = refl
  race-scanned w (Some (Copied copy d)) (Some place) = finish-scanned _ _
  race-scanned w (Some (Claimed n)) (Some place) = finish-scanned _ _
  race-scanned w (Some (Copied copy d)) None = finish-scanned _ _
  race-scanned w (Some (Claimed n)) None = finish-scanned _ _

  scan_open-scanned : (w : Worker) (d : ℕ) (o : Option Block) → (scan_open w d o).scanned ≡ w.scanned
  scan_open-scanned w d None = refl
  scan_open-scanned w d (Some b) = refl

  scan_hand-scanned : (w : Worker) (hand : Hand) → (scan_hand w hand).scanned ≡ w.scanned
  scan_hand-scanned w Nothing = refl
  scan_hand-scanned w (Open d) = scan_open-scanned w d _
  scan_hand-scanned w (Holding b) = either-scanned (has_unscanned (with_front_moved b)) _ _ w.scanned refl refl
  scan_hand-scanned w (HoldingLarge n) = refl

  aside-scanned : (w : Worker) (bs : List Block) → (without_oldest w bs).scanned ≡ w.scanned
  aside-scanned w [] = refl
  aside-scanned w (b ∷ bs) = refl

  claim-scanned : (w : Worker) (ns : List ℕ) → (claim_first w ns).scanned ≡ w.scanned
  claim-scanned w [] = refl
  claim-scanned w (n ∷ ns) = refl

rising-push : (xs : List ℕ) (p : ℕ) → IsRising xs → Each (λ x. x < p) xs → IsRising (xs ++ p ∷ [])
rising-push [] p r h = (tt, tt)
rising-push (x ∷ xs) p r h = (Each-append (λ y. x < y) xs (p ∷ []) r.0 (h.0, tt), rising-push xs p r.1 h.1)

places_in-append : (k : ℕ) (xs ys : List ℕ) → places_in k (xs ++ ys) ≡ places_in k xs ++ places_in k ys
places_in-append k [] ys = refl
places_in-append k (x ∷ xs) ys = go (in_block k x) (places_in-append k xs ys)
  where
    go : (b : Bool) → places_in k (xs ++ ys) ≡ places_in k xs ++ places_in k ys → cond b (x ∷ places_in k (xs ++ ys)) (places_in k (xs ++ ys)) ≡ cond b (x ∷ places_in k xs) (places_in k xs) ++ places_in k ys
    go true e = ap (λ z. x ∷ z) e
    go false e = e

module _ (setting : Setting) (small_blocks : setting.block_words ≤ 65536) (k : ℕ) where
  abbrev late_at : ℕ → ℕ → ℕ
  late_at p q = late setting small_blocks k p q

  abbrev φ : ℕ → Block → ℕ
  φ p b = scans_in setting (late setting small_blocks k p) b

  pub all_below : (p : ℕ) (xs : List ℕ) → total (late setting small_blocks k p) xs ≡ 0 → Each (λ x. x < p) (places_in k xs)
  all_below p [] e = tt
  all_below p (x ∷ xs) e = go (in_block k x) e (all_below p xs)
    where
      below : (y : Bool) → nat_le p x ≡ y → one_if y ≡ 0 → x < p
      below true q z = absurd (omega arith)
      below false q z = leb-false p x q

      go : (b : Bool) → cond b (one_if (nat_le p x)) 0 + total (late setting small_blocks k p) xs ≡ 0 → (total (late setting small_blocks k p) xs ≡ 0 → Each (λ x. x < p) (places_in k xs)) → Each (λ x. x < p) (cond b (x ∷ places_in k xs) (places_in k xs))
      go true e r = (below (nat_le p x) refl (omega arith), r (omega arith))
      go false e r = r (omega arith)

  module _ (no_large : (n : ℕ) → is_large_name setting n ≡ true → in_block k n ≡ false) (t : ℕ) (drawn_end : List ℕ) (drawn_once : times k drawn_end ≤ 1) where
    -- what it took is its own export, or of a block that it doesn't draw
    abbrev pub Back : List Block → Block → Type 0
    Back exported b = ((i : ℕ) × LeftHere t exported b i) ⊎ (times b.number drawn_end ≡ 0)

    abbrev pub Label : Block → Type 0
    Label b = ((i : ℕ) × (b.sent ≡ Some (t, i))) ⊎ (times b.number drawn_end ≡ 0)

    module _ (part : Part) (r : HasBegun setting part) (drawn : times k part.history.drawn ≤ times k drawn_end) (taken : total (is_it setting k) part.history.taken ≤ 1)
        (back : Each (Back part.history.exported) part.history.taken) (laid : Each (Laid setting) part.history.taken) where
      kinds : (p : ℕ) (bs : List Block) → Each (Laid setting) bs → Each (λ b. is_it setting k b ≡ 0 → φ p b ≡ 0) bs
      kinds p bs h = Each-map (Laid setting) (λ b. is_it setting k b ≡ 0 → φ p b ≡ 0)
          (λ b l z. block_elsewhere setting small_blocks k p b l (λ e. (let o : one_if (nat_eq b.number k) ≡ 1 = ap one_if (eq-eqb b.number k e) in absurd (omega arith)))) bs h

      both : Each (Laid setting) (located part.final) × Each (Laid setting) part.history.exported
      both = all_laid setting part r laid

      sum : times k part.history.drawn + total (is_it setting k) part.history.taken ≡ total (is_it setting k) (located part.final) + total (is_it setting k) part.history.exported
      sum = numbers setting part r (λ n. one_if (nat_eq n k))

      own : total (is_it setting k) part.history.exported ≤ times k part.history.drawn
      own =
          let s : OwnDrawn setting k part.start no_history =
          (let a = total-none (is_it setting k) part.start.allocation r.opening.no_allocation in let b : total (is_it setting k) part.start.aside ≡ 0 = ap (total (is_it setting k)) r.opening.no_aside in omega arith) in
          let o : OwnDrawn setting k part.final part.history = own_drawn setting k (moves setting part r) s in
          let z = total-zero part.final.won in
          omega arith

      abbrev Counts : ℕ → Type 0
      Counts p = (total (is_it setting k) (located part.final) ≤ 1) × (total (φ p) part.history.exported ≤ total (φ p) part.history.taken)

      no_exports : (p : ℕ) → total (is_it setting k) part.history.exported ≡ 0 → total (φ p) part.history.exported ≡ 0
      no_exports p z = no_kind (is_it setting k) (φ p) part.history.exported z (kinds p part.history.exported both.1)

      taken_back : (p : ℕ) (q : Picked (is_it setting k) (Back part.history.exported) part.history.taken) → q.x.number ≡ k → Back part.history.exported q.x → Counts p
      taken_back p q n (inr z) =
          let y : times k drawn_end ≡ 0 = ap (λ m. times m drawn_end) (sym n) ∙ z in
          let o = own in
          let x : total (is_it setting k) part.history.exported ≡ 0 = omega arith in
          let s = sum in
          let w = no_exports p x in
          (omega arith, omega arith)
      taken_back p q n (inl l) =
          let same : is_it setting k q.x ≡ is_it setting k l.1.sent = ap (is_it setting k) l.1.same in
          let m : is_it setting k l.1.sent ≤ total (is_it setting k) part.history.exported = member-le (is_it setting k) part.history.exported l.0 l.1.sent l.1.there in
          let o = own in
          let s = sum in
          let cs = q.counts in
          let a : total (φ p) part.history.exported ≡ φ p l.1.sent = alone (is_it setting k) (φ p) part.history.exported l.0 l.1.sent l.1.there (omega arith) (omega arith) (kinds p part.history.exported both.1) in
          let d : φ p q.x ≡ φ p l.1.sent = ap (φ p) l.1.same in
          let f : φ p q.x ≤ total (φ p) part.history.taken = member-le (φ p) part.history.taken q.i q.x q.there in
          (omega arith, omega arith)

      counts : (p : ℕ) → 0 < total (is_it setting k) (located part.final) → Counts p
      counts p l =
          ⊎_elim
          (λ (z : total (is_it setting k) part.history.taken ≡ 0).
          let s = sum in let o = own in
          let w = no_exports p (omega arith) in
          (omega arith, omega arith))
          (λ m. (let q = pick (is_it setting k) (Back part.history.exported) part.history.taken back m in taken_back p q (eqb-true _ _ (one_if-positive _ q.counts)) q.fact))
          (zero-or-positive (total (is_it setting k) part.history.taken))

      -- all that it scanned in the block lies before what is scanned next
      so_far : (b : Block) (i : ℕ) (c : Copy) → slice_get (located part.final) i ≡ Some b → front_copy b ≡ Some c → in_block k c.place ≡ true → total (late setting small_blocks k c.place) part.final.scanned ≡ 0
      so_far b i c there front e =
          let here : Laid setting b = Each-at (Laid setting) (located part.final) i b there both.0 in
          let one : one_if (nat_eq b.number k) ≡ 1 = ap one_if (eq-eqb b.number k (front_number setting small_blocks k b c here front e)) in
          let m : is_it setting k b ≤ total (is_it setting k) (located part.final) = member-le (is_it setting k) (located part.final) i b there in
          let cs = counts c.place (omega arith) in
          let l : total (late setting small_blocks k c.place) part.final.large_done ≡ 0 =
          Each-zero (late setting small_blocks k c.place) part.final.large_done
          (Each-map (λ n. is_large_name setting n ≡ true) (λ n. late setting small_blocks k c.place n ≡ 0) (λ n q. ap (λ x. cond x (one_if (nat_le c.place n)) 0) (no_large n q)) part.final.large_done (large_done_are setting part r)) in
          let a = scans setting part r (late setting small_blocks k c.place) in
          let x : total (φ c.place) (located part.final) ≡ φ c.place b = alone (is_it setting k) (φ c.place) (located part.final) i b there (omega arith) cs.0 (kinds c.place (located part.final) both.0) in
          let y : φ c.place b ≡ 0 = block_before setting small_blocks k b c here front in
          let z = cs.1 in
          omega arith

      -- likewise whatever is in hand
      next_late : (name place : ℕ) → current_object part.final ≡ Some (name, place) → in_block k place ≡ true → total (late setting small_blocks k place) part.final.scanned ≡ 0
      next_late name place e i = on part.final.hand refl e
        where
          fit : Fit part.final
          fit = moves_fit setting (moves setting part r) (opening-fit part.start r.opening)

          same : (c : Copy) → Some (name_place c) ≡ Some (name, place) → c.place ≡ place
          same c q = let s : name_place c ≡ (name, place) = cc in ap (λ (x : ℕ × ℕ). x.1) s

          finish : (b : Block) (j : ℕ) (c : Copy) → slice_get (located part.final) j ≡ Some b → front_copy b ≡ Some c → c.place ≡ place → total (late setting small_blocks k place) part.final.scanned ≡ 0
          finish b j c there front q = subst (λ p. total (late setting small_blocks k p) part.final.scanned ≡ 0) q (so_far b j c there front (subst (λ p. in_block k p ≡ true) (sym q) i))

          on : (hand : Hand) → part.final.hand ≡ hand → current_in part.final hand ≡ Some (name, place) → total (late setting small_blocks k place) part.final.scanned ≡ 0
          on Nothing p s = absurd (none-some s)
          on (Open d) p s =
              let x : HandFit part.final (Open d) = subst (HandFit part.final) p fit in
              let c = front_there x.0 x.1.1 in
              let a : current_in part.final (Open d) ≡ Some (name_place c.0) = ap front_of x.1.0 ∙ ap (option_map name_place) c.1 in
              let j = somes-at part.final.allocation d x.0 x.1.0 in
              let there : slice_get (located part.final) j.0 ≡ Some x.0 =
              ap (λ h. slice_get (held h ++ (somes part.final.allocation ++ (part.final.aside ++ part.final.done))) j.0) p
              ∙ get-append (somes part.final.allocation) (part.final.aside ++ part.final.done) j.0 (get-lt (somes part.final.allocation) j.0 x.0 j.1) ∙ j.1 in
              finish x.0 j.0 c.0 there c.1 (same c.0 (sym a ∙ s))
          on (Holding b) p s =
              let u : HandFit part.final (Holding b) = subst (HandFit part.final) p fit in
              let c = front_there b u in
              let a : current_in part.final (Holding b) ≡ Some (name_place c.0) = ap (option_map name_place) c.1 in
              finish b 0 c.0 (ap (λ h. slice_get (held h ++ (somes part.final.allocation ++ (part.final.aside ++ part.final.done))) 0) p) c.1 (same c.0 (sym a ∙ s))
          on (HoldingLarge n) p s =
              let q : n ≡ place = (let z : (n, n) ≡ (name, place) = cc in ap (λ (x : ℕ × ℕ). x.1) z) in
              absurd (true≢false (sym i ∙ ap (in_block k) (sym q) ∙ no_large n (hand_is setting part r n p)))

    -- what the whole history says of each front of it
    pub record Says (h : History) : Type 0 where
      pub drawn : times k h.drawn ≤ times k drawn_end
      pub taken : total (is_it setting k) h.taken ≤ 1
      pub labels : Each Label h.taken
      pub laid : Each (Laid setting) h.taken

    says-before : (w : Worker) (act : Act) (h : History) → Says (noted setting w act h) → Says h
    says-before w (Looked cell number) h p = record { drawn = less (draw_at setting w (collected_target setting (current_slot setting w)) cell) p.drawn; taken = p.taken; labels = p.labels; laid = p.laid }
      where
        less : (x : Bool) → times k (if x then h.drawn ++ number ∷ [] else h.drawn) ≤ times k drawn_end → times k h.drawn ≤ times k drawn_end
        less true l = let e : times k (h.drawn ++ number ∷ []) ≡ times k h.drawn + one_if (nat_eq number k) = total-push (λ x. one_if (nat_eq x k)) h.drawn number in omega arith
        less false l = l
    says-before w (Raced lost) h p = record { drawn = p.drawn; taken = p.taken; labels = p.labels; laid = p.laid }
    says-before w Scanned h p = p
    says-before w Exported h p = record { drawn = p.drawn; taken = p.taken; labels = p.labels; laid = p.laid }
    says-before w (Took b) h p =
        record {
          drawn = p.drawn;
          taken = (let e : total (is_it setting k) (h.taken ++ b ∷ []) ≡ total (is_it setting k) h.taken + is_it setting k b = total-push (is_it setting k) h.taken b in let l : total (is_it setting k) (h.taken ++ b ∷ []) ≤ 1 = p.taken in omega arith);
          labels = Each-left Label h.taken (b ∷ []) p.labels;
          laid = Each-left (Laid setting) h.taken (b ∷ []) p.laid;
        }
    says-before w (Owned d) h p = p
    says-before w OwnedLarge h p = p

    back-after : (w : Worker) (act : Act) (h : History) → InTurn setting t act h → Says (noted setting w act h) → Each (Back h.exported) h.taken → Each (Back (noted setting w act h).exported) (noted setting w act h).taken
    back-after w (Looked cell number) h i p b = b
    back-after w (Raced lost) h i p b = b
    back-after w Scanned h i p b = b
    back-after w Exported h i p b = Each-map (Back h.exported) (Back (h.exported ++ first_alone w.aside)) longer h.taken b
      where
        longer : (x : Block) → Back h.exported x → Back (h.exported ++ first_alone w.aside) x
        longer x (inr z) = inr z
        longer x (inl l) = inl (l.0, record { sent = l.1.sent; there = get-append h.exported (first_alone w.aside) l.0 (get-lt h.exported l.0 l.1.sent l.1.there) ∙ l.1.there; same = l.1.same })
    back-after w (Took x) h i p b = Each-append (Back h.exported) h.taken (x ∷ []) b (on (Each-right Label h.taken (x ∷ []) p.labels).0, tt)
      where
        on : Label x → Back h.exported x
        on (inl l) = inl (l.0, i l.0 l.1)
        on (inr z) = inr z
    back-after w (Owned d) h i p b = b
    back-after w OwnedLarge h i p b = b

    rising-after : (w : Worker) (act : Act) → ((name place : ℕ) → current_object w ≡ Some (name, place) → in_block k place ≡ true → total (late setting small_blocks k place) w.scanned ≡ 0) → IsRising (places_in k w.scanned) → IsRising (places_in k (after setting w act).scanned)
    rising-after w (Looked cell number) n r = subst (λ x. IsRising (places_in k x)) (sym (look-scanned setting w cell number)) r
    rising-after w (Raced lost) n r = subst (λ x. IsRising (places_in k x)) (sym (race-scanned w w.proposal lost)) r
    rising-after w Exported n r = subst (λ x. IsRising (places_in k x)) (sym (aside-scanned w w.aside)) r
    rising-after w (Took b) n r = r
    rising-after w (Owned d) n r = r
    rising-after w OwnedLarge n r = subst (λ x. IsRising (places_in k x)) (sym (claim-scanned w w.large)) r
    rising-after w Scanned n r = subst (λ x. IsRising (places_in k x)) (sym (scan_hand-scanned (log_scan w (current_object w)) w.hand)) (on (current_object w) n)
      where
        pushed : (p : ℕ) (x : Bool) → in_block k p ≡ x → (in_block k p ≡ true → total (late setting small_blocks k p) w.scanned ≡ 0) → IsRising (places_in k w.scanned ++ cond x (p ∷ []) [])
        pushed p true e z = rising-push (places_in k w.scanned) p r (all_below p w.scanned (z e))
        pushed p false e z = subst IsRising (sym (append-none (places_in k w.scanned))) r
          where
            append-none : (xs : List ℕ) → xs ++ [] ≡ xs
            append-none [] = refl
            append-none (x ∷ xs) = ap (λ ys. x ∷ ys) (append-none xs)

        on : (o : Option (ℕ × ℕ)) → ((name place : ℕ) → o ≡ Some (name, place) → in_block k place ≡ true → total (late setting small_blocks k place) w.scanned ≡ 0) → IsRising (places_in k (log_scan w o).scanned)
        on None n = r
        on (Some c) n = subst IsRising (sym (places_in-append k w.scanned (c.1 ∷ []))) (pushed c.1 (in_block k c.1) refl (n c.0 c.1 refl))

    -- the places of that block rise in what a worker scanned
    pub run_rising : {start w : Worker} {h : History} (opening : IsOpening start) (room : Roomy setting start) (run : WorkerRun setting start w h) → RunsInTurn setting t run → Says h → Each (Back h.exported) h.taken × IsRising (places_in k w.scanned)
    run_rising opening room stay i p = (tt, subst (λ x. IsRising (places_in k x)) (sym opening.no_scanned) tt)
    run_rising {start = s} opening room (go {w = w} {h = h} act run can) i p =
        let q = says-before w act h p in
        let r = run_rising opening room run i.1 q in (
          back-after w act h i.0 p r.0,
          rising-after w act (next_late (record { start = s; final = w; history = h }) (record { opening = opening; room = room; run = run }) q.drawn q.taken r.0 q.laid) r.1,
        )
