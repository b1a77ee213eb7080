-- Who scanned the places of a block, and in which order.
use Rattle.std.proofs.Common.{◌≡◌, ◌≢◌, ℕ, zero, suc, ◌+◌, ◌-◌, ◌*◌, ◌/◌, ◌<◌, ◌≤◌, Bool, true, false, List, [], ◌++◌, Option, Some, None, refl, sym, ap, subst, ◌∙◌, ⊎_elim, length, map, arith, nat_eq, eqb-true, true≢false, slice_get, append-nil}
use Rattle.std.proofs.lemmas.Bool.{cases_eq}
use Rattle.std.proofs.lemmas.List.{length-map}
use Rattle.std.specs.Option.{option_map_or}
use Rattle.std.specs.Ordering.{nat_cmp}
use Rattle.std.specs.FinMap.{find}
use Rattle.model.specs.Graph.{Graph, is_large}
use Rattle.model.specs.Destination.{Shape}
use Rattle.layout.specs.Place.{small_word}
use Rattle.workers.specs.Setting.{Setting, setting_of, is_large_name}
use Rattle.workers.specs.Worker.{Worker}
use Rattle.workers.specs.WorkerSteps.{IsOutOfWork}
use Rattle.workers.specs.WorkerRun.{stay}
use Rattle.workers.specs.System.{System, opening_workers}
use Rattle.workers.specs.Total.{total, one_if, times}
use Rattle.workers.specs.Joined.{Each, Part, HasRun, WasExported, Joined}
use Rattle.workers.specs.Kept.{AreFresh}
use Rattle.workers.specs.Refused.{HasBegun}
use Rattle.workers.specs.Ordered.{in_block, places_in, IsRising, TurnRun, Ordered, GoesOn, draws_of, takes_of}
use Rattle.workers.specs.Lawful.{AllEnded}
use Rattle.workers.specs.Finish.{IsReached}
use Rattle.workers.specs.Alone.{AreEmpty}
use Rattle.workers.proofs.Lists.{Each-at, none-some, get-lt}
use Rattle.workers.proofs.Totals.{total-append, total-same, one_if-positive}
use Rattle.workers.proofs.Owners.{is_it}
use Rattle.workers.proofs.Prefix.{member-le, Picked, pick}
use Rattle.workers.proofs.Order.{apart, ran, own_exports, ordered}
use Rattle.workers.proofs.GoOn.{same_rising, go_on}
use Rattle.workers.proofs.SystemParts.{is_there}
use Rattle.workers.proofs.SystemRun.{Held, joined}
use Rattle.workers.proofs.SystemOpening.{open_parts, opening_held}
use Rattle.workers.proofs.RunBrings.{parts_of}
use Rattle.workers.specs.Scans.{won_by, scanned_by, ScansInBlock, ScansInBlocks}
use Rattle.workers.proofs.Turns.{Turning, Turned, run_turns}
use Rattle.workers.proofs.WonRising.{won_places, won_rising, won_nothing}
use Rattle.workers.proofs.Counts.{times-places, times-won, no_member, total-none_at, total-one_at, total-two_at, get-mapped, nothing-mapped}

same_index : (u t : ℕ) → Some u ≡ Some t → u ≡ t
same_index u t e = ap (λ o. option_map_or (λ (x : ℕ). x) o 0) e

module _ (setting : Setting) (f : ℕ → Option ℕ) (parts : List Part) (j : Joined setting f parts) (small_blocks : setting.block_words ≤ 65536) (fresh : AreFresh setting parts)
    (turns : (t : ℕ) (p : Part) → slice_get parts t ≡ Some p → TurnRun setting t p) (some : 0 < length parts)
    (k : ℕ) (no_large : (n : ℕ) → is_large_name setting n ≡ true → in_block k n ≡ false) where
  abbrev workers : List Worker
  workers = map (λ (p : Part). p.final) parts

  abbrev scanned : Part → List ℕ
  scanned p = places_in k p.final.scanned

  abbrev won : Part → List ℕ
  won p = won_places k p.final.won

  order : Ordered setting parts
  order = ordered setting f parts j small_blocks fresh turns

  begun : (t : ℕ) (p : Part) → slice_get parts t ≡ Some p → HasBegun setting p
  begun t p e = let r = ran setting f parts j small_blocks fresh t p e in record { opening = r.opening; room = r.room; run = r.run }

  nothing_won : (t : ℕ) (p : Part) → slice_get parts t ≡ Some p → times k p.history.drawn ≡ 0 → won p ≡ []
  nothing_won t p e z = won_nothing setting k small_blocks no_large p (begun t p e) z

  -- the places that were scanned are those that were won
  as_often : (x : ℕ) → total (λ (p : Part). times x (scanned p)) parts ≡ total (λ (p : Part). times x (won p)) parts
  as_often x = go (in_block k x) refl
    where
      go : (b : Bool) → in_block k x ≡ b → total (λ (p : Part). times x (scanned p)) parts ≡ total (λ (p : Part). times x (won p)) parts
      go true e =
          total-same (λ (p : Part). times x (scanned p)) (λ (p : Part). times x p.final.scanned) (λ p. times-places k x true e p.final.scanned) parts
          ∙ order.won_scanned x
          ∙ sym (total-same (λ (p : Part). times x (won p)) (λ (p : Part). total (λ (q : ℕ × ℕ). one_if (nat_eq q.1 x)) p.final.won) (λ p. times-places k x true e (map (λ (q : ℕ × ℕ). q.1) p.final.won) ∙ times-won k x p.final.won) parts)
      go false e =
          total-none_at (λ (p : Part). times x (scanned p)) parts (λ v p i. times-places k x false e p.final.scanned)
          ∙ sym (total-none_at (λ (p : Part). times x (won p)) parts (λ v p i. times-places k x false e (map (λ (q : ℕ × ℕ). q.1) p.final.won)))

  scanned_at : (t : ℕ) (p : Part) → slice_get parts t ≡ Some p → scanned_by k workers t ≡ scanned p
  scanned_at t p e = ap (λ o. option_map_or (λ (w : Worker). places_in k w.scanned) o []) (get-mapped (λ (p : Part). p.final) parts t p e)

  won_at : (t : ℕ) (p : Part) → slice_get parts t ≡ Some p → won_by k workers t ≡ won p
  won_at t p e = ap (λ o. option_map_or (λ (w : Worker). won_places k w.won) o []) (get-mapped (λ (p : Part). p.final) parts t p e)

  none_scanned : (v : ℕ) → ((p : Part) → slice_get parts v ≡ Some p → scanned p ≡ []) → scanned_by k workers v ≡ []
  none_scanned v h = nothing-mapped (λ (p : Part). p.final) (λ (w : Worker). places_in k w.scanned) parts v h

  none_won : (v : ℕ) → ((p : Part) → slice_get parts v ≡ Some p → won p ≡ []) → won_by k workers v ≡ []
  none_won v h = nothing-mapped (λ (p : Part). p.final) (λ (w : Worker). won_places k w.won) parts v h

  -- a block that nobody drew
  not_drawn : draws_of k parts ≡ 0 → ScansInBlock k workers
  not_drawn z =
      record {
        t = 0;
        worker = subst (λ m. 0 < m) (sym (length-map parts (λ (p : Part). p.final))) some;
        other = None;
        another = λ e. none-some e;
        wins = λ v n. none_won v (λ p e. empty_won v p e);
        scans = λ v n m. none_scanned v (λ p e. empty_scanned v p e);
        rising = subst IsRising (sym (none_won 0 (λ p e. empty_won 0 p e))) tt;
        in_order = append-nil (scanned_by k workers 0) ∙ none_scanned 0 (λ p e. empty_scanned 0 p e) ∙ sym (none_won 0 (λ p e. empty_won 0 p e));
      }
    where
      empty_won : (v : ℕ) (p : Part) → slice_get parts v ≡ Some p → won p ≡ []
      empty_won v p e = let m : times k p.history.drawn ≤ draws_of k parts = member-le (λ (q : Part). times k q.history.drawn) parts v p e in nothing_won v p e (omega arith)

      empty_scanned : (v : ℕ) (p : Part) → slice_get parts v ≡ Some p → scanned p ≡ []
      empty_scanned v p e = no_member (scanned p) (λ x. (
          let a = as_often x in
          let b : total (λ (q : Part). times x (won q)) parts ≡ 0 = total-none_at (λ (q : Part). times x (won q)) parts (λ u q i. ap (times x) (empty_won u q i)) in
          let m : times x (scanned p) ≤ total (λ (q : Part). times x (scanned q)) parts = member-le (λ (q : Part). times x (scanned q)) parts v p e in
          omega arith))

  -- a block that worker t drew
  module _ (t : ℕ) (p : Part) (there : slice_get parts t ≡ Some p) (drew : 0 < times k p.history.drawn) where
    drawn : 0 < draws_of k parts
    drawn = let m : times k p.history.drawn ≤ draws_of k parts = member-le (λ (q : Part). times k q.history.drawn) parts t p there in omega arith

    once : times k p.history.drawn ≤ 1
    once = let m : times k p.history.drawn ≤ draws_of k parts = member-le (λ (q : Part). times k q.history.drawn) parts t p there in let a = j.drawn_once k in omega arith

    others_drew : (v : ℕ) (q : Part) → slice_get parts v ≡ Some q → v ≢ t → times k q.history.drawn ≡ 0
    others_drew v q e n = apart (λ (r : Part). times k r.history.drawn) parts t v p q there e n (j.drawn_once k) drew

    others_won : (v : ℕ) (q : Part) → slice_get parts v ≡ Some q → v ≢ t → won q ≡ []
    others_won v q e n = nothing_won v q e (others_drew v q e n)

    worker_there : t < length workers
    worker_there = subst (λ m. t < m) (sym (length-map parts (λ (q : Part). q.final))) (get-lt parts t p there)

    rises : IsRising (won p)
    rises = won_rising setting k small_blocks no_large p (begun t p there) once

    -- rising places that are scanned as often as all
    as_won : (xs : List ℕ) → IsRising xs → ((x : ℕ) → total (λ (q : Part). times x (scanned q)) parts ≡ times x xs) → xs ≡ won p
    as_won xs r c = same_rising xs (won p) r rises (λ x. sym (c x) ∙ as_often x ∙ total-one_at (λ (q : Part). times x (won q)) parts t p there (λ v q e n. ap (times x) (others_won v q e n)))

    by_one : ((v : ℕ) (q : Part) → slice_get parts v ≡ Some q → v ≢ t → scanned q ≡ []) → ScansInBlock k workers
    by_one nothing =
        record {
          t = t;
          worker = worker_there;
          other = None;
          another = λ e. none-some e;
          wins = λ v n. none_won v (λ q e. others_won v q e n);
          scans = λ v n m. none_scanned v (λ q e. nothing v q e n);
          rising = subst IsRising (sym (won_at t p there)) rises;
          in_order = append-nil (scanned_by k workers t) ∙ scanned_at t p there
              ∙ as_won (scanned p) (order.rising k drawn t p there) (λ x. total-one_at (λ (q : Part). times x (scanned q)) parts t p there (λ v q e n. ap (times x) (nothing v q e n)))
              ∙ sym (won_at t p there);
        }

    by_two : (u : ℕ) (q : Part) → slice_get parts u ≡ Some q → u ≢ t → ((v : ℕ) (r : Part) → slice_get parts v ≡ Some r → v ≢ t → v ≢ u → scanned r ≡ []) → IsRising (scanned p ++ scanned q) → ScansInBlock k workers
    by_two u q e n nothing r =
        record {
          t = t;
          worker = worker_there;
          other = Some u;
          another = λ i. n (same_index u t i);
          wins = λ v m. none_won v (λ o i. others_won v o i m);
          scans = λ v m o. none_scanned v (λ s i. nothing v s i m (λ y. o (ap Some (sym y))));
          rising = subst IsRising (sym (won_at t p there)) rises;
          in_order = ap (λ xs. xs ++ scanned_by k workers u) (scanned_at t p there) ∙ ap (λ xs. scanned p ++ xs) (scanned_at u q e)
              ∙ as_won (scanned p ++ scanned q) r (λ x. total-two_at (λ (o : Part). times x (scanned o)) parts t u p q there e n (λ v o i m l. ap (times x) (nothing v o i m l)) ∙ sym (total-append (λ y. one_if (nat_eq y x)) (scanned p) (scanned q)))
              ∙ sym (won_at t p there);
        }

    -- worker u took the block
    by_taker : (u : ℕ) (q : Part) → slice_get parts u ≡ Some q → 0 < takes_of k q → ScansInBlock k workers
    by_taker u q e took = ⊎_elim (λ (i : u ≡ t). by_one (λ v r g n. others v r g n (λ (m : v ≡ u). n (m ∙ i)))) (λ (n : u ≢ t). by_two u q e n (λ v r g m l. others v r g m l) (rising n)) (cases_eq u t)
      where
        others : (v : ℕ) (r : Part) → slice_get parts v ≡ Some r → v ≢ t → v ≢ u → scanned r ≡ []
        others v r g n m = order.only_two k drawn v r g (others_drew v r g n) (apart (takes_of k) parts u v q r e g m (order.one_takes k) took)

        picked : Picked (is_it setting k) (WasExported parts) q.history.taken
        picked = pick (is_it setting k) (WasExported parts) q.history.taken (Each-at (λ (r : Part). Each (WasExported parts) r.history.taken) parts u q e j.taken) took

        number : picked.x.number ≡ k
        number = eqb-true picked.x.number k (one_if-positive (nat_eq picked.x.number k) picked.counts)

        exporter_drew : 0 < times k picked.fact.part.history.drawn
        exporter_drew =
            let a : is_it setting k picked.x ≡ is_it setting k picked.fact.sent = ap (is_it setting k) picked.fact.same in
            let b = picked.counts in
            let c : is_it setting k picked.fact.sent ≤ total (is_it setting k) picked.fact.part.history.exported = member-le (is_it setting k) picked.fact.part.history.exported picked.fact.i picked.fact.sent picked.fact.there in
            let d = own_exports setting f parts j small_blocks fresh k picked.fact.part (ran setting f parts j small_blocks fresh picked.fact.u picked.fact.part picked.fact.exporter) in
            omega arith

        exporter : picked.fact.u ≡ t
        exporter = ⊎_elim (λ i. i) (λ (n : picked.fact.u ≢ t). (let z = others_drew picked.fact.u picked.fact.part picked.fact.exporter n in let l = exporter_drew in absurd (omega arith))) (cases_eq picked.fact.u t)

        exporting : picked.fact.part ≡ p
        exporting = same_part picked.fact.part p (sym picked.fact.exporter ∙ ap (slice_get parts) exporter ∙ there)
          where
            same_part : (a b : Part) → Some a ≡ Some b → a ≡ b
            same_part a b e = cc

        rising : u ≢ t → IsRising (scanned p ++ scanned q)
        rising n =
            let g : GoesOn picked.x picked.fact.part q = go_on setting f parts j small_blocks fresh turns u picked.i q picked.x e picked.there picked.fact (λ i. n (sym i ∙ exporter)) in
            subst IsRising
            (sym (ap (λ m. places_in m p.final.scanned ++ places_in m q.final.scanned) (sym number) ∙ ap (λ (r : Part). places_in picked.x.number r.final.scanned ++ places_in picked.x.number q.final.scanned) (sym exporting) ∙ g.together))
            g.rise

    by_drawer : ScansInBlock k workers
    by_drawer = go (total (takes_of k) parts) refl
      where
        go : (m : ℕ) → total (takes_of k) parts ≡ m → ScansInBlock k workers
        go zero z = by_one (λ v q e n. order.only_two k drawn v q e (others_drew v q e n) (let l : takes_of k q ≤ total (takes_of k) parts = member-le (takes_of k) parts v q e in omega arith))
        go (suc m) z = let r : Picked (takes_of k) (HasRun setting) parts = pick (takes_of k) (HasRun setting) parts j.runs (omega arith) in by_taker r.i r.x r.there r.counts

  scans_in_block : ScansInBlock k workers
  scans_in_block = go (draws_of k parts) refl
    where
      go : (m : ℕ) → draws_of k parts ≡ m → ScansInBlock k workers
      go zero z = not_drawn z
      go (suc m) z =
          let r : Picked (λ (q : Part). times k q.history.drawn) (HasRun setting) parts = pick (λ (q : Part). times k q.history.drawn) (HasRun setting) parts j.runs (omega arith) in
          by_drawer r.i r.x r.there r.counts

-- whatever parts joined workers brought, in each block that holds no large object the places were won by one worker, and scanned in order by it and at most one other
pub parts_scan_in_block : (setting : Setting) (f : ℕ → Option ℕ) (parts : List Part) → Joined setting f parts → setting.block_words ≤ 65536 → AreFresh setting parts → ((t : ℕ) (p : Part) → slice_get parts t ≡ Some p → TurnRun setting t p) → 0 < length parts
    → (k : ℕ) → ((n : ℕ) → is_large_name setting n ≡ true → in_block k n ≡ false) → ScansInBlock k (map (λ (p : Part). p.final) parts)
parts_scan_in_block setting f parts j small_blocks fresh turns some k no_large = scans_in_block setting f parts j small_blocks fresh turns some k no_large

-- the parts of a run, by runs in turn
module _ (setting : Setting) (d n : ℕ) (slots free : List ℕ) where
  all_stay : (v t m : ℕ) → Each (λ (p : Part). TurnRun setting v p) (open_parts d n slots t m)
  all_stay v t zero = tt
  all_stay v t (suc m) = (record { run = stay; turns = tt }, all_stay v (t + 1) m)

  none_drawn : (f : ℕ → ℕ) (t m : ℕ) → total (λ (p : Part). total f p.history.drawn) (open_parts d n slots t m) ≡ 0
  none_drawn f t zero = refl
  none_drawn f t (suc m) = let h : total (λ (p : Part). total f p.history.drawn) (open_parts d n slots (t + 1) m) ≡ 0 = none_drawn f (t + 1) m in omega arith

  turned : (s : System) → IsReached setting d n slots free s → Turned setting free s
  turned s r =
      let k = opening_held setting d n slots free r.room r.distinct in
      run_turns setting free r.run (open_parts d n slots 0 n)
      record {
        begun = k.begun;
        agree = k.agree;
        queues = k.queues;
        lanes = k.lanes;
        turns = λ t p e. Each-at (λ (q : Part). TurnRun setting t q) (open_parts d n slots 0 n) t p e (all_stay t 0 n);
        spent = λ f. (let z = none_drawn f 0 n in omega arith);
      }

  so_many : (t m : ℕ) → length (opening_workers d n slots t m) ≡ m
  so_many t zero = refl
  so_many t (suc m) = ap suc (so_many (t + 1) m)

  -- they are held as those are that the run brings
  held_too : (s : System) (r : IsReached setting d n slots free s) (parts : List Part) → Turning setting free s parts → Held setting s parts
  held_too s r parts k =
      let b = parts_of setting d n slots free s r in
      record {
        begun = k.begun;
        agree = k.agree;
        queues = k.queues;
        lanes = k.lanes;
        idle = λ t p e i. (
            let w : slice_get s.workers t ≡ Some p.final = ap (slice_get_at t) (sym k.agree.workers) ∙ get-mapped (λ (q : Part). q.final) parts t p e in
            let x = is_there setting s b.parts t p.final b.held.agree w in
            let o = b.held.idle t x.0 x.1.0 i in
            (subst IsOutOfWork x.1.1 o.0, o.1));
        ended = b.held.ended;
      }
    where
      slice_get_at : ℕ → List Worker → Option Worker
      slice_get_at t ws = slice_get ws t

module _ (graph : Graph) (g : ℕ) (shape : Shape) (block_words d n : ℕ) (slots free : List ℕ) (s : System) (r : IsReached (setting_of graph g shape block_words n) d n slots free s) (empty : AreEmpty graph free) where
  abbrev setting : Setting
  setting = setting_of graph g shape block_words n

  -- no large object stands in a free block
  no_large : (k : ℕ) → 0 < times k free → (m : ℕ) → is_large_name setting m ≡ true → in_block k m ≡ false
  no_large k f m l = go (in_block k m) refl
    where
      go : (x : Bool) → in_block k m ≡ x → in_block k m ≡ false
      go false e = e
      go true e =
          let q : m / 65536 ≡ k + 1 = eqb-true _ _ e in
          let i : m ≡ small_word k (m - (k + 1) * 65536) = omega arith in
          absurd (true≢false (sym l ∙ ap (λ o. option_map_or (is_large block_words) o false) (ap setting.object i ∙ empty k (m - (k + 1) * 65536) f (omega arith))))

  ended_scans : (parts : List Part) → Turning setting free s parts → AllEnded s → block_words ≤ 65536 → ScansInBlocks s.workers free
  ended_scans parts k ended small number is_free =
      subst (λ ws. ScansInBlock number ws) k.agree.workers
      (scans_in_block setting (λ name. find nat_cmp name s.forwarded) parts
      (joined setting s parts (held_too setting d n slots free s r parts k) (λ t p e. ended t (let a : t < length parts = get-lt parts t p e in let b = as_many in omega arith)))
      small (λ k' offset l o. empty k' offset (drawn_free k' l) o) k.turns (let b : length s.workers ≡ length parts = as_many in let c : 0 < length s.workers = workers_are in omega arith) number (no_large number is_free))
    where
      as_many : length s.workers ≡ length parts
      as_many = ap length (sym k.agree.workers) ∙ length-map parts (λ (p : Part). p.final)

      drawn_free : (m : ℕ) → 0 < draws_of m parts → 0 < times m free
      drawn_free m l = let e = k.spent (λ x. one_if (nat_eq x m)) in omega arith

      workers_are : 0 < length s.workers
      workers_are =
          let b = parts_of setting d n slots free s r in
          let a : length s.workers ≡ length b.parts = ap length (sym b.held.agree.workers) ∙ length-map b.parts (λ (p : Part). p.final) in
          let c : length b.parts ≡ n = sym (length-map b.parts (λ (p : Part). p.start)) ∙ ap length b.starts ∙ so_many setting d n slots free 0 n in
          let l = r.some in
          omega arith

  pub scans_in_order : AllEnded s → block_words ≤ 65536 → ScansInBlocks s.workers free
  scans_in_order = let t = turned setting d n slots free s r in ended_scans t.0 t.1
