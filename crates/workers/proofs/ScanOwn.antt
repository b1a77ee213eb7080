-- What the drawer of a block scanned of it, where it leaves it.
use Rattle.std.proofs.Common.{◌≡◌, ◌≢◌, ℕ, ◌+◌, ◌<◌, ◌≤◌, false, List, Option, Some, refl, sym, ap, ◌∙◌, ⊎_elim, arith, nat_eq, eqb-true, eq-eqb, ltb-false, slice_get}
use Rattle.std.proofs.lemmas.Bool.{cases_eq}
use Rattle.workers.specs.Block.{Block, Copy, has_unscanned}
use Rattle.workers.specs.Setting.{Setting}
use Rattle.workers.specs.Total.{total, one_if, times}
use Rattle.workers.specs.Joined.{Each, Part, HasRun, WasExported, Joined, blocks_of}
use Rattle.workers.specs.Kept.{AreFresh}
use Rattle.workers.specs.Laid.{Laid}
use Rattle.workers.specs.Ordered.{places_in, inside, TurnRun, ScanOwn, places_of, draws_of, takes_of}
use Rattle.workers.proofs.Lists.{Each-at}
use Rattle.workers.proofs.Totals.{front_total_all, one_if-positive}
use Rattle.workers.proofs.Balance.{scans_in}
use Rattle.workers.proofs.OnePart.{scan_account, draw_account, all_scanned}
use Rattle.workers.proofs.Renamed.{zero-or-positive}
use Rattle.workers.proofs.Owners.{is_it}
use Rattle.workers.proofs.Prefix.{member-le, Picked, pick, no_kind, alone}
use Rattle.workers.proofs.Order.{apart, ran, own_exports, taken_total, part_rising}
use Rattle.workers.proofs.HandedOn.{scan_kinds, large_none, laid_of}
use Rattle.workers.proofs.GoOn.{same_rising, rise_from, in_own, times-inside, all-times}

module _ (setting : Setting) (f : ℕ → Option ℕ) (parts : List Part) (j : Joined setting f parts) (small_blocks : setting.block_words ≤ 65536) (fresh : AreFresh setting parts)
    (t i : ℕ) (p : Part) (b : Block) (there : slice_get parts t ≡ Some p) (left : slice_get (blocks_of p.final) i ≡ Some b) (own : 0 < times b.number p.history.drawn) where
  r : HasRun setting p
  r = ran setting f parts j small_blocks fresh t p there

  one : is_it setting b.number b ≡ 1
  one = ap one_if (eq-eqb b.number b.number refl)

  in_left : is_it setting b.number b ≤ total (is_it setting b.number) (blocks_of p.final)
  in_left = member-le (is_it setting b.number) (blocks_of p.final) i b left

  drawn_le : times b.number p.history.drawn ≤ draws_of b.number parts
  drawn_le = member-le (λ (q : Part). times b.number q.history.drawn) parts t p there

  drawn : 0 < draws_of b.number parts
  drawn = let a = drawn_le in omega arith

  sum : times b.number p.history.drawn + total (is_it setting b.number) p.history.taken ≡ total (is_it setting b.number) (blocks_of p.final) + total (is_it setting b.number) p.history.exported
  sum = draw_account setting p r (λ n. one_if (nat_eq n b.number))

  takes_le : takes_of b.number p ≤ 1
  takes_le = let a = taken_total setting f parts j small_blocks fresh b.number in let m : takes_of b.number p ≤ total (takes_of b.number) parts = member-le (takes_of b.number) parts t p there in omega arith

  module _ (scan : ℕ → ℕ) where
    abbrev φ : Block → ℕ
    φ x = scans_in setting (inside b.number scan) x

    abbrev Same : Type 0
    Same = (total (is_it setting b.number) (blocks_of p.final) ≤ 1) × (total φ p.history.taken ≡ total φ p.history.exported)

    laid : Each (Laid setting) (blocks_of p.final) × (Each (Laid setting) p.history.exported × Each (Laid setting) p.history.taken)
    laid = laid_of setting small_blocks b.number scan f parts j fresh drawn t p there

    taken_back : (q : Picked (is_it setting b.number) (WasExported parts) p.history.taken) → q.x.number ≡ b.number → q.fact.u ≡ t → Same
    taken_back q n e =
        let same_part : Some q.fact.part ≡ Some p = sym q.fact.exporter ∙ ap (slice_get parts) e ∙ there in
        let part_is : q.fact.part ≡ p = cc in
        let sent_there : slice_get p.history.exported q.fact.i ≡ Some q.fact.sent = ap (λ (z : Part). slice_get z.history.exported q.fact.i) (sym part_is) ∙ q.fact.there in
        let same : is_it setting b.number q.x ≡ is_it setting b.number q.fact.sent = ap (is_it setting b.number) q.fact.same in
        let m : is_it setting b.number q.fact.sent ≤ total (is_it setting b.number) p.history.exported = member-le (is_it setting b.number) p.history.exported q.fact.i q.fact.sent sent_there in
        let x = own_exports setting f parts j small_blocks fresh b.number p r in
        let c = q.counts in
        let s = sum in
        let l = takes_le in
        let d = drawn_le in
        let o = j.drawn_once b.number in
        let a : total φ p.history.exported ≡ φ q.fact.sent = alone (is_it setting b.number) φ p.history.exported q.fact.i q.fact.sent sent_there (omega arith) (omega arith) (scan_kinds setting small_blocks b.number scan p.history.exported laid.1.0) in
        let g : total φ p.history.taken ≡ φ q.x = alone (is_it setting b.number) φ p.history.taken q.i q.x q.there q.counts takes_le (scan_kinds setting small_blocks b.number scan p.history.taken laid.1.1) in
        let h : φ q.x ≡ φ q.fact.sent = ap φ q.fact.same in
        (omega arith, omega arith)

    both : Same
    both =
        ⊎_elim
        (λ (z : total (is_it setting b.number) p.history.taken ≡ 0).
        let s = sum in let l = in_left in let u = one in let d = drawn_le in let o = j.drawn_once b.number in
        let a : total φ p.history.taken ≡ 0 = no_kind (is_it setting b.number) φ p.history.taken z (scan_kinds setting small_blocks b.number scan p.history.taken laid.1.1) in
        let c : total φ p.history.exported ≡ 0 = no_kind (is_it setting b.number) φ p.history.exported (omega arith) (scan_kinds setting small_blocks b.number scan p.history.exported laid.1.0) in
        (omega arith, omega arith))
        (λ l. (
        let q = pick (is_it setting b.number) (WasExported parts) p.history.taken (Each-at (λ (z : Part). Each (WasExported parts) z.history.taken) parts t p there j.taken) l in
        let n : q.x.number ≡ b.number = eqb-true _ _ (one_if-positive _ q.counts) in
        taken_back q n (by_drawer q n)))
        (zero-or-positive (total (is_it setting b.number) p.history.taken))
      where
        by_drawer : (q : Picked (is_it setting b.number) (WasExported parts) p.history.taken) → q.x.number ≡ b.number → q.fact.u ≡ t
        by_drawer q n = ⊎_elim (λ (e : q.fact.u ≡ t). e) (λ (ne : q.fact.u ≢ t). absurd (no ne)) (cases_eq q.fact.u t)
          where
            no : q.fact.u ≢ t → ⊥
            no ne =
                let same : is_it setting b.number q.x ≡ is_it setting b.number q.fact.sent = ap (is_it setting b.number) q.fact.same in
                let m : is_it setting b.number q.fact.sent ≤ total (is_it setting b.number) q.fact.part.history.exported = member-le (is_it setting b.number) q.fact.part.history.exported q.fact.i q.fact.sent q.fact.there in
                let x = own_exports setting f parts j small_blocks fresh b.number q.fact.part (ran setting f parts j small_blocks fresh q.fact.u q.fact.part q.fact.exporter) in
                let c = q.counts in
                let z : times b.number q.fact.part.history.drawn ≡ 0 = apart (λ (y : Part). times b.number y.history.drawn) parts t q.fact.u p q.fact.part there q.fact.exporter ne (j.drawn_once b.number) own in
                absurd (omega arith)

    -- all of the block
    scanned_all : total (inside b.number scan) p.final.scanned ≡ total (λ (c : Copy). inside b.number scan c.place) b.copies
    scanned_all =
        let s = scan_account setting p r (inside b.number scan) in
        let h = large_none setting small_blocks b.number scan f parts j fresh drawn p r in
        let e = both in
        let g : total φ (blocks_of p.final) ≡ φ b = alone (is_it setting b.number) φ (blocks_of p.final) i b left (let u = one in omega arith) e.0 (scan_kinds setting small_blocks b.number scan (blocks_of p.final) laid.0) in
        let w : φ b ≡ total (λ (c : Copy). inside b.number scan c.place) b.copies = front_total_all (λ (c : Copy). inside b.number scan c.place) b.front b.copies (ltb-false _ _ (Each-at (λ x. has_unscanned x ≡ false) (blocks_of p.final) i b left (all_scanned setting p r))) in
        omega arith

  scanned_own : TurnRun setting t p → places_in b.number p.final.scanned ≡ places_of b
  scanned_own turn =
      let l : Laid setting b = Each-at (Laid setting) (blocks_of p.final) i b left (laid (λ n. n)).0 in
      same_rising _ _ (part_rising setting f parts j small_blocks fresh b.number drawn t p there turn) (rise_from setting small_blocks b.number b.destination 0 b.copies l.from)
      (λ q. times-inside b.number q p.final.scanned ∙ scanned_all (λ x. one_if (nat_eq x q)) ∙ sym (all-times b.number q b.copies (in_own setting small_blocks b l)))

pub scan_own : (setting : Setting) (f : ℕ → Option ℕ) (parts : List Part) → Joined setting f parts → setting.block_words ≤ 65536 → AreFresh setting parts → ((t : ℕ) (part : Part) → slice_get parts t ≡ Some part → TurnRun setting t part) → ScanOwn parts
scan_own setting f parts j small_blocks fresh turns t i p b there left own = scanned_own setting f parts j small_blocks fresh t i p b there left own (turns t p there)
