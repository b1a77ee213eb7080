-- What exporter and taker of a block scanned of it.
use Rattle.std.proofs.Common.{◌≡◌, ℕ, zero, suc, ◌+◌, ◌/◌, ◌<◌, ◌≤◌, Bool, true, false, List, [], ◌∷◌, Option, Some, refl, sym, ap, ◌∙◌, arith, nat_eq, eq-eqb, ne_eqb, ltb-false, slice_get, cond}
use Rattle.workers.specs.Block.{Block, Copy, has_unscanned}
use Rattle.layout.specs.Place.{small_word}
use Rattle.workers.specs.Setting.{Setting, is_large_name}
use Rattle.workers.specs.Total.{total, front_total, one_if, times}
use Rattle.workers.specs.Joined.{Each, Part, HasRun, WasExported, Joined, blocks_of}
use Rattle.workers.specs.Kept.{AreFresh}
use Rattle.workers.specs.Laid.{Laid, words_in}
use Rattle.workers.specs.Ordered.{in_block, inside, AreHandedOn, draws_of, takes_of}
use Rattle.workers.proofs.Lists.{Each-map, Each-at}
use Rattle.workers.proofs.Totals.{total-Each, front_total_all}
use Rattle.workers.proofs.Balance.{scans_in, pairs_in}
use Rattle.workers.proofs.OnePart.{won_account, scan_account, draw_account, all_scanned, large_are}
use Rattle.workers.proofs.Renamed.{Each-zero, zero-Each, one_if-not, all_laid, exported_laid}
use Rattle.workers.proofs.OneToOne.{laid-each}
use Rattle.workers.proofs.Owners.{is_it}
use Rattle.workers.proofs.Prefix.{member-le, no_kind, alone}
use Rattle.workers.proofs.Order.{apart, ran, own_exports, taken_total, taken_laid, no_large_in, part_wins}

front_total-none : {A : Type 0} (f : A → ℕ) (n : ℕ) (xs : List A) → Each (λ x. f x ≡ 0) xs → front_total f n xs ≡ 0
front_total-none f n [] h = refl
front_total-none f zero (x ∷ xs) h = refl
front_total-none f (suc n) (x ∷ xs) h = let a : f x ≡ 0 = h.0 in let b : front_total f n xs ≡ 0 = front_total-none f n xs h.1 in omega arith

outside : (k : ℕ) (scan : ℕ → ℕ) (place : ℕ) → in_block k place ≡ false → inside k scan place ≡ 0
outside k scan place e = ap (λ b. cond b (scan place) 0) e

not_in : (b : Bool) → one_if b ≡ 0 → b ≡ false
not_in true e = absurd (omega arith)
not_in false e = refl

module _ (setting : Setting) (small_blocks : setting.block_words ≤ 65536) (k : ℕ) (scan : ℕ → ℕ) where
  abbrev ω : ℕ → ℕ
  ω place = inside k scan place

  abbrev pair : ℕ × ℕ → ℕ
  pair q = inside k scan q.1

  elsewhere : (b : Block) → Laid setting b → is_it setting k b ≡ 0 → Each (λ (c : Copy). inside k scan c.place ≡ 0) b.copies
  elsewhere b l z =
      let w : words_in setting b.copies ≤ setting.block_words = l.within in
      Each-map (λ (c : Copy). (o : ℕ) × ((o < 65536) × (c.place ≡ small_word b.number o))) (λ (c : Copy). inside k scan c.place ≡ 0)
      (λ c x. (
      let lt : x.0 < 65536 = x.1.0 in
      let p : c.place ≡ small_word b.number x.0 = x.1.1 in
      outside k scan c.place (ne_eqb (c.place / 65536) (k + 1) (λ e. (let o : one_if (nat_eq b.number k) ≡ 1 = ap one_if (eq-eqb b.number k (omega arith)) in absurd (omega arith))))))
      b.copies (laid-each setting b.number b.destination 0 b.copies l.from (omega arith))

  pub scan_kinds : (bs : List Block) → Each (Laid setting) bs → Each (λ b. is_it setting k b ≡ 0 → scans_in setting (inside k scan) b ≡ 0) bs
  scan_kinds bs h = Each-map (Laid setting) (λ b. is_it setting k b ≡ 0 → scans_in setting (inside k scan) b ≡ 0) (λ b l z. front_total-none (λ (c : Copy). inside k scan c.place) b.front b.copies (elsewhere b l z)) bs h

  pair_kinds : (bs : List Block) → Each (Laid setting) bs → Each (λ b. is_it setting k b ≡ 0 → pairs_in setting (λ (q : ℕ × ℕ). inside k scan q.1) b ≡ 0) bs
  pair_kinds bs h = Each-map (Laid setting) (λ b. is_it setting k b ≡ 0 → pairs_in setting (λ (q : ℕ × ℕ). inside k scan q.1) b ≡ 0) (λ b l z. Each-zero (λ (c : Copy). inside k scan c.place) b.copies (elsewhere b l z)) bs h

  module _ (f : ℕ → Option ℕ) (parts : List Part) (j : Joined setting f parts) (fresh : AreFresh setting parts) (d : 0 < draws_of k parts) where
    pub large_none : (p : Part) → HasRun setting p → total (inside k scan) p.final.large_done ≡ 0
    large_none p r =
        Each-zero (inside k scan) p.final.large_done
        (Each-map (λ n. one_if (Rattle.std.specs.Prelude.not (is_large_name setting n)) ≡ 0) (λ n. inside k scan n ≡ 0) (λ n e. outside k scan n (no_large_in setting f parts j small_blocks fresh k d n (one_if-not _ e)))
        p.final.large_done (zero-Each _ p.final.large_done (large_are setting p r)))

    pub laid_of : (t : ℕ) (p : Part) → slice_get parts t ≡ Some p → Each (Laid setting) (blocks_of p.final) × (Each (Laid setting) p.history.exported × Each (Laid setting) p.history.taken)
    laid_of t p e = (
      Each-at (λ (q : Part). Each (Laid setting) (blocks_of q.final)) parts t p e (all_laid setting f parts j),
      (
        exported_laid setting p (ran setting f parts j small_blocks fresh t p e),
        taken_laid setting f parts j small_blocks fresh p (Each-at (λ (q : Part). Each (WasExported parts) q.history.taken) parts t p e j.taken),
      ),
    )

    -- who exported it, and took none
    exporter_scanned : (t i : ℕ) (p : Part) (b : Block) → slice_get parts t ≡ Some p → slice_get p.history.exported i ≡ Some b → 0 < is_it setting k b → takes_of k p ≡ 0 → times k p.history.drawn ≤ 1 → total (inside k scan) p.final.scanned ≡ scans_in setting (inside k scan) b
    exporter_scanned t i p b e there one no_take once =
        let r = ran setting f parts j small_blocks fresh t p e in
        let l = laid_of t p e in
        let x = own_exports setting f parts j small_blocks fresh k p r in
        let m : is_it setting k b ≤ total (is_it setting k) p.history.exported = member-le (is_it setting k) p.history.exported i b there in
        let n = draw_account setting p r (λ y. one_if (nat_eq y k)) in
        let a : total (scans_in setting (inside k scan)) p.history.taken ≡ 0 = no_kind (is_it setting k) (scans_in setting (inside k scan)) p.history.taken no_take (scan_kinds p.history.taken l.1.1) in
        let c : total (scans_in setting (inside k scan)) (blocks_of p.final) ≡ 0 = no_kind (is_it setting k) (scans_in setting (inside k scan)) (blocks_of p.final) (omega arith) (scan_kinds (blocks_of p.final) l.0) in
        let g : total (scans_in setting (inside k scan)) p.history.exported ≡ scans_in setting (inside k scan) b = alone (is_it setting k) (scans_in setting (inside k scan)) p.history.exported i b there one (omega arith) (scan_kinds p.history.exported l.1.0) in
        let h = large_none p r in
        let s = scan_account setting p r (inside k scan) in
        omega arith

    -- who took it, and drew it not
    taker_scanned : (t i : ℕ) (p : Part) (b : Block) → slice_get parts t ≡ Some p → slice_get p.history.taken i ≡ Some b → 0 < is_it setting k b → takes_of k p ≤ 1 → times k p.history.drawn ≡ 0
        → total (inside k scan) p.final.scanned + scans_in setting (inside k scan) b ≡ pairs_in setting (λ (q : ℕ × ℕ). inside k scan q.1) b
    taker_scanned t i p b e there one once none_drawn =
        let r = ran setting f parts j small_blocks fresh t p e in
        let l = laid_of t p e in
        let x = own_exports setting f parts j small_blocks fresh k p r in
        let a : total (scans_in setting (inside k scan)) p.history.taken ≡ scans_in setting (inside k scan) b = alone (is_it setting k) (scans_in setting (inside k scan)) p.history.taken i b there one once (scan_kinds p.history.taken l.1.1) in
        let c : total (pairs_in setting (λ (q : ℕ × ℕ). inside k scan q.1)) p.history.taken ≡ pairs_in setting (λ (q : ℕ × ℕ). inside k scan q.1) b = alone (is_it setting k) (pairs_in setting (λ (q : ℕ × ℕ). inside k scan q.1)) p.history.taken i b there one once (pair_kinds p.history.taken l.1.1) in
        let g : total (scans_in setting (inside k scan)) p.history.exported ≡ 0 = no_kind (is_it setting k) (scans_in setting (inside k scan)) p.history.exported (omega arith) (scan_kinds p.history.exported l.1.0) in
        let h : total (pairs_in setting (λ (q : ℕ × ℕ). inside k scan q.1)) p.history.exported ≡ 0 = no_kind (is_it setting k) (pairs_in setting (λ (q : ℕ × ℕ). inside k scan q.1)) p.history.exported (omega arith) (pair_kinds p.history.exported l.1.0) in
        let w : total (λ (q : ℕ × ℕ). inside k scan q.1) p.final.won ≡ 0 =
        Each-zero (λ (q : ℕ × ℕ). inside k scan q.1) p.final.won
        (Each-map (λ (q : ℕ × ℕ). one_if (in_block k q.1) ≡ 0) (λ (q : ℕ × ℕ). inside k scan q.1 ≡ 0) (λ q z. outside k scan q.1 (not_in (in_block k q.1) z)) p.final.won
        (zero-Each (λ (q : ℕ × ℕ). one_if (in_block k q.1)) p.final.won (part_wins setting f parts j small_blocks fresh k d t p e none_drawn))) in
        let y : total (scans_in setting (inside k scan)) (blocks_of p.final) ≡ total (pairs_in setting (λ (q : ℕ × ℕ). inside k scan q.1)) (blocks_of p.final) =
        total-Each (scans_in setting (inside k scan)) (pairs_in setting (λ (q : ℕ × ℕ). inside k scan q.1)) (λ x. has_unscanned x ≡ false) (λ x u. front_total_all (λ (c : Copy). inside k scan c.place) x.front x.copies (ltb-false _ _ u)) (blocks_of p.final) (all_scanned setting p r) in
        let s = scan_account setting p r (inside k scan) in
        let v = won_account setting p r (λ (q : ℕ × ℕ). inside k scan q.1) in
        omega arith

-- each block that another took
pub handed_on : (setting : Setting) (f : ℕ → Option ℕ) (parts : List Part) → Joined setting f parts → setting.block_words ≤ 65536 → AreFresh setting parts → AreHandedOn parts
handed_on setting f parts j small_blocks fresh v i taker block there taken from ne =
    record {
      before = λ scan. exporter_scanned setting small_blocks block.number scan f parts j fresh drawn from.u from.i from.part from.sent from.exporter from.there sent_one no_take exporter_once ∙ sym (ap (scans_in setting (inside block.number scan)) from.same);
      after = λ scan. taker_scanned setting small_blocks block.number scan f parts j fresh drawn v i taker block there taken block_one once none_drawn;
    }
  where
    own : is_it setting block.number block ≡ 1
    own = ap one_if (eq-eqb block.number block.number refl)

    block_one : 0 < is_it setting block.number block
    block_one = let o = own in omega arith

    sent_one : 0 < is_it setting block.number from.sent
    sent_one = let s : is_it setting block.number block ≡ is_it setting block.number from.sent = ap (is_it setting block.number) from.same in let o = own in omega arith

    exported_one : 0 < times block.number from.part.history.drawn
    exported_one =
        let s = sent_one in
        let m : is_it setting block.number from.sent ≤ total (is_it setting block.number) from.part.history.exported = member-le (is_it setting block.number) from.part.history.exported from.i from.sent from.there in
        let x = own_exports setting f parts j small_blocks fresh block.number from.part (ran setting f parts j small_blocks fresh from.u from.part from.exporter) in
        omega arith

    drawn_le : times block.number from.part.history.drawn ≤ draws_of block.number parts
    drawn_le = member-le (λ (q : Part). times block.number q.history.drawn) parts from.u from.part from.exporter

    drawn : 0 < draws_of block.number parts
    drawn = let a = exported_one in let b = drawn_le in omega arith

    exporter_once : times block.number from.part.history.drawn ≤ 1
    exporter_once = let a = j.drawn_once block.number in let b = drawn_le in omega arith

    takes_one : 0 < takes_of block.number taker
    takes_one = let o : is_it setting block.number block ≡ 1 = own in let m : is_it setting block.number block ≤ total (is_it setting block.number) taker.history.taken = member-le (is_it setting block.number) taker.history.taken i block taken in omega arith

    once : takes_of block.number taker ≤ 1
    once = let a = taken_total setting f parts j small_blocks fresh block.number in let m : takes_of block.number taker ≤ total (takes_of block.number) parts = member-le (takes_of block.number) parts v taker there in omega arith

    no_take : takes_of block.number from.part ≡ 0
    no_take = apart (takes_of block.number) parts v from.u taker from.part there from.exporter ne (taken_total setting f parts j small_blocks fresh block.number) takes_one

    none_drawn : times block.number taker.history.drawn ≡ 0
    none_drawn = apart (λ (q : Part). times block.number q.history.drawn) parts from.u v from.part taker from.exporter there (λ e. ne (sym e)) (j.drawn_once block.number) exported_one
