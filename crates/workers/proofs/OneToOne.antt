-- No two names have one place.
use Rattle.std.proofs.Common.{◌≡◌, ◌≢◌, ℕ, ◌+◌, ◌-◌, ◌/◌, ◌<◌, ◌≤◌, Bool, true, false, not, List, [], ◌∷◌, Option, Some, None, refl, sym, ap, subst, ◌∙◌, ⊎_elim, arith, nat_eq, eqb-true, eq-eqb, true≢false}
use Rattle.std.proofs.lemmas.Bool.{cases_eq}
use Rattle.std.specs.Option.{option_map_or}
use Rattle.model.specs.Graph.{is_large}
use Rattle.workers.specs.Block.{Block, Copy}
use Rattle.layout.specs.Place.{small_word}
use Rattle.workers.specs.Setting.{Setting, is_large_name, words_of}
use Rattle.workers.specs.Places.{IsPair}
use Rattle.workers.specs.Total.{total, one_if, times, wins_of, ones}
use Rattle.workers.specs.Joined.{Each, Part, HasRun, Joined, blocks_of, named_in}
use Rattle.workers.specs.Kept.{AreFresh}
use Rattle.workers.proofs.Lists.{Each-zip, Each-map}
use Rattle.workers.proofs.Totals.{total_some, one_if-positive, total-sum}
use Rattle.workers.proofs.OnePart.{large_are}
use Rattle.workers.proofs.Laid.{Laid, LaidFrom, block_once, words_in}
use Rattle.workers.proofs.Whole.{won_stands, stands_once, positive-or}
use Rattle.workers.proofs.Renamed.{total-le, zero-Each, zero-or-positive, one_if-not, won_agrees, all_laid, drawn_left, block_drawn, copies_placed}

-- a place in a drawn block
pub record IsDrawnPlace (parts : List Part) (place : ℕ) : Type 0 where
  pub number : ℕ
  pub offset : ℕ
  pub drawn : 0 < total (λ (p : Part). times number p.history.drawn) parts
  pub within : offset < 65536
  pub is : place ≡ small_word number offset

pub laid-each : (setting : Setting) (number destination offset : ℕ) (cs : List Copy) → LaidFrom setting number destination offset cs → offset + words_in setting cs ≤ 65536 → Each (λ (c : Copy). (o : ℕ) × ((o < 65536) × (c.place ≡ small_word number o))) cs
laid-each setting number destination offset [] h l = tt
laid-each setting number destination offset (c ∷ cs) h l =
    let w : 0 < words_of setting c.name = h.0.has_words in
    ((offset, (omega arith, h.0.place)), laid-each setting number destination (offset + words_of setting c.name) cs h.1 (omega arith))

ones-le : {A : Type 0} (o : Option A) → ones o ≤ 1
ones-le None = omega arith
ones-le (Some x) = omega arith

module _ (setting : Setting) (f : ℕ → Option ℕ) (parts : List Part) (j : Joined setting f parts)
    (small_blocks : setting.block_words ≤ 65536) (fresh : AreFresh setting parts) where
  pub numbers_once : (k : ℕ) → total (λ (p : Part). total (λ (b : Block). one_if (nat_eq b.number k)) (blocks_of p.final)) parts ≤ 1
  numbers_once k =
      let x : total (λ (p : Part). times k p.history.drawn) parts ≡ total (λ (p : Part). total (λ (b : Block). one_if (nat_eq b.number k)) (blocks_of p.final)) parts = drawn_left setting f parts j (λ n. one_if (nat_eq n k)) in
      let y : total (λ (p : Part). times k p.history.drawn) parts ≤ 1 = j.drawn_once k in
      omega arith

  abbrev placed_in : ℕ → Block → ℕ
  placed_in place b = total (λ (c : Copy). one_if (nat_eq c.place place)) b.copies

  placed_once : (place : ℕ) → total (λ (p : Part). total (placed_in place) (blocks_of p.final)) parts ≤ 1
  placed_once place =
      let x : total (λ (p : Part). total (placed_in place) (blocks_of p.final)) parts ≤ total (λ (p : Part). total (λ (b : Block). one_if (nat_eq b.number (place / 65536 - 1))) (blocks_of p.final)) parts =
      total-le _ _ (λ (p : Part). Each (Laid setting) (blocks_of p.final)) (λ p h. total-le (placed_in place) (λ (b : Block). one_if (nat_eq b.number (place / 65536 - 1))) (Laid setting) (λ b l. block_once setting small_blocks place b l) (blocks_of p.final) h) parts (all_laid setting f parts j) in
      let y = numbers_once (place / 65536 - 1) in
      omega arith

  -- what a copy of this name or at this place tells
  pub record Stands (name place : ℕ) : Type 0 where
    pub at : IsDrawnPlace parts place
    pub placed : f name ≡ Some place

  copies_stand : Each (λ (p : Part). Each (λ (b : Block). Each (λ (c : Copy). Stands c.name c.place) b.copies) (blocks_of p.final)) parts
  copies_stand =
      Each-map (λ (p : Part). (Each (Laid setting) (blocks_of p.final) × Each (λ (b : Block). 0 < total (λ (q : Part). times b.number q.history.drawn) parts) (blocks_of p.final)) × Each (λ (b : Block). Each (λ (c : Copy). f c.name ≡ Some c.place) b.copies) (blocks_of p.final)) _
      (λ p h. Each-map (λ (b : Block). (Laid setting b × (0 < total (λ (q : Part). times b.number q.history.drawn) parts)) × Each (λ (c : Copy). f c.name ≡ Some c.place) b.copies) _
      (λ b k. (let w : words_in setting b.copies ≤ setting.block_words = k.0.0.within in
      Each-map (λ (c : Copy). ((o : ℕ) × ((o < 65536) × (c.place ≡ small_word b.number o))) × (f c.name ≡ Some c.place)) (λ (c : Copy). Stands c.name c.place)
      (λ c x. record { at = record { number = b.number; offset = x.0.0; drawn = k.0.1; within = x.0.1.0; is = x.0.1.1 }; placed = x.1 })
      b.copies (Each-zip (λ (c : Copy). (o : ℕ) × ((o < 65536) × (c.place ≡ small_word b.number o))) (λ (c : Copy). f c.name ≡ Some c.place) b.copies (laid-each setting b.number b.destination 0 b.copies k.0.0.from (omega arith)) k.1)))
      (blocks_of p.final) (Each-zip (λ (b : Block). Laid setting b × (0 < total (λ (q : Part). times b.number q.history.drawn) parts)) (λ (b : Block). Each (λ (c : Copy). f c.name ≡ Some c.place) b.copies) (blocks_of p.final) (Each-zip (Laid setting) (λ (b : Block). 0 < total (λ (q : Part). times b.number q.history.drawn) parts) (blocks_of p.final) h.0.0 h.0.1) h.1))
      parts
      (Each-zip (λ (p : Part). Each (Laid setting) (blocks_of p.final) × Each (λ (b : Block). 0 < total (λ (q : Part). times b.number q.history.drawn) parts) (blocks_of p.final)) (λ (p : Part). Each (λ (b : Block). Each (λ (c : Copy). f c.name ≡ Some c.place) b.copies) (blocks_of p.final)) parts
      (Each-zip (λ (p : Part). Each (Laid setting) (blocks_of p.final)) (λ (p : Part). Each (λ (b : Block). 0 < total (λ (q : Part). times b.number q.history.drawn) parts) (blocks_of p.final)) parts (all_laid setting f parts j) (block_drawn setting f parts j))
      (copies_placed setting f parts j))

  copy_there : (pick : Copy → Bool) → 0 < total (λ (p : Part). total (λ (b : Block). total (λ (c : Copy). one_if (pick c)) b.copies) (blocks_of p.final)) parts → (c : Copy) × (Stands c.name c.place × (pick c ≡ true))
  copy_there pick l =
      let p = total_some (λ (p : Part). total (λ (b : Block). total (λ (c : Copy). one_if (pick c)) b.copies) (blocks_of p.final)) (λ (p : Part). Each (λ (b : Block). Each (λ (c : Copy). Stands c.name c.place) b.copies) (blocks_of p.final)) parts copies_stand l in
      let b = total_some (λ (b : Block). total (λ (c : Copy). one_if (pick c)) b.copies) (λ (b : Block). Each (λ (c : Copy). Stands c.name c.place) b.copies) (blocks_of p.0.final) p.1.0 p.1.1 in
      let c = total_some (λ (c : Copy). one_if (pick c)) (λ (c : Copy). Stands c.name c.place) b.0.copies b.1.0 b.1.1 in
      (c.0, (c.1.0, one_if-positive _ c.1.1))

  pub large_there : (name : ℕ) → 0 < total (λ (p : Part). times name p.final.large_done) parts → is_large_name setting name ≡ true
  large_there name l =
      let p = total_some (λ (p : Part). times name p.final.large_done) (λ (p : Part). Each (λ n. one_if (not (is_large_name setting n)) ≡ 0) p.final.large_done) parts
      (Each-map (HasRun setting) _ (λ p r. zero-Each (λ n. one_if (not (is_large_name setting n))) p.final.large_done (large_are setting p r)) parts j.runs) l in
      let n = total_some (λ n. one_if (nat_eq n name)) (λ n. one_if (not (is_large_name setting n)) ≡ 0) p.0.final.large_done p.1.0 p.1.1 in
      let e : n.0 ≡ name = eqb-true _ _ (one_if-positive _ n.1.1) in
      subst (λ n. is_large_name setting n ≡ true) e (one_if-not _ n.1.0)

  pub no_large_drawn : (name : ℕ) → is_large_name setting name ≡ true → IsDrawnPlace parts name → ⊥
  no_large_drawn name l d =
      true≢false (sym l ∙ ap (λ o. option_map_or (is_large setting.block_words) o false) (ap setting.object d.is ∙ fresh d.number d.offset d.drawn d.within))

  -- no place was won twice
  pub won_place_once : (place : ℕ) → total (λ (p : Part). total (λ (q : ℕ × ℕ). one_if (nat_eq q.1 place)) p.final.won) parts ≤ 1
  won_place_once place =
      let s : total (λ (p : Part). total (λ (q : ℕ × ℕ). one_if (nat_eq q.1 place)) p.final.won) parts ≡ total (λ (p : Part). total (placed_in place) (blocks_of p.final)) parts + total (λ (p : Part). times place p.final.large_done) parts = won_stands setting f parts j (λ q. one_if (nat_eq q.1 place)) in
      let a = placed_once place in
      let o : ones (f place) ≤ 1 = ones-le (f place) in
      let b : total (λ (p : Part). total (named_in place) (blocks_of p.final)) parts + total (λ (p : Part). times place p.final.large_done) parts ≡ ones (f place) = stands_once setting f parts j place in
      ⊎_elim
      (λ (z : total (λ (p : Part). total (placed_in place) (blocks_of p.final)) parts ≡ 0). omega arith)
      (λ l. ⊎_elim
      (λ (z : total (λ (p : Part). times place p.final.large_done) parts ≡ 0). omega arith)
      (λ m. (let c = copy_there (λ c. nat_eq c.place place) l in absurd (no_large_drawn place (large_there place m) (subst (IsDrawnPlace parts) (eqb-true _ _ c.1.1) c.1.0.at))))
      (zero-or-positive (total (λ (p : Part). times place p.final.large_done) parts)))
      (zero-or-positive (total (λ (p : Part). total (placed_in place) (blocks_of p.final)) parts))

  pub one_to_one : (a b place : ℕ) → f a ≡ Some place → f b ≡ Some place → a ≡ b
  one_to_one a b place ea eb = ⊎_elim (λ (e : a ≡ b). e) (λ (n : a ≢ b). absurd (twice n)) (cases_eq a b)
    where
      each : a ≢ b → (q : ℕ × ℕ) → IsPair f q → one_if (nat_eq q.0 a) + one_if (nat_eq q.0 b) ≤ one_if (nat_eq q.1 place)
      each n q i = go (nat_eq q.0 a) refl (nat_eq q.0 b) refl
        where
          here : (c : ℕ) → f c ≡ Some place → nat_eq q.0 c ≡ true → one_if (nat_eq q.1 place) ≡ 1
          here c e t =
              let s : Some q.1 ≡ Some place = sym i ∙ ap f (eqb-true q.0 c t) ∙ e in
              let p : q.1 ≡ place = cc in
              ap one_if (eq-eqb q.1 place p)

          go : (x : Bool) → nat_eq q.0 a ≡ x → (y : Bool) → nat_eq q.0 b ≡ y → one_if x + one_if y ≤ one_if (nat_eq q.1 place)
          go true t true u = absurd (n (sym (eqb-true q.0 a t) ∙ eqb-true q.0 b u))
          go true t false u = let h = here a ea t in omega arith
          go false t true u = let h = here b eb u in omega arith
          go false t false u = omega arith

      twice : a ≢ b → ⊥
      twice n =
          let x : total (λ (p : Part). wins_of a p.final.won) parts ≡ 1 = j.won_once a ∙ ap ones ea in
          let y : total (λ (p : Part). wins_of b p.final.won) parts ≡ 1 = j.won_once b ∙ ap ones eb in
          let z : total (λ (p : Part). wins_of a p.final.won + wins_of b p.final.won) parts ≡ total (λ (p : Part). wins_of a p.final.won) parts + total (λ (p : Part). wins_of b p.final.won) parts = total-sum (λ (p : Part). wins_of a p.final.won) (λ (p : Part). wins_of b p.final.won) parts in
          let w : total (λ (p : Part). wins_of a p.final.won + wins_of b p.final.won) parts ≤ total (λ (p : Part). total (λ (q : ℕ × ℕ). one_if (nat_eq q.1 place)) p.final.won) parts =
          total-le _ _ (λ (p : Part). Each (IsPair f) p.final.won)
          (λ p h. subst (λ m. m ≤ total (λ (q : ℕ × ℕ). one_if (nat_eq q.1 place)) p.final.won) (total-sum (λ (q : ℕ × ℕ). one_if (nat_eq q.0 a)) (λ (q : ℕ × ℕ). one_if (nat_eq q.0 b)) p.final.won)
          (total-le (λ (q : ℕ × ℕ). one_if (nat_eq q.0 a) + one_if (nat_eq q.0 b)) (λ (q : ℕ × ℕ). one_if (nat_eq q.1 place)) (IsPair f) (each n) p.final.won h))
          parts (won_agrees setting f parts j) in
          let o = won_place_once place in
          omega arith

  -- a small name goes to a drawn block
  pub small_drawn : (name place : ℕ) → f name ≡ Some place → is_large_name setting name ≡ false → IsDrawnPlace parts place
  small_drawn name place e l =
      ⊎_elim
      (λ h. (
      let c = copy_there (λ c. nat_eq c.name name) h in
      let s : Some c.0.place ≡ Some place = sym c.1.0.placed ∙ ap f (eqb-true _ _ c.1.1) ∙ e in
      let q : c.0.place ≡ place = cc in
      subst (IsDrawnPlace parts) q c.1.0.at))
      (λ h. absurd (true≢false (sym (large_there name h) ∙ l)))
      (positive-or _ _ (stands_once setting f parts j name ∙ ap ones e))
