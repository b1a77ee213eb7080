-- The taker of a block goes on where its exporter stopped.
use Rattle.std.proofs.Common.{◌≡◌, ◌≢◌, ℕ, zero, suc, ◌+◌, ◌/◌, ◌<◌, ◌≤◌, Bool, true, false, List, [], ◌∷◌, ◌++◌, Option, Some, refl, sym, ap, ◌∙◌, ◌⊎◌, inl, inr, ⊎_elim, arith, nat_eq, eq-eqb, ne_eqb, slice_get, cond, map, nat_lt, ltb-true, ltb-false}
use Rattle.std.proofs.lemmas.Bool.{cases_eq}
use Rattle.workers.specs.Block.{Block, Copy}
use Rattle.layout.specs.Place.{small_word}
use Rattle.workers.specs.Setting.{Setting, words_of}
use Rattle.workers.specs.Total.{total, front_total, one_if, times}
use Rattle.workers.specs.Joined.{Each, Part, WasExported, Joined}
use Rattle.workers.specs.Kept.{AreFresh}
use Rattle.workers.specs.Laid.{Laid, LaidFrom, words_in}
use Rattle.workers.specs.Ordered.{in_block, places_in, IsRising, inside, HandedOn, TurnRun, GoOn, firsts, rests, places_of, draws_of}
use Rattle.workers.proofs.Lists.{Each-map, Each-at}
use Rattle.workers.proofs.OneToOne.{laid-each}
use Rattle.workers.proofs.Owners.{is_it}
use Rattle.workers.proofs.Prefix.{member-le}
use Rattle.workers.proofs.Order.{ran, own_exports, taken_laid, part_rising}
use Rattle.workers.proofs.HandedOn.{handed_on}

-- a rising list is told by its members
none_below : (p : ℕ) (xs : List ℕ) → Each (λ x. p < x) xs → times p xs ≡ 0
none_below p [] h = refl
none_below p (x ∷ xs) h =
    let l : p < x = h.0 in
    let a : one_if (nat_eq x p) ≡ 0 = ap one_if (ne_eqb x p (λ e. absurd (omega arith))) in
    let b : times p xs ≡ 0 = none_below p xs h.1 in
    omega arith

above : (p q : ℕ) (xs : List ℕ) → p ≤ q → Each (λ x. q < x) xs → Each (λ x. p < x) xs
above p q xs l h = Each-map (λ x. q < x) (λ x. p < x) (λ x k. omega arith) xs h

itself : (x : ℕ) (xs : List ℕ) → 0 < times x (x ∷ xs)
itself x xs = let a : one_if (nat_eq x x) ≡ 1 = ap one_if (eq-eqb x x refl) in omega arith

pub same_rising : (xs ys : List ℕ) → IsRising xs → IsRising ys → ((p : ℕ) → times p xs ≡ times p ys) → xs ≡ ys
same_rising [] [] r s e = refl
same_rising [] (y ∷ ys) r s e = let a = itself y ys in let b : times y [] ≡ times y (y ∷ ys) = e y in absurd (omega arith)
same_rising (x ∷ xs) [] r s e = let a = itself x xs in let b : times x (x ∷ xs) ≡ times x [] = e x in absurd (omega arith)
same_rising (x ∷ xs) (y ∷ ys) r s e = ⊎_elim (λ q. here q (same_rising xs ys r.1 s.1)) (λ n. absurd (not_less n)) (cases_eq x y)
  where
    not_less : x ≢ y → ⊥
    not_less n = ⊎_elim
        (λ (l : x < y). (let a = itself x xs in let b : times x (x ∷ xs) ≡ times x (y ∷ ys) = e x in let c : times x (y ∷ ys) ≡ 0 = none_below x (y ∷ ys) (l, above x y ys (omega arith) s.0) in absurd (omega arith)))
        (λ (l : y < x). (let a = itself y ys in let b : times y (x ∷ xs) ≡ times y (y ∷ ys) = e y in let c : times y (x ∷ xs) ≡ 0 = none_below y (x ∷ xs) (l, above y x xs (omega arith) r.0) in absurd (omega arith)))
        (less n)
      where
        less : x ≢ y → (x < y) ⊎ (y < x)
        less n = go (nat_lt x y) refl
          where
            go : (b : Bool) → nat_lt x y ≡ b → (x < y) ⊎ (y < x)
            go true q = inl (ltb-true x y q)
            go false q = let l : y ≤ x = ltb-false x y q in inr (strict l)
              where
                strict : y ≤ x → y < x
                strict l = ⊎_elim (λ (k : y < x). k) (λ (k : x ≤ y). absurd (n (omega arith))) (split y x)
                  where
                    split : (a b : ℕ) → (a < b) ⊎ (b ≤ a)
                    split a zero = inr (omega arith)
                    split zero (suc b) = inl (omega arith)
                    split (suc a) (suc b) = ⊎_elim (λ (k : a < b). inl (omega arith)) (λ (k : b ≤ a). inr (omega arith)) (split a b)

    here : x ≡ y → (((p : ℕ) → times p xs ≡ times p ys) → xs ≡ ys) → x ∷ xs ≡ y ∷ ys
    here q rest = ap (λ z. z ∷ xs) q ∙ ap (λ zs. y ∷ zs) (rest (λ p. (let b : one_if (nat_eq x p) + times p xs ≡ one_if (nat_eq y p) + times p ys = e p in let c : one_if (nat_eq x p) ≡ one_if (nat_eq y p) = ap (λ z. one_if (nat_eq z p)) q in omega arith)))

each-firsts : (P : ℕ → Type 0) (n : ℕ) (xs : List ℕ) → Each P xs → Each P (firsts n xs)
each-firsts P n [] h = tt
each-firsts P zero (x ∷ xs) h = tt
each-firsts P (suc n) (x ∷ xs) h = (h.0, each-firsts P n xs h.1)

rising-firsts : (n : ℕ) (xs : List ℕ) → IsRising xs → IsRising (firsts n xs)
rising-firsts n [] r = tt
rising-firsts zero (x ∷ xs) r = tt
rising-firsts (suc n) (x ∷ xs) r = (each-firsts (λ y. x < y) n xs r.0, rising-firsts n xs r.1)

rising-rests : (n : ℕ) (xs : List ℕ) → IsRising xs → IsRising (rests n xs)
rising-rests n [] r = tt
rising-rests zero (x ∷ xs) r = r
rising-rests (suc n) (x ∷ xs) r = rising-rests n xs r.1

both_parts : (n : ℕ) (xs : List ℕ) → firsts n xs ++ rests n xs ≡ xs
both_parts n [] = refl
both_parts zero (x ∷ xs) = refl
both_parts (suc n) (x ∷ xs) = ap (λ z. x ∷ z) (both_parts n xs)

module _ (k p : ℕ) where
  abbrev is_p : ℕ → ℕ
  is_p q = one_if (nat_eq q p)

  pub times-inside : (xs : List ℕ) → times p (places_in k xs) ≡ total (inside k (λ q. one_if (nat_eq q p))) xs
  times-inside [] = refl
  times-inside (x ∷ xs) = go (in_block k x) (times-inside xs)
    where
      go : (b : Bool) → times p (places_in k xs) ≡ total (inside k (λ q. one_if (nat_eq q p))) xs → times p (cond b (x ∷ places_in k xs) (places_in k xs)) ≡ cond b (one_if (nat_eq x p)) 0 + total (inside k (λ q. one_if (nat_eq q p))) xs
      go true e = ap (λ n. one_if (nat_eq x p) + n) e
      go false e = omega arith

  first-times : (n : ℕ) (cs : List Copy) → Each (λ (c : Copy). in_block k c.place ≡ true) cs → times p (firsts n (map (λ (c : Copy). c.place) cs)) ≡ front_total (λ (c : Copy). inside k (λ q. one_if (nat_eq q p)) c.place) n cs
  first-times n [] h = refl
  first-times zero (c ∷ cs) h = refl
  first-times (suc n) (c ∷ cs) h =
      let r : times p (firsts n (map (λ (c : Copy). c.place) cs)) ≡ front_total (λ (c : Copy). inside k (λ q. one_if (nat_eq q p)) c.place) n cs = first-times n cs h.1 in
      let a : inside k (λ q. one_if (nat_eq q p)) c.place ≡ one_if (nat_eq c.place p) = ap (λ b. cond b (one_if (nat_eq c.place p)) 0) h.0 in
      omega arith

  pub all-times : (cs : List Copy) → Each (λ (c : Copy). in_block k c.place ≡ true) cs → times p (map (λ (c : Copy). c.place) cs) ≡ total (λ (c : Copy). inside k (λ q. one_if (nat_eq q p)) c.place) cs
  all-times [] h = refl
  all-times (c ∷ cs) h =
      let r : times p (map (λ (c : Copy). c.place) cs) ≡ total (λ (c : Copy). inside k (λ q. one_if (nat_eq q p)) c.place) cs = all-times cs h.1 in
      let a : inside k (λ q. one_if (nat_eq q p)) c.place ≡ one_if (nat_eq c.place p) = ap (λ b. cond b (one_if (nat_eq c.place p)) 0) h.0 in
      omega arith

  rest-times : (n : ℕ) (cs : List Copy) → Each (λ (c : Copy). in_block k c.place ≡ true) cs → times p (rests n (map (λ (c : Copy). c.place) cs)) + front_total (λ (c : Copy). inside k (λ q. one_if (nat_eq q p)) c.place) n cs ≡ total (λ (c : Copy). inside k (λ q. one_if (nat_eq q p)) c.place) cs
  rest-times n [] h = refl
  rest-times zero (c ∷ cs) h =
      let r = rest-times zero cs h.1 in
      let z : times p (rests zero (map (λ (c : Copy). c.place) cs)) ≡ times p (map (λ (c : Copy). c.place) cs) = ap (times p) (all cs) in
      let y : front_total (λ (c : Copy). inside k (λ q. one_if (nat_eq q p)) c.place) zero cs ≡ 0 = none cs in
      let a : inside k (λ q. one_if (nat_eq q p)) c.place ≡ one_if (nat_eq c.place p) = ap (λ b. cond b (one_if (nat_eq c.place p)) 0) h.0 in
      omega arith
    where
      all : (cs : List Copy) → rests zero (map (λ (c : Copy). c.place) cs) ≡ map (λ (c : Copy). c.place) cs
      all [] = refl
      all (c ∷ cs) = refl

      none : (cs : List Copy) → front_total (λ (c : Copy). inside k (λ q. one_if (nat_eq q p)) c.place) zero cs ≡ 0
      none [] = refl
      none (c ∷ cs) = refl
  rest-times (suc n) (c ∷ cs) h =
      let r = rest-times n cs h.1 in
      omega arith

module _ (setting : Setting) (small_blocks : setting.block_words ≤ 65536) where
  all_from : (number destination offset low : ℕ) (cs : List Copy) → low < small_word number offset → LaidFrom setting number destination offset cs → Each (λ x. low < x) (map (λ (c : Copy). c.place) cs)
  all_from number destination offset low [] l h = tt
  all_from number destination offset low (c ∷ cs) l h = let e : c.place ≡ small_word number offset = h.0.place in (omega arith, all_from number destination (offset + words_of setting c.name) low cs (omega arith) h.1)

  pub rise_from : (number destination offset : ℕ) (cs : List Copy) → LaidFrom setting number destination offset cs → IsRising (map (λ (c : Copy). c.place) cs)
  rise_from number destination offset [] h = tt
  rise_from number destination offset (c ∷ cs) h =
      let e : c.place ≡ small_word number offset = h.0.place in
      let w : 0 < words_of setting c.name = h.0.has_words in
      (all_from number destination (offset + words_of setting c.name) c.place cs (omega arith) h.1, rise_from number destination (offset + words_of setting c.name) cs h.1)

  pub in_own : (b : Block) → Laid setting b → Each (λ (c : Copy). in_block b.number c.place ≡ true) b.copies
  in_own b l =
      let w : words_in setting b.copies ≤ setting.block_words = l.within in
      Each-map (λ (c : Copy). (o : ℕ) × ((o < 65536) × (c.place ≡ small_word b.number o))) (λ (c : Copy). in_block b.number c.place ≡ true)
      (λ c x. (let lt : x.0 < 65536 = x.1.0 in let p : c.place ≡ small_word b.number x.0 = x.1.1 in eq-eqb (c.place / 65536) (b.number + 1) (omega arith)))
      b.copies (laid-each setting b.number b.destination 0 b.copies l.from (omega arith))

pub go_on : (setting : Setting) (f : ℕ → Option ℕ) (parts : List Part) → Joined setting f parts → setting.block_words ≤ 65536 → AreFresh setting parts → ((t : ℕ) (part : Part) → slice_get parts t ≡ Some part → TurnRun setting t part) → GoOn parts
go_on setting f parts j small_blocks fresh turns v i taker block there taken from ne =
    record { rise = rise; first = first; second = second; together = ap (λ z. z ++ places_in block.number taker.final.scanned) first ∙ ap (λ z. firsts block.front (places_of block) ++ z) second ∙ both_parts block.front (places_of block) }
  where
    laid : Laid setting block
    laid = Each-at (Laid setting) taker.history.taken i block taken (taken_laid setting f parts j small_blocks fresh taker (Each-at (λ (q : Part). Each (WasExported parts) q.history.taken) parts v taker there j.taken))

    handed : HandedOn block from.part taker
    handed = handed_on setting f parts j small_blocks fresh v i taker block there taken from ne

    drawn : 0 < draws_of block.number parts
    drawn =
        let o : one_if (nat_eq block.number block.number) ≡ 1 = ap one_if (eq-eqb block.number block.number refl) in
        let s : is_it setting block.number block ≡ is_it setting block.number from.sent = ap (is_it setting block.number) from.same in
        let m : is_it setting block.number from.sent ≤ total (is_it setting block.number) from.part.history.exported = member-le (is_it setting block.number) from.part.history.exported from.i from.sent from.there in
        let x = own_exports setting f parts j small_blocks fresh block.number from.part (ran setting f parts j small_blocks fresh from.u from.part from.exporter) in
        let y : times block.number from.part.history.drawn ≤ draws_of block.number parts = member-le (λ (q : Part). times block.number q.history.drawn) parts from.u from.part from.exporter in
        omega arith

    rise : IsRising (places_of block)
    rise = rise_from setting small_blocks block.number block.destination 0 block.copies laid.from

    inner : Each (λ (c : Copy). in_block block.number c.place ≡ true) block.copies
    inner = in_own setting small_blocks block laid

    first : places_in block.number from.part.final.scanned ≡ firsts block.front (places_of block)
    first =
        same_rising _ _ (part_rising setting f parts j small_blocks fresh block.number drawn from.u from.part from.exporter (turns from.u from.part from.exporter)) (rising-firsts block.front (places_of block) rise)
        (λ p. times-inside block.number p from.part.final.scanned ∙ handed.before (λ q. one_if (nat_eq q p)) ∙ sym (first-times block.number p block.front block.copies inner))

    second : places_in block.number taker.final.scanned ≡ rests block.front (places_of block)
    second =
        same_rising _ _ (part_rising setting f parts j small_blocks fresh block.number drawn v taker there (turns v taker there)) (rising-rests block.front (places_of block) rise)
        (λ p. times-inside block.number p taker.final.scanned
        ∙ (let a = handed.after (λ q. one_if (nat_eq q p)) in let b = rest-times block.number p block.front block.copies inner in omega arith))
