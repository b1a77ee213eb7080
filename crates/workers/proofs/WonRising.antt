-- The places in one block that a worker won rise.
use Rattle.std.proofs.Common.{◌≡◌, ◌≢◌, ℕ, zero, suc, ◌+◌, ◌/◌, ◌<◌, ◌≤◌, Bool, true, false, List, [], ◌∷◌, ◌++◌, Option, Some, None, refl, sym, ap, subst, ◌∙◌, inl, inr, ⊎_elim, set, length, map, cond, arith, nat_eq, eqb-true, eq-eqb, leb-true, append-nil}
use Rattle.std.proofs.lemmas.Bool.{cases_eq}
use Rattle.workers.specs.Block.{Block, Copy, used_words, copy_words, empty_block, updated, with_field, with_copy, with_front_moved}
use Rattle.layout.specs.Place.{small_word}
use Rattle.workers.specs.Setting.{Setting, is_large_name, words_of}
use Rattle.workers.specs.Worker.{Worker}
use Rattle.workers.specs.WorkerRun.{History, no_history}
use Rattle.workers.specs.Total.{total, one_if, times}
use Rattle.workers.specs.Joined.{Each, OnSome, Part}
use Rattle.workers.specs.Refused.{HasBegun}
use Rattle.workers.specs.Ordered.{in_block, places_in, IsRising}
use Rattle.workers.proofs.Lists.{Each-append, Each-map, none-some, at, mapped, at-none, at-updated_same, at-updated_other, length-set_any, set-at, updated-at}
use Rattle.workers.proofs.Totals.{total-push, total-updated_same, of_some}
use Rattle.workers.proofs.Moves.{Move, Moves, none, more, writes_open, draws, retires_open, retires_aside, retires_done, copies, claims, scans_open_more, scans_open_last}
use Rattle.workers.proofs.Laid.{sum_by-total, words-positive}
use Rattle.workers.proofs.Owners.{at-le, is_it, OwnDrawn, own_drawn, WinnerDrew, moves_drew}
use Rattle.workers.proofs.OnePart.{total-zero, total-none}
use Rattle.workers.proofs.Space.{moves}
use Rattle.workers.proofs.TakenLists.{rising-push}

-- two that stand in a list both count
both-le : {A : Type 0} (f : A → ℕ) (xs : List (Option A)) (d e : ℕ) (b c : A) → d ≢ e → at xs d ≡ Some b → at xs e ≡ Some c → f b + f c ≤ total (of_some f) xs
both-le f [] d e b c n p q = absurd (none-some p)
both-le f (x ∷ xs) zero zero b c n p q = absurd (n refl)
both-le f (x ∷ xs) zero (suc e) b c n p q = let a : of_some f x ≡ f b = ap (of_some f) p in let h : f c ≤ total (of_some f) xs = at-le f xs e c q in omega arith
both-le f (x ∷ xs) (suc d) zero b c n p q = let a : of_some f x ≡ f c = ap (of_some f) q in let h : f b ≤ total (of_some f) xs = at-le f xs d b p in omega arith
both-le f (x ∷ xs) (suc d) (suc e) b c n p q = let h : f b + f c ≤ total (of_some f) xs = both-le f xs d e b c (λ r. n (ap suc r)) p q in omega arith

field-used : (i : ℕ) (v : Option ℕ) (b : Block) → used_words (with_field i v b) ≡ used_words b
field-used i v b =
    sum_by-total copy_words (with_field i v b).copies
    ∙ total-updated_same copy_words (λ copy. record copy { pointers = set copy.pointers i v }) (λ c. ap (λ n. 1 + n + length c.plain) (length-set_any c.pointers i v)) b.copies b.front
    ∙ sym (sum_by-total copy_words b.copies)

copy-used : (c : Copy) (b : Block) → used_words (with_copy c b) ≡ used_words b + copy_words c
copy-used c b = sum_by-total copy_words (b.copies ++ c ∷ []) ∙ total-push copy_words b.copies c ∙ ap (λ n. n + copy_words c) (sym (sum_by-total copy_words b.copies))

module _ (k : ℕ) where
  abbrev pub won_places : List (ℕ × ℕ) → List ℕ
  won_places won = places_in k (map (λ (q : ℕ × ℕ). q.1) won)

  won-push : (won : List (ℕ × ℕ)) (name place : ℕ) → won_places (won ++ (name, place) ∷ []) ≡ won_places won ++ cond (in_block k place) (place ∷ []) []
  won-push [] name place = refl
  won-push (q ∷ won) name place = go (in_block k q.1) (won-push won name place)
    where
      go : (b : Bool) → won_places (won ++ (name, place) ∷ []) ≡ won_places won ++ cond (in_block k place) (place ∷ []) []
          → cond b (q.1 ∷ won_places (won ++ (name, place) ∷ [])) (won_places (won ++ (name, place) ∷ [])) ≡ cond b (q.1 ∷ won_places won) (won_places won) ++ cond (in_block k place) (place ∷ []) []
      go true h = ap (λ z. q.1 ∷ z) h
      go false h = h

  -- where none was won there are none
  pub no_places : (won : List (ℕ × ℕ)) → total (λ (q : ℕ × ℕ). one_if (in_block k q.1)) won ≡ 0 → won_places won ≡ []
  no_places [] z = refl
  no_places (q ∷ won) z = go (in_block k q.1) refl (no_places won (omega arith))
    where
      go : (b : Bool) → in_block k q.1 ≡ b → won_places won ≡ [] → cond b (q.1 ∷ won_places won) (won_places won) ≡ []
      go true e h = let o : one_if (in_block k q.1) ≡ 1 = ap one_if e in absurd (omega arith)
      go false e h = h

  -- these places lie before the end of that block
  abbrev AreBefore : List ℕ → Block → Type 0
  AreBefore places b = b.number ≡ k → Each (λ p. p < small_word k (used_words b)) places

  record Rises (w : Worker) : Type 0 where
    rising : IsRising (won_places w.won)
    before : (d : ℕ) → OnSome (AreBefore (won_places w.won)) (at w.allocation d)

module _ (setting : Setting) (k : ℕ) (small_blocks : setting.block_words ≤ 65536) (no_large : (n : ℕ) → is_large_name setting n ≡ true → in_block k n ≡ false) where
  drawn-grows : {w w' : Worker} {h h' : History} → Move setting w h w' h' → times k h.drawn ≤ times k h'.drawn
  drawn-grows {h = h} (draws d n a r) = let p : times k (h.drawn ++ n ∷ []) ≡ times k h.drawn + one_if (nat_eq n k) = total-push (λ x. one_if (nat_eq x k)) h.drawn n in omega arith
  drawn-grows {h = h} (retires_open d n b a p fu) = let p : times k (h.drawn ++ n ∷ []) ≡ times k h.drawn + one_if (nat_eq n k) = total-push (λ x. one_if (nat_eq x k)) h.drawn n in omega arith
  drawn-grows {h = h} (retires_aside d n b a ne u fu) = let p : times k (h.drawn ++ n ∷ []) ≡ times k h.drawn + one_if (nat_eq n k) = total-push (λ x. one_if (nat_eq x k)) h.drawn n in omega arith
  drawn-grows {h = h} (retires_done d n b a ne u fu) = let p : times k (h.drawn ++ n ∷ []) ≡ times k h.drawn + one_if (nat_eq n k) = total-push (λ x. one_if (nat_eq x k)) h.drawn n in omega arith
  drawn-grows _ = omega arith

  -- a newly drawn block is empty, and nothing was won in it
  new_block : (w : Worker) (h : History) (d n : ℕ) → times k (h.drawn ++ n ∷ []) ≤ 1 → WinnerDrew setting k small_blocks no_large w h → Rises k w → (e : ℕ) → OnSome (AreBefore k (won_places k w.won)) (at (set w.allocation d (Some (empty_block n d))) e)
  new_block w h d n once drew r =
      set-at (λ e b. AreBefore k (won_places k w.won) b) w.allocation d (empty_block n d)
      (λ (q : n ≡ k). subst (Each (λ p. p < small_word k 0)) (sym (no_places k w.won (nothing q drew))) tt) r.before
    where
      nothing : n ≡ k → WinnerDrew setting k small_blocks no_large w h → total (λ (q : ℕ × ℕ). one_if (in_block k q.1)) w.won ≡ 0
      nothing q (inl z) = z
      nothing q (inr l) =
          let p : times k (h.drawn ++ n ∷ []) ≡ times k h.drawn + one_if (nat_eq n k) = total-push (λ x. one_if (nat_eq x k)) h.drawn n in
          let o : one_if (nat_eq n k) ≡ 1 = ap one_if (eq-eqb n k q) in
          absurd (omega arith)

  -- an allocation block whose number and length stay
  same_length : (w : Worker) (d : ℕ) (b b' : Block) → at w.allocation d ≡ Some b → b'.number ≡ b.number → used_words b ≤ used_words b' → Rises k w → AreBefore k (won_places k w.won) b'
  same_length w d b b' a n u r q =
      let l : AreBefore k (won_places k w.won) b = subst (OnSome (AreBefore k (won_places k w.won))) a (r.before d) in
      Each-map (λ p. p < small_word k (used_words b)) (λ p. p < small_word k (used_words b')) (λ p x. omega arith) (won_places k w.won) (l (sym n ∙ q))

  move_rises : {w w' : Worker} {h h' : History} → Move setting w h w' h' → OwnDrawn setting k w h → WinnerDrew setting k small_blocks no_large w h → times k h'.drawn ≤ 1 → Rises k w → Rises k w'
  move_rises {w = w} (writes_open d b c o v e a r s q) own drew once k' = record {
    rising = k'.rising;
    before = updated-at (λ e x. AreBefore k (won_places k w.won) x) w.allocation d b (with_field w.fields v) a (same_length w d b (with_field w.fields v b) a refl (let u = field-used w.fields v b in omega arith) k') k'.before;
  }
  move_rises {w = w} {h = h} (draws d n a r) own drew once k' = record { rising = k'.rising; before = new_block w h d n once drew k' }
  move_rises {w = w} {h = h} (retires_open d n b a p fu) own drew once k' = record { rising = k'.rising; before = new_block w h d n once drew k' }
  move_rises {w = w} {h = h} (retires_aside d n b a ne u fu) own drew once k' = record { rising = k'.rising; before = new_block w h d n once drew k' }
  move_rises {w = w} {h = h} (retires_done d n b a ne u fu) own drew once k' = record { rising = k'.rising; before = new_block w h d n once drew k' }
  move_rises {w = w} (scans_open_more d b c p a r s u) own drew once k' = record { rising = k'.rising; before = set-at (λ e x. AreBefore k (won_places k w.won) x) w.allocation d (with_front_moved b) (same_length w d b (with_front_moved b) a refl (omega arith) k') k'.before }
  move_rises {w = w} (scans_open_last d b c p a r s u) own drew once k' = record { rising = k'.rising; before = set-at (λ e x. AreBefore k (won_places k w.won) x) w.allocation d (with_front_moved b) (same_length w d b (with_front_moved b) a refl (omega arith) k') k'.before }
  move_rises {w = w} (claims n rest q l) own drew once k' =
      let e : won_places k w.won ≡ won_places k (w.won ++ (n, n) ∷ []) = sym (won-push k w.won n n ∙ ap (λ x. won_places k w.won ++ cond x (n ∷ []) []) (no_large n l) ∙ append-nil (won_places k w.won)) in
      record { rising = subst IsRising e k'.rising; before = λ d. subst (λ ps. OnSome (AreBefore k ps) (at w.allocation d)) e (k'.before d) }
  move_rises {w = w} {h = h} (copies d b c rest a i q l z yc to) own drew once k' = go (in_block k c.place) refl
    where
      after : List (Option Block)
      after = updated (mapped (with_copy c)) w.allocation d

      go : (x : Bool) → in_block k c.place ≡ x → Rises k (record w { allocation = updated (mapped (with_copy c)) w.allocation d; won = w.won ++ (c.name, c.place) ∷ [] })
      go false n =
          let e : won_places k w.won ≡ won_places k (w.won ++ (c.name, c.place) ∷ []) = sym (won-push k w.won c.name c.place ∙ ap (λ x. won_places k w.won ++ cond x (c.place ∷ []) []) n ∙ append-nil (won_places k w.won)) in
          record {
            rising = subst IsRising e k'.rising;
            before = λ f. subst (λ ps. OnSome (AreBefore k ps) (at (updated (mapped (with_copy c)) w.allocation d) f)) e
                (updated-at (λ e x. AreBefore k (won_places k w.won) x) w.allocation d b (with_copy c) a (same_length w d b (with_copy c b) a refl (let u = copy-used c b in omega arith) k') k'.before f);
          }
      go true n =
          record {
            rising = subst IsRising pushed (rising-push (won_places k w.won) c.place k'.rising old);
            before = λ f. subst (λ ps. OnSome (AreBefore k ps) (at (updated (mapped (with_copy c)) w.allocation d) f)) pushed (⊎_elim (λ (y : f ≡ d). here f y) (λ (y : f ≢ d). elsewhere f y (at w.allocation f) refl) (cases_eq f d));
          }
        where
          at_end : c.place ≡ small_word b.number (used_words b)
          at_end = ap (λ (x : Copy). x.place) i

          number : b.number ≡ k
          number =
              let fit : used_words b + words_of setting c.name ≤ setting.block_words = leb-true _ _ z in
              let some : 0 < words_of setting c.name = words-positive setting c.name yc in
              let there : c.place / 65536 ≡ k + 1 = eqb-true _ _ n in
              let e = at_end in
              omega arith

          pushed : won_places k w.won ++ c.place ∷ [] ≡ won_places k (w.won ++ (c.name, c.place) ∷ [])
          pushed = sym (won-push k w.won c.name c.place ∙ ap (λ x. won_places k w.won ++ cond x (c.place ∷ []) []) n)

          old : Each (λ p. p < c.place) (won_places k w.won)
          old =
              let l : AreBefore k (won_places k w.won) b = subst (OnSome (AreBefore k (won_places k w.won))) a (k'.before d) in
              let e = at_end in
              let m = number in
              Each-map (λ p. p < small_word k (used_words b)) (λ p. p < c.place) (λ p x. omega arith) (won_places k w.won) (l m)

          here : (f : ℕ) → f ≡ d → OnSome (AreBefore k (won_places k w.won ++ c.place ∷ [])) (at (updated (mapped (with_copy c)) w.allocation d) f)
          here f y =
              subst (λ g. OnSome (AreBefore k (won_places k w.won ++ c.place ∷ [])) (at (updated (mapped (with_copy c)) w.allocation d) g)) (sym y)
              (subst (OnSome (AreBefore k (won_places k w.won ++ c.place ∷ []))) (sym (at-updated_same (with_copy c) w.allocation d ∙ ap (mapped (with_copy c)) a))
              (λ (m : b.number ≡ k).
              let u = copy-used c b in
              let e = at_end in
              Each-append (λ p. p < small_word k (used_words (with_copy c b))) (won_places k w.won) (c.place ∷ [])
              (Each-map (λ p. p < c.place) (λ p. p < small_word k (used_words (with_copy c b))) (λ p x. omega arith) (won_places k w.won) old) (omega arith, tt)))

          elsewhere : (f : ℕ) → f ≢ d → (o : Option Block) → at w.allocation f ≡ o → OnSome (AreBefore k (won_places k w.won ++ c.place ∷ [])) (at (updated (mapped (with_copy c)) w.allocation d) f)
          elsewhere f y None e = subst (OnSome (AreBefore k (won_places k w.won ++ c.place ∷ []))) (sym (at-updated_other (with_copy c) w.allocation d f y ∙ e)) tt
          elsewhere f y (Some x) e =
              subst (OnSome (AreBefore k (won_places k w.won ++ c.place ∷ []))) (sym (at-updated_other (with_copy c) w.allocation d f y ∙ e))
              (λ (m : x.number ≡ k).
              let two : is_it setting k b + is_it setting k x ≤ total (of_some (is_it setting k)) w.allocation = both-le (is_it setting k) w.allocation d f b x (λ r. y (sym r)) a e in
              let o1 : one_if (nat_eq b.number k) ≡ 1 = ap one_if (eq-eqb b.number k number) in
              let o2 : one_if (nat_eq x.number k) ≡ 1 = ap one_if (eq-eqb x.number k m) in
              let v = total-zero w.won in
              absurd (omega arith))
  move_rises _ own drew once k' = record { rising = k'.rising; before = k'.before }

  moves_rise : {s : Worker} {j : History} {w : Worker} {h : History} → Moves setting s j w h → OwnDrawn setting k s j → WinnerDrew setting k small_blocks no_large s j → times k h.drawn ≤ 1 → Rises k s → Rises k w
  moves_rise none own drew once r = r
  moves_rise (more ms m) own drew once r =
      let g = drawn-grows m in
      move_rises m (own_drawn setting k ms own) (moves_drew setting k small_blocks no_large ms own drew) once (moves_rise ms own drew (omega arith) r)

  -- what a worker won in that block rises, and it is nothing where it didn't draw the block
  module _ (p : Part) (begun : HasBegun setting p) where
    own_start : OwnDrawn setting k p.start no_history
    own_start =
        let a = total-none (is_it setting k) p.start.allocation begun.opening.no_allocation in
        let b : total (is_it setting k) p.start.aside ≡ 0 = ap (total (is_it setting k)) begun.opening.no_aside in
        omega arith

    drew_start : WinnerDrew setting k small_blocks no_large p.start no_history
    drew_start = inl (ap (λ won. total (λ (q : ℕ × ℕ). one_if (in_block k q.1)) won) begun.opening.no_won)

    rises_start : Rises k p.start
    rises_start =
        record {
          rising = subst (λ won. IsRising (won_places k won)) (sym begun.opening.no_won) tt;
          before = λ d. subst (OnSome (AreBefore k (won_places k p.start.won))) (sym (at-none p.start.allocation begun.opening.no_allocation d)) tt;
        }

    pub won_rising : times k p.history.drawn ≤ 1 → IsRising (won_places k p.final.won)
    won_rising once = (moves_rise (moves setting p begun) own_start drew_start once rises_start).rising

    pub won_nothing : times k p.history.drawn ≡ 0 → won_places k p.final.won ≡ []
    won_nothing z =
        ⊎_elim (λ e. no_places k p.final.won e) (λ l. absurd (omega arith)) (moves_drew setting k small_blocks no_large (moves setting p begun) own_start drew_start)
