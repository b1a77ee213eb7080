-- What a worker won stands in blocks that it drew.
use Rattle.std.proofs.Common.{◌≡◌, ℕ, ◌+◌, ◌/◌, ◌<◌, ◌≤◌, Bool, true, false, zero, suc, List, [], ◌∷◌, ◌++◌, Option, Some, refl, ap, ◌⊎◌, inl, inr, set, arith, nat_eq, eqb-true, eq-eqb, leb-true}
use Rattle.workers.specs.Block.{Block, Copy, used_words, empty_block, updated, with_field, with_copy, with_front_moved}
use Rattle.layout.specs.Place.{small_word}
use Rattle.workers.specs.Setting.{Setting, is_large_name, words_of}
use Rattle.workers.specs.Worker.{Worker, allocation_at}
use Rattle.workers.specs.WorkerRun.{History}
use Rattle.workers.specs.Total.{total, one_if, times}
use Rattle.workers.specs.Ordered.{in_block}
use Rattle.workers.proofs.Lists.{at, mapped, none-some}
use Rattle.workers.proofs.Totals.{total-push, of_some, total-set_some, total-set_none, total-updated_some}
use Rattle.workers.proofs.Moves.{Move, Moves, none, more, writes_open, draws, retires_open, retires_aside, retires_done, copies, claims, scans_open_more, scans_open_last, exports}
use Rattle.workers.proofs.Laid.{words-positive}

pub at-le : {A : Type 0} (f : A → ℕ) (xs : List (Option A)) (d : ℕ) (b : A) → at xs d ≡ Some b → f b ≤ total (of_some f) xs
at-le f [] d b e = absurd (none-some e)
at-le f (x ∷ xs) zero b e = let q : of_some f x ≡ f b = ap (of_some f) e in omega arith
at-le f (x ∷ xs) (suc d) b e = let h : f b ≤ total (of_some f) xs = at-le f xs d b e in omega arith

module _ (setting : Setting) where
  -- own blocks that never were in hand weigh no more than what was won and drawn
  module _ (φ : Block → ℕ) (pair : ℕ × ℕ → ℕ) (number : ℕ → ℕ)
      (of_empty : (n d : ℕ) → φ (empty_block n d) ≡ number n)
      (of_field : (i : ℕ) (v : Option ℕ) (b : Block) → φ (with_field i v b) ≡ φ b)
      (of_copy : (c : Copy) (b : Block) → φ (with_copy c b) ≡ φ b + pair (c.name, c.place))
      (of_moved : (b : Block) → φ (with_front_moved b) ≡ φ b) where
    abbrev pub owned : Worker → History → ℕ
    owned w h = total (of_some φ) w.allocation + total φ w.aside + total φ h.exported

    abbrev pub gained : Worker → History → ℕ
    gained w h = total pair w.won + total number h.drawn

    retires : (w : Worker) (h : History) (d n : ℕ) (b : Block) → allocation_at w d ≡ Some b → owned w h ≤ gained w h
        → total (of_some φ) (set w.allocation d (Some (empty_block n d))) + φ b + total φ w.aside + total φ h.exported ≤ total pair w.won + total number (h.drawn ++ n ∷ [])
    retires w h d n b a k =
        let x : total (of_some φ) (set w.allocation d (Some (empty_block n d))) + φ b ≡ total (of_some φ) w.allocation + φ (empty_block n d) = total-set_some φ w.allocation d b (empty_block n d) a in
        let y : φ (empty_block n d) ≡ number n = of_empty n d in
        let z : total number (h.drawn ++ n ∷ []) ≡ total number h.drawn + number n = total-push number h.drawn n in
        omega arith

    moved : (w : Worker) (h : History) (d : ℕ) (b : Block) → allocation_at w d ≡ Some b → owned w h ≤ gained w h
        → total (of_some φ) (set w.allocation d (Some (with_front_moved b))) + total φ w.aside + total φ h.exported ≤ gained w h
    moved w h d b a k =
        let x : total (of_some φ) (set w.allocation d (Some (with_front_moved b))) + φ b ≡ total (of_some φ) w.allocation + φ (with_front_moved b) = total-set_some φ w.allocation d b (with_front_moved b) a in
        let y : φ (with_front_moved b) ≡ φ b = of_moved b in
        omega arith

    move_owned : {w w' : Worker} {h h' : History} → Move setting w h w' h' → owned w h ≤ gained w h → owned w' h' ≤ gained w' h'
    move_owned {w = w} {h = h} (writes_open d b c o v e a r s q) k =
        let x : total (of_some φ) (updated (mapped (with_field w.fields v)) w.allocation d) + φ b ≡ total (of_some φ) w.allocation + φ (with_field w.fields v b) = total-updated_some φ (with_field w.fields v) w.allocation d b a in
        let y : φ (with_field w.fields v b) ≡ φ b = of_field w.fields v b in
        omega arith
    move_owned {w = w} {h = h} (draws d n a r) k =
        let x : total (of_some φ) (set w.allocation d (Some (empty_block n d))) ≡ total (of_some φ) w.allocation + φ (empty_block n d) = total-set_none φ w.allocation d (empty_block n d) a r in
        let y : φ (empty_block n d) ≡ number n = of_empty n d in
        let z : total number (h.drawn ++ n ∷ []) ≡ total number h.drawn + number n = total-push number h.drawn n in
        omega arith
    move_owned {w = w} {h = h} (retires_open d n b a p fu) k = let r = retires w h d n b a k in omega arith
    move_owned {w = w} {h = h} (retires_aside d n b a ne u fu) k =
        let r = retires w h d n b a k in
        let i : total φ (w.aside ++ b ∷ []) ≡ total φ w.aside + φ b = total-push φ w.aside b in
        omega arith
    move_owned {w = w} {h = h} (retires_done d n b a ne u fu) k = let r = retires w h d n b a k in omega arith
    move_owned {w = w} {h = h} (copies d b c rest a i q l z yc to) k =
        let x : total (of_some φ) (updated (mapped (with_copy c)) w.allocation d) + φ b ≡ total (of_some φ) w.allocation + φ (with_copy c b) = total-updated_some φ (with_copy c) w.allocation d b a in
        let y : φ (with_copy c b) ≡ φ b + pair (c.name, c.place) = of_copy c b in
        let m : total pair (w.won ++ (c.name, c.place) ∷ []) ≡ total pair w.won + pair (c.name, c.place) = total-push pair w.won (c.name, c.place) in
        omega arith
    move_owned {w = w} {h = h} (claims n rest q l) k =
        let m : total pair (w.won ++ (n, n) ∷ []) ≡ total pair w.won + pair (n, n) = total-push pair w.won (n, n) in
        omega arith
    move_owned {w = w} {h = h} (scans_open_more d b c p a r s u) k = moved w h d b a k
    move_owned {w = w} {h = h} (scans_open_last d b c p a r s u) k = moved w h d b a k
    move_owned {w = w} {h = h} (exports b bs p) k =
        let x : total φ w.aside ≡ φ b + total φ bs = ap (total φ) p in
        let y : total φ (h.exported ++ b ∷ []) ≡ total φ h.exported + φ b = total-push φ h.exported b in
        omega arith
    move_owned _ k = k

    pub moves_owned : {s : Worker} {k : History} {w : Worker} {h : History} → Moves setting s k w h → owned s k ≤ gained s k → owned w h ≤ gained w h
    moves_owned none k = k
    moves_owned (more ms m) k = move_owned m (moves_owned ms k)

  -- numbers of own blocks were drawn
  module _ (k : ℕ) where
    abbrev pub is_it : Block → ℕ
    is_it b = one_if (nat_eq b.number k)

    abbrev pub OwnDrawn : Worker → History → Type 0
    OwnDrawn w h = total (of_some is_it) w.allocation + total is_it w.aside + total is_it h.exported ≤ total (λ (q : ℕ × ℕ). 0) w.won + times k h.drawn

    pub own_drawn : {s : Worker} {j : History} {w : Worker} {h : History} → Moves setting s j w h → OwnDrawn s j → OwnDrawn w h
    own_drawn ms z = moves_owned is_it (λ q. 0) (λ n. one_if (nat_eq n k)) (λ n d. refl) (λ i v b. refl) (λ c b. omega arith) (λ b. refl) ms z

    -- who won a place in that block drew it
    module _ (small_blocks : setting.block_words ≤ 65536) (no_large : (n : ℕ) → is_large_name setting n ≡ true → in_block k n ≡ false) where
      abbrev pub won_in : Worker → ℕ
      won_in w = total (λ (q : ℕ × ℕ). one_if (in_block k q.1)) w.won

      abbrev pub WinnerDrew : Worker → History → Type 0
      WinnerDrew w h = (won_in w ≡ 0) ⊎ (0 < times k h.drawn)

      drew_more : (w : Worker) (h : History) (n : ℕ) → WinnerDrew w h → (won_in w ≡ 0) ⊎ (0 < times k (h.drawn ++ n ∷ []))
      drew_more w h n (inl z) = inl z
      drew_more w h n (inr l) = let p : times k (h.drawn ++ n ∷ []) ≡ times k h.drawn + one_if (nat_eq n k) = total-push (λ x. one_if (nat_eq x k)) h.drawn n in inr (omega arith)

      zero_sum : (total_won x : ℕ) (w : Worker) (h : History) → WinnerDrew w h → total_won ≡ won_in w + x → x ≡ 0 → (total_won ≡ 0) ⊎ (0 < times k h.drawn)
      zero_sum t x w h (inl z) e y = inl (omega arith)
      zero_sum t x w h (inr l) e y = inr l

      total-won_zero : (xs : List (ℕ × ℕ)) → total (λ (q : ℕ × ℕ). 0) xs ≡ 0
      total-won_zero [] = refl
      total-won_zero (x ∷ xs) = let h : total (λ (q : ℕ × ℕ). 0) xs ≡ 0 = total-won_zero xs in omega arith

      move_drew : {w w' : Worker} {h h' : History} → Move setting w h w' h' → OwnDrawn w h → WinnerDrew w h → WinnerDrew w' h'
      move_drew {w = w} {h = h} (draws d n a r) o k = drew_more w h n k
      move_drew {w = w} {h = h} (retires_open d n b a p fu) o k = drew_more w h n k
      move_drew {w = w} {h = h} (retires_aside d n b a ne u fu) o k = drew_more w h n k
      move_drew {w = w} {h = h} (retires_done d n b a ne u fu) o k = drew_more w h n k
      move_drew {w = w} {h = h} (claims n rest q l) o k = zero_sum _ _ w h k (total-push (λ (q : ℕ × ℕ). one_if (in_block _ q.1)) w.won (n, n)) (ap one_if (no_large n l))
      move_drew {w = w} {h = h} (copies d b c rest a i q l z yc to) o y = go (in_block k c.place) refl
        where
          m : total (λ (q : ℕ × ℕ). one_if (in_block k q.1)) (w.won ++ (c.name, c.place) ∷ []) ≡ won_in w + one_if (in_block k c.place)
          m = total-push (λ (q : ℕ × ℕ). one_if (in_block k q.1)) w.won (c.name, c.place)

          go : (x : Bool) → in_block k c.place ≡ x → (total (λ (q : ℕ × ℕ). one_if (in_block k q.1)) (w.won ++ (c.name, c.place) ∷ []) ≡ 0) ⊎ (0 < times k h.drawn)
          go false e = zero_sum _ _ w h y m (ap one_if e)
          go true e =
              let at_end : c.place ≡ small_word b.number (used_words b) = ap (λ (x : Copy). x.place) i in
              let fit : used_words b + words_of setting c.name ≤ setting.block_words = leb-true _ _ z in
              let some : 0 < words_of setting c.name = words-positive setting c.name yc in
              let there : c.place / 65536 ≡ k + 1 = eqb-true _ _ e in
              let n : b.number ≡ k = omega arith in
              let one : one_if (nat_eq b.number k) ≡ 1 = ap one_if (eq-eqb b.number k n) in
              let le : is_it b ≤ total (of_some is_it) w.allocation = at-le is_it w.allocation d b a in
              let zero_won = total-won_zero w.won in
              inr (omega arith)
      move_drew _ o k = k

      pub moves_drew : {s : Worker} {j : History} {w : Worker} {h : History} → Moves setting s j w h → OwnDrawn s j → WinnerDrew s j → WinnerDrew w h
      moves_drew none o k = k
      moves_drew (more ms m) o k = move_drew m (own_drawn ms o) (moves_drew ms o k)
