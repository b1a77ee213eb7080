-- What was taken is what was exported.
use Rattle.std.proofs.Common.{◌≡◌, ◌≢◌, ℕ, zero, suc, ◌+◌, ◌<◌, ◌≤◌, Bool, true, false, ◌&&◌, List, [], ◌∷◌, ◌++◌, Option, Some, refl, sym, ap, subst, ◌∙◌, cond, length, arith, nat_eq, eq-eqb, ne_eqb}
use Rattle.std.specs.Prelude.{slice_get}
use Rattle.workers.specs.Block.{Block}
use Rattle.workers.specs.Total.{total, one_if}
use Rattle.workers.specs.Joined.{Each, Part, WasExported, is_sent, deliveries}
use Rattle.workers.proofs.Lists.{none-some, Each-append, get-lt}
use Rattle.workers.proofs.Totals.{total-append, total-Each}

-- a sum over places
abbrev isum : {A : Type 0} → (ℕ → A → ℕ) → ℕ → List A → ℕ
isum g k [] = 0
isum g k (x ∷ xs) = g k x + isum g (suc k) xs

isum-zero : {A : Type 0} (g : ℕ → A → ℕ) (k : ℕ) (xs : List A) → ((i : ℕ) (y : A) → k ≤ i → g i y ≡ 0) → isum g k xs ≡ 0
isum-zero g k [] z = refl
isum-zero g k (x ∷ xs) z =
    let a : g k x ≡ 0 = z k x (omega arith) in
    let b : isum g (suc k) xs ≡ 0 = isum-zero g (suc k) xs (λ i y l. z i y (omega arith)) in
    omega arith

isum-pick : {A : Type 0} (g : ℕ → A → ℕ) (k j m : ℕ) (xs : List A) (x : A) → m ≡ k + j → slice_get xs j ≡ Some x → ((i : ℕ) (y : A) → i ≢ m → g i y ≡ 0) → isum g k xs ≡ g m x
isum-pick g k j m [] x e s z = absurd (none-some s)
isum-pick g k zero m (y ∷ xs) x e s z =
    let q : y ≡ x = cc in
    let p : k ≡ m = omega arith in
    let a : isum g (suc k) xs ≡ 0 = isum-zero g (suc k) xs (λ i u l. z i u (λ r. absurd (omega arith))) in
    let b : g k y ≡ g m x = ap (λ t. g t y) p ∙ ap (g m) q in
    omega arith
isum-pick g k (suc j) m (y ∷ xs) x e s z =
    let a : g k y ≡ 0 = z k y (λ r. absurd (omega arith)) in
    let b : isum g (suc k) xs ≡ g m x = isum-pick g (suc k) j m xs x (omega arith) s z in
    omega arith

isum-same : {A : Type 0} (g h : ℕ → A → ℕ) (k : ℕ) (xs : List A) → ((i j : ℕ) (x : A) → i ≡ k + j → slice_get xs j ≡ Some x → g i x ≡ h i x) → isum g k xs ≡ isum h k xs
isum-same g h k [] e = refl
isum-same g h k (x ∷ xs) e =
    let a : g k x ≡ h k x = e k 0 x (omega arith) refl in
    let b : isum g (suc k) xs ≡ isum h (suc k) xs = isum-same g h (suc k) xs (λ i j y q s. e i (suc j) y (omega arith) s) in
    omega arith

isum-sum : {A : Type 0} (g h : ℕ → A → ℕ) (k : ℕ) (xs : List A) → isum (λ i x. g i x + h i x) k xs ≡ isum g k xs + isum h k xs
isum-sum g h k [] = refl
isum-sum g h k (x ∷ xs) = let a : isum (λ i y. g i y + h i y) (suc k) xs ≡ isum g (suc k) xs + isum h (suc k) xs = isum-sum g h (suc k) xs in omega arith

isum-total : {A : Type 0} (f : A → ℕ) (k : ℕ) (xs : List A) → isum (λ i x. f x) k xs ≡ total f xs
isum-total f k [] = refl
isum-total f k (x ∷ xs) = ap (λ n. f x + n) (isum-total f (suc k) xs)

swap_sums : {A B : Type 0} (g : B → ℕ → A → ℕ) (k : ℕ) (xs : List A) (bs : List B) → total (λ b. isum (g b) k xs) bs ≡ isum (λ i x. total (λ b. g b i x) bs) k xs
swap_sums g k xs [] = sym (isum-zero (λ i x. 0) k xs (λ i y l. refl))
swap_sums g k xs (b ∷ bs) =
    let a : total (λ c. isum (g c) k xs) bs ≡ isum (λ i x. total (λ c. g c i x) bs) k xs = swap_sums g k xs bs in
    let s : isum (λ i x. g b i x + total (λ c. g c i x) bs) k xs ≡ isum (g b) k xs + isum (λ i x. total (λ c. g c i x) bs) k xs = isum-sum (g b) (λ i x. total (λ c. g c i x) bs) k xs in
    omega arith

module _ {B : Type 0} (h : B → Bool) (v : ℕ) where
  pub guarded-none : (bs : List B) → total (λ b. one_if (h b)) bs ≡ 0 → total (λ b. cond (h b) v 0) bs ≡ 0
  guarded-none [] e = refl
  guarded-none (b ∷ bs) e = go (h b) e (guarded-none bs)
    where
      go : (x : Bool) → one_if x + total (λ c. one_if (h c)) bs ≡ 0 → (total (λ c. one_if (h c)) bs ≡ 0 → total (λ c. cond (h c) v 0) bs ≡ 0) → cond x v 0 + total (λ c. cond (h c) v 0) bs ≡ 0
      go true e r = absurd (omega arith)
      go false e r = let a : total (λ c. cond (h c) v 0) bs ≡ 0 = r (omega arith) in omega arith

  pub guarded-once : (bs : List B) → total (λ b. one_if (h b)) bs ≡ 1 → total (λ b. cond (h b) v 0) bs ≡ v
  guarded-once [] e = absurd (omega arith)
  guarded-once (b ∷ bs) e = go (h b) e (guarded-once bs)
    where
      go : (x : Bool) → one_if x + total (λ c. one_if (h c)) bs ≡ 1 → (total (λ c. one_if (h c)) bs ≡ 1 → total (λ c. cond (h c) v 0) bs ≡ v) → cond x v 0 + total (λ c. cond (h c) v 0) bs ≡ v
      go true e r = let a : total (λ c. cond (h c) v 0) bs ≡ 0 = guarded-none bs (omega arith) in omega arith
      go false e r = let a : total (λ c. cond (h c) v 0) bs ≡ v = r (omega arith) in omega arith

abbrev all_taken : List Part → List Block
all_taken [] = []
all_taken (p ∷ ps) = p.history.taken ++ all_taken ps

total-taken : (f : Block → ℕ) (ps : List Part) → total f (all_taken ps) ≡ total (λ (p : Part). total f p.history.taken) ps
total-taken f [] = refl
total-taken f (p ∷ ps) =
    let a : total f (p.history.taken ++ all_taken ps) ≡ total f p.history.taken + total f (all_taken ps) = total-append f p.history.taken (all_taken ps) in
    let b : total f (all_taken ps) ≡ total (λ (q : Part). total f q.history.taken) ps = total-taken f ps in
    omega arith

Each-taken : (P : Block → Type 0) (ps : List Part) → Each (λ (p : Part). Each P p.history.taken) ps → Each P (all_taken ps)
Each-taken P [] h = tt
Each-taken P (p ∷ ps) h = Each-append P p.history.taken (all_taken ps) h.0 (Each-taken P ps h.1)

and-left : (a b : Bool) → a ≡ false → (a && b) ≡ false
and-left a b e = ap (λ x. x && b) e

module _ (parts : List Part) (taken : Each (λ (p : Part). Each (WasExported parts) p.history.taken) parts)
    (once : (u i : ℕ) (part : Part) → slice_get parts u ≡ Some part → i < length part.history.exported → total (λ (p : Part). deliveries u i p.history.taken) parts ≡ 1)
    (f : Block → ℕ) (blind : (x : Block) (label : Option (ℕ × ℕ)) → f (record x { sent = label }) ≡ f x) where
  -- the exports that a label picks
  abbrev picked : Option (ℕ × ℕ) → ℕ
  picked label = isum (λ u (p : Part). isum (λ i x. cond (is_sent u i label) (f x) 0) 0 p.history.exported) 0 parts

  picked-sent : (b : Block) → WasExported parts b → picked b.sent ≡ f b
  picked-sent b w = ap (λ (x : Block). picked x.sent) w.same ∙ outer ∙ sym (blind w.sent (Some (w.u, w.i))) ∙ ap f (sym w.same)
    where
      at_exporter : (u : ℕ) → u ≡ w.u → isum (λ i x. cond (nat_eq w.u u && nat_eq w.i i) (f x) 0) 0 w.part.history.exported ≡ f w.sent
      at_exporter u e =
          isum-pick (λ i x. cond (nat_eq w.u u && nat_eq w.i i) (f x) 0) 0 w.i w.i w.part.history.exported w.sent (omega arith) w.there
          (λ i y n. ap (λ t. cond (nat_eq w.u u && t) (f y) 0) (ne_eqb w.i i (λ q. n (sym q))) ∙ no_and (nat_eq w.u u) (f y))
          ∙ ap (λ t. cond (nat_eq w.u t && nat_eq w.i w.i) (f w.sent) 0) e
          ∙ ap (λ t. cond (t && nat_eq w.i w.i) (f w.sent) 0) (eq-eqb w.u w.u refl)
          ∙ ap (λ t. cond t (f w.sent) 0) (eq-eqb w.i w.i refl)
        where
          no_and : (a : Bool) (v : ℕ) → cond (a && false) v 0 ≡ 0
          no_and true v = refl
          no_and false v = refl

      outer : picked (Some (w.u, w.i)) ≡ f w.sent
      outer =
          isum-pick (λ u (p : Part). isum (λ i x. cond (nat_eq w.u u && nat_eq w.i i) (f x) 0) 0 p.history.exported) 0 w.u w.u parts w.part (omega arith) w.exporter
          (λ u p n. isum-zero (λ i x. cond (nat_eq w.u u && nat_eq w.i i) (f x) 0) 0 p.history.exported (λ i y l. ap (λ t. cond (t && nat_eq w.i i) (f y) 0) (ne_eqb w.u u (λ q. n (sym q)))))
          ∙ at_exporter w.u refl

  pub deliveries-total : total (λ (p : Part). total f p.history.taken) parts ≡ total (λ (p : Part). total f p.history.exported) parts
  deliveries-total =
      sym (total-taken f parts)
      ∙ total-Each f (λ (b : Block). picked b.sent) (WasExported parts) (λ b w. sym (picked-sent b w)) (all_taken parts) (Each-taken (WasExported parts) parts taken)
      ∙ swap_sums (λ (b : Block) u (p : Part). isum (λ i x. cond (is_sent u i b.sent) (f x) 0) 0 p.history.exported) 0 parts (all_taken parts)
      ∙ isum-same (λ u (p : Part). total (λ (b : Block). isum (λ i x. cond (is_sent u i b.sent) (f x) 0) 0 p.history.exported) (all_taken parts)) (λ u (p : Part). total f p.history.exported) 0 parts
      (λ u j p e s. swap_sums (λ (b : Block) i x. cond (is_sent u i b.sent) (f x) 0) 0 p.history.exported (all_taken parts)
      ∙ isum-same (λ i x. total (λ (b : Block). cond (is_sent u i b.sent) (f x) 0) (all_taken parts)) (λ i x. f x) 0 p.history.exported
      (λ i k x d t. guarded-once (λ (b : Block). is_sent u i b.sent) (f x) (all_taken parts)
      (total-taken (λ (b : Block). one_if (is_sent u i b.sent)) parts
      ∙ once u i p (subst (λ y. slice_get parts y ≡ Some p) (let q : j ≡ u = omega arith in q) s) (let l : k < length p.history.exported = get-lt p.history.exported k x t in omega arith)))
      ∙ isum-total f 0 p.history.exported)
      ∙ isum-total (λ (p : Part). total f p.history.exported) 0 parts
