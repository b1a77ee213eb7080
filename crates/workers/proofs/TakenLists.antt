-- Lists that grow at one place, and what was taken of whom.
use Rattle.std.proofs.Common.{◌≡◌, ◌≢◌, ℕ, zero, suc, ◌+◌, ◌<◌, ◌≤◌, ◌&&◌, Bool, true, false, List, [], ◌∷◌, ◌++◌, Some, refl, ap, subst, ◌∙◌, ⊎_elim, length, cond, arith, nat_eq, nat_lt, eq-eqb, ne_eqb, lt-ltb, le-ltb, ltb-true, ltb-false}
use Rattle.std.proofs.lemmas.Bool.{cases_eq}
use Rattle.std.specs.Prelude.{slice_get}
use Rattle.std.specs.Option.{option_map}
use Rattle.std.proofs.Math.Arith.{lt_of_le-ne}
use Rattle.workers.specs.Block.{updated}
use Rattle.workers.specs.Total.{total, one_if}
use Rattle.workers.specs.Joined.{Each}
use Rattle.workers.specs.Ordered.{IsRising, rests}
use Rattle.workers.proofs.Lists.{Each-append, none-some, get-updated}
use Rattle.workers.proofs.Totals.{total-push}
use Rattle.workers.proofs.Prefix.{member-le}
use Rattle.workers.specs.Taken.{takings, positions_of}

pub updated-same : {A : Type 0} (f : A → A) (xs : List A) (i : ℕ) (x : A) → slice_get xs i ≡ Some x → slice_get (updated f xs i) i ≡ Some (f x)
updated-same f xs i x e = get-updated f xs i ∙ ap (option_map f) e

pub updated-other : {A : Type 0} (f : A → A) (xs : List A) (i v : ℕ) → v ≢ i → slice_get (updated f xs i) v ≡ slice_get xs v
updated-other f [] i v n = refl
updated-other f (y ∷ xs) zero zero n = absurd (n refl)
updated-other f (y ∷ xs) zero (suc v) n = refl
updated-other f (y ∷ xs) (suc i) zero n = refl
updated-other f (y ∷ xs) (suc i) (suc v) n = updated-other f xs i v (λ q. n (ap suc q))

pub Each-updated_at : {A : Type 0} (P : A → Type 0) (f : A → A) (xs : List A) (i : ℕ) → ((x : A) → P x → P (f x)) → Each P xs → Each P (updated f xs i)
Each-updated_at P f [] i k h = tt
Each-updated_at P f (x ∷ xs) zero k h = (k x h.0, h.1)
Each-updated_at P f (x ∷ xs) (suc i) k h = (h.0, Each-updated_at P f xs i k h.1)

total-updated : {A : Type 0} (f : A → ℕ) (g : A → A) (m : ℕ) (xs : List A) (i : ℕ) (x : A) → ((y : A) → f (g y) ≡ f y + m) → slice_get xs i ≡ Some x → total f (updated g xs i) ≡ total f xs + m
total-updated f g m [] i x k e = absurd (none-some e)
total-updated f g m (y ∷ xs) zero x k e = let h : f (g y) ≡ f y + m = k y in omega arith
total-updated f g m (y ∷ xs) (suc i) x k e = let h : total f (updated g xs i) ≡ total f xs + m = total-updated f g m xs i x k e in omega arith

pub rests-push : {A : Type 0} (m : ℕ) (xs : List A) (y : A) → m ≤ length xs → rests m (xs ++ y ∷ []) ≡ rests m xs ++ y ∷ []
rests-push zero [] y h = refl
rests-push (suc m) [] y h = absurd (omega arith)
rests-push zero (x ∷ xs) y h = refl
rests-push (suc m) (x ∷ xs) y h = rests-push m xs y (omega arith)

rests-zero : {A : Type 0} (xs : List A) → rests 0 xs ≡ xs
rests-zero [] = refl
rests-zero (x ∷ xs) = refl

pub rests-first : {A : Type 0} (m : ℕ) (xs : List A) (b : A) (rest : List A) → rests m xs ≡ b ∷ rest → (slice_get xs m ≡ Some b) × (rests (suc m) xs ≡ rest)
rests-first m [] b rest e = absurd (cc)
rests-first zero (x ∷ xs) b rest e = let q : x ≡ b = cc in let r : xs ≡ rest = cc in (ap Some q, rests-zero xs ∙ r)
rests-first (suc m) (x ∷ xs) b rest e = rests-first m xs b rest e

pub rising-push : (xs : List ℕ) (p : ℕ) → IsRising xs → Each (λ x. x < p) xs → IsRising (xs ++ p ∷ [])
rising-push [] p r h = (tt, tt)
rising-push (x ∷ xs) p r h = (Each-append (λ y. x < y) xs (p ∷ []) r.0 (h.0, tt), rising-push xs p r.1 h.1)

pub at-pushed : {A : Type 0} (xs : List A) (y x : A) (i : ℕ) → slice_get (xs ++ y ∷ []) i ≡ Some x → (P : ℕ → A → Type 0) → ((k : ℕ) (z : A) → slice_get xs k ≡ Some z → P k z) → P (length xs) y → P i x
at-pushed [] y x zero e P h k = (let q : y ≡ x = cc in subst_to q)
  where
    subst_to : y ≡ x → P 0 x
    subst_to q = subst (P 0) q k
at-pushed [] y x (suc i) e P h k = absurd (none-some e)
at-pushed (z ∷ xs) y x zero e P h k = (let q : z ≡ x = cc in h 0 x (ap Some q))
at-pushed (z ∷ xs) y x (suc i) e P h k = at-pushed xs y x i e (λ j. P (suc j)) (λ j w f. h (suc j) w f) k

-- one more position is below the front
pub below-suc : (m i : ℕ) → one_if (nat_lt i m) + one_if (nat_eq m i) ≡ one_if (nat_lt i (suc m))
below-suc m i = ⊎_elim (λ (q : m ≡ i). same q) (λ (n : m ≢ i). apart n (nat_lt i m) refl) (cases_eq m i)
  where
    same : m ≡ i → one_if (nat_lt i m) + one_if (nat_eq m i) ≡ one_if (nat_lt i (suc m))
    same q =
        let a : one_if (nat_lt i m) ≡ 0 = ap one_if (le-ltb i m (omega arith)) in
        let b : one_if (nat_eq m i) ≡ 1 = ap one_if (eq-eqb m i q) in
        let c : one_if (nat_lt i (suc m)) ≡ 1 = ap one_if (lt-ltb i (suc m) (omega arith)) in
        omega arith

    apart : m ≢ i → (x : Bool) → nat_lt i m ≡ x → one_if (nat_lt i m) + one_if (nat_eq m i) ≡ one_if (nat_lt i (suc m))
    apart n true e =
        let l : i < m = ltb-true i m e in
        let a : one_if (nat_lt i m) ≡ 1 = ap one_if e in
        let b : one_if (nat_eq m i) ≡ 0 = ap one_if (ne_eqb m i n) in
        let c : one_if (nat_lt i (suc m)) ≡ 1 = ap one_if (lt-ltb i (suc m) (omega arith)) in
        omega arith
    apart n false e =
        let l : m ≤ i = ltb-false i m e in
        let k : m < i = lt_of_le-ne l n in
        let a : one_if (nat_lt i m) ≡ 0 = ap one_if e in
        let b : one_if (nat_eq m i) ≡ 0 = ap one_if (ne_eqb m i n) in
        let c : one_if (nat_lt i (suc m)) ≡ 0 = ap one_if (le-ltb i (suc m) (omega arith)) in
        omega arith

-- one more taking
pub takings-push : (u i v k t : ℕ) (taken : List (List (ℕ × ℕ))) (es : List (ℕ × ℕ)) → slice_get taken t ≡ Some es → takings u i (updated (λ l. l ++ (v, k) ∷ []) taken t) ≡ takings u i taken + one_if (nat_eq v u && nat_eq k i)
takings-push u i v k t taken es e =
    total-updated (λ (l : List (ℕ × ℕ)). total (λ (x : ℕ × ℕ). one_if (nat_eq x.0 u && nat_eq x.1 i)) l) (λ l. l ++ (v, k) ∷ []) (one_if (nat_eq v u && nat_eq k i)) taken t es
    (λ l. total-push (λ (x : ℕ × ℕ). one_if (nat_eq x.0 u && nat_eq x.1 i)) l (v, k)) e

pub positions-push : (u v k : ℕ) (es : List (ℕ × ℕ)) → positions_of u (es ++ (v, k) ∷ []) ≡ positions_of u es ++ cond (nat_eq v u) (k ∷ []) []
positions-push u v k [] = refl
positions-push u v k (e ∷ es) = go (nat_eq e.0 u) (positions-push u v k es)
  where
    go : (b : Bool) → positions_of u (es ++ (v, k) ∷ []) ≡ positions_of u es ++ cond (nat_eq v u) (k ∷ []) [] → cond b (e.1 ∷ positions_of u (es ++ (v, k) ∷ [])) (positions_of u (es ++ (v, k) ∷ [])) ≡ cond b (e.1 ∷ positions_of u es) (positions_of u es) ++ cond (nat_eq v u) (k ∷ []) []
    go true h = ap (λ z. e.1 ∷ z) h
    go false h = h

-- where nothing from the front on was taken, the positions are below it
positions-below : (u m : ℕ) (es : List (ℕ × ℕ)) → ((i : ℕ) → m ≤ i → total (λ (e : ℕ × ℕ). one_if (nat_eq e.0 u && nat_eq e.1 i)) es ≡ 0) → Each (λ x. x < m) (positions_of u es)
positions-below u m [] h = tt
positions-below u m (e ∷ es) h =
    go (nat_eq e.0 u) refl (nat_lt e.1 m) refl (positions-below u m es (λ i l. (let a : one_if (nat_eq e.0 u && nat_eq e.1 i) + total (λ (x : ℕ × ℕ). one_if (nat_eq x.0 u && nat_eq x.1 i)) es ≡ 0 = h i l in omega arith)))
  where
    go : (b : Bool) → nat_eq e.0 u ≡ b → (c : Bool) → nat_lt e.1 m ≡ c → Each (λ x. x < m) (positions_of u es) → Each (λ x. x < m) (cond b (e.1 ∷ positions_of u es) (positions_of u es))
    go false q c r others = others
    go true q true r others = (ltb-true e.1 m r, others)
    go true q false r others =
        let l : m ≤ e.1 = ltb-false e.1 m r in
        let a : one_if (nat_eq e.0 u && nat_eq e.1 e.1) + total (λ (x : ℕ × ℕ). one_if (nat_eq x.0 u && nat_eq x.1 e.1)) es ≡ 0 = h e.1 l in
        let b : one_if (nat_eq e.0 u && nat_eq e.1 e.1) ≡ 1 = ap (λ x. one_if (x && nat_eq e.1 e.1)) q ∙ ap one_if (eq-eqb e.1 e.1 refl) in
        absurd (omega arith)

pub taken-below : (u m t : ℕ) (taken : List (List (ℕ × ℕ))) (es : List (ℕ × ℕ)) → slice_get taken t ≡ Some es → ((i : ℕ) → takings u i taken ≡ one_if (nat_lt i m)) → Each (λ x. x < m) (positions_of u es)
taken-below u m t taken es e h =
    positions-below u m es (λ i l. (
    let a : total (λ (x : ℕ × ℕ). one_if (nat_eq x.0 u && nat_eq x.1 i)) es ≤ takings u i taken = member-le (λ (l : List (ℕ × ℕ)). total (λ (x : ℕ × ℕ). one_if (nat_eq x.0 u && nat_eq x.1 i)) l) taken t es e in
    let b : one_if (nat_lt i m) ≡ 0 = ap one_if (le-ltb i m l) in
    let c = h i in
    omega arith))
