-- Which places stand in a list, and sums of which all but one or two parts are 0.
use Rattle.std.proofs.Common.{◌≡◌, ◌≢◌, ℕ, zero, suc, ◌+◌, Bool, true, false, List, [], ◌∷◌, Some, refl, sym, ap, ◌∙◌, map, cond, arith, nat_eq, eq-eqb, eqb-true, true≢false, slice_get}
use Rattle.std.specs.Option.{option_map_or}
use Rattle.workers.specs.Total.{total, one_if, times}
use Rattle.workers.specs.Ordered.{in_block, places_in}
use Rattle.workers.proofs.Lists.{none-some}

module _ (k x : ℕ) where
  elsewhere : (y : ℕ) (b c : Bool) → in_block k x ≡ b → in_block k y ≡ c → (b ≡ c → ⊥) → one_if (nat_eq y x) ≡ 0
  elsewhere y b c e f n = go (nat_eq y x) refl
    where
      go : (a : Bool) → nat_eq y x ≡ a → one_if a ≡ 0
      go false q = refl
      go true q = absurd (n (sym e ∙ ap (in_block k) (sym (eqb-true y x q)) ∙ f))

  pub times-places : (b : Bool) → in_block k x ≡ b → (xs : List ℕ) → times x (places_in k xs) ≡ cond b (times x xs) 0
  times-places true e [] = refl
  times-places false e [] = refl
  times-places b e (y ∷ xs) = go b e (in_block k y) refl (times-places b e xs)
    where
      go : (b : Bool) → in_block k x ≡ b → (c : Bool) → in_block k y ≡ c → times x (places_in k xs) ≡ cond b (times x xs) 0 → times x (cond c (y ∷ places_in k xs) (places_in k xs)) ≡ cond b (one_if (nat_eq y x) + times x xs) 0
      go true e true f h = ap (λ n. one_if (nat_eq y x) + n) h
      go true e false f h = let z = elsewhere y true false e f true≢false in omega arith
      go false e true f h = let z = elsewhere y false true e f (λ q. true≢false (sym q)) in omega arith
      go false e false f h = h

  pub times-won : (won : List (ℕ × ℕ)) → times x (map (λ (q : ℕ × ℕ). q.1) won) ≡ total (λ (q : ℕ × ℕ). one_if (nat_eq q.1 x)) won
  times-won [] = refl
  times-won (q ∷ won) = ap (λ n. one_if (nat_eq q.1 x) + n) (times-won won)

pub no_member : (xs : List ℕ) → ((x : ℕ) → times x xs ≡ 0) → xs ≡ []
no_member [] h = refl
no_member (y ∷ xs) h = let a : one_if (nat_eq y y) ≡ 1 = ap one_if (eq-eqb y y refl) in let b : one_if (nat_eq y y) + times y xs ≡ 0 = h y in absurd (omega arith)

module _ {A : Type 0} (g : A → ℕ) where
  pub total-none_at : (xs : List A) → ((v : ℕ) (y : A) → slice_get xs v ≡ Some y → g y ≡ 0) → total g xs ≡ 0
  total-none_at [] h = refl
  total-none_at (x ∷ xs) h = let a : g x ≡ 0 = h 0 x refl in let b : total g xs ≡ 0 = total-none_at xs (λ v y e. h (suc v) y e) in omega arith

  pub total-one_at : (xs : List A) (t : ℕ) (x : A) → slice_get xs t ≡ Some x → ((v : ℕ) (y : A) → slice_get xs v ≡ Some y → v ≢ t → g y ≡ 0) → total g xs ≡ g x
  total-one_at [] t x e h = absurd (none-some e)
  total-one_at (z ∷ xs) zero x e h =
      let q : z ≡ x = cc in
      let a : g z ≡ g x = ap g q in
      let b : total g xs ≡ 0 = total-none_at xs (λ v y f. h (suc v) y f (λ (r : suc v ≡ zero). absurd (omega arith))) in
      omega arith
  total-one_at (z ∷ xs) (suc t) x e h =
      let a : g z ≡ 0 = h 0 z refl (λ (r : zero ≡ suc t). absurd (omega arith)) in
      let b : total g xs ≡ g x = total-one_at xs t x e (λ v y f n. h (suc v) y f (λ (r : suc v ≡ suc t). n (omega arith))) in
      omega arith

  pub total-two_at : (xs : List A) (t u : ℕ) (x w : A) → slice_get xs t ≡ Some x → slice_get xs u ≡ Some w → u ≢ t → ((v : ℕ) (y : A) → slice_get xs v ≡ Some y → v ≢ t → v ≢ u → g y ≡ 0) → total g xs ≡ g x + g w
  total-two_at [] t u x w e f n h = absurd (none-some e)
  total-two_at (z ∷ xs) zero zero x w e f n h = absurd (n refl)
  total-two_at (z ∷ xs) zero (suc u) x w e f n h =
      let q : z ≡ x = cc in
      let a : g z ≡ g x = ap g q in
      let b : total g xs ≡ g w = total-one_at xs u w f (λ v y i m. h (suc v) y i (λ (r : suc v ≡ zero). absurd (omega arith)) (λ (r : suc v ≡ suc u). m (omega arith))) in
      omega arith
  total-two_at (z ∷ xs) (suc t) zero x w e f n h =
      let q : z ≡ w = cc in
      let a : g z ≡ g w = ap g q in
      let b : total g xs ≡ g x = total-one_at xs t x e (λ v y i m. h (suc v) y i (λ (r : suc v ≡ suc t). m (omega arith)) (λ (r : suc v ≡ zero). absurd (omega arith))) in
      omega arith
  total-two_at (z ∷ xs) (suc t) (suc u) x w e f n h =
      let a : g z ≡ 0 = h 0 z refl (λ (r : zero ≡ suc t). absurd (omega arith)) (λ (r : zero ≡ suc u). absurd (omega arith)) in
      let b : total g xs ≡ g x + g w = total-two_at xs t u x w e f (λ r. n (ap suc r)) (λ v y i m o. h (suc v) y i (λ (r : suc v ≡ suc t). m (omega arith)) (λ (r : suc v ≡ suc u). o (omega arith))) in
      omega arith

pub get-mapped : {A B : Type 0} (g : A → B) (xs : List A) (i : ℕ) (x : A) → slice_get xs i ≡ Some x → slice_get (map g xs) i ≡ Some (g x)
get-mapped g [] i x e = absurd (none-some e)
get-mapped g (y ∷ xs) zero x e = let q : y ≡ x = cc in ap (λ z. Some (g z)) q
get-mapped g (y ∷ xs) (suc i) x e = get-mapped g xs i x e

-- where each there is nothing, so is what stands at any place
pub nothing-mapped : {A B : Type 0} (g : A → B) (h : B → List ℕ) (xs : List A) (v : ℕ) → ((x : A) → slice_get xs v ≡ Some x → h (g x) ≡ []) → option_map_or h (slice_get (map g xs) v) [] ≡ []
nothing-mapped g h [] v k = refl
nothing-mapped g h (x ∷ xs) zero k = k x refl
nothing-mapped g h (x ∷ xs) (suc v) k = nothing-mapped g h xs v k
