-- The members of a set that are kept.
use Rattle.std.proofs.Common.{◌≡◌, ◌≢◌, ℕ, zero, suc, ◌+◌, ◌<◌, ◌≤◌, Bool, true, false, List, [], ◌∷◌, length, drop, get_or, Some, refl, sym, ap, subst, ◌∙◌, arith, ◌⊎◌, inl, inr, ⊎_elim}
use Rattle.std.proofs.lemmas.Bool.{true≢false}
use Rattle.std.specs.Prelude.{slice_get}
use Rattle.model.specs.Reached.{has}
use Rattle.model.proofs.Has.{has-cons}
use Rattle.model.proofs.Options.{some_is}

pub at_get : (xs : List ℕ) (k x d : ℕ) → Some x ≡ slice_get xs k → get_or xs k d ≡ x
at_get [] k x d is = absurd (cc)
at_get (y ∷ xs) zero x d is = sym (some_is is)
at_get (y ∷ xs) (suc k) x d is = at_get xs k x d is

drop-one : (xs : List ℕ) (k d : ℕ) → k < length xs → drop k xs ≡ get_or xs k d ∷ drop (suc k) xs
drop-one [] k d lt = absurd (omega (arith, lt))
drop-one (x ∷ xs) zero d lt = refl
drop-one (x ∷ xs) (suc k) d lt = drop-one xs k d (omega (arith, lt))

module _ (test : ℕ → Bool) where
  -- a member that passes stays, and the others are as before
  pub from_passed : (xs : List ℕ) (k x : ℕ) → k < length xs → Some x ≡ slice_get xs k → test x ≡ true → (n : ℕ) → has (drop k xs) n ≡ true → (test n ≡ true) ⊎ (has (drop (k + 1) xs) n ≡ true)
  from_passed xs k x lt is passes n h =
      let next : suc k ≡ k + 1 = omega arith in
      ⊎_elim
      (λ same. inl (ap test (same ∙ at_get xs k x 0 is) ∙ passes))
      (λ rest. inr (subst (λ j. has (drop j xs) n ≡ true) next rest))
      (has-cons (get_or xs k 0) (drop (suc k) xs) n (subst (λ ys. has ys n ≡ true) (drop-one xs k 0 lt) h))

  -- a member that passes isn't the one that doesn't
  pub other_than : (xs : List ℕ) (k x n : ℕ) → Some x ≡ slice_get xs k → test x ≡ false → test n ≡ true → n ≢ get_or xs k 0
  other_than xs k x n is fails passes same = true≢false (sym passes ∙ ap test (same ∙ at_get xs k x 0 is) ∙ fails)

pub none_past : (xs : List ℕ) (k n : ℕ) → length xs ≤ k → has (drop k xs) n ≡ true → ⊥
none_past [] zero n le h = true≢false (sym h)
none_past [] (suc k) n le h = true≢false (sym h)
none_past (x ∷ xs) zero n le h = absurd (omega (arith, le))
none_past (x ∷ xs) (suc k) n le h = none_past xs k n (omega (arith, le)) h

pub all_from : (xs : List ℕ) (k n : ℕ) → k ≡ 0 → has xs n ≡ true → has (drop k xs) n ≡ true
all_from xs k n first h = subst (λ j. has (drop j xs) n ≡ true) (sym first) h
