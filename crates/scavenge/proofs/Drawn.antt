-- What is left of the free blocks when one more was drawn.
use Rattle.std.proofs.Common.{◌≡◌, ◌≢◌, ℕ, Bool, true, false, cond, not, List, [], ◌∷◌, ◌++◌, refl, sym, ◌∙◌, ⊎_elim, arith, true≢false, nat_eq, ne_eqb, Contains}
use Rattle.std.proofs.lemmas.Bool.{cases_eq}
use Rattle.std.proofs.lemmas.List.Elements.{Contains-append_right}
use Rattle.std.proofs.lemmas.Map.Made.{Contains-tail}
use Rattle.workers.specs.System.{without_number}
use Rattle.scavenge.specs.Waiting.{left_of}

-- another number stays
contains_without : (x n : ℕ) (free : List ℕ) → x ≢ n → Contains free n → Contains (without_number x free) n
contains_without x n [] ne c = let l = c.1 in absurd (omega arith)
contains_without x n (y ∷ free) ne c = ⊎_elim here (λ s. later (contains_without x n free ne (Contains-tail y free n s c))) (cases_eq y n)
  where
    here : y ≡ n → Contains (cond (not (nat_eq y x)) (y ∷ without_number x free) (without_number x free)) n
    here e = go (nat_eq y x) (ne_eqb y x (λ s. ne (sym s ∙ e)))
      where
        go : (b : Bool) → b ≡ false → Contains (cond (not b) (y ∷ without_number x free) (without_number x free)) n
        go true s = absurd (true≢false s)
        go false s = (0, omega arith, e)

    later : Contains (without_number x free) n → Contains (cond (not (nat_eq y x)) (y ∷ without_number x free) (without_number x free)) n
    later h = go (nat_eq y x) h
      where
        go : (b : Bool) → Contains (without_number x free) n → Contains (cond (not b) (y ∷ without_number x free) (without_number x free)) n
        go true h = h
        go false h = Contains-append_right (y ∷ []) (without_number x free) n h

pub left_contains : (free drawn : List ℕ) (n : ℕ) → Contains free n → (Contains drawn n → ⊥) → Contains (left_of free drawn) n
left_contains free [] n c new = c
left_contains free (x ∷ drawn) n c new =
    left_contains (without_number x free) drawn n (contains_without x n free (λ e. new (0, omega arith, e)) c) (λ d. new (Contains-append_right (x ∷ []) drawn n d))

pub left_push : (free drawn : List ℕ) (n : ℕ) → left_of free (drawn ++ n ∷ []) ≡ without_number n (left_of free drawn)
left_push free [] n = refl
left_push free (x ∷ drawn) n = left_push (without_number x free) drawn n
