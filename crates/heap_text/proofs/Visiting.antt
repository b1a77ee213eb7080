-- An order that grows by the names that it lacks.
use Rattle.std.proofs.Common.{◌≡◌, ℕ, Bool, true, false, cond, ◌||◌, List, [], ◌∷◌, ◌++◌, refl, ap, ◌∙◌, append_assoc}
use Rattle.std.proofs.lemmas.List.{append-nil}
use Rattle.std.proofs.lemmas.Bool.{eqb-true}
use Rattle.std.specs.Prelude.{nat_eq}
use Rattle.model.specs.Reached.{has, fresh_of}
use Rattle.model.proofs.Has.{has-append}
use Rattle.model.proofs.SpreadLemmas.{fresh_same}
use Rattle.heap_text.specs.Numbering.{visited, visited_all}

-- a name that is there counts once
seen_again : (order : List ℕ) (x : ℕ) → has order x ≡ true → (q : ℕ) → has order q ≡ has (x ∷ order) q
seen_again order x there q = go (nat_eq q x) refl
  where
    go : (b : Bool) → nat_eq q x ≡ b → has order q ≡ (b || has order q)
    go true e = ap (has order) (eqb-true q x e) ∙ there
    go false e = refl

seen_last : (b c : Bool) → (b || (c || false)) ≡ (c || b)
seen_last true true = refl
seen_last true false = refl
seen_last false true = refl
seen_last false false = refl

-- one name more
pub visited-more : (order : List ℕ) (x : ℕ) (xs : List ℕ) → visited_all (visited order x) xs ≡ visited_all order (x ∷ xs)
visited-more order x xs = go (has order x) refl
  where
    go : (b : Bool) → has order x ≡ b → visited_all (cond b order (order ++ x ∷ [])) xs ≡ order ++ cond b (fresh_of (x ∷ order) xs) (x ∷ fresh_of (x ∷ order) xs)
    go true e = ap (λ ys. order ++ ys) (fresh_same order (x ∷ order) xs (seen_again order x e))
    go false e =
        append_assoc order (x ∷ []) (fresh_of (order ++ x ∷ []) xs)
        ∙ ap (λ ys. order ++ x ∷ ys) (fresh_same (order ++ x ∷ []) (x ∷ order) xs (λ q. has-append order (x ∷ []) q ∙ seen_last (has order q) (nat_eq q x)))

pub visited_none : (order : List ℕ) → visited_all order [] ≡ order
visited_none order = append-nil order

pub visited_old : (order : List ℕ) (x : ℕ) → has order x ≡ true → visited order x ≡ order
visited_old order x e = ap (λ b. cond b order (order ++ x ∷ [])) e

pub visited_new : (order : List ℕ) (x : ℕ) → has order x ≡ false → visited order x ≡ order ++ x ∷ []
visited_new order x e = ap (λ b. cond b order (order ++ x ∷ [])) e
