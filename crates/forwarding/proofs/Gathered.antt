-- The passes, taken from the last to the first.
use Rattle.std.proofs.Common.{◌≡◌, ℕ, zero, suc, ◌+◌, List, [], ◌∷◌, ◌++◌, All, replicate, get_or, length, Some, refl, sym, ap, ◌∙◌, append_assoc, arith, length-append}
use Rattle.std.proofs.lemmas.List.{append-nil}
use Rattle.std.proofs.lemmas.List.Elements.{All-pop, All-nil, All-cons, All-head, All-tail}
use Rattle.forwarding.specs.Settled.{Pairs, all_pairs}

pub All-front : {X : Type 0} (P : X → Type 0) (xs ys : List X) → All P (xs ++ ys) → All P xs
All-front P [] ys a = All-nil P
All-front P (x ∷ xs) ys a = All-cons P x xs (All-head P x (xs ++ ys) a) (All-front P xs ys (All-tail P x (xs ++ ys) a))

pub All-back : {X : Type 0} (P : X → Type 0) (xs ys : List X) → All P (xs ++ ys) → All P ys
All-back P [] ys a = a
All-back P (x ∷ xs) ys a = All-back P xs ys (All-tail P x (xs ++ ys) a)

module _ {P : Type 0} (pairs_of : P → Pairs) where
  all_pairs-snoc : (ps : List P) (p : P) → all_pairs pairs_of ps ++ pairs_of p ≡ all_pairs pairs_of (ps ++ p ∷ [])
  all_pairs-snoc [] p = sym (append-nil (pairs_of p))
  all_pairs-snoc (x ∷ ps) p = append_assoc (pairs_of x) (all_pairs pairs_of ps) (pairs_of p) ∙ ap (λ (ys : Pairs). pairs_of x ++ ys) (all_pairs-snoc ps p)

  pub popped_pairs : (all rest : List P) (p : P) → all ≡ rest ++ p ∷ [] → all_pairs pairs_of rest ++ pairs_of p ≡ all_pairs pairs_of all
  popped_pairs all rest p is = all_pairs-snoc rest p ∙ ap (all_pairs pairs_of) (sym is)

  pub more_pairs : (all rest : List P) (p : P) (seat whole : Pairs) → all ≡ rest ++ p ∷ [] → all_pairs pairs_of all ++ seat ≡ whole → all_pairs pairs_of rest ++ (pairs_of p ++ seat) ≡ whole
  more_pairs all rest p seat whole is e = sym (append_assoc (all_pairs pairs_of rest) (pairs_of p) seat) ∙ (ap (λ (ys : Pairs). ys ++ seat) (popped_pairs all rest p is) ∙ e)

pub popped_all : {X : Type 0} (Q : X → Type 0) (all rest : List X) (x : X) → all ≡ rest ++ x ∷ [] → All Q all → All Q rest × Q x
popped_all Q all rest x is each = All-pop Q all rest (Some x) is each

pub popped_length : {X : Type 0} (all rest : List X) (x : X) → all ≡ rest ++ x ∷ [] → length all ≡ length rest + 1
popped_length all rest x is = ap length is ∙ (length-append rest (x ∷ []) ∙ omega arith)

pub zeros : (n k : ℕ) → get_or {A = ℕ} (replicate n 0) k 0 ≡ 0
zeros zero k = refl
zeros (suc n) zero = refl
zeros (suc n) (suc k) = zeros n k
