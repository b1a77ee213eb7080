-- What a sweep leaves, one place further.
use Rattle.std.proofs.Common.{◌≡◌, ℕ, suc, ◌+◌, ◌<◌, List, [], ◌∷◌, ◌++◌, length, get_or, set, take, drop, Option, refl, sym, ap, subst, ◌∙◌, arith, append_assoc}
use Rattle.std.proofs.lemmas.List.{take_more, length-take}
use Rattle.std.proofs.Math.Seq.{drop-cons, set-append_seam}
use Rattle.std.proofs.Math.Numerals.{add-one}
use Rattle.model.specs.Graph.{Object}
use Rattle.model.specs.Destination.{Shape}
use Rattle.model.specs.Reached.{has}
use Rattle.model.specs.Store.{kept_or_gone, survivors}

get_seam : {X : Type 0} (xs : List X) (y : X) (ys : List X) (d : X) → get_or (xs ++ y ∷ ys) (length xs) d ≡ y
get_seam [] y ys d = refl
get_seam (x ∷ xs) y ys d = get_seam xs y ys d

module _ (shape : Shape) (g : ℕ) (live : List ℕ) where
  length-survivors : (i : ℕ) (xs : List (Option Object)) → length (survivors shape g live i xs) ≡ length xs
  length-survivors i [] = refl
  length-survivors i (x ∷ xs) = ap suc (length-survivors (i + 1) xs)

  survivors-append : (i : ℕ) (xs ys : List (Option Object)) → survivors shape g live i (xs ++ ys) ≡ survivors shape g live i xs ++ survivors shape g live (i + length xs) ys
  survivors-append i [] ys = let e : i + 0 ≡ i = omega arith in ap (λ n. survivors shape g live n ys) (sym e)
  survivors-append i (x ∷ xs) ys =
      let e : (i + 1) + length xs ≡ i + suc (length xs) = omega arith in
      ap (λ zs. kept_or_gone shape g (has live i) x ∷ zs) (survivors-append (i + 1) xs ys ∙ ap (λ n. survivors shape g live (i + 1) xs ++ survivors shape g live n ys) e)

  pub sweep_more : (old now : List (Option Object)) (i : ℕ) (d : Option Object) → i < length old → now ≡ survivors shape g live 0 (take i old) ++ drop i old → set now i (kept_or_gone shape g (has live i) (get_or now i d)) ≡ survivors shape g live 0 (take (i + 1) old) ++ drop (i + 1) old
  sweep_more old now i d h e =
      let x : Option Object = get_or old i d in
      let front : List (Option Object) = survivors shape g live 0 (take i old) in
      let rest : List (Option Object) = drop (i + 1) old in
      let at : now ≡ front ++ x ∷ rest = e ∙ ap (λ ys. front ++ ys) (drop-cons old i d h ∙ ap (λ n. x ∷ drop n old) (sym (add-one i))) in
      let len : length front ≡ i = length-survivors 0 (take i old) ∙ length-take i old ∙ omega arith in
      let read : get_or now i d ≡ x = ap (λ ys. get_or ys i d) at ∙ subst (λ k. get_or (front ++ x ∷ rest) k d ≡ x) len (get_seam front x rest d) in
      let new : Option Object = kept_or_gone shape g (has live i) x in
      let long : 0 + length (take i old) ≡ i = omega (arith, length-survivors 0 (take i old)) in
      let more : survivors shape g live 0 (take (i + 1) old) ≡ front ++ new ∷ [] =
      ap (survivors shape g live 0) (take_more old i d h) ∙ survivors-append 0 (take i old) (x ∷ []) ∙ ap (λ n. front ++ kept_or_gone shape g (has live n) x ∷ []) long in
      ap (λ y. set now i (kept_or_gone shape g (has live i) y)) read
      ∙ ap (λ ys. set ys i new) at
      ∙ subst (λ k. set (front ++ x ∷ rest) k new ≡ front ++ new ∷ rest) len (set-append_seam front x rest new)
      ∙ sym (append_assoc front (new ∷ []) rest)
      ∙ ap (λ ys. ys ++ rest) (sym more)
