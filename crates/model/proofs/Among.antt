-- Membership by recursion, and what lists made of others contain.
use Rattle.std.proofs.Common.{◌≡◌, zero, suc, Bool, true, false, cond, List, [], ◌∷◌, ◌++◌, refl, sym, subst, arith, ◌⊎◌, inl, inr, ⊎_elim}
use Rattle.std.specs.Prelude.{filter, flat_map}
use Rattle.std.specs.List.{Contains}

abbrev pub Among : {X : Type 0} → X → List X → Type 0
Among x [] = ⊥
Among x (y ∷ ys) = (x ≡ y) ⊎ Among x ys

module _ {X : Type 0} where
  pub among_Contains : (xs : List X) (x : X) → Contains xs x → Among x xs
  among_Contains [] x (k, lt, e) = absurd (omega arith)
  among_Contains (y ∷ ys) x (zero, lt, e) = inl (sym e)
  among_Contains (y ∷ ys) x (suc k, lt, e) = inr (among_Contains ys x (k, (omega arith), e))

  pub Contains-among : (xs : List X) (x : X) → Among x xs → Contains xs x
  Contains-among [] x h = absurd h
  Contains-among (y ∷ ys) x (inl e) = (0, omega arith, sym e)
  Contains-among (y ∷ ys) x (inr h) = let c = Contains-among ys x h in (suc c.0, omega (arith, c.1), c.2)

  pub among_left : (xs ys : List X) (x : X) → Among x xs → Among x (xs ++ ys)
  among_left [] ys x h = absurd h
  among_left (z ∷ xs) ys x (inl e) = inl e
  among_left (z ∷ xs) ys x (inr h) = inr (among_left xs ys x h)

  pub among_right : (xs ys : List X) (x : X) → Among x ys → Among x (xs ++ ys)
  among_right [] ys x h = h
  among_right (z ∷ xs) ys x h = inr (among_right xs ys x h)

  pub among_either : (xs ys : List X) (x : X) → Among x (xs ++ ys) → Among x xs ⊎ Among x ys
  among_either [] ys x h = inr h
  among_either (z ∷ xs) ys x (inl e) = inl (inl e)
  among_either (z ∷ xs) ys x (inr h) = ⊎_elim (λ a. inl (inr a)) (λ b. inr b) (among_either xs ys x h)

  pub record Kept (p : X → Bool) (xs : List X) (x : X) : Type 0 where
    pub among : Among x xs
    pub passes : p x ≡ true

  pub among_filter_from : (p : X → Bool) (xs : List X) (x : X) → Among x (filter p xs) → Kept p xs x
  among_filter_from p [] x h = absurd h
  among_filter_from p (y ∷ xs) x h = go (p y) refl (among_filter_from p xs x) h
    where
      go : (b : Bool) → p y ≡ b → (Among x (filter p xs) → Kept p xs x) → Among x (cond b (y ∷ filter p xs) (filter p xs)) → Kept p (y ∷ xs) x
      go true e rest (inl at) = record { among = inl at; passes = subst (λ z. p z ≡ true) (sym at) e }
      go true e rest (inr r) = let k = rest r in record { among = inr k.among; passes = k.passes }
      go false e rest r = let k = rest r in record { among = inr k.among; passes = k.passes }

  pub among_filter : (p : X → Bool) (xs : List X) (x : X) → Among x xs → p x ≡ true → Among x (filter p xs)
  among_filter p [] x h e = absurd h
  among_filter p (y ∷ xs) x (inl at) e =
      let here : p y ≡ true = subst (λ z. p z ≡ true) at e in
      subst (λ b. Among x (cond b (y ∷ filter p xs) (filter p xs))) (sym here) (inl at)
  among_filter p (y ∷ xs) x (inr r) e = go (p y) (among_filter p xs x r e)
    where
      go : (b : Bool) → Among x (filter p xs) → Among x (cond b (y ∷ filter p xs) (filter p xs))
      go true h = inr h
      go false h = h

module _ {X Y : Type 0} (f : X → List Y) where
  pub record Mapped (xs : List X) (y : Y) : Type 0 where
    pub from : X
    pub among : Among from xs
    pub here : Among y (f from)

  pub among_flat_map_from : (xs : List X) (y : Y) → Among y (flat_map f xs) → Mapped xs y
  among_flat_map_from [] y h = absurd h
  among_flat_map_from (x ∷ xs) y h =
      ⊎_elim
      (λ a. record { from = x; among = inl refl; here = a })
      (λ b. let m = among_flat_map_from xs y b in record { from = m.from; among = inr m.among; here = m.here })
      (among_either (f x) (flat_map f xs) y h)

  pub among_flat_map : (xs : List X) (x : X) (y : Y) → Among x xs → Among y (f x) → Among y (flat_map f xs)
  among_flat_map [] x y h k = absurd h
  among_flat_map (z ∷ xs) x y (inl e) k = among_left (f z) (flat_map f xs) y (subst (λ w. Among y (f w)) e k)
  among_flat_map (z ∷ xs) x y (inr h) k = among_right (f z) (flat_map f xs) y (among_flat_map xs x y h k)
