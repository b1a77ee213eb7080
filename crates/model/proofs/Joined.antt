-- Texts one after another, and with a byte between two.
use Rattle.std.proofs.Common.{◌≡◌, ℕ, ◌+◌, ◌<◌, List, [], ◌∷◌, ◌++◌, ◌≤◌, length, map, take, take_all, get_or, refl, sym, ap, ◌∙◌, arith, append_assoc}
use Rattle.std.proofs.lemmas.List.{append-nil, map-append, take_more, length-take-le}
use Rattle.std.specs.Prelude.{flat_map}
use Rattle.std.specs.List.{join_with_byte}
use Rattle.model.proofs.TargetLemmas.{flat_map_take}

join_next : (c : ℕ) (x : List ℕ) (parts : List (List ℕ)) (part : List ℕ) → join_with_byte c ((x ∷ parts) ++ part ∷ []) ≡ join_with_byte c (x ∷ parts) ++ c ∷ part
join_next c x [] part = refl
join_next c x (y ∷ parts) part = ap (λ ys. x ++ c ∷ ys) (join_next c y parts part) ∙ sym (append_assoc x (c ∷ join_with_byte c (y ∷ parts)) (c ∷ part))

module _ {X : Type 0} (f : X → List ℕ) where
  pub join_one : (c : ℕ) (xs : List X) (d : X) → 0 < length xs → join_with_byte c (map f (take (0 + 1) xs)) ≡ f (get_or xs 0 d)
  join_one c [] d lt = absurd (omega arith)
  join_one c (x ∷ xs) d lt = refl

  -- one more after some
  pub join_more : (c : ℕ) (xs : List X) (i : ℕ) (d : X) → 0 < i → i < length xs → join_with_byte c (map f (take (i + 1) xs)) ≡ join_with_byte c (map f (take i xs)) ++ c ∷ f (get_or xs i d)
  join_more c xs i d some lt =
      ap (λ ys. join_with_byte c (map f ys)) (take_more xs i d lt)
      ∙ ap (join_with_byte c) (map-append f (take i xs) (get_or xs i d ∷ []))
      ∙ go (take i xs) (length-take-le i xs (omega arith))
    where
      go : (ys : List X) → length ys ≡ i → join_with_byte c (map f ys ++ f (get_or xs i d) ∷ []) ≡ join_with_byte c (map f ys) ++ c ∷ f (get_or xs i d)
      go [] e = absurd (omega (arith, e))
      go (y ∷ ys) e = join_next c (f y) (map f ys) (f (get_or xs i d))

  -- a text that ends with the first of them, and then with one more
  pub joined_first : (start before now : List ℕ) (xs : List X) (i : ℕ) (d : X) → i ≡ 0 → i < length xs → before ≡ start ++ join_with_byte 32 (map f (take i xs)) → now ≡ before ++ f (get_or xs i d) → now ≡ start ++ join_with_byte 32 (map f (take (i + 1) xs))
  joined_first start before now xs i d none lt old new =
      let empty : before ≡ start = old ∙ ap (λ n. start ++ join_with_byte 32 (map f (take n xs))) none ∙ append-nil start in
      let one : join_with_byte 32 (map f (take (i + 1) xs)) ≡ f (get_or xs i d) =
      ap (λ n. join_with_byte 32 (map f (take (n + 1) xs))) none ∙ join_one 32 xs d (omega arith) ∙ ap (λ n. f (get_or xs n d)) (sym none) in
      new ∙ ap (λ ys. ys ++ f (get_or xs i d)) empty ∙ ap (λ ys. start ++ ys) (sym one)

  pub joined_next : (start before spaced now : List ℕ) (xs : List X) (i : ℕ) (d : X) → 0 < i → i < length xs → before ≡ start ++ join_with_byte 32 (map f (take i xs)) → spaced ≡ before ++ 32 ∷ [] → now ≡ spaced ++ f (get_or xs i d) → now ≡ start ++ join_with_byte 32 (map f (take (i + 1) xs))
  joined_next start before spaced now xs i d some lt old space new =
      let rest : List ℕ = join_with_byte 32 (map f (take i xs)) in
      new
      ∙ ap (λ ys. ys ++ f (get_or xs i d)) (space ∙ ap (λ ys. ys ++ 32 ∷ []) old)
      ∙ append_assoc (start ++ rest) (32 ∷ []) (f (get_or xs i d))
      ∙ append_assoc start rest (32 ∷ f (get_or xs i d))
      ∙ ap (λ ys. start ++ ys) (sym (join_more 32 xs i d some lt))

pub map_twice : {X Y Z : Type 0} (f : Y → Z) (h : X → Y) (xs : List X) → map f (map h xs) ≡ map (λ x. f (h x)) xs
map_twice f h [] = refl
map_twice f h (x ∷ xs) = ap (λ ys. f (h x) ∷ ys) (map_twice f h xs)

-- a text after which one more was written
pub written_more : {X : Type 0} (f : X → List ℕ) (start before now : List ℕ) (xs : List X) (i : ℕ) (d : X) → i < length xs → before ≡ start ++ flat_map f (take i xs) → now ≡ before ++ f (get_or xs i d) → now ≡ start ++ flat_map f (take (i + 1) xs)
written_more f start before now xs i d lt old new =
    new ∙ ap (λ ys. ys ++ f (get_or xs i d)) old ∙ append_assoc start (flat_map f (take i xs)) (f (get_or xs i d)) ∙ ap (λ ys. start ++ ys) (sym (flat_map_take f xs i d lt))

pub flat_map-map : {X Y : Type 0} (f : Y → List ℕ) (h : X → Y) (xs : List X) → flat_map f (map h xs) ≡ flat_map (λ x. f (h x)) xs
flat_map-map f h [] = refl
flat_map-map f h (x ∷ xs) = ap (λ ys. f (h x) ++ ys) (flat_map-map f h xs)

-- all were written
pub joined_all : {X Y : Type 0} (f : Y → List ℕ) (h : X → Y) (start now : List ℕ) (xs : List X) (i : ℕ) → length xs ≤ i → now ≡ start ++ join_with_byte 32 (map (λ x. f (h x)) (take i xs)) → now ≡ start ++ join_with_byte 32 (map f (map h xs))
joined_all f h start now xs i le is = is ∙ ap (λ ys. start ++ join_with_byte 32 (map (λ x. f (h x)) ys)) (take_all i xs le) ∙ ap (λ ys. start ++ join_with_byte 32 ys) (sym (map_twice f h xs))

pub written_all : {X Y : Type 0} (f : Y → List ℕ) (h : X → Y) (start now : List ℕ) (xs : List X) (i : ℕ) → length xs ≤ i → now ≡ start ++ flat_map (λ x. f (h x)) (take i xs) → now ≡ start ++ flat_map f (map h xs)
written_all f h start now xs i le is = is ∙ ap (λ ys. start ++ flat_map (λ x. f (h x)) ys) (take_all i xs le) ∙ ap (λ ys. start ++ ys) (sym (flat_map-map f h xs))
