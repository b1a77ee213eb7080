-- The places that wait in blocks to be scanned, in order.
use Rattle.std.proofs.Common.{◌≡◌, ℕ, zero, suc, ◌≤◌, Bool, true, false, List, [], ◌∷◌, ◌++◌, Option, Some, None, refl, sym, ap, subst, ◌∙◌, set, cond, length, arith, map, filter, add-one, ltb-false}
use Rattle.std.proofs.lemmas.List.{append-nil, append_assoc, length-map, map-append}
use Rattle.std.proofs.lemmas.List.Elements.{filter-append}
use Rattle.std.proofs.lemmas.Option.{slice_get-map}
use Rattle.std.specs.Prelude.{slice_get, slice_set}
use Rattle.std.specs.Option.{option_map}
use Rattle.workers.specs.Block.{Block, Copy, empty_block, has_unscanned, front_copy, updated, with_field, with_copy, with_front_moved}
use Rattle.workers.specs.Worker.{Hand, Nothing, Open, Holding, HoldingLarge}
use Rattle.workers.specs.Joined.{Each}
use Rattle.workers.specs.Ordered.{rests, places_of}
use Rattle.workers.proofs.Lists.{Each-right, at, mapped, none-some}

-- the places of a block that aren't scanned
abbrev pub left_in : Block → List ℕ
left_in b = rests b.front (places_of b)

abbrev pub waiting : List Block → List ℕ
waiting [] = []
waiting (b ∷ bs) = left_in b ++ waiting bs

abbrev pub open_waiting : List (Option Block) → List ℕ
open_waiting [] = []
open_waiting (None ∷ os) = open_waiting os
open_waiting (Some b ∷ os) = left_in b ++ open_waiting os

abbrev pub in_hand : Hand → List ℕ
in_hand Nothing = []
in_hand (Open d) = []
in_hand (Holding b) = left_in b
in_hand (HoldingLarge n) = []

abbrev pub large_in_hand : Hand → List ℕ
large_in_hand Nothing = []
large_in_hand (Open d) = []
large_in_hand (Holding b) = []
large_in_hand (HoldingLarge n) = n ∷ []

-- the rest of a list
module _ {A : Type 0} where
  rests-all : (n : ℕ) (xs : List A) → length xs ≤ n → rests n xs ≡ []
  rests-all n [] l = refl
  rests-all zero (x ∷ xs) l = absurd (omega arith)
  rests-all (suc n) (x ∷ xs) l = rests-all n xs (omega arith)

  rests-zero : (xs : List A) → rests 0 xs ≡ xs
  rests-zero [] = refl
  rests-zero (x ∷ xs) = refl

  rests-push : (n : ℕ) (xs : List A) (y : A) → n ≤ length xs → rests n (xs ++ y ∷ []) ≡ rests n xs ++ y ∷ []
  rests-push zero [] y l = refl
  rests-push (suc n) [] y l = absurd (omega arith)
  rests-push zero (x ∷ xs) y l = refl
  rests-push (suc n) (x ∷ xs) y l = rests-push n xs y (omega arith)

  rests-next : (n : ℕ) (xs : List A) (y : A) → slice_get xs n ≡ Some y → rests n xs ≡ y ∷ rests (suc n) xs
  rests-next n [] y e = absurd (none-some e)
  rests-next zero (x ∷ xs) y e = let q : x ≡ y = cc in ap (λ z. z ∷ xs) q ∙ ap (λ zs. y ∷ zs) (sym (rests-zero xs))
  rests-next (suc n) (x ∷ xs) y e = rests-next n xs y e

-- of one block
pub left-empty : (number d : ℕ) → left_in (empty_block number d) ≡ []
left-empty number d = refl

pub left-none : (b : Block) → has_unscanned b ≡ false → left_in b ≡ []
left-none b e =
    let l : length b.copies ≤ b.front = ltb-false b.front (length b.copies) e in
    let m : length (places_of b) ≡ length b.copies = length-map b.copies (λ (c : Copy). c.place) in
    rests-all b.front (places_of b) (omega arith)

pub left-next : (b : Block) (c : Copy) → front_copy b ≡ Some c → left_in b ≡ c.place ∷ left_in (with_front_moved b)
left-next b c e =
    rests-next b.front (places_of b) c.place (slice_get-map (λ (x : Copy). x.place) b.copies b.front ∙ ap (option_map (λ (x : Copy). x.place)) e)
    ∙ ap (λ n. c.place ∷ rests n (places_of b)) (sym (add-one b.front))

pub left-field : (i : ℕ) (v : Option ℕ) (b : Block) → left_in (with_field i v b) ≡ left_in b
left-field i v b = ap (rests b.front) (same b.copies b.front)
  where
    same : (cs : List Copy) (n : ℕ) → map (λ (c : Copy). c.place) (updated (λ (c : Copy). record c { pointers = slice_set c.pointers i v }) cs n) ≡ map (λ (c : Copy). c.place) cs
    same [] n = refl
    same (c ∷ cs) zero = refl
    same (c ∷ cs) (suc n) = ap (λ ps. c.place ∷ ps) (same cs n)

pub left-copy : (c : Copy) (b : Block) → b.front ≤ length b.copies → left_in (with_copy c b) ≡ left_in b ++ c.place ∷ []
left-copy c b l =
    let m : length (places_of b) ≡ length b.copies = length-map b.copies (λ (x : Copy). x.place) in
    ap (rests b.front) (map-append (λ (x : Copy). x.place) b.copies (c ∷ [])) ∙ rests-push b.front (places_of b) c.place (omega arith)

-- of several
pub waiting-push : (bs : List Block) (b : Block) → waiting (bs ++ b ∷ []) ≡ waiting bs ++ left_in b
waiting-push [] b = append-nil (left_in b)
waiting-push (x ∷ bs) b = ap (λ ps. left_in x ++ ps) (waiting-push bs b) ∙ sym (append_assoc (left_in x) (waiting bs) (left_in b))

-- of allocation blocks, no more than one
some_same : {A : Type 0} {x y : A} → Some x ≡ Some y → x ≡ y
some_same e = cc

pub only_one : (os : List (Option Block)) (d : ℕ) (b : Block) → length os ≤ 1 → at os d ≡ Some b → (d ≡ 0) × (os ≡ Some b ∷ [])
only_one [] d b l e = absurd (none-some e)
only_one (o ∷ []) zero b l e = (refl, ap (λ x. x ∷ []) e)
only_one (o ∷ []) (suc d) b l e = absurd (none-some e)
only_one (o ∷ (o2 ∷ os)) d b l e = absurd (omega arith)

module _ (os : List (Option Block)) (d : ℕ) where
  pub open-new : (number : ℕ) → at os d ≡ None → open_waiting (set os d (Some (empty_block number d))) ≡ open_waiting os
  open-new number e = go os d e
    where
      go : (os : List (Option Block)) (i : ℕ) → at os i ≡ None → open_waiting (set os i (Some (empty_block number d))) ≡ open_waiting os
      go [] i e = refl
      go (None ∷ os) zero e = refl
      go (Some b ∷ os) zero e = absurd (none-some (sym e))
      go (None ∷ os) (suc i) e = go os i e
      go (Some b ∷ os) (suc i) e = ap (λ ps. left_in b ++ ps) (go os i e)

  module _ (b : Block) (one : length os ≤ 1) (there : at os d ≡ Some b) where
    only : (d ≡ 0) × (os ≡ Some b ∷ [])
    only = only_one os d b one there

    pub open-is : open_waiting os ≡ left_in b
    open-is = ap open_waiting only.1 ∙ append-nil (left_in b)

    pub open-set : (b' : Block) → open_waiting (set os d (Some b')) ≡ left_in b'
    open-set b' = ap (λ i. open_waiting (set os i (Some b'))) only.0 ∙ ap (λ xs. open_waiting (set xs 0 (Some b'))) only.1 ∙ append-nil (left_in b')

    pub open-updated : (g : Block → Block) → open_waiting (updated (mapped g) os d) ≡ left_in (g b)
    open-updated g = ap (λ i. open_waiting (updated (mapped g) os i)) only.0 ∙ ap (λ xs. open_waiting (updated (mapped g) xs 0)) only.1 ∙ append-nil (left_in (g b))

pub open-field : (i : ℕ) (v : Option ℕ) (os : List (Option Block)) (d : ℕ) → open_waiting (updated (mapped (with_field i v)) os d) ≡ open_waiting os
open-field i v [] d = refl
open-field i v (None ∷ os) zero = refl
open-field i v (Some b ∷ os) zero = ap (λ ps. ps ++ open_waiting os) (left-field i v b)
open-field i v (None ∷ os) (suc d) = open-field i v os d
open-field i v (Some b ∷ os) (suc d) = ap (λ ps. left_in b ++ ps) (open-field i v os d)

pub open-none : (os : List (Option Block)) → ((d : ℕ) (b : Block) → at os d ≡ Some b → has_unscanned b ≡ false) → open_waiting os ≡ []
open-none [] h = refl
open-none (None ∷ os) h = open-none os (λ d b e. h (suc d) b e)
open-none (Some b ∷ os) h = ap (λ ps. ps ++ open_waiting os) (left-none b (h 0 b refl)) ∙ open-none os (λ d x e. h (suc d) x e)

-- filters
module _ {A : Type 0} (p : A → Bool) where
  pub filter-yes : (xs : List A) (x : A) → p x ≡ true → filter p (xs ++ x ∷ []) ≡ filter p xs ++ x ∷ []
  filter-yes xs x e = filter-append p xs (x ∷ []) ∙ ap (λ b. filter p xs ++ cond b (x ∷ []) []) e

  pub filter-no : (xs : List A) (x : A) → p x ≡ false → filter p (xs ++ x ∷ []) ≡ filter p xs
  filter-no xs x e = filter-append p xs (x ∷ []) ∙ ap (λ b. filter p xs ++ cond b (x ∷ []) []) e ∙ append-nil (filter p xs)

  filter-each : (xs : List A) → Each (λ x. p x ≡ true) (filter p xs)
  filter-each [] = tt
  filter-each (x ∷ xs) = go (p x) refl (filter-each xs)
    where
      go : (b : Bool) → p x ≡ b → Each (λ y. p y ≡ true) (filter p xs) → Each (λ y. p y ≡ true) (cond b (x ∷ filter p xs) (filter p xs))
      go true e h = (e, h)
      go false e h = h

  -- what is left of a filtered list passes too
  pub next_passes : (done : List A) (x : A) (rest xs : List A) → done ++ x ∷ rest ≡ filter p xs → p x ≡ true
  next_passes done x rest xs e = (Each-right (λ y. p y ≡ true) done (x ∷ rest) (subst (Each (λ y. p y ≡ true)) (sym e) (filter-each xs))).0
