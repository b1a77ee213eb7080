-- Two pointers of one word are one pointer, and two places of one word are one place.
use Rattle.std.proofs.Common.{◌≡◌, ℕ, ◌<◌, Option, Some, None, refl, ap, subst, ◌∙◌, arith}
use Rattle.std.specs.Coded.{le_prop}
use Rattle.layout.specs.declared.place.SmallPlace.{SmallPlace}
use Rattle.layout.specs.declared.place.LargeNumber.{LargeNumber}
use Rattle.layout.specs.declared.place.Place.{Place}
use Rattle.layout.specs.declared.place.Place.TheVariants.{Small, Large}
use Rattle.layout.specs.Place.{place_word, pointer_word}

same_small : (x y : SmallPlace) → x.block ≡ y.block → x.offset ≡ y.offset → x ≡ y
same_small x y b o =
    subst (λ (n : ℕ). (h : n < 65535) → let z : SmallPlace = record { block = n; offset = y.offset; block_in_range = h; offset_in_range = y.offset_in_range } in x ≡ z) b
    (λ h. subst (λ (m : ℕ). (k : m < 512) → let z : SmallPlace = record { block = x.block; offset = m; block_in_range = h; offset_in_range = k } in x ≡ z) o
    (λ k. ap (λ p. let z : SmallPlace = record { block = x.block; offset = x.offset; block_in_range = p; offset_in_range = x.offset_in_range } in z) (le_prop _ _)
    ∙ ap (λ p. let z : SmallPlace = record { block = x.block; offset = x.offset; block_in_range = h; offset_in_range = p } in z) (le_prop _ _))
    y.offset_in_range)
    y.block_in_range

same_large : (x y : LargeNumber) → x.number ≡ y.number → x ≡ y
same_large x y e =
    subst (λ (n : ℕ). (h : n < 65535) → let z : LargeNumber = record { number = n; in_range = h } in x ≡ z) e
    (λ h. ap (λ p. let z : LargeNumber = record { number = x.number; in_range = p } in z) (le_prop _ _))
    y.in_range

pub pointer_word-one_to_one : (p q : Option Place) → pointer_word p ≡ pointer_word q → p ≡ q
pointer_word-one_to_one None None e = refl
pointer_word-one_to_one None (Some (Small y)) e = absurd (omega arith)
pointer_word-one_to_one None (Some (Large y)) e = absurd (omega arith)
pointer_word-one_to_one (Some (Small x)) None e = absurd (omega arith)
pointer_word-one_to_one (Some (Large x)) None e = absurd (omega arith)
pointer_word-one_to_one (Some (Small x)) (Some (Small y)) e =
    ap (λ (z : SmallPlace). Some (Small z)) (same_small x y (omega arith) (omega arith))
pointer_word-one_to_one (Some (Small x)) (Some (Large y)) e = absurd (omega arith)
pointer_word-one_to_one (Some (Large x)) (Some (Small y)) e = absurd (omega arith)
pointer_word-one_to_one (Some (Large x)) (Some (Large y)) e =
    ap (λ (z : LargeNumber). Some (Large z)) (same_large x y (omega arith))

pub place_word-one_to_one : (x y : Place) → place_word x ≡ place_word y → x ≡ y
place_word-one_to_one (Small x) (Small y) e = ap Small (same_small x y (omega arith) (omega arith))
place_word-one_to_one (Small x) (Large y) e = absurd (omega arith)
place_word-one_to_one (Large x) (Small y) e = absurd (omega arith)
place_word-one_to_one (Large x) (Large y) e = ap Large (same_large x y (omega arith))
