-- The place with a word is the one whose word it is.
use Rattle.std.proofs.Common.{◌≡◌, ◌≢◌, ℕ, ◌-◌, ◌/◌, ◌%◌, ◌<◌, ◌≤◌, List, [], ◌∷◌, map, length, get_or, Some, None, refl, sym, ap, ◌∙◌, arith}
use Rattle.std.specs.Prelude.{Option, IfSome, IfNone}
use Rattle.std.specs.Option.{option_flatten}
use Rattle.std.proofs.lemmas.List.{get_or-map}
use native.Mathlib.Decide.{dec_le}
use Rattle.layout.specs.declared.place.SmallPlace.{SmallPlace}
use Rattle.layout.specs.declared.place.LargeNumber.{LargeNumber}
use Rattle.layout.specs.declared.place.Place.{Place}
use Rattle.layout.specs.declared.place.Place.TheVariants.{Small, Large}
use Rattle.layout.specs.Place.{pointer_word}
use Rattle.layout.proofs.Pointers.{pointer_word-one_to_one}
use Rattle.forwarding.specs.Forwards.{large_shown, small_shown, shown_in, shown_place}

large_is : (n : ℕ) (of : LargeNumber) → n ≡ of.number → (d : Dec (n < 65535)) → large_shown n d ≡ Some (Large of)
large_is n of e (yes l) = pointer_word-one_to_one (Some (Large (record { number = n; in_range = l }))) (Some (Large of)) (omega arith)
large_is n of e (no h) = let l = of.in_range in absurd (h (omega arith))

small_is : (b o : ℕ) (at : SmallPlace) → b ≡ at.block → o ≡ at.offset → (d : Dec (b < 65535)) (e : Dec (o < 512)) → small_shown b o d e ≡ Some (Small at)
small_is b o at p q (yes k) (yes l) = pointer_word-one_to_one (Some (Small (record { block = b; offset = o; block_in_range = k; offset_in_range = l }))) (Some (Small at)) (omega arith)
small_is b o at p q (yes k) (no h) = let l = at.offset_in_range in absurd (h (omega arith))
small_is b o at p q (no h) e = let l = at.block_in_range in absurd (h (omega arith))

shown_is : (word : ℕ) (pointer : Option Place) → pointer_word pointer ≡ word → (d : Dec (9223372036854775808 ≤ word)) (e : Dec (65536 ≤ word)) → shown_in word d e ≡ pointer
shown_is word None is (yes h) e = absurd (omega arith)
shown_is word None is (no h) (yes k) = absurd (omega arith)
shown_is word None is (no h) (no k) = refl
shown_is word (Some (Large of)) is (yes h) e = large_is _ of (omega arith) (dec_le _ _)
shown_is word (Some (Large of)) is (no h) e = absurd (h (omega arith))
shown_is word (Some (Small at)) is (yes h) e = let b = at.block_in_range in let o = at.offset_in_range in absurd (omega arith)
shown_is word (Some (Small at)) is (no h) (yes k) = let b = at.block_in_range in let o = at.offset_in_range in small_is _ _ at (omega arith) (omega arith) (dec_le _ _) (dec_le _ _)
shown_is word (Some (Small at)) is (no h) (no k) = absurd (k (omega arith))

-- the word of a pointer shows it
pub shown_by : (word : ℕ) (pointer : Option Place) → pointer_word pointer ≡ word → shown_place word ≡ pointer
unfolding shown_place
shown_by word pointer is = shown_is word pointer is (dec_le _ _) (dec_le _ _)

module _ (word : ℕ) (none : (pointer : Option Place) → pointer_word pointer ≢ word) where
  large_none : 9223372036854775808 ≤ word → (d : Dec (word - 9223372036854775808 < 65535)) → large_shown (word - 9223372036854775808) d ≡ None
  large_none high (yes l) = absurd (none (Some (Large (record { number = word - 9223372036854775808; in_range = l }))) (omega arith))
  large_none high (no h) = refl

  small_none : 65536 ≤ word → (d : Dec (word / 65536 - 1 < 65535)) (e : Dec (word % 65536 < 512)) → small_shown (word / 65536 - 1) (word % 65536) d e ≡ None
  small_none high (yes b) (yes o) = absurd (none (Some (Small (record { block = word / 65536 - 1; offset = word % 65536; block_in_range = b; offset_in_range = o }))) (omega arith))
  small_none high (yes b) (no h) = refl
  small_none high (no h) e = refl

  none_in : (d : Dec (9223372036854775808 ≤ word)) (e : Dec (65536 ≤ word)) → shown_in word d e ≡ None
  none_in (yes h) e = large_none h (dec_le _ _)
  none_in (no h) (yes k) = small_none k (dec_le _ _) (dec_le _ _)
  none_in (no h) (no k) = refl

  -- a word that no pointer has shows none
  pub shows_none : shown_place word ≡ None
  unfolding shown_place
  shows_none = none_in (dec_le _ _) (dec_le _ _)

-- the words of places show them
pub shown_each : {X : Type 0} (place : X → Option Place) (xs : List X) (words : List ℕ) → words ≡ map (λ x. pointer_word (place x)) xs → map shown_place words ≡ map place xs
shown_each place [] words is = ap (map shown_place) is
shown_each place (x ∷ xs) words is = ap (map shown_place) is
    ∙ (ap (λ (o : Option Place). o ∷ map shown_place (map (λ y. pointer_word (place y)) xs)) (shown_by (pointer_word (place x)) (place x) refl) ∙ ap (λ (os : List (Option Place)). place x ∷ os) (shown_each place xs (map (λ y. pointer_word (place y)) xs) refl))

-- the name's word shows the place of the name
pub shown_at : (words : List ℕ) (name : ℕ) (pointer : Option Place) → name < length words → pointer_word pointer ≡ get_or words name 0 → get_or (map shown_place words) name None ≡ pointer
shown_at words name pointer below is = get_or-map shown_place words name 0 None below ∙ shown_by (get_or words name 0) pointer is

-- what is read of a word is what it shows
pub flat_shown : (word : ℕ) (read : Option (Option Place)) → IfSome read (λ pointer. pointer_word pointer ≡ word) → IfNone read ((pointer : Option Place) → pointer_word pointer ≢ word) → shown_place word ≡ option_flatten read
flat_shown word (Some pointer) is none = shown_by word pointer is
flat_shown word None is none = shows_none word none

-- the place that a word of the list shows
pub shown_read : (words : List ℕ) (name word default : ℕ) → name < length words → word ≡ get_or words name default → shown_place word ≡ get_or (map shown_place words) name None
shown_read words name word default below is = ap shown_place is ∙ sym (get_or-map shown_place words name default None below)
