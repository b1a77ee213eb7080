-- Plain cells and passes as they are made.
use Rattle.std.proofs.Common.{◌≡◌, ℕ, zero, suc, List, map, ◌+◌, ◌<◌, ◌≤◌, ◌^◌, [], ◌∷◌, ◌++◌, All, length, get_or, None, replicate, refl, sym, ap, ◌∙◌, subst, arith}
use Rattle.std.specs.Prelude.{Option}
use Rattle.std.specs.List.{AllPairs}
use Rattle.std.proofs.lemmas.List.{length-replicate, get_or-replicate, get_or_past}
use Rattle.std.proofs.lemmas.List.Elements.{All-nil, All-replicate}
use Rattle.std.proofs.lemmas.List.FromFn.{length-map-range_with_len, get_or-map-range_with_len, map-range_with_len_more}
use mathlib.Core.Logic.{dite}
use native.Mathlib.Decide.{dec_le}
use Rattle.layout.specs.declared.place.Place.{Place}
use Rattle.forwarding.specs.declared.plain_cells.held.Held.{Held}
use Rattle.forwarding.specs.ShortWords.{long_word}
use Rattle.forwarding.specs.Plain.{PlainPassValue, by_of, IsWinOf, IsFit, Differ, empty_cells, fresh_pass, fresh_passes, IsWonBelow, word_of, ArePlainCells}

pub length-fresh_passes : (count n many : ℕ) → length (fresh_passes count n many) ≡ many
length-fresh_passes count n many = length-map-range_with_len (fresh_pass count n) 0 many

pub fresh_passes-more : (count n many : ℕ) → fresh_passes count n (many + 1) ≡ fresh_passes count n many ++ fresh_pass count n many ∷ []
fresh_passes-more count n many = map-range_with_len_more (fresh_pass count n) 0 many many (omega arith)

fresh_passes-at : (count n k : ℕ) (d : PlainPassValue) → k < n → get_or (fresh_passes count n n) k d ≡ fresh_pass count n k
fresh_passes-at count n k d l = get_or-map-range_with_len (fresh_pass count n) 0 n k k d l (omega arith)

nothing : {X : Type 0} (n k : ℕ) → get_or {A = Option X} (replicate n None) k None ≡ None
nothing {X} n k = dite (dec_le (k + 1) n) (λ (l : k + 1 ≤ n). get_or-replicate n k None None (omega arith)) (λ high. let m = length-replicate {A = Option X} n None in get_or_past (replicate n None) k None (omega arith))

pub fresh_fits : (count n k : ℕ) → k < n → IsFit (empty_cells count n) (fresh_pass count n k)
fresh_fits count n k l = record {
  mine = (l, refl);
  many = length-replicate count None ∙ sym (length-replicate count None);
  known = λ name place e. let z : get_or {A = Option Place} (replicate count None) name None ≡ None = nothing count name in absurd (cc);
  won = All-nil (IsWinOf (replicate count None) k);
  once = λ name. sym (ap (by_of k) (nothing count name));
}

pub fresh_all_fit : (count n : ℕ) → All (IsFit (empty_cells count n)) (fresh_passes count n n)
fresh_all_fit count n k d below =
    let l : k < n = (let m = length-fresh_passes count n n in omega arith) in
    subst (λ (p : PlainPassValue). IsFit (empty_cells count n) p) (sym (fresh_passes-at count n k d l)) (fresh_fits count n k l)

pub fresh_differ : (count n : ℕ) → AllPairs Differ (fresh_passes count n n)
fresh_differ count n i j d less below e =
    let m = length-fresh_passes count n n in
    let l : j < n = omega arith in
    let a : (get_or (fresh_passes count n n) i d).number ≡ i = ap (λ (p : PlainPassValue). p.number) (fresh_passes-at count n i d (omega arith)) in
    let b : (get_or (fresh_passes count n n) j d).number ≡ j = ap (λ (p : PlainPassValue). p.number) (fresh_passes-at count n j d l) in
    let same : i ≡ j = sym a ∙ (e ∙ b) in
    omega arith

map-nothing : (n : ℕ) → map long_word (replicate n 0) ≡ map word_of (replicate n None)
map-nothing zero = refl
map-nothing (suc n) = ap (λ (ws : List ℕ). 0 ∷ ws) (map-nothing n)

pub empty_are : (count n : ℕ) → count < 2 ^ 32 → ArePlainCells (map long_word (replicate count 0)) (replicate count None) n
empty_are count n l = record {
  shown = map-nothing count;
  few = (let m = length-replicate {A = Option Held} count None in omega arith);
  winners = All-replicate (IsWonBelow n) count None tt;
}
