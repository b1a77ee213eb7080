-- What plain cells answer in the end.
use Rattle.std.proofs.Common.{◌≡◌, ℕ, zero, suc, ◌+◌, ◌<◌, List, [], ◌∷◌, All, length, map, get_or, Some, None, refl, sym, ap, ◌∙◌, subst, arith}
use Rattle.std.specs.Prelude.{Option, slice_index_or}
use Rattle.std.specs.List.{AllPairs}
use Rattle.std.proofs.lemmas.List.{get_or_past}
use Rattle.std.proofs.lemmas.List.Elements.{All-nil, All-cons, All-head, All-tail, All-append, All-weaker, All-get_or}
use mathlib.Core.Logic.{dite}
use native.Mathlib.Decide.{dec_le}
use Rattle.layout.specs.declared.place.Place.{Place}
use Rattle.forwarding.specs.declared.plain_cells.held.Held.{Held}
use Rattle.forwarding.specs.Settled.{Pairs, wins_of, ones, all_pairs, KnowsOnly, Agree, IsSettled}
use Rattle.model.specs.Total.{times}
use Rattle.forwarding.specs.Plain.{PlainValue, PlainPassValue, known_by, place_of, by_of, IsWinOf, IsFit, Differ, IsWonBelow, word_of, ArePlainCells}
use Rattle.forwarding.specs.Forwards.{shown_place}
use Rattle.forwarding.proofs.Agreeing.{agrees}
use Rattle.forwarding.proofs.ShownPlace.{shown_each}
use Rattle.forwarding.proofs.Few.{once_each}
use Rattle.forwarding.proofs.PairLemmas.{wins_of-append}

-- the places that the cells hold
abbrev places : List (Option Held) → ℕ → Option Place
places held name = get_or (map place_of held) name None

places-at : (held : List (Option Held)) (name : ℕ) → places held name ≡ place_of (get_or held name None)
places-at [] name = refl
places-at (x ∷ xs) zero = refl
places-at (x ∷ xs) (suc name) = places-at xs name

ones-place_of : (o : Option Held) → ones (place_of o) ≡ ones o
ones-place_of None = refl
ones-place_of (Some held) = refl

abbrev won_of : PlainPassValue → Pairs
won_of p = p.won

-- how many of the passes won the cell
by_all : Option Held → List PlainPassValue → ℕ
by_all o [] = 0
by_all o (p ∷ ps) = by_of p.number o + by_all o ps

by_all-None : (ps : List PlainPassValue) → by_all None ps ≡ 0
unfolding by_all
by_all-None [] = refl
by_all-None (p ∷ ps) = let r = by_all-None ps in omega arith

by_all-Some : (held : Held) (ps : List PlainPassValue) → by_all (Some held) ps ≡ times (λ (p : PlainPassValue). p.number) held.winner ps
unfolding by_all
by_all-Some held [] = refl
by_all-Some held (p ∷ ps) = ap (λ (n : ℕ). by_of p.number (Some held) + n) (by_all-Some held ps)

wins_by_all : (cells : PlainValue) (ps : List PlainPassValue) → All (IsFit cells) ps → (name : ℕ) → wins_of name (all_pairs won_of ps) ≡ by_all (get_or cells.held name None) ps
unfolding by_all
wins_by_all cells [] fits name = refl
wins_by_all cells (p ∷ ps) fits name =
    let r = wins_by_all cells ps (All-tail (IsFit cells) p ps fits) name in
    let here = (All-head (IsFit cells) p ps fits).once name in
    let both = wins_of-append name p.won (all_pairs won_of ps) in omega arith

wins_held : (cells : PlainValue) (ps : List PlainPassValue) → All (IsFit cells) ps → All (λ (x : ℕ × Place). places cells.held x.0 ≡ Some x.1) (all_pairs won_of ps)
wins_held cells [] fits = All-nil (λ (x : ℕ × Place). places cells.held x.0 ≡ Some x.1)
wins_held cells (p ∷ ps) fits =
    let Q : ℕ × Place → Type 0 = λ x. places cells.held x.0 ≡ Some x.1 in
    All-append Q p.won (all_pairs won_of ps)
    (All-weaker (IsWinOf cells.held p.number) Q (λ x won. places-at cells.held x.0 ∙ ap place_of won) p.won (All-head (IsFit cells) p ps fits).won)
    (wins_held cells ps (All-tail (IsFit cells) p ps fits))

winner_below : (held : List (Option Held)) (passes : ℕ) → All (IsWonBelow passes) held → (name : ℕ) → IsWonBelow passes (get_or held name None)
winner_below held passes each name = dite (dec_le (suc name) (length held)) (λ (l : name < length held). All-get_or (IsWonBelow passes) held name None l each)
    (λ high. subst (λ (o : Option Held). IsWonBelow passes o) (sym (get_or_past held name None (omega arith))) tt)

module _ (cells : PlainValue) (ps : List PlainPassValue) (words : List ℕ) (are : ArePlainCells words cells.held cells.passes) (fits : All (IsFit cells) ps) (differ : AllPairs Differ ps) (many : length ps ≡ cells.passes) where
  once_by : (o : Option Held) → IsWonBelow cells.passes o → by_all o ps ≡ ones o
  once_by None l = by_all-None ps
  once_by (Some held) l =
      by_all-Some held ps ∙ once_each (λ (p : PlainPassValue). p.number) cells.passes ps many (All-weaker (IsFit cells) (λ (p : PlainPassValue). p.number < cells.passes) (λ p fit. fit.mine.0) ps fits) differ held.winner l

  pub plain_settles : IsSettled known_by won_of ps (length cells.held) (places cells.held)
  plain_settles = record {
    known_settled = All-weaker (IsFit cells) (λ (p : PlainPassValue). KnowsOnly (known_by p) (places cells.held)) (λ p fit name place e. places-at cells.held name ∙ fit.known name place e) ps fits;
    won_settled = wins_held cells ps fits;
    once = λ name. let o : Option Held = get_or cells.held name None in
        wins_by_all cells ps fits name ∙ (once_by o (winner_below cells.held cells.passes are.winners name) ∙ (sym (ones-place_of o) ∙ ap ones (sym (places-at cells.held name))));
    none_past = λ name high. places-at cells.held name ∙ ap place_of (get_or_past cells.held name None high);
  }

  pub settles_as : (f : List (Option Place)) → f ≡ map place_of cells.held → IsSettled known_by won_of ps (length cells.held) (λ name. slice_index_or f name None)
  settles_as f is = subst (λ (g : List (Option Place)). IsSettled known_by won_of ps (length cells.held) (λ name. slice_index_or g name None)) (sym is) plain_settles

  pub they_agree : Agree known_by ps
  they_agree = agrees known_by (places cells.held) ps plain_settles.known_settled

-- the words show what the cells hold
pub exact_as : (held : List (Option Held)) (words : List ℕ) → words ≡ map word_of held → map shown_place words ≡ map place_of held
exact_as held words shown = shown_each place_of held words shown

-- a pass alone is all of them
pub fits_alone : (cells : PlainValue) (p : PlainPassValue) → IsFit cells p → All (IsFit cells) (p ∷ [])
fits_alone cells p fit = All-cons (IsFit cells) p [] fit (All-nil (IsFit cells))

pub differs_alone : (p : PlainPassValue) → AllPairs Differ (p ∷ [])
differs_alone p i j d less below = absurd (omega arith)
