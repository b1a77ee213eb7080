-- A race of plain cells keeps what holds of the passes.
use Rattle.std.proofs.Common.{◌≡◌, ◌≢◌, ℕ, ◌<◌, List, [], ◌∷◌, ◌++◌, set, length, map, get_or, Some, None, refl, sym, ap, ◌∙◌, arith, eq-eqb, ne_eqb, length-set, get_or-set_same, get_or-set_other}
use Rattle.std.specs.Prelude.{Option}
use Rattle.std.proofs.lemmas.List.{get_or-map, length-map, map-set}
use Rattle.std.proofs.lemmas.List.Elements.{All-push, All-weaker, All-set}
use mathlib.Core.Logic.{dite}
use native.Mathlib.Decide.{ℕ_discrete}
use Rattle.layout.specs.declared.place.Place.{Place}
use Rattle.layout.specs.Place.{place_word, pointer_word}
use Rattle.forwarding.specs.declared.plain_cells.held.Held.{Held}
use Rattle.forwarding.specs.Learned.{Learns}
use Rattle.forwarding.specs.Settled.{Pairs}
use Rattle.forwarding.specs.Plain.{PlainValue, PlainPassValue, place_of, by_of, IsWinOf, IsFit, IsWonBelow, word_of, ArePlainCells}
use Rattle.forwarding.specs.Minds.{filled}
use Rattle.forwarding.specs.ShortWords.{long_word}
use Rattle.forwarding.proofs.PairLemmas.{none_unless, wins_of-append, wins_of-itself, wins_of-another}

pub by_of-itself : (number : ℕ) (held : Held) → number ≡ held.winner → by_of number (Some held) ≡ 1
by_of-itself number held is = rw (eq-eqb number held.winner is)

pub by_of-another : (number : ℕ) (held : Held) → number ≢ held.winner → by_of number (Some held) ≡ 0
by_of-another number held ne = rw (ne_eqb number held.winner ne)

-- a pair that stands elsewhere is still held
still : (held : List (Option Held)) (number at : ℕ) (mine : Option Held) → get_or held at None ≡ None → (x : ℕ × Place) → IsWinOf held number x → IsWinOf (set held at mine) number x
still held number at mine empty x old = dite (ℕ_discrete x.0 at)
    (λ is. let e : get_or held x.0 None ≡ None = ap (λ (k : ℕ). get_or held k None) is ∙ empty in absurd (cc))
    (λ ne. get_or-set_other held at x.0 mine None ne ∙ old)

still_known : (held : List (Option Held)) (at : ℕ) (mine : Option Held) → get_or held at None ≡ None → (name : ℕ) (r : Place) → place_of (get_or held name None) ≡ Some r → place_of (get_or (set held at mine) name None) ≡ Some r
still_known held at mine empty name r e = dite (ℕ_discrete name at)
    (λ is. let z : place_of (get_or held name None) ≡ None = ap place_of (ap (λ (k : ℕ). get_or held k None) is ∙ empty) in absurd (cc))
    (λ ne. ap place_of (get_or-set_other held at name mine None ne) ∙ e)

-- who wins the cell fits the cells after
pub winner_fits : (held : List (Option Held)) (passes number made at : ℕ) (place : Place) (known : List (Option Place)) (won : Pairs)
    → IsFit (record { held = held; passes = passes }) (record { number = number; passes = made; known = known; won = won }) → get_or held at None ≡ None → at < length held
    → IsFit (record { held = set held at (Some (record { place = place; winner = number })); passes = passes }) (record { number = number; passes = made; known = set known at (Some place); won = won ++ (at, place) ∷ [] })
winner_fits held passes number made at place known won fit empty l =
    let mine : Option Held = Some (record { place = place; winner = number }) in
    let held' : List (Option Held) = set held at mine in
    let there : get_or held' at None ≡ mine = get_or-set_same held at mine None l in
    let many = fit.many in
    record {
      mine = fit.mine;
      many = length-set known at (Some place) ∙ (fit.many ∙ sym (length-set held at mine));
      known = λ name r e. dite (ℕ_discrete name at)
          (λ is. let a : get_or (set known at (Some place)) name None ≡ Some place = ap (λ (k : ℕ). get_or (set known at (Some place)) k None) is ∙ get_or-set_same known at (Some place) None (omega arith) in
          ap place_of (ap (λ (k : ℕ). get_or held' k None) is ∙ there) ∙ (sym a ∙ e))
          (λ ne. ap place_of (get_or-set_other held at name mine None ne) ∙ fit.known name r (sym (get_or-set_other known at name (Some place) None ne) ∙ e));
      won = All-push (IsWinOf held' number) won (at, place) (All-weaker (IsWinOf held number) (IsWinOf held' number) (still held number at mine empty) won fit.won) there;
      once = λ name. let more = wins_of-append name won ((at, place) ∷ []) in let was = fit.once name in dite (ℕ_discrete at name)
          (λ is. let before : by_of number (get_or held name None) ≡ 0 = ap (by_of number) (ap (λ (k : ℕ). get_or held k None) (sym is) ∙ empty) in
          let one = wins_of-itself at name place is in
          let after : by_of number (get_or held' name None) ≡ 1 = ap (by_of number) (ap (λ (k : ℕ). get_or held' k None) (sym is) ∙ there) ∙ by_of-itself number (record { place = place; winner = number }) refl in omega arith)
          (λ ne. let none = wins_of-another at name place ne in
          let same : by_of number (get_or held' name None) ≡ by_of number (get_or held name None) = ap (by_of number) (get_or-set_other held at name mine None (λ e. ne (sym e))) in omega arith);
    }

-- and so do the others
pub others_fit : (held : List (Option Held)) (passes at winner : ℕ) (place : Place) (p : PlainPassValue)
    → IsFit (record { held = held; passes = passes }) p → get_or held at None ≡ None → at < length held → p.number ≢ winner
    → IsFit (record { held = set held at (Some (record { place = place; winner = winner })); passes = passes }) p
others_fit held passes at winner place p fit empty l differ =
    let mine : Option Held = Some (record { place = place; winner = winner }) in
    let held' : List (Option Held) = set held at mine in
    let there : get_or held' at None ≡ mine = get_or-set_same held at mine None l in
    record {
      mine = fit.mine;
      many = fit.many ∙ sym (length-set held at mine);
      known = λ name r e. still_known held at mine empty name r (fit.known name r e);
      won = All-weaker (IsWinOf held p.number) (IsWinOf held' p.number) (still held p.number at mine empty) p.won fit.won;
      once = λ name. fit.once name ∙ dite (ℕ_discrete name at)
          (λ is. ap (by_of p.number) (ap (λ (k : ℕ). get_or held k None) is ∙ empty) ∙ sym (ap (by_of p.number) (ap (λ (k : ℕ). get_or held' k None) is ∙ there) ∙ by_of-another p.number (record { place = place; winner = winner }) differ))
          (λ ne. sym (ap (by_of p.number) (get_or-set_other held at name mine None ne)));
    }

pub as_many_words : (words : List ℕ) (held : List (Option Held)) (passes : ℕ) → ArePlainCells (map long_word words) held passes → length words ≡ length held
as_many_words words held passes are = sym (length-map words long_word) ∙ (ap length are.shown ∙ length-map held word_of)

-- the name's word is the short one of that of the place held
pub shows : (words : List ℕ) (held : List (Option Held)) (passes name word : ℕ) → ArePlainCells (map long_word words) held passes → name < length held → word ≡ get_or words name word
    → pointer_word (place_of (get_or held name None)) ≡ long_word word
shows words held passes name word are below at =
    let there : name < length words = omega (arith, below, as_many_words words held passes are) in
    sym (ap long_word at ∙ (sym (get_or-map long_word words name word 0 there) ∙ (ap (λ (ws : List ℕ). get_or ws name 0) are.shown ∙ get_or-map word_of held name None 0 below)))

-- what is read off it is the place held
pub reads : (words : List ℕ) (held : List (Option Held)) (passes name word : ℕ) (r : Option Place) → ArePlainCells (map long_word words) held passes → name < length held → word ≡ get_or words name word
    → ((pointer : Option Place) → pointer_word pointer ≡ long_word word → r ≡ pointer) → r ≡ place_of (get_or held name None)
reads words held passes name word r are below at is = is (place_of (get_or held name None)) (shows words held passes name word are below at)

pub none_held : (o : Option Held) → None ≡ place_of o → o ≡ None
none_held None e = refl
none_held (Some held) e = absurd (cc)

-- who learns the place that a cell holds fits the cells
pub learner_fits : (cells : PlainValue) (pass : PlainPassValue) (name : ℕ) (place : Place) → IsFit cells pass → place_of (get_or cells.held name None) ≡ Some place → name < length cells.held
    → IsFit cells (record pass { known = set pass.known name (Some place) })
learner_fits cells pass name place fit here below =
    let known' : List (Option Place) = set pass.known name (Some place) in
    let many = fit.many in
    record {
      mine = fit.mine;
      many = length-set pass.known name (Some place) ∙ fit.many;
      known = λ k r e. dite (ℕ_discrete k name)
          (λ is. let a : get_or known' k None ≡ Some place = ap (λ (j : ℕ). get_or known' j None) is ∙ get_or-set_same pass.known name (Some place) None (omega arith) in
          ap (λ (j : ℕ). place_of (get_or cells.held j None)) is ∙ (here ∙ (sym a ∙ e)))
          (λ ne. fit.known k r (sym (get_or-set_other pass.known name k (Some place) None ne) ∙ e));
      won = fit.won;
      once = fit.once;
    }

-- the place that the cell shows, or gets, is learned
pub learns : (held : List (Option Held)) (known : List (Option Place)) (name : ℕ) (place : Place) → name < length known
    → ((p : Place) → get_or known name None ≡ Some p → place_of (get_or held name None) ≡ Some p) → ((p : Place) → place_of (get_or held name None) ≡ Some p → Some place ≡ Some p)
    → Learns (λ k. get_or known k None) (λ k. get_or (set known name (Some place)) k None) name (Some place)
learns held known name place below fits is = record {
  told = get_or-set_same known name (Some place) None below;
  lasting = λ p e. is p (fits p e);
  others = λ m ne. get_or-set_other known name m (Some place) None ne;
}

-- of an empty cell nothing is learned
pub learns_nothing : (held : List (Option Held)) (known : List (Option Place)) (name : ℕ) → None ≡ place_of (get_or held name None)
    → ((p : Place) → get_or known name None ≡ Some p → place_of (get_or held name None) ≡ Some p) → Learns (λ k. get_or known k None) (λ k. get_or known k None) name None
learns_nothing held known name empty fits = record {
  told = none_unless (get_or known name None) (λ p e. let some = fits p e in absurd (cc));
  lasting = λ p e. empty ∙ fits p e;
  others = λ m ne. refl;
}

-- the cells after a race that is won
pub cells_set : (words : List ℕ) (held : List (Option Held)) (passes at number word : ℕ) (place : Place) → long_word word ≡ place_word place → number < passes → ArePlainCells (map long_word words) held passes
    → ArePlainCells (map long_word (set words at word)) (filled held number at place) passes
cells_set words held passes at number word place is l are =
    let mine : Held = record { place = place; winner = number } in record {
      shown = map-set long_word words at word ∙ (ap (λ (w : ℕ). set (map long_word words) at w) is
          ∙ (ap (λ (ws : List ℕ). set ws at (place_word place)) are.shown ∙ sym (map-set word_of held at (Some mine))));
      few = (let n = length-set held at (Some mine) in let f = are.few in omega arith);
      winners = All-set (IsWonBelow passes) held at (Some mine) l are.winners;
    }
