-- What a step tells its caller.
use Rattle.std.proofs.Common.{◌≡◌, ℕ, Some, None, sym, refl, ap, ◌∙◌, subst, eq-eqb, ne_eqb, Bool, true, false}
use Rattle.std.specs.Prelude.{Option}
use mathlib.Core.Logic.{dite}
use native.Mathlib.Decide.{ℕ_discrete}
use mathlib.Core.Option.{none}
use Rattle.atomic_table.specs.Table.{step}
use Rattle.layout.specs.declared.place.Place.{Place}
use Rattle.layout.specs.Place.{IsPointer, place_word, pointer_word}
use Rattle.layout.proofs.Pointers.{place_word-one_to_one}
use Rattle.forwarding.specs.declared.word_cells.plays.Mind.{Mind}
use Rattle.forwarding.specs.declared.cells.outcome.Outcome.{Outcome}
use Rattle.forwarding.specs.declared.cells.outcome.Outcome.TheVariants.{Won, Lost}
use Rattle.forwarding.specs.Learned.{Learns, RaceEnds, place_after}
use Rattle.forwarding.specs.Kept.{learn, win, Looked, RacedBy, Raced}
use Rattle.forwarding.specs.Known.{known_in, Lasts}
use Rattle.forwarding.proofs.PairLemmas.{Learns-cons, Learns-none}
use Rattle.forwarding.proofs.Keeps.{Sat}

learns : (name : ℕ) (o : Option Place) (v w : Mind) → w ≡ learn name o v → Lasts v.known name o → Learns (known_in v.known) (known_in w.known) name o
learns name None v w is lasts = subst (λ (u : Mind). Learns (known_in v.known) (known_in u.known) name None) (sym is) (Learns-none name v.known lasts)
learns name (Some p) v w is lasts = subst (λ (u : Mind). Learns (known_in v.known) (known_in u.known) name (Some p)) (sym is) (Learns-cons name p v.known lasts)

won_after : (name : ℕ) (o : Option Place) (v w : Mind) → w ≡ learn name o v → w.won ≡ v.won
won_after name None v w is = ap (λ (u : Mind). u.won) is
won_after name (Some p) v w is = ap (λ (u : Mind). u.won) is

-- the answer is the pointer that the word shows
module _ (name : ℕ) (m m' : Sat) (found : ℕ) (r : Option Place) (looked : Looked (step 0 name 0 0 none) m found m') (told : (o : Option Place) → pointer_word o ≡ found → r ≡ o) where
  abbrev seen : (o : Option Place) × (m' ≡ (learn name o m.0, m.1)) × Lasts m.0.known name o × (r ≡ o)
  seen = (looked.0, looked.2, looked.3, told looked.0 looked.1)

  pub looked_known : Learns (known_in m.0.known) (known_in m'.0.known) name r
  looked_known = subst (λ (o : Option Place). Learns (known_in m.0.known) (known_in m'.0.known) name o) (sym seen.3) (learns name seen.0 m.0 m'.0 (ap (λ (x : Sat). x.0) seen.1) seen.2)

  pub looked_won : m'.0.won ≡ m.0.won
  looked_won = won_after name seen.0 m.0 m'.0 (ap (λ (x : Sat). x.0) seen.1)

-- the word that a race found is a pointer's
pub race_found : (slots name new : ℕ) (m m' : Sat) (found : ℕ) → Raced (step slots name 0 new none) m found m' → IsPointer found
race_found slots name new m m' found raced = dite (ℕ_discrete found 0)
    (λ hit. (None, sym hit))
    (λ miss. let t : RacedBy false (step slots name 0 new none) m found m' = subst (λ (b : Bool). RacedBy b (step slots name 0 new none) m found m') (ne_eqb found 0 miss) raced in (Some t.0, t.1))

-- a race is won where the word was 0, and else lost to the place that the word shows
module _ (slots name new : ℕ) (m m' : Sat) (found : ℕ) (place : Place) (end : Outcome) (raced : Raced (step slots name 0 new none) m found m') (is : new ≡ place_word place)
    (won : found ≡ 0 → end ≡ Won) (lost : (p : Place) → place_word p ≡ found → end ≡ Lost p) where
  abbrev Told : Outcome → Type 0
  Told o = Learns (known_in m.0.known) (known_in m'.0.known) name (Some (place_after o place)) × RaceEnds (known_in m.0.known name) m.0.won m'.0.won name place o

  won_told : RacedBy true (step slots name 0 new none) m found m' → Told Won
  won_told t =
      let mine : t.0 ≡ place = place_word-one_to_one t.0 place (t.1 ∙ is) in
      let then : m' ≡ (win name place m.0, m.1) = subst (λ (p : Place). m' ≡ (win name p m.0, m.1)) mine t.2 in
      let lasts : Lasts m.0.known name (Some place) = λ p e. let none : known_in m.0.known name ≡ None = t.3 in absurd (cc) in
      subst (λ (x : Sat). Learns (known_in m.0.known) (known_in x.0.known) name (Some place) × RaceEnds (known_in m.0.known name) m.0.won x.0.won name place Won) (sym then)
      (Learns-cons name place m.0.known lasts, (t.3, refl))

  lost_told : (t : RacedBy false (step slots name 0 new none) m found m') → Told (Lost t.0)
  lost_told t =
      (learns name (Some t.0) m.0 m'.0 (ap (λ (x : Sat). x.0) t.2) t.3, won_after name (Some t.0) m.0 m'.0 (ap (λ (x : Sat). x.0) t.2))

  pub race_told : Told end
  race_told = dite (ℕ_discrete found 0)
      (λ hit. subst Told (sym (won hit)) (won_told (subst (λ (b : Bool). RacedBy b (step slots name 0 new none) m found m') (eq-eqb found 0 hit) raced)))
      (λ miss. let t : RacedBy false (step slots name 0 new none) m found m' = subst (λ (b : Bool). RacedBy b (step slots name 0 new none) m found m') (ne_eqb found 0 miss) raced in subst Told (sym (lost t.0 t.1)) (lost_told t))
