-- A look-up in what was won, seen by number and by old name.
use Rattle.std.proofs.Common.{◌≡◌, ◌≢◌, ℕ, ◌<◌, List, [], ◌∷◌, length, Some, sym, ap, ◌∙◌, ⊎_elim}
use Rattle.std.proofs.lemmas.Bool.{cases_eq}
use Rattle.std.proofs.lemmas.List.Elements.{All-head, All-tail}
use Rattle.std.specs.Prelude.{All, slice_index}
use Rattle.std.specs.Ordering.{nat_cmp}
use Rattle.std.specs.FinMap.{find}
use Rattle.model.proofs.NatMap.{find_same, find_other}
use Rattle.model.proofs.Options.{some_not_none}
use Rattle.steps.specs.ReportValue.{renaming_of}

-- the number of a name that is found among the old names
pub record WonAs (names : List ℕ) (won : List (ℕ × ℕ)) (name place : ℕ) : Type 0 where
  pub number : ℕ
  pub found : find nat_cmp number won ≡ Some place
  pub is : slice_index names number ≡ name

pub won_as : (names : List ℕ) (won : List (ℕ × ℕ)) (name place : ℕ) → find nat_cmp name (renaming_of names won) ≡ Some place → WonAs names won name place
won_as names [] name place is = absurd (some_not_none (sym is))
won_as names (e ∷ won) name place is =
    ⊎_elim
    (λ same. record { number = e.0; found = find_same e.0 e.1 won ∙ sym (find_same name e.1 (renaming_of names won)) ∙ ap (λ q. find nat_cmp name ((q, e.1) ∷ renaming_of names won)) same ∙ is; is = sym same })
    (λ ne.
    let rest : WonAs names won name place = won_as names won name place (sym (find_other name (slice_index names e.0) e.1 (renaming_of names won) ne) ∙ is) in
    let other : rest.number ≢ e.0 = λ same. ne (sym rest.is ∙ ap (slice_index names) same) in
    record { number = rest.number; found = find_other rest.number e.0 e.1 won other ∙ rest.found; is = rest.is })
    (cases_eq name (slice_index names e.0))

pub find-renaming : (names : List ℕ) (won : List (ℕ × ℕ)) (n place : ℕ) → ((a b : ℕ) → a < length names → b < length names → slice_index names a ≡ slice_index names b → a ≡ b) → All (λ e. e.0 < length names) won → n < length names → find nat_cmp n won ≡ Some place → find nat_cmp (slice_index names n) (renaming_of names won) ≡ Some place
find-renaming names [] n place one all lt is = is
find-renaming names (e ∷ won) n place one all lt is =
    ⊎_elim
    (λ same. ap (λ m. find nat_cmp (slice_index names m) (renaming_of names (e ∷ won))) same ∙ find_same (slice_index names e.0) e.1 (renaming_of names won) ∙ sym (find_same e.0 e.1 won) ∙ ap (λ m. find nat_cmp m (e ∷ won)) (sym same) ∙ is)
    (λ ne.
    let other : slice_index names n ≢ slice_index names e.0 = λ same. ne (one n e.0 lt (All-head (λ x. x.0 < length names) e won all) same) in
    find_other (slice_index names n) (slice_index names e.0) e.1 (renaming_of names won) other
    ∙ find-renaming names won n place one (All-tail (λ x. x.0 < length names) e won all) lt (sym (find_other n e.0 e.1 won ne) ∙ is))
    (cases_eq n e.0)
