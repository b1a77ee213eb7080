-- How all workers ended, one after another.
use Rattle.std.proofs.Common.{◌≡◌, ℕ, ◌+◌, ◌<◌, ◌≤◌, List, length, Some, get_or, refl, sym, ap, subst, ◌∙◌, ⊎_elim, arith}
use Rattle.std.proofs.lemmas.Bool.{cases_lt}
use Rattle.std.proofs.lemmas.Option.{slice_get_within, slice_get_read}
use Rattle.std.specs.Prelude.{slice_get}
use Rattle.workers.specs.Joined.{Each}
use Rattle.scavenge.specs.declared.looking.LookError.{LookError}
use Rattle.settling.proofs.EndedLists.{each_place}
use Rattle.workers_in_threads.specs.declared.kit.Brought.{Brought}
use Rattle.workers_in_threads.specs.declared.sharing_worker.resting.Outcome.TheVariants.{Ended, Left, Refused}
use Rattle.workers_in_threads.specs.CameBack.{IsOneOf, IsNotRefused, IsFirstRefusal}

some_is : {X : Type 0} {x y : X} → Some x ≡ Some y → x ≡ y
some_is e = cc

module _ {P A : Type 0} (rs : List (Brought P A)) where
  -- so it is of the first so many
  abbrev pub Below : (Brought P A → Type 0) → ℕ → Type 0
  Below F i = (k : ℕ) (r : Brought P A) → k < i → slice_get rs k ≡ Some r → F r

  module _ (F : Brought P A → Type 0) where
    pub below_none : Below F 0
    below_none k r lt e = absurd (omega (arith, lt))

    pub below_more : (i : ℕ) (r : Brought P A) → i < length rs → r ≡ get_or rs i r → F r → Below F i → Below F (i + 1)
    below_more i r lt is here before k x below there =
        ⊎_elim
        (λ (l : k < i). before k x l there)
        (λ (g : i ≤ k).
        let same : k ≡ i = omega (arith, below, g) in
        let q : x ≡ r = some_is (sym there ∙ ap (slice_get rs) same ∙ slice_get_read rs (length rs) i r refl lt is) in
        subst F (sym q) here)
        (cases_lt k i)

    pub below_all : (i : ℕ) → length rs ≤ i → Below F i → Each F rs
    below_all i all h = each_place F rs (λ k r e. h k r (let l = slice_get_within rs k r e in omega (arith, l, all)) e)

    pub one_of : (i : ℕ) (r : Brought P A) → i < length rs → r ≡ get_or rs i r → F r → IsOneOf F rs
    one_of i r lt is here = record { place = i; element = r; there = slice_get_read rs (length rs) i r refl lt is; is = here }

  pub first_refusal : (i : ℕ) (r : Brought P A) (e : LookError) → i < length rs → r ≡ get_or rs i r → r.outcome ≡ Refused e → Below (IsNotRefused) i → IsFirstRefusal e rs
  first_refusal i r e lt is refused before = record { one = record { place = i; element = r; there = slice_get_read rs (length rs) i r refl lt is; is = refused }; before = before }
