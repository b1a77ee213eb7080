-- What `?` returns is the error that it found, where both are of one type; so what holds of the one holds of the other.
use Rattle.std.proofs.Common.{◌≡◌, Result, Err, refl, sym, ap, subst, ◌∙◌}
use Rattle.std.specs.Result.{IsErr, IsErrAnd, IfErr}
use Rattle.std.proofs.lemmas.Result.{err_from_is_err_and, IfErr-at_err}

pub is_found : {T E : Type 0} → (r : Result T E) (e : E) → IsErr r × IsErrAnd r (λ y. y ≡ e) → r ≡ Err e
is_found r e given =
    let found = err_from_is_err_and r given.1 in
    found.1 ∙ ap (λ y. Err y) found.2

pub handed_on : {T E : Type 0} → (r : Result T E) (e : E) (P : E → Type 0) → IsErr r × IsErrAnd r (λ y. y ≡ e) → P e → IfErr r P
handed_on r e P given holds = subst (λ x. IfErr x P) (sym (is_found r e given)) holds

pub fault_is : {T E : Type 0} → (r : Result T E) (e y : E) → IsErr r × IsErrAnd r (λ y. y ≡ e) → r ≡ Err y → e ≡ y
fault_is r e y given is = sym (IfErr-at_err (λ z. z ≡ e) is (handed_on r e (λ z. z ≡ e) given refl))
