use Rattle.std.proofs.Common.{◌≡◌, ◌∙◌, ℕ, Bool, false, Option, None, List, [], get_or, sym, ap}
use Rattle.std.specs.Prelude.{is_some}
use Rattle.layout.specs.declared.place.Place.{Place}
use Rattle.heap.proofs.roots.roots.Roots.new.Goals as goal

no_roots : (slots : List (Option Place)) (flags : List Bool) → slots ≡ [] → flags ≡ [] → (n : ℕ) → get_or flags n false ≡ is_some (get_or slots n None)
no_roots slots flags e f n = ap (λ bs. get_or bs n false) f ∙ sym (ap (λ xs. is_some (get_or xs n None)) e)

pub invariant_of-result : goal.invariant_of-result
invariant_of-result g c = λ n. search no_roots

pub returns : goal.returns
returns g c = (cc)
