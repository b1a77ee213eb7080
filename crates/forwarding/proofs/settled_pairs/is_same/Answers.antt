use Rattle.std.proofs.Common.{arith, sym, ap, ◌∙◌, ◌≡◌, ℕ}
use Rattle.std.proofs.lemmas.Bool.Decides.{nat_tests}
use Rattle.layout.specs.declared.place.Place.{Place}
use Rattle.layout.specs.Place.{place_word}
use Rattle.layout.proofs.Pointers.{place_word-one_to_one}
use Rattle.forwarding.proofs.settled_pairs.is_same.Goals as goal

pub returns-then-one-other : goal.returns-then-one-other
returns-then-one-other c = (
  λ t. let e : c.to_word.result ≡ c.to_word-then-one-other.result = grind (arith, nat_tests) in
      let place = place_word-one_to_one c.args.one.now.1 c.args.other.now.1 (sym c.to_word.ensures ∙ (e ∙ c.to_word-then-one-other.ensures)) in
      let name = c.if-one-other.true in λ i. (name i, place i),
  λ same. let e : c.to_word.result ≡ c.to_word-then-one-other.result = c.to_word.ensures ∙ (ap (λ (x : ℕ × Place). place_word x.1) same ∙ sym c.to_word-then-one-other.ensures) in
      grind (arith, nat_tests),
)
