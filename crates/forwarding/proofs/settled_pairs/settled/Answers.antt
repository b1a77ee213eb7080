use Rattle.std.proofs.Common.{rules, arith, Contains, sym, subst, IsTrue, All, ℕ, List}
use Rattle.std.specs.Prelude.{Bool}
use Rattle.std.proofs.lemmas.List.{take_all}
use Rattle.std.proofs.lemmas.List.Elements.{All-more}
use Rattle.layout.specs.declared.place.Place.{Place}
use Rattle.forwarding.proofs.settled_pairs.settled.Goals as goal

pub returns-then-not-is_among : goal.returns-then-not-is_among
returns-then-not-is_among c = (
  λ t. absurd (cc),
  λ each. let here = subst (λ (p : ℕ × Place). Contains c.args.won.now p) (sym c.pair-item.is) (each c.loop-pair.pair-index c.pair-item.result c.loop-pair-test.true) in
      subst (λ (b : Bool). IsTrue b) c.if-not-is_among.true (c.is_among.ensures.1 here),
)

pub loop-pair-preserved : goal.loop-pair-preserved
loop-pair-preserved c =
    All-more (λ (p : ℕ × Place). Contains c.args.won.now p) c.args.known.now c.loop-pair.pair-index c.pair-item.result c.loop-pair-test.true c.loop-pair.invariant
    (subst (λ (p : ℕ × Place). Contains c.args.won.now p) c.pair-item.is (c.is_among.ensures.0 c.if-not-is_among.false))

pub returns : goal.returns
returns c = (
  λ t. subst (λ (xs : List (ℕ × Place)). All (λ (p : ℕ × Place). Contains c.args.won.now p) xs) (take_all c.loop-pair.pair-index c.args.known.now (let past = c.loop-pair-test.false in omega arith)) c.loop-pair.invariant,
  λ each. search rules,
)
