-- Passes that know only places of one answer.
use Rattle.std.proofs.Common.{ℕ, List, All}
use Rattle.std.specs.Prelude.{Option}
use Rattle.std.proofs.lemmas.List.Elements.{All-weaker}
use Rattle.layout.specs.declared.place.Place.{Place}
use Rattle.forwarding.specs.Settled.{KnowsOnly, AgreeWith, Agree}

-- passes that know only places of one answer agree
pub agrees : {P : Type 0} (known : P → ℕ → Option Place) (f : ℕ → Option Place) (ps : List P) → All (λ (p : P). KnowsOnly (known p) f) ps → Agree known ps
agrees {P} known f ps each =
    All-weaker (λ (p : P). KnowsOnly (known p) f) (λ (p : P). All (λ (q : P). AgreeWith (known p) (known q)) ps)
    (λ p knows. All-weaker (λ (q : P). KnowsOnly (known q) f) (λ (q : P). AgreeWith (known p) (known q))
    (λ q others name place other a b. let x = knows name place a in let y = others name other b in cc) ps each)
    ps
    each
