-- What each of two steps leaves as it was, both do.
use Rattle.std.proofs.Common.{ℕ, ◌∙◌}
use Rattle.forwarding.specs.KeepsPasses.{KeepsPasses}

module _ {Cells Pass : Type 0} (count : Cells → ℕ) (is_pass is_home : Cells → Pass → Type 0) (differ : Pass → Pass → Type 0) (a b c : Cells) (p q r : Pass) where
  pub keeps_both : KeepsPasses count is_pass is_home differ a p b q → KeepsPasses count is_pass is_home differ b q c r → KeepsPasses count is_pass is_home differ a p c r
  keeps_both first second = record {
    pass = second.pass;
    others = λ other ne fits. second.others other (first.apart other ne) (first.others other ne fits);
    home = λ home at. second.home home (first.home home at);
    apart = λ other ne. second.apart other (first.apart other ne);
    apart_back = λ other ne. second.apart_back other (first.apart_back other ne);
    limit = second.limit ∙ first.limit;
  }
