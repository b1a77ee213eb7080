-- What a step with a pass leaves as it was.
use Rattle.std.specs.Prelude.{◌≡◌, ℕ}

-- the cells are as many as before, and the pass is one of theirs still, with the same home; it is apart from the passes from which it
-- was, and each of these is still one of the cells'
pub record KeepsPasses {Cells Pass : Type 0} (count : Cells → ℕ) (is_pass is_home : Cells → Pass → Type 0) (differ : Pass → Pass → Type 0) (c : Cells) (p : Pass) (c' : Cells) (p' : Pass) : Type 0 where
  pub pass : is_pass c' p'
  pub others : (other : Pass) → differ p other → is_pass c other → is_pass c' other
  pub home : (cells : Cells) → is_home cells p → is_home cells p'
  pub apart : (other : Pass) → differ p other → differ p' other
  pub apart_back : (other : Pass) → differ other p → differ other p'
  pub limit : count c' ≡ count c
