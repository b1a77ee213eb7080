-- The number of the place where a survivor goes is below the number of places.
use Rattle.std.proofs.Common.{◌≡◌, ℕ, ◌+◌, ◌-◌, ◌*◌, ◌<◌, ◌≤◌, Bool, true, false, cond, refl, arith}
use Rattle.std.proofs.lemmas.Bool.Decides.{nat_tests}
use Rattle.std.proofs.lemmas.Nat.{mul-le}
use Rattle.std.specs.Prelude.{nat_lt, max}
use Rattle.model.specs.Destination.{Shape, IsStep, oldest, dest, dest_count}

-- the oldest generation o, generation h and step s, the generations 0 to g collected, k steps each
module _ (o h s g k : ℕ) (some : 1 ≤ k) (le : h ≤ g) where
  at_next : s < k → (c : Bool) → nat_lt g o ≡ c → h < o → h * k + (s + 1) - 1 < cond c ((g + 1) * k) (max 1 (o * k))
  at_next lt true is below = let room : (h + 1) * k ≤ (g + 1) * k = mul-le (h + 1) k (g + 1) k (omega arith) (omega arith) in omega arith
  at_next lt false is below = let room : (h + 1) * k ≤ o * k = mul-le (h + 1) k o k (omega arith) (omega arith) in omega arith

  at_older : (c : Bool) → nat_lt g o ≡ c → h < o → (h + 1) * k + 0 - 1 < cond c ((g + 1) * k) (max 1 (o * k))
  at_older true is below = let room : (h + 1) * k ≤ (g + 1) * k = mul-le (h + 1) k (g + 1) k (omega arith) (omega arith) in omega arith
  at_older false is below = let room : (h + 1) * k ≤ o * k = mul-le (h + 1) k o k (omega arith) (omega arith) in omega arith

  at_oldest : (c : Bool) → nat_lt g o ≡ c → o ≤ h → o * k + 0 - 1 < cond c ((g + 1) * k) (max 1 (o * k))
  at_oldest true is above = let lt : g < o = grind (arith, nat_tests, is) in absurd (omega arith)
  at_oldest false is above = omega arith

  each : (a b c : Bool) → nat_lt h o ≡ a → nat_lt g o ≡ c → s < cond a k 1 → (cond {A = ℕ × ℕ} a (cond {A = ℕ × ℕ} b (h, s + 1) (h + 1, 0)) (o, 0)).0 * k + (cond {A = ℕ × ℕ} a (cond {A = ℕ × ℕ} b (h, s + 1) (h + 1, 0)) (o, 0)).1 - 1 < cond c ((g + 1) * k) (max 1 (o * k))
  each true true c is last lt = at_next lt c last (grind (arith, nat_tests, is))
  each true false c is last lt = at_older c last (grind (arith, nat_tests, is))
  each false b c is last lt = at_oldest c last (grind (arith, nat_tests, is))

pub dest_number_below : (shape : Shape) (g : ℕ) (at : ℕ × ℕ) → 1 ≤ shape.steps → IsStep shape at → at.0 ≤ g → (dest shape at).0 * shape.steps + (dest shape at).1 - 1 < dest_count shape g
dest_number_below shape g at some step le =
    each (oldest shape) at.0 at.1 g shape.steps some le (nat_lt at.0 (oldest shape)) (nat_lt at.1 (shape.steps - 1)) (nat_lt g (oldest shape)) refl refl step.step
