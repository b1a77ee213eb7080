-- Where an object that is collected goes is one of the destinations that are counted.
use Rattle.std.proofs.Common.{◌≡◌, ℕ, zero, suc, ◌+◌, ◌-◌, ◌*◌, ◌<◌, ◌≤◌, Bool, true, false, cond, nat_lt, nat_le, max, List, Option, Some, None, refl, sym, subst, arith, true≢false, leb-true}
use Rattle.std.proofs.Math.Nat.{mul-le-mul_right}
use Rattle.std.specs.Prelude.{All}
use Rattle.std.specs.Option.{option_map_or}
use Rattle.model.specs.Graph.{Object, object_at}
use Rattle.model.specs.Destination.{Shape, IsStep, dest, dest_count, oldest}
use Rattle.steps.specs.HeapValue.{HeapValue}
use Rattle.steps.specs.CollectionValue.{CollectionValue}
use Rattle.heap.proofs.SoundHeap.{heap_free, heap_object}
use Rattle.workers.specs.Setting.{setting_of, is_collected, destination_of, destination_number}
use Rattle.scavenge.specs.ReadyToCollect.{IsReadyToCollect}

-- rows of so many: row h ends where row h + 1 begins, and no later
row_ends : (steps h n : ℕ) → h < n → h * steps + steps ≤ n * steps
row_ends steps h n l =
    let m : (h + 1) * steps ≤ n * steps = mul-le-mul_right steps (let k : h + 1 ≤ n = omega arith in k) in
    let e : (h + 1) * steps ≡ h * steps + steps = omega arith in
    omega (arith, m, e)

-- with so many rows before the one destination of the oldest generation
below_most : (rows k : ℕ) → k ≤ rows → k - 1 < max 1 rows
below_most zero k l = grind (arith, l)
below_most (suc rows) k l = grind (arith, l)

-- each step of the generations that are collected has one of the destinations that are counted
pub number_below : (shape : Shape) (at : ℕ × ℕ) (g : ℕ) → 1 ≤ shape.steps → g < shape.generations → IsStep shape at → at.0 ≤ g → destination_number shape (dest shape at) < dest_count shape g
number_below shape at g some last step young = by_generation (nat_lt at.0 (oldest shape)) refl (nat_lt g (oldest shape)) refl
  where
    below : (a b : ℕ) → nat_lt a b ≡ true → a < b
    below a b e = grind (arith, e)

    not_below : (a b : ℕ) → nat_lt a b ≡ false → b ≤ a
    not_below a b e = grind (arith, e)

    most : (n : ℕ) → n ≤ max 1 n
    most n = grind arith

    -- the last number of its row
    row : (b : Bool) → at.1 < shape.steps → nat_lt at.1 (shape.steps - 1) ≡ b → destination_number shape (cond b (at.0, at.1 + 1) (at.0 + 1, 0)) < at.0 * shape.steps + shape.steps
    row true l e = let s = below at.1 (shape.steps - 1) e in omega (arith, s)
    row false l e = let r : (at.0 + 1) * shape.steps ≡ at.0 * shape.steps + shape.steps = omega arith in omega (arith, r, some)

    by_generation : (b : Bool) → nat_lt at.0 (oldest shape) ≡ b → (d : Bool) → nat_lt g (oldest shape) ≡ d
        → destination_number shape (cond b (cond (nat_lt at.1 (shape.steps - 1)) (at.0, at.1 + 1) (at.0 + 1, 0)) (oldest shape, 0)) < cond d ((g + 1) * shape.steps) (max 1 (oldest shape * shape.steps))
    by_generation true e true f =
        let s : at.1 < shape.steps = subst (λ c. at.1 < cond c shape.steps 1) e step.step in
        let r = row (nat_lt at.1 (shape.steps - 1)) s refl in
        let l = row_ends shape.steps at.0 (g + 1) (omega (arith, young)) in
        omega (arith, r, l)
    by_generation true e false f =
        let s : at.1 < shape.steps = subst (λ c. at.1 < cond c shape.steps 1) e step.step in
        let r = row (nat_lt at.1 (shape.steps - 1)) s refl in
        let l = row_ends shape.steps at.0 (oldest shape) (below at.0 (oldest shape) e) in
        let m : oldest shape * shape.steps ≤ max 1 (oldest shape * shape.steps) = most (oldest shape * shape.steps) in
        omega (arith, r, l, m)
    by_generation false e true f = let l = not_below at.0 (oldest shape) e in let m = below g (oldest shape) f in absurd (omega (arith, l, m, young))
    by_generation false e false f = below_most (oldest shape * shape.steps) (oldest shape * shape.steps + 0) (omega arith)

module _ (heap : HeapValue) (c : CollectionValue) (ready : IsReadyToCollect heap c) where
  -- where an object that is collected goes is one of the destinations
  pub destination_below : (n name : ℕ) → is_collected (setting_of heap.graph c.generation heap.config.shape heap.config.block_words n) name ≡ true
      → destination_of (setting_of heap.graph c.generation heap.config.shape heap.config.block_words n) name < dest_count heap.config.shape c.generation
  destination_below n name is = go (object_at heap.graph name) refl is
    where
      go : (o : Option Object) → object_at heap.graph name ≡ o → option_map_or (λ (x : Object). nat_le x.generation c.generation) o false ≡ true
          → option_map_or (λ (x : Object). destination_number heap.config.shape (dest heap.config.shape (x.generation, x.step))) o 0 < dest_count heap.config.shape c.generation
      go None there young = absurd (true≢false (sym young))
      go (Some o) there young = number_below heap.config.shape (o.generation, o.step) c.generation ready.range.some_step ready.opened.in_range (heap_object heap ready.sound name o there).step (leb-true _ _ young)

  -- the numbers that are drawn from are few
  pub numbers_below : (free : List ℕ) → free ≡ heap.free → All (λ number. number < 65535) free
  numbers_below free same = subst (All (λ number. number < 65535)) (sym same) (λ k d lt. (let l = (heap_free heap ready.sound).in_range k d lt in omega (arith, l, ready.range.most_blocks)))
