-- Where the objects go that a sweep copies.
use Rattle.std.proofs.Common.{◌≡◌, ℕ, ◌+◌, ◌*◌, ◌-◌, ◌<◌, ◌≤◌, Bool, true, false, Some, refl, sym, ap, ◌∙◌, arith}
use Rattle.std.proofs.lemmas.Bool.Decides.{nat_tests}
use Rattle.std.specs.Prelude.{nat_lt}
use Rattle.std.specs.Option.{option_map}
use Rattle.model.specs.Config.{Config}
use Rattle.model.specs.Graph.{object_at}
use Rattle.model.specs.Destination.{Shape, oldest, dest}
use Rattle.steps.specs.HeapValue.{HeapValue}
use Rattle.heap.specs.StepPairs.{stands_at}
use Rattle.workers.specs.Setting.{destination_number, destination_of}
use Rattle.scavenge.specs.Slots.{objects_of}
use Rattle.scavenge.specs.Cursors.{AllGo}
use Rattle.scavenge.proofs.Placing.{dest_of}

-- an object goes where all go that stand where it does
pub goes_there : (heap : HeapValue) (config : Config) (word : ℕ) (from : ℕ × ℕ) (d : ℕ) → config ≡ heap.config → Some from ≡ option_map stands_at (object_at heap.graph word) → destination_number config.shape (dest config.shape from) ≡ d
    → destination_of (objects_of heap) word ≡ d
goes_there heap config word from d same stands is = dest_of heap word from stands ∙ sym (ap (λ (k : Config). destination_number k.shape (dest k.shape from)) same) ∙ is

-- small objects go to destination 0 wherever they stand in no heap but one of one generation, or of two with one step
module _ (shape : Shape) (steps : 1 ≤ shape.steps) (all : AllGo shape 0) where
  last_step : (h : ℕ) → h < oldest shape → dest shape (h, shape.steps - 1) ≡ (h + 1, 0)
  last_step h lt =
      let younger : nat_lt h (oldest shape) ≡ true = grind (arith, nat_tests, lt) in
      let last : nat_lt (shape.steps - 1) (shape.steps - 1) ≡ false = grind (arith, nat_tests) in
      rw (younger, last) refl

  number : (h : ℕ) → h < oldest shape → (h + 1) * shape.steps + 0 - 1 ≡ 0
  number h lt = sym (ap (destination_number shape) (last_step h lt)) ∙ all (h, shape.steps - 1)

  pub one_step : 2 ≤ shape.generations → shape.steps ≡ 1
  one_step more =
      let first : 0 < oldest shape = omega (arith, more) in
      let is : (0 + 1) * shape.steps + 0 - 1 ≡ 0 = number 0 first in
      omega (arith, is, steps)

  pub two_at_most : shape.generations ≤ 2
  two_at_most = go (nat_lt 2 shape.generations) refl
    where
      go : (b : Bool) → nat_lt 2 shape.generations ≡ b → shape.generations ≤ 2
      go false p = grind (arith, nat_tests, p)
      go true p =
          let more : 2 < shape.generations = grind (arith, nat_tests, p) in
          let second : 1 < oldest shape = omega (arith, more) in
          let one : shape.steps ≡ 1 = one_step (omega (arith, more)) in
          let is : (1 + 1) * shape.steps + 0 - 1 ≡ 0 = number 1 second in
          absurd (omega (arith, is, one))

pub two_go : (shape : Shape) → shape.generations ≡ 2 → shape.steps ≡ 1 → AllGo shape 0
two_go shape two one (h, s) = go (nat_lt h (oldest shape)) refl
  where
    last : nat_lt s (shape.steps - 1) ≡ false
    last = grind (arith, nat_tests, one)

    go : (b : Bool) → nat_lt h (oldest shape) ≡ b → destination_number shape (dest shape (h, s)) ≡ 0
    go true p =
        let first : h ≡ 0 = let lt : h < oldest shape = grind (arith, nat_tests, p) in omega (arith, lt, two) in
        rw (p, last) (ap (λ n. (h + 1) * n + 0 - 1) one ∙ omega (arith, first))
    go false p = rw p (ap (λ n. oldest shape * n + 0 - 1) one ∙ omega (arith, two))
