-- The list of destinations, computed for each shape that a heap may have.
use Rattle.std.proofs.Common.{◌≡◌, ℕ, ◌+◌, ◌-◌, ◌*◌, ◌<◌, ◌≤◌, Bool, true, false, not, ◌&&◌, ◌||◌, length, get_or, Some, refl, sym, ap, subst, ◌∙◌, arith}
use Rattle.std.proofs.lemmas.Bool.{eqb-true, and_parts, lt-ltb}
use Rattle.std.proofs.lemmas.Bool.Decides.{nat_tests}
use Rattle.std.proofs.lemmas.Map.Made.{IsDistinct-from_count}
use Rattle.std.proofs.lemmas.Map.Views.{Contains-from_any}
use Rattle.std.proofs.lemmas.Option.{get_or_from_slice_get, slice_get_within, slice_get-get_or}
use Rattle.std.specs.Prelude.{nat_eq, nat_lt, nat_le, slice_get, if◌then◌else◌}
use Rattle.std.specs.Bool.{Decides}
use Rattle.std.specs.List.{list_any}
use Rattle.std.specs.Cmp.{decided}
use Rattle.std.specs.Set.{distinct_count}
use Rattle.model.specs.Destination.{Shape, IsStep, steps_in, dest, dest_count}
use Rattle.model.specs.DestinationList.{is_same_step, destination_list, destination_at, ListsDestinations, DestinationListIsExact}
use Rattle.model.proofs.DestCount.{holds_below, holds_at, shape_of, tested}

number_of : Shape → ℕ × ℕ → ℕ
number_of shape at = at.0 * shape.steps + at.1 - 1

count_test : Shape → ℕ → Bool
count_test shape g =
    nat_eq (distinct_count is_same_step (destination_list shape g)) (length (destination_list shape g))
    && (nat_eq (length (destination_list shape g)) (dest_count shape g) && nat_le (dest_count shape g) 12)

-- the i-th place has the number i and is a step of the shape
place_test : Shape → ℕ × ℕ → ℕ → Bool
place_test shape at i = (nat_eq (number_of shape at) i && is_same_step at (destination_at shape i)) && (nat_lt at.0 shape.generations && nat_lt at.1 (steps_in shape at.0))

places_test : Shape → ℕ → ℕ → Bool
places_test shape g i = not (nat_lt i (length (destination_list shape g))) || place_test shape (get_or (destination_list shape g) i (0, 0)) i

-- a survivor's place is in the list
dest_test : Shape → ℕ → ℕ → ℕ → Bool
dest_test shape g h s = not (nat_le h g && nat_lt s (steps_in shape h)) || list_any (is_same_step (dest shape (h, s))) (destination_list shape g)

whole_test : Shape → ℕ → Bool
whole_test shape g = count_test shape g && (holds_below (places_test shape g) 12 && holds_below (λ h. holds_below (dest_test shape g h) 4) 4)

test : ℕ → ℕ → ℕ → Bool
test generations steps g = not (nat_lt g generations) || whole_test (shape_of generations steps) g

all_tests : holds_below (λ n. holds_below (λ s. holds_below (λ g. test (n + 1) (s + 1) g) 4) 4) 4 ≡ true
unfolding holds_below test whole_test count_test places_test place_test dest_test number_of shape_of
all_tests = refl

same_step : (a b : ℕ × ℕ) → is_same_step a b ≡ true → a ≡ b
same_step a b e =
    let parts = and_parts (nat_eq a.0 b.0) (nat_eq a.1 b.1) e in
    ap (λ x. let p : ℕ × ℕ = (x, a.1) in p) (eqb-true a.0 b.0 parts.0) ∙ ap (λ y. let p : ℕ × ℕ = (b.0, y) in p) (eqb-true a.1 b.1 parts.1)

nat_eq_refl : (n : ℕ) → nat_eq n n ≡ true
nat_eq_refl n = grind (arith, nat_tests)

step_decides : (a b : ℕ × ℕ) → Decides (is_same_step a b) (a ≡ b)
step_decides a b = (same_step a b, λ e. subst (λ c. is_same_step a c ≡ true) e (rw (nat_eq_refl a.0, nat_eq_refl a.1) refl))

module _ (shape : Shape) (g : ℕ) (low : 1 ≤ shape.generations) (high : shape.generations ≤ 4) (lows : 1 ≤ shape.steps) (highs : shape.steps ≤ 4) (lt : g < shape.generations) where
  whole : whole_test shape g ≡ true
  unfolding test shape_of
  whole =
      let n : ℕ = shape.generations - 1 in
      let s : ℕ = shape.steps - 1 in
      let one : test (n + 1) (s + 1) g ≡ true = holds_at _ 4 g (holds_at _ 4 s (holds_at _ 4 n all_tests (omega arith)) (omega arith)) (omega arith) in
      let same_n : n + 1 ≡ shape.generations = omega arith in
      let same_s : s + 1 ≡ shape.steps = omega arith in
      let both : test shape.generations shape.steps g ≡ true = subst (λ k. test shape.generations k g ≡ true) same_s (subst (λ k. test k (s + 1) g ≡ true) same_n one) in
      tested (nat_lt g shape.generations) _ both (lt-ltb g shape.generations lt)

  counted : count_test shape g ≡ true
  unfolding whole_test
  counted = (and_parts _ _ whole).0

  placed : (i : ℕ) → i < 12 → places_test shape g i ≡ true
  unfolding whole_test
  placed i below = holds_at _ 12 i (and_parts _ _ (and_parts _ _ whole).1).0 below

  sent : (h s : ℕ) → h < 4 → s < 4 → dest_test shape g h s ≡ true
  unfolding whole_test
  sent h s hl sl = holds_at _ 4 s (holds_at _ 4 h (and_parts _ _ (and_parts _ _ whole).1).1 hl) sl

  lengths : (nat_eq (length (destination_list shape g)) (dest_count shape g) && nat_le (dest_count shape g) 12) ≡ true
  unfolding count_test
  lengths = (and_parts _ _ counted).1

  is_count : length (destination_list shape g) ≡ dest_count shape g
  is_count = eqb-true _ _ (and_parts (nat_eq (length (destination_list shape g)) (dest_count shape g)) (nat_le (dest_count shape g) 12) lengths).0

  le_12 : nat_le (dest_count shape g) 12 ≡ true
  le_12 = (and_parts (nat_eq (length (destination_list shape g)) (dest_count shape g)) (nat_le (dest_count shape g) 12) lengths).1

  pub few : dest_count shape g ≤ 12
  few = grind (arith, nat_tests, le_12)

  place : (i : ℕ) (at : ℕ × ℕ) → slice_get (destination_list shape g) i ≡ Some at → place_test shape at i ≡ true
  unfolding places_test
  place i at is =
      let below : i < length (destination_list shape g) = slice_get_within (destination_list shape g) i at is in
      let here : place_test shape (get_or (destination_list shape g) i (0, 0)) i ≡ true = tested _ _ (placed i (omega (arith, is_count, few))) (lt-ltb i (length (destination_list shape g)) below) in
      subst (λ p. place_test shape p i ≡ true) (get_or_from_slice_get (destination_list shape g) i at (0, 0) is) here

  number : (i : ℕ) (at : ℕ × ℕ) → place_test shape at i ≡ true → (nat_eq (number_of shape at) i && is_same_step at (destination_at shape i)) ≡ true
  unfolding place_test
  number i at e = (and_parts _ _ e).0

  is_step : (i : ℕ) (at : ℕ × ℕ) → place_test shape at i ≡ true → IsStep shape at
  unfolding place_test
  is_step i at e =
      let parts = and_parts (nat_lt at.0 shape.generations) (nat_lt at.1 (steps_in shape at.0)) (and_parts (nat_eq (number_of shape at) i && is_same_step at (destination_at shape i)) (nat_lt at.0 shape.generations && nat_lt at.1 (steps_in shape at.0)) e).1 in
      let generation : nat_lt at.0 shape.generations ≡ true = parts.0 in
      let step : nat_lt at.1 (steps_in shape at.0) ≡ true = parts.1 in
      record { generation = grind (arith, nat_tests, generation); step = grind (arith, nat_tests, step) }

  few_steps : (h s : ℕ) → s < steps_in shape h → s < 4
  few_steps h s is = go (nat_lt h (shape.generations - 1)) is
    where
      go : (b : Bool) → s < (if b then shape.steps else 1) → s < 4
      go true is = omega arith
      go false is = omega arith

  in_list : (at : ℕ × ℕ) → IsStep shape at → at.0 ≤ g → list_any (is_same_step (dest shape at)) (destination_list shape g) ≡ true
  unfolding dest_test
  in_list at step le =
      let a : nat_le at.0 g ≡ true = grind (arith, nat_tests, le) in
      let b : nat_lt at.1 (steps_in shape at.0) ≡ true = lt-ltb at.1 (steps_in shape at.0) step.step in
      let both : (nat_le at.0 g && nat_lt at.1 (steps_in shape at.0)) ≡ true = rw (a, b) refl in
      tested (nat_le at.0 g && nat_lt at.1 (steps_in shape at.0)) _ (sent at.0 at.1 (omega (arith, step.generation)) (few_steps at.0 at.1 step.step)) both

  pub lists_destinations : ListsDestinations shape g (destination_list shape g)
  unfolding count_test number_of
  lists_destinations = record {
    distinct = IsDistinct-from_count (decided is_same_step step_decides) (destination_list shape g) (eqb-true _ _ (and_parts _ _ counted).0);
    count = is_count;
    steps = λ i at is. is_step i at (place i at is);
    places = λ i at is. same_step at (destination_at shape i) (and_parts (nat_eq (number_of shape at) i) (is_same_step at (destination_at shape i)) (number i at (place i at is))).1;
    numbers = λ i at is. eqb-true (number_of shape at) i (and_parts (nat_eq (number_of shape at) i) (is_same_step at (destination_at shape i)) (number i at (place i at is))).0;
    all = λ at step le. Contains-from_any same_step (dest shape at) (destination_list shape g) (in_list at step le);
  }

  -- the place with a number below the count
  pub nth_place : (i : ℕ) → i < dest_count shape g → slice_get (destination_list shape g) i ≡ Some (destination_at shape i)
  nth_place i below =
      let there : slice_get (destination_list shape g) i ≡ Some (get_or (destination_list shape g) i (0, 0)) = slice_get-get_or (destination_list shape g) i (0, 0) (omega (arith, is_count)) in
      there ∙ ap (λ p. Some p) (lists_destinations.places i (get_or (destination_list shape g) i (0, 0)) there)

  -- where a survivor goes stands in the list at its number
  pub dest_at : (at : ℕ × ℕ) → IsStep shape at → at.0 ≤ g → slice_get (destination_list shape g) ((dest shape at).0 * shape.steps + (dest shape at).1 - 1) ≡ Some (dest shape at)
  dest_at at step le =
      let found = lists_destinations.all at step le in
      let there : slice_get (destination_list shape g) found.0 ≡ Some (dest shape at) = slice_get-get_or (destination_list shape g) found.0 (dest shape at) found.1 ∙ ap (λ p. Some p) found.2 in
      subst (λ i. slice_get (destination_list shape g) i ≡ Some (dest shape at)) (sym (lists_destinations.numbers found.0 (dest shape at) there)) there

pub destination_list_exact : DestinationListIsExact
destination_list_exact shape g low high lows highs lt = lists_destinations shape g low high lows highs lt
