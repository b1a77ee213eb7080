-- Where a name stands among names that rise.
use Rattle.std.proofs.Common.{◌≡◌, ℕ, zero, suc, ◌+◌, ◌<◌, ◌≤◌, true, false, cond, List, [], ◌∷◌, length, get_or, Option, None, refl, sym, ap, ◌∙◌, arith}
use Rattle.std.proofs.lemmas.Bool.Decides.{nat_tests}
use Rattle.std.proofs.lemmas.List.Sums.{sum_by-cons}
use Rattle.std.specs.Prelude.{nat_lt, slice_index, slice_index_or}
use Rattle.std.specs.List.{AllPairs}
use Rattle.model.proofs.RisingKeys.{keys-filter_rise}
use Rattle.layout.specs.declared.place.Place.{Place}
use Rattle.steps.specs.CollectionValue.{rank_below, young_names}
use Rattle.heap_objects.specs.Objects.{ObjectsValue, graph_in}
use Rattle.heap_objects.specs.Collecting.{IsNumbered, new_place}

rank-cons : (word x : ℕ) (xs : List ℕ) → rank_below word (x ∷ xs) ≡ cond (nat_lt x word) 1 0 + rank_below word xs
rank-cons word x xs = sum_by-cons (λ (n : ℕ). cond (nat_lt n word) 1 0) x xs

rank-none : (word : ℕ) (xs : List ℕ) → ((k : ℕ) → k < length xs → word ≤ get_or xs k 0) → rank_below word xs ≡ 0
rank-none word [] above = refl
rank-none word (x ∷ xs) above =
    let here : word ≤ x = above 0 (omega arith) in
    let no : nat_lt x word ≡ false = grind (arith, nat_tests, here) in
    omega (arith, rank-cons word x xs, ap {B = ℕ} (λ b. cond b 1 0) no, rank-none word xs (λ k lt. above (suc k) (omega (arith, lt))))

pairs-rest : (x : ℕ) (xs : List ℕ) → AllPairs (λ a b. a < b) (x ∷ xs) → AllPairs (λ a b. a < b) xs
pairs-rest x xs pairs = λ i j d lt low. pairs (suc i) (suc j) d (omega arith) (omega arith)

pub rank_at : (xs : List ℕ) (k : ℕ) → AllPairs (λ a b. a < b) xs → k < length xs → rank_below (slice_index xs k) xs ≡ k
rank_at [] k pairs lt = absurd (omega (arith, lt))
rank_at (x ∷ xs) zero pairs lt = rank-none x (x ∷ xs) (above pairs)
  where
    above : AllPairs (λ a b. a < b) (x ∷ xs) → (k : ℕ) → k < length (x ∷ xs) → x ≤ get_or (x ∷ xs) k 0
    above pairs zero lt = omega arith
    above pairs (suc k) lt = let less : x < get_or xs k 0 = pairs 0 (suc k) 0 (omega arith) (omega (arith, lt)) in omega (arith, less)
rank_at (x ∷ xs) (suc k) pairs lt =
    let less : x < get_or xs k 0 = pairs 0 (suc k) 0 (omega arith) (omega (arith, lt)) in
    let yes : nat_lt x (get_or xs k 0) ≡ true = grind (arith, nat_tests, less) in
    omega (arith, rank-cons (get_or xs k 0) x xs, ap {B = ℕ} (λ b. cond b 1 0) yes, rank_at xs k (pairs-rest x xs pairs) (omega (arith, lt)))

-- where an object's number is known, its new place stands at that number
pub number_place : (objects : ObjectsValue) (g : ℕ) (places : List (Option Place)) (name number : ℕ) → IsNumbered objects g name number → new_place objects g places name ≡ slice_index_or places number None
number_place objects g places name number is =
    ap (λ n. slice_index_or places n None)
    (sym (ap (λ n. rank_below n (young_names (graph_in objects) g)) is.is) ∙ rank_at (young_names (graph_in objects) g) number (keys-filter_rise objects.objects _) is.in_range)
