-- The list of what is reached, one member further.
use Rattle.std.proofs.Common.{◌≡◌, ℕ, zero, suc, ◌+◌, ◌-◌, ◌<◌, ◌≤◌, Bool, true, false, cond, ◌||◌, List, [], ◌∷◌, ◌++◌, length, get_or, take, drop, refl, sym, ap, ◌∙◌, arith, ⊎_elim, append_assoc}
use Rattle.std.proofs.lemmas.List.{append-nil, take_more, drop-append-le, take-append-le, take-append-drop}
use Rattle.std.proofs.Math.Seq.{drop-cons}
use Rattle.std.proofs.Math.ListN.{drop_of_length-le}
use Rattle.std.proofs.Math.Numerals.{add-one}
use Rattle.std.proofs.lemmas.Bool.{cases_lt}
use Rattle.std.specs.Prelude.{nat_eq}
use Rattle.model.specs.Reached.{has, fresh_of, spread}
use Rattle.model.proofs.Has.{has-append}

-- what is fresh depends on the members of what was seen
pub fresh_same : (s t ys : List ℕ) → ((q : ℕ) → has s q ≡ has t q) → fresh_of s ys ≡ fresh_of t ys
fresh_same s t [] h = refl
fresh_same s t (y ∷ ys) h =
    let rest : fresh_of (y ∷ s) ys ≡ fresh_of (y ∷ t) ys = fresh_same (y ∷ s) (y ∷ t) ys (λ q. ap (λ b. nat_eq q y || b) (h q)) in
    λ i. cond (h y i) (rest i) (y ∷ rest i)

or_shift : (a b c : Bool) → (c || (a || b)) ≡ ((a || (c || false)) || b)
or_shift true b true = refl
or_shift true b false = refl
or_shift false b true = refl
or_shift false b false = refl

in_front : (b : Bool) (x : ℕ) (ys : List ℕ) → cond b ys (x ∷ ys) ≡ cond b [] (x ∷ []) ++ ys
in_front true x ys = refl
in_front false x ys = refl

-- the names before i count as seen
pub fresh_step : (seen names : List ℕ) (i d : ℕ) → i < length names → fresh_of (take i names ++ seen) (drop i names) ≡ cond (has (take i names) (get_or names i d) || has seen (get_or names i d)) [] (get_or names i d ∷ []) ++ fresh_of (take (i + 1) names ++ seen) (drop (i + 1) names)
fresh_step seen names i d h =
    let x : ℕ = get_or names i d in
    let front : List ℕ = take i names in
    let rest : List ℕ = drop (i + 1) names in
    let at : drop i names ≡ x ∷ rest = drop-cons names i d h ∙ ap (λ n. x ∷ drop n names) (sym (add-one i)) in
    let same : fresh_of (x ∷ (front ++ seen)) rest ≡ fresh_of (take (i + 1) names ++ seen) rest =
    fresh_same _ _ rest (λ q. ap (λ b. nat_eq q x || b) (has-append front seen q) ∙ or_shift (has front q) (has seen q) (nat_eq q x) ∙ ap (λ b. b || has seen q) (sym (has-append front (x ∷ []) q)) ∙ sym (ap (λ xs. has (xs ++ seen) q) (take_more names i d h) ∙ has-append (front ++ x ∷ []) seen q)) in
    let two : cond (has (front ++ seen) x) (fresh_of (x ∷ (front ++ seen)) rest) (x ∷ fresh_of (x ∷ (front ++ seen)) rest) ≡ cond (has front x || has seen x) (fresh_of (take (i + 1) names ++ seen) rest) (x ∷ fresh_of (take (i + 1) names ++ seen) rest) =
    λ j. cond (has-append front seen x j) (same j) (x ∷ same j) in
    ap (fresh_of (front ++ seen)) at ∙ two ∙ in_front (has front x || has seen x) x (fresh_of (take (i + 1) names ++ seen) rest)

-- with fuel left, the next member is done
pub spread_step : (next : ℕ → List ℕ) (fuel done d : ℕ) (found : List ℕ) → done < length found → done < fuel → spread next (fuel - done) (take done found) (drop done found) ≡ spread next (fuel - (done + 1)) (take (done + 1) (found ++ fresh_of found (next (get_or found done d)))) (drop (done + 1) (found ++ fresh_of found (next (get_or found done d))))
spread_step next fuel done d found h k =
    let x : ℕ = get_or found done d in
    let more : List ℕ = fresh_of found (next x) in
    let fit : done + 1 ≤ length found = omega arith in
    let left : fuel - done ≡ suc (fuel - (done + 1)) = omega arith in
    let at : drop done found ≡ x ∷ drop (done + 1) found = drop-cons found done d h ∙ ap (λ n. x ∷ drop n found) (sym (add-one done)) in
    let whole : take done found ++ x ∷ drop (done + 1) found ≡ found = ap (λ ys. take done found ++ ys) (sym at) ∙ take-append-drop done found in
    let front : take done found ++ x ∷ [] ≡ take (done + 1) (found ++ more) = sym (take_more found done d h) ∙ sym (take-append-le (done + 1) found more fit) in
    let back : drop (done + 1) found ++ more ≡ drop (done + 1) (found ++ more) = sym (drop-append-le (done + 1) found more fit) in
    ap (λ n. spread next n (take done found) (drop done found)) left
    ∙ ap (spread next (suc (fuel - (done + 1))) (take done found)) at
    ∙ ap (λ ys. spread next (fuel - (done + 1)) (take done found ++ x ∷ []) (drop (done + 1) found ++ fresh_of ys (next x))) whole
    ∙ λ j. spread next (fuel - (done + 1)) (front j) (back j)

-- where all members are done, or the fuel is used up
pub spread_end : (next : ℕ → List ℕ) (fuel : ℕ) (done : List ℕ) → spread next fuel done [] ≡ done
spread_end next zero done = append-nil done
spread_end next (suc fuel) done = refl

pub spread_ended : (next : ℕ → List ℕ) (fuel done : ℕ) (found : List ℕ) → done ≤ length found → done ≤ fuel → (done < length found → done < fuel → ⊥) → spread next (fuel - done) (take done found) (drop done found) ≡ found
spread_ended next fuel done found h k stop =
    ⊎_elim
    (λ (lt : done < length found).
    let none : fuel - done ≡ zero = ⊎_elim (λ (l : done < fuel). absurd (stop lt l)) (λ (g : fuel ≤ done). omega arith) (cases_lt done fuel) in
    ap (λ n. spread next n (take done found) (drop done found)) none ∙ take-append-drop done found)
    (λ (ge : length found ≤ done).
    let all : take done found ++ [] ≡ found = ap (λ ys. take done found ++ ys) (sym (drop_of_length-le found ge)) ∙ take-append-drop done found in
    ap (spread next (fuel - done) (take done found)) (drop_of_length-le found ge) ∙ spread_end next (fuel - done) (take done found) ∙ sym (append-nil (take done found)) ∙ all)
    (cases_lt done (length found))

-- one more name gone through
pub fresh_more : (seen names fresh fresh' : List ℕ) (i d : ℕ) (b : Bool) → i < length names → (has (take i names) (get_or names i d) || has seen (get_or names i d)) ≡ b → fresh' ≡ fresh ++ cond b [] (get_or names i d ∷ []) → fresh_of seen names ≡ fresh ++ fresh_of (take i names ++ seen) (drop i names) → fresh_of seen names ≡ fresh' ++ fresh_of (take (i + 1) names ++ seen) (drop (i + 1) names)
fresh_more seen names fresh fresh' i d b lt e new old =
    let x : ℕ = get_or names i d in
    let rest : List ℕ = fresh_of (take (i + 1) names ++ seen) (drop (i + 1) names) in
    old ∙ ap (λ ys. fresh ++ ys) (fresh_step seen names i d lt ∙ ap (λ c. cond c [] (x ∷ []) ++ rest) e)
    ∙ sym (append_assoc fresh (cond b [] (x ∷ [])) rest) ∙ ap (λ ys. ys ++ rest) (sym new)

pub spread_more : (next : ℕ → List ℕ) (fuel done d : ℕ) (found found' more whole : List ℕ) → done < length found → done < fuel → more ≡ fresh_of found (next (get_or found done d)) → found' ≡ found ++ more → whole ≡ spread next (fuel - done) (take done found) (drop done found) → whole ≡ spread next (fuel - (done + 1)) (take (done + 1) found') (drop (done + 1) found')
spread_more next fuel done d found found' more whole h k new grown old =
    let last : found ++ fresh_of found (next (get_or found done d)) ≡ found' = ap (λ ys. found ++ ys) (sym new) ∙ sym grown in
    old ∙ spread_step next fuel done d found h k ∙ ap (λ ys. spread next (fuel - (done + 1)) (take (done + 1) ys) (drop (done + 1) ys)) last
