-- Roots written one after the other.
use Rattle.std.proofs.Common.{◌≡◌, ◌≢◌, ℕ, zero, suc, ◌+◌, ◌<◌, Bool, true, false, List, [], ◌∷◌, ◌++◌, length, take, map, get_or, Option, Some, None, refl, sym, ap, subst, ◌∙◌, arith, ⊎_elim}
use Rattle.std.proofs.lemmas.Bool.{cases_eq, true≢false}
use Rattle.std.proofs.lemmas.List.{take_more, map-append}
use Rattle.std.specs.Prelude.{nat_eq, unwrap_or}
use Rattle.std.specs.Option.{option_map}
use Rattle.std.specs.List.{IsDistinct}
use Rattle.std.specs.Ordering.{nat_cmp}
use Rattle.std.specs.FinMap.{find}
use Rattle.model.specs.Reached.{has}
use Rattle.model.proofs.Has.{has_head, has_tail}
use Rattle.model.proofs.NatMap.{find_same, find_other}
use Rattle.heap.specs.Roots.{renamed_word}
use Rattle.model.proofs.Finds.{find-append, or_else}
use Rattle.nursery.proofs.Areas.{once_at}

module _ {X : Type 0} (key : X → ℕ) (word : X → ℕ) where
  abbrev pub pairs_for : List X → List (ℕ × ℕ)
  pairs_for rs = map (λ r. (key r, word r)) rs

  find-absent : (n : ℕ) (rs : List X) → has (map key rs) n ≡ false → find nat_cmp n (pairs_for rs) ≡ None
  find-absent n [] none = refl
  find-absent n (r ∷ rs) none =
      let ne : n ≢ key r = λ e. true≢false (sym (ap (has (key r ∷ map key rs)) e ∙ has_head (key r) (map key rs)) ∙ none) in
      find_other n (key r) (word r) (pairs_for rs) ne ∙ find-absent n rs (rest (has (map key rs) n) refl)
    where
      rest : (b : Bool) → has (map key rs) n ≡ b → has (map key rs) n ≡ false
      rest true is = absurd (true≢false (sym (has_tail (key r) (map key rs) n is) ∙ none))
      rest false is = is

  map-take : (i : ℕ) (rs : List X) → take i (map key rs) ≡ map key (take i rs)
  map-take zero rs = refl
  map-take (suc i) [] = refl
  map-take (suc i) (r ∷ rs) = ap (λ ks. key r ∷ ks) (map-take i rs)

  nth-map : (rs : List X) (i : ℕ) (d : X) → i < length rs → get_or (map key rs) i 0 ≡ key (get_or rs i d)
  nth-map [] i d lt = absurd (omega arith)
  nth-map (r ∷ rs) zero d lt = refl
  nth-map (r ∷ rs) (suc i) d lt = nth-map rs i d (omega arith)

  length-keys : (rs : List X) → length (map key rs) ≡ length rs
  length-keys [] = refl
  length-keys (r ∷ rs) = ap suc (length-keys rs)

  module _ (rs : List X) (old cur cur' : ℕ → Option ℕ) (i : ℕ) (d : X) (lt : i < length rs) (once : IsDistinct nat_eq (map key rs))
      (so_far : (n : ℕ) → cur n ≡ renamed_word (pairs_for (take i rs)) n (old n))
      (changed : cur' (key (get_or rs i d)) ≡ option_map (λ _. word (get_or rs i d)) (cur (key (get_or rs i d))))
      (others : (n : ℕ) → n ≢ key (get_or rs i d) → cur' n ≡ cur n) where
    more : pairs_for (take (i + 1) rs) ≡ pairs_for (take i rs) ++ (key (get_or rs i d), word (get_or rs i d)) ∷ []
    more = ap pairs_for (take_more rs i d lt) ∙ map-append (λ r. (key r, word r)) (take i rs) (get_or rs i d ∷ [])

    fresh : has (map key (take i rs)) (key (get_or rs i d)) ≡ false
    fresh = sym (ap (λ ks. has ks (key (get_or rs i d))) (map-take i rs)) ∙ ap (has (take i (map key rs))) (sym (nth-map rs i d lt)) ∙ once_at (map key rs) i once (omega (arith, length-keys rs))

    twice : (p : Option ℕ) (w : ℕ) (o : Option ℕ) → p ≡ None → option_map (λ _. w) (option_map (λ v. unwrap_or p v) o) ≡ option_map (λ v. unwrap_or (Some w) v) o
    twice p w None e = refl
    twice p w (Some v) e = refl

    or_none : (o : Option ℕ) → or_else o None ≡ o
    or_none None = refl
    or_none (Some x) = refl

    pub written_more : (n : ℕ) → cur' n ≡ renamed_word (pairs_for (take (i + 1) rs)) n (old n)
    written_more n = ⊎_elim
        (λ e.
        let none = find-absent (key (get_or rs i d)) (take i rs) fresh in
        let found : find nat_cmp (key (get_or rs i d)) (pairs_for (take (i + 1) rs)) ≡ Some (word (get_or rs i d)) =
        ap (find nat_cmp (key (get_or rs i d))) more ∙ find-append (key (get_or rs i d)) (pairs_for (take i rs)) ((key (get_or rs i d), word (get_or rs i d)) ∷ []) ∙ ap (λ o. or_else o (find nat_cmp (key (get_or rs i d)) ((key (get_or rs i d), word (get_or rs i d)) ∷ []))) none ∙ find_same (key (get_or rs i d)) (word (get_or rs i d)) [] in
        ap cur' e ∙ changed ∙ ap (option_map (λ _. word (get_or rs i d))) (so_far (key (get_or rs i d)))
        ∙ twice (find nat_cmp (key (get_or rs i d)) (pairs_for (take i rs))) (word (get_or rs i d)) (old (key (get_or rs i d))) none
        ∙ ap (λ p. option_map (λ v. unwrap_or p v) (old (key (get_or rs i d)))) (sym found)
        ∙ ap (λ m. renamed_word (pairs_for (take (i + 1) rs)) m (old m)) (sym e))
        (λ ne.
        let found : find nat_cmp n (pairs_for (take (i + 1) rs)) ≡ find nat_cmp n (pairs_for (take i rs)) =
        ap (find nat_cmp n) more ∙ find-append n (pairs_for (take i rs)) ((key (get_or rs i d), word (get_or rs i d)) ∷ []) ∙ ap (or_else (find nat_cmp n (pairs_for (take i rs)))) (find_other n (key (get_or rs i d)) (word (get_or rs i d)) [] ne) ∙ or_none (find nat_cmp n (pairs_for (take i rs))) in
        others n ne ∙ so_far n ∙ ap (λ p. option_map (λ v. unwrap_or p v) (old n)) (sym found))
        (cases_eq n (key (get_or rs i d)))

  pub written_next : (rs : List X) (old cur cur' : ℕ → Option ℕ) (i : ℕ) (r : X) → r ≡ get_or rs i r → i < length rs → IsDistinct nat_eq (map key rs)
      → ((n : ℕ) → cur n ≡ renamed_word (pairs_for (take i rs)) n (old n))
      → cur' (key r) ≡ option_map (λ _. word r) (cur (key r)) → ((n : ℕ) → n ≢ key r → cur' n ≡ cur n)
      → (n : ℕ) → cur' n ≡ renamed_word (pairs_for (take (i + 1) rs)) n (old n)
  written_next rs old cur cur' i r is lt once so_far changed others =
      written_more rs old cur cur' i r lt once so_far
      (subst (λ x. cur' (key x) ≡ option_map (λ _. word x) (cur (key x))) is changed)
      (subst (λ x. (n : ℕ) → n ≢ key x → cur' n ≡ cur n) is others)

pub word_of_map : {X Y : Type 0} (f : X → Y) (x : X) (o : Option X) → option_map f (option_map (λ _. x) o) ≡ option_map (λ _. f x) (option_map f o)
word_of_map f x None = refl
word_of_map f x (Some y) = refl
