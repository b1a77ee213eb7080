-- What the names of a store lead to, as a list.
use Rattle.std.proofs.Common.{◌≡◌, ℕ, Bool, true, false, ◌&&◌, cond, List, [], ◌∷◌, map, Some, None, T, refl, sym, ap, subst, ◌∙◌, ⊎_elim, Ordering}
use Rattle.std.specs.declared.cmp.Ordering.TheVariants.{Less, Equal, Greater}
use Rattle.std.specs.Ordering.{nat_cmp, is_eq, is_lt}
use Rattle.std.proofs.lemmas.Bool.{cases_Bool, and_from}
use Rattle.std.specs.List.{list_all}
use Rattle.std.specs.Cmp.Lexicographic.{slice_cmp}
use Rattle.std.specs.FinMap.{is_sorted}
use Rattle.model.specs.Reached.{has}
use Rattle.model.proofs.Has.{has_none, has_head, has_tail, has-cons}
use Rattle.trace_session.specs.NamesView.{named}
use Rattle.trace_session.proofs.NamedLemmas.{same, same_text, same_itself, none_is_some}

both : (a b : Bool) → T (a && b) → T a × T b
both true b h = (tt, h)
both false b h = absurd h

-- each name is after this one, as `is_sorted` tests it
abbrev pub all_after : List ℕ → List (List ℕ × ℕ) → Bool
all_after text [] = true
all_after text (e ∷ names) = is_lt (slice_cmp nat_cmp text e.0) && all_after text names

lt_not_eq : (r : Ordering) → T (is_lt r) → is_eq r ≡ false
lt_not_eq Less t = refl
lt_not_eq Equal t = absurd t
lt_not_eq Greater t = absurd t

not_later : (text : List ℕ) (names : List (List ℕ × ℕ)) → T (all_after text names) → named names text ≡ None
not_later text [] t = refl
not_later text (e ∷ names) t =
    let parts = both (is_lt (slice_cmp nat_cmp text e.0)) (all_after text names) t in
    ap (λ b. cond b (Some e.1) (named names text)) (lt_not_eq (slice_cmp nat_cmp text e.0) parts.0) ∙ not_later text names parts.1

-- a later name is found behind the first
pub found_later : (e : List ℕ × ℕ) (names : List (List ℕ × ℕ)) → T (is_sorted (slice_cmp nat_cmp) (e ∷ names)) → (text : List ℕ) (n : ℕ) → named names text ≡ Some n → named (e ∷ names) text ≡ Some n
found_later e names t text n found =
    let parts = both (all_after e.0 names) (is_sorted (slice_cmp nat_cmp) names) t in
    ⊎_elim
    (λ tie. none_is_some (named names e.0) n (not_later e.0 names parts.0) (subst (λ s. named names s ≡ Some n) (same_text text e.0 tie) found))
    (λ other. ap (λ b. cond b (Some e.1) (named names text)) other ∙ found)
    (cases_Bool (same text e.0))

pub found_first : (e : List ℕ × ℕ) (names : List (List ℕ × ℕ)) → named (e ∷ names) e.0 ≡ Some e.1
found_first e names = ap (λ b. cond b (Some e.1) (named names e.0)) (same_itself e.0)

-- a test that passes at each name's value passes at each of the list
pub each_named : (test : ℕ → Bool) (names : List (List ℕ × ℕ)) → T (is_sorted (slice_cmp nat_cmp) names) → ((text : List ℕ) (n : ℕ) → named names text ≡ Some n → test n ≡ true) → list_all (λ (e : List ℕ × ℕ). test e.1) names ≡ true
each_named test [] t passes = refl
each_named test (e ∷ names) t passes =
    let parts = both (all_after e.0 names) (is_sorted (slice_cmp nat_cmp) names) t in
    and_from _ _ (passes e.0 e.1 (found_first e names)) (each_named test names parts.1 (λ text n found. passes text n (found_later e names t text n found)))

pub led_to : (names : List (List ℕ × ℕ)) (n : ℕ) → T (is_sorted (slice_cmp nat_cmp) names) → has (map (λ e. e.1) names) n ≡ true → (text : List ℕ) × (named names text ≡ Some n)
led_to [] n t there = has_none n there
led_to (e ∷ names) n t there =
    let parts = both (all_after e.0 names) (is_sorted (slice_cmp nat_cmp) names) t in
    ⊎_elim
    (λ is. (e.0, found_first e names ∙ ap (λ k. Some k) (sym is)))
    (λ later. let found = led_to names n parts.1 later in (found.0, found_later e names t found.0 n found.1))
    (has-cons e.1 (map (λ e. e.1) names) n there)

pub leads_to : (names : List (List ℕ × ℕ)) (text : List ℕ) (n : ℕ) → named names text ≡ Some n → has (map (λ e. e.1) names) n ≡ true
leads_to [] text n found = let none : None ≡ Some n = found in absurd (cc)
leads_to (e ∷ names) text n found =
    ⊎_elim
    (λ tie.
    let here : Some e.1 ≡ Some n = sym (ap (λ b. cond b (Some e.1) (named names text)) tie) ∙ found in
    let is : e.1 ≡ n = cc (here) in
    subst (λ k. has (e.1 ∷ map (λ d. d.1) names) k ≡ true) is (has_head e.1 (map (λ d. d.1) names)))
    (λ other. has_tail e.1 (map (λ d. d.1) names) n (leads_to names text n (sym (ap (λ b. cond b (Some e.1) (named names text)) other) ∙ found)))
    (cases_Bool (same text e.0))
