-- The names in use, and the map by hash that keeps them.
use Rattle.std.proofs.Common.{◌≡◌, ℕ, Bool, true, false, cond, List, [], ◌∷◌, map, filter, not, Option, Some, None, refl, sym, ap, ◌∙◌, Vec}
use Rattle.std.specs.Prelude.{nat_eq, is_some, MatchOption}
use Rattle.std.specs.Option.{option_map}
use Rattle.std.specs.Ordering.{nat_cmp}
use Rattle.std.specs.Cmp.Lexicographic.{pointwise, slice_cmp}
use Rattle.std.specs.List.{IsDistinct, AllByRecursion}
use Rattle.std.specs.List.Sorted.{IsPermutation}
use Rattle.std.specs.FinMap.{put}
use Rattle.std.proofs.lemmas.List.Sorted.{IsPermutation-map, IsPermutation-sym}
use Rattle.std.proofs.lemmas.Map.Keys.{IsDistinct-IsPermutation}
use Rattle.std.specs.Map.{keys_of, lookup, set_value, remove_entry}
use Rattle.std.proofs.lemmas.Map.Text.{is_eq-slice_cmp}
use Rattle.steps.specs.declared.heap_values.root_id.RootId.{RootId}
use Rattle.trace_session.specs.NamesView.{name_entry, in_order}
use Rattle.trace_session.proofs.NamedLemmas.{same}
use Rattle.trace_session.proofs.InOrder.{same_equiv, moved-in_order, replaced-in_order, removed-in_order}

-- whether a key has these bytes, as the map asks
abbrev pub is_named : {A : Type 0} → List ℕ → Vec ℕ A → Bool
is_named text k = pointwise nat_eq text k.items

pub asked : (s t : List ℕ) → pointwise nat_eq s t ≡ same s t
asked s t = sym (is_eq-slice_cmp s t)

pub lookup_named : {A : Type 0} (text : List ℕ) (es : List (Vec ℕ A × RootId)) → option_map (λ (r : RootId). r.number) (lookup (is_named text) es) ≡ lookup (same text) (map name_entry es)
lookup_named text [] = refl
lookup_named text (e ∷ es) =
    rw (asked text e.0.items)
    (elim (same text e.0.items) as (λ b. option_map (λ (r : RootId). r.number) (cond b (Some e.1) (lookup (is_named text) es)) ≡ cond b (Some e.1.number) (lookup (same text) (map name_entry es))) [
      | true ↦ refl
      | false ↦ lookup_named text es
    ])

pub set_named : {A : Type 0} (text : List ℕ) (root : RootId) (es : List (Vec ℕ A × RootId)) → map name_entry (set_value (is_named text) es root) ≡ set_value (same text) (map name_entry es) root.number
set_named text root [] = refl
set_named text root (e ∷ es) =
    rw (asked text e.0.items)
    (elim (same text e.0.items) as (λ b. map name_entry (cond b ((e.0, root) ∷ es) (e ∷ set_value (is_named text) es root)) ≡ cond b ((e.0.items, root.number) ∷ map name_entry es) (name_entry e ∷ set_value (same text) (map name_entry es) root.number)) [
      | true ↦ refl
      | false ↦ ap (λ xs. name_entry e ∷ xs) (set_named text root es)
    ])

pub remove_named : {A : Type 0} (text : List ℕ) (es : List (Vec ℕ A × RootId)) → map name_entry (remove_entry (is_named text) es) ≡ remove_entry (same text) (map name_entry es)
remove_named text [] = refl
remove_named text (e ∷ es) =
    rw (asked text e.0.items)
    (elim (same text e.0.items) as (λ b. map name_entry (cond b es (e ∷ remove_entry (is_named text) es)) ≡ cond b (map name_entry es) (name_entry e ∷ remove_entry (same text) (map name_entry es))) [
      | true ↦ refl
      | false ↦ ap (λ xs. name_entry e ∷ xs) (remove_named text es)
    ])

-- keys that differ have names that differ
apart_named : {A : Type 0} (k : Vec ℕ A) (es : List (Vec ℕ A × RootId)) → AllByRecursion (λ (j : Vec ℕ A). pointwise nat_eq k.items j.items ≡ false) (keys_of es) → AllByRecursion (λ t. same k.items t ≡ false) (keys_of (map name_entry es))
apart_named k [] h = tt
apart_named k (e ∷ es) h = (sym (asked k.items e.0.items) ∙ h.0, apart_named k es h.1)

pub distinct_named : {A : Type 0} (es : List (Vec ℕ A × RootId)) → IsDistinct (λ (j k : Vec ℕ A). pointwise nat_eq j.items k.items) (keys_of es) → IsDistinct same (keys_of (map name_entry es))
unfolding IsDistinct
distinct_named [] d = d
distinct_named (e ∷ es) d = (apart_named e.0 es d.0, distinct_named es d.1)

abbrev pub AreApart : {A : Type 0} → List (Vec ℕ A × RootId) → Type 0
AreApart {A} es = IsDistinct (λ (j k : Vec ℕ A). pointwise nat_eq j.items k.items) (keys_of es)

pub keys_moved : (es fs : List (List ℕ × ℕ)) → IsPermutation es fs → IsDistinct same (keys_of fs) → IsDistinct same (keys_of es)
keys_moved es fs moved d = IsDistinct-IsPermutation same same_equiv.symm (keys_of fs) (keys_of es) (IsPermutation-map (λ (e : List ℕ × ℕ). e.0) fs es (IsPermutation-sym es fs moved)) d

-- what an insertion leaves
pub put_named : {A : Type 0} (es fs : List (Vec ℕ A × RootId)) (key : Vec ℕ A) (root : RootId) (text : List ℕ) → key.items ≡ text → (old : Option RootId) → old ≡ lookup (is_named key.items) es
    → MatchOption old (IsPermutation ((key, root) ∷ es) fs) (λ _. fs ≡ set_value (is_named key.items) es root) → AreApart fs
    → in_order (map name_entry fs) ≡ put (slice_cmp nat_cmp) text root.number (in_order (map name_entry es))
put_named es fs key root text is None none moved apart =
    let d = distinct_named fs apart in
    let m = IsPermutation-map name_entry ((key, root) ∷ es) fs moved in
    sym (moved-in_order (map name_entry ((key, root) ∷ es)) (map name_entry fs) m (keys_moved _ _ m d) d)
    ∙ ap (λ t. put (slice_cmp nat_cmp) t root.number (in_order (map name_entry es))) is
put_named es fs key root text is (Some r) found set apart =
    ap (λ l. in_order (map name_entry l)) set
    ∙ ap in_order (set_named key.items root es)
    ∙ replaced-in_order (map name_entry es) key.items root.number (ap is_some (sym (lookup_named key.items es) ∙ ap (option_map (λ (r : RootId). r.number)) (sym found)))
    ∙ ap (λ t. put (slice_cmp nat_cmp) t root.number (in_order (map name_entry es))) is

-- what a removal leaves
pub taken_named : {A : Type 0} (es fs : List (Vec ℕ A × RootId)) (text : List ℕ) → IsPermutation (remove_entry (is_named text) es) fs → AreApart es → AreApart fs
    → in_order (map name_entry fs) ≡ filter (λ e. not (same text e.0)) (in_order (map name_entry es))
taken_named es fs text moved apart after =
    let d = distinct_named fs after in
    let m = IsPermutation-map name_entry (remove_entry (is_named text) es) fs moved in
    sym (moved-in_order (map name_entry (remove_entry (is_named text) es)) (map name_entry fs) m (keys_moved _ _ m d) d)
    ∙ ap in_order (remove_named text es)
    ∙ removed-in_order (map name_entry es) text (distinct_named es apart)

-- the same entries in another order
pub reordered_named : {A : Type 0} (es fs : List (Vec ℕ A × RootId)) → IsPermutation es fs → AreApart fs → in_order (map name_entry fs) ≡ in_order (map name_entry es)
reordered_named es fs moved apart =
    let d = distinct_named fs apart in
    let m = IsPermutation-map name_entry es fs moved in
    sym (moved-in_order (map name_entry es) (map name_entry fs) m (keys_moved _ _ m d) d)
