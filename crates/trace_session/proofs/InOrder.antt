-- Names put in order, by what each leads to.
use Rattle.std.proofs.Common.{◌≡◌, ℕ, Bool, true, false, cond, not, List, [], ◌∷◌, filter, Some, None, T, refl, sym, ap, ◌∙◌}
use Rattle.std.specs.Prelude.{IsSome}
use Rattle.std.specs.Ordering.{nat_cmp}
use Rattle.std.specs.Cmp.Lexicographic.{slice_cmp, nat_list_cmp_total}
use Rattle.std.specs.Cmp.{IsEquivalence}
use Rattle.std.specs.List.{IsDistinct}
use Rattle.std.specs.List.Sorted.{IsPermutation}
use Rattle.std.specs.Map.{keys_of, lookup, set_value, remove_entry}
use Rattle.std.specs.FinMap.{find, put, is_sorted}
use Rattle.std.specs.FinMap.Entries.{find-put, find-where_key, is_sorted-put, is_sorted-where_key, same_entries}
use Rattle.std.proofs.lemmas.Cmp.{eq_by_cmp_equiv}
use Rattle.std.proofs.lemmas.List.Sorted.{Contains-permutation, IsPermutation-sym}
use Rattle.std.proofs.lemmas.Map.{lookup-set_value, lookup-remove_entry}
use Rattle.std.proofs.lemmas.Map.Lookups.{exact_bytes}
use Rattle.std.proofs.lemmas.Map.Views.{Contains-from_lookup, lookup-from_Contains}
use Rattle.trace_session.specs.NamesView.{in_order}
use Rattle.trace_session.proofs.NamedLemmas.{same, same_text}

pub same_equiv : IsEquivalence same
same_equiv = eq_by_cmp_equiv nat_list_cmp_total

pub find-lookup : (es : List (List ℕ × ℕ)) (q : List ℕ) → find (slice_cmp nat_cmp) q es ≡ lookup (same q) es
find-lookup [] q = refl
find-lookup (e ∷ es) q = ap (cond (same q e.0) (Some e.1)) (find-lookup es q)

pub find-in_order : (es : List (List ℕ × ℕ)) (q : List ℕ) → find (slice_cmp nat_cmp) q (in_order es) ≡ lookup (same q) es
find-in_order [] q = refl
find-in_order (e ∷ es) q = find-put (slice_cmp nat_cmp) nat_list_cmp_total q e.0 e.1 (in_order es) ∙ ap (cond (same q e.0) (Some e.1)) (find-in_order es q)

pub rises-in_order : (es : List (List ℕ × ℕ)) → T (is_sorted (slice_cmp nat_cmp) (in_order es))
rises-in_order [] = tt
rises-in_order (e ∷ es) = is_sorted-put (slice_cmp nat_cmp) nat_list_cmp_total e.0 e.1 (in_order es) (rises-in_order es)

-- a list in order is the one that leads where the others do
pub the_order : (es fs : List (List ℕ × ℕ)) → T (is_sorted (slice_cmp nat_cmp) fs) → ((q : List ℕ) → lookup (same q) es ≡ find (slice_cmp nat_cmp) q fs) → in_order es ≡ fs
the_order es fs rises leads = same_entries (slice_cmp nat_cmp) nat_list_cmp_total exact_bytes (in_order es) fs (rises-in_order es) rises (λ q. find-in_order es q ∙ leads q)

module _ (es fs : List (List ℕ × ℕ)) (moved : IsPermutation es fs) (c : IsDistinct same (keys_of es)) (d : IsDistinct same (keys_of fs)) where
  pub lookup-moved : (q : List ℕ) → lookup (same q) es ≡ lookup (same q) fs
  lookup-moved q =
      elim (lookup (same q) es) as (λ o. lookup (same q) es ≡ o → o ≡ lookup (same q) fs) [
        | Some v ↦ λ is. sym (lookup-from_Contains same_equiv q v fs d (Contains-permutation es fs (q, v) moved (Contains-from_lookup same_text q v es is)))
        | None ↦ λ none.
            elim (lookup (same q) fs) as (λ o. lookup (same q) fs ≡ o → None ≡ o) [
              | Some v ↦ λ is. sym none ∙ lookup-from_Contains same_equiv q v es c (Contains-permutation fs es (q, v) (IsPermutation-sym es fs moved) (Contains-from_lookup same_text q v fs is))
              | None ↦ λ _. refl
            ] refl
      ] refl

  pub moved-in_order : in_order es ≡ in_order fs
  moved-in_order = the_order es (in_order fs) (rises-in_order fs) (λ q. lookup-moved q ∙ sym (find-in_order fs q))

-- a name that was in use has another value
pub replaced-in_order : (es : List (List ℕ × ℕ)) (text : List ℕ) (v : ℕ) → IsSome (lookup (same text) es) → in_order (set_value (same text) es v) ≡ put (slice_cmp nat_cmp) text v (in_order es)
replaced-in_order es text v there =
    the_order (set_value (same text) es v) (in_order ((text, v) ∷ es)) (rises-in_order ((text, v) ∷ es))
    (λ q.
    lookup-set_value same_equiv (same text) (same_equiv.congr text) q v es there
    ∙ ap (λ b. cond b (Some v) (lookup (same q) es)) (same_equiv.symm text q)
    ∙ sym (find-in_order ((text, v) ∷ es) q))

negated : {X : Type 0} (b : Bool) (x y : X) → cond b x y ≡ cond (not b) y x
negated true x y = refl
negated false x y = refl

-- a name is taken away
pub removed-in_order : (es : List (List ℕ × ℕ)) (text : List ℕ) → IsDistinct same (keys_of es) → in_order (remove_entry (same text) es) ≡ filter (λ e. not (same text e.0)) (in_order es)
removed-in_order es text d =
    the_order (remove_entry (same text) es) (filter (λ e. not (same text e.0)) (in_order es))
    (is_sorted-where_key (slice_cmp nat_cmp) (λ k. not (same text k)) (in_order es) (rises-in_order es))
    (λ q.
    lookup-remove_entry same_equiv (same text) (same_equiv.congr text) q es d
    ∙ negated (same text q) None (lookup (same q) es)
    ∙ ap (λ o. cond (not (same text q)) o None) (sym (find-in_order es q))
    ∙ sym
    (find-where_key (slice_cmp nat_cmp) (λ k. not (same text k)) q
    (λ x tie. ap (λ k. not (same text k)) (sym (exact_bytes q x tie))) (in_order es)))
