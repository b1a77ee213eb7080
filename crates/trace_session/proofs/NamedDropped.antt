-- A name that is dropped, with its root.
use Rattle.std.proofs.Common.{◌≡◌, ◌≢◌, ℕ, ◌+◌, ◌-◌, false, cond, not, List, length, Some, None, sym, ap, subst, ◌∙◌, arith, ⊎_elim}
use Rattle.std.specs.Prelude.{is_some}
use Rattle.std.proofs.lemmas.Bool.{true≢false, cases_eq, cases_Bool}
use Rattle.std.specs.Ordering.{nat_cmp}
use Rattle.std.specs.Cmp.Lexicographic.{slice_cmp, nat_list_cmp_total}
use Rattle.std.specs.FinMap.{len, len-remove}
use Rattle.std.specs.FinMap.Entries.{length_without, is_sorted-where_key}
use Rattle.std.specs.Cmp.{nat_cmp_total}
use Rattle.model.specs.Graph.{Graph, root_at, without_root}
use Rattle.model.specs.Store.{Store}
use Rattle.model.proofs.NatMap.{get-remove_same, get-remove_other}
use Rattle.trace_session.specs.NamesView.{named}
use Rattle.trace_session.specs.Stands.{IsNamed, LeadsTo}
use Rattle.trace_session.proofs.NamedLemmas.{same, same_text, same_itself, dropped, dropped-same, dropped-other, none_is_some, one_value, sorted_of, is_true}

-- a name leads to nothing any more, and its root is given up
module _ (store : Store) (place : ℕ → ℕ) (heap : Graph) (names : List (List ℕ × ℕ)) (before : IsNamed store place heap names) (text : List ℕ) (root : ℕ) (used : named names text ≡ Some root) where
  abbrev store' : Store
  store' = record store { names = dropped store.names text }

  abbrev heap' : Graph
  heap' = without_root heap root

  not_dropped : (s : List ℕ) (r : ℕ) → named (dropped names text) s ≡ Some r → same text s ≡ false
  not_dropped s r found = ⊎_elim (λ e. none_is_some _ r (dropped-same names text s e) found) (λ other. other) (cases_Bool (same text s))

  was_named : (s : List ℕ) (r : ℕ) → named (dropped names text) s ≡ Some r → named names s ≡ Some r
  was_named s r found = sym (dropped-other names text s (not_dropped s r found)) ∙ found

  other_root : (s : List ℕ) (r : ℕ) → named (dropped names text) s ≡ Some r → r ≢ root
  other_root s r found = λ e.
      let is : s ≡ text = before.apart s text r (was_named s r found) (used ∙ ap (λ k. Some k) (sym e)) in
      true≢false (sym (same_itself text) ∙ subst (λ t. same text t ≡ false) is (not_dropped s r found))

  leads' : (s : List ℕ) (r : ℕ) → named (dropped names text) s ≡ Some r → LeadsTo store' place heap' s r
  leads' s r found =
      let leads = before.leads s r (was_named s r found) in
      record {
        name = leads.name;
        object = leads.object;
        named_is = dropped-other store.names text s (not_dropped s r found) ∙ leads.named_is;
        there = leads.there;
        root_is = get-remove_other heap.roots root r (other_root s r found) ∙ leads.root_is;
      }

  free' : (s : List ℕ) → named (dropped names text) s ≡ None → named store'.names s ≡ None
  free' s none =
      ⊎_elim
      (λ e. dropped-same store.names text s e)
      (λ other. dropped-other store.names text s other ∙ before.free s (sym (dropped-other names text s other) ∙ none))
      (cases_Bool (same text s))

  no_others' : (r target : ℕ) → root_at heap' r ≡ Some target → (t : List ℕ) × (named (dropped names text) t ≡ Some r)
  no_others' r target leads =
      ⊎_elim
      (λ e. none_is_some (root_at heap' root) target (get-remove_same heap.roots root) (subst (λ k. root_at heap' k ≡ Some target) e leads))
      (λ ne.
      let found = before.no_others r target (sym (get-remove_other heap.roots root r ne) ∙ leads) in
      ⊎_elim
      (λ e. let is : text ≡ found.0 = same_text text found.0 e in
      absurd (ne (one_value (named names text) r root (subst (λ t. named names t ≡ Some r) (sym is) found.1) used)))
      (λ other. (found.0, dropped-other names text found.0 other ∙ found.1))
      (cases_Bool (same text found.0)))
      (cases_eq r root)

  count' : len heap'.roots ≡ length store'.names
  count' =
      let leads = before.leads text root used in
      let less : len heap'.roots ≡ len heap.roots - 1 = len-remove nat_cmp_total heap.roots root ∙ ap (λ o. cond (is_some o) (len heap.roots - 1) (len heap.roots)) leads.root_is in
      let shorter : 1 + length store'.names ≡ length store.names = ap (λ o. cond (is_some o) 1 0 + length store'.names) (sym leads.named_is) ∙ length_without (slice_cmp nat_cmp) nat_list_cmp_total text store.names (sorted_of store.names before.sorted) in
      omega (arith, less, shorter, before.count)

  pub named_dropped : IsNamed store' place heap' (dropped names text)
  named_dropped = record {
    leads = leads';
    free = free';
    apart = λ s t r found_s found_t. before.apart s t r (was_named s r found_s) (was_named t r found_t);
    no_others = no_others';
    sorted = is_true _ (is_sorted-where_key (slice_cmp nat_cmp) (λ k. not (same text k)) store.names (sorted_of store.names before.sorted));
    count = count';
  }
