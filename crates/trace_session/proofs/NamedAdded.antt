-- A free name that leads to an object.
use Rattle.std.proofs.Common.{◌≡◌, ◌≢◌, ℕ, ◌+◌, false, cond, List, length, Some, None, sym, ap, subst, ◌∙◌, arith, ⊎_elim}
use Rattle.std.specs.Prelude.{is_some}
use Rattle.std.proofs.lemmas.Bool.{cases_eq, cases_Bool}
use Rattle.std.specs.Ordering.{nat_cmp}
use Rattle.std.specs.Cmp.Lexicographic.{slice_cmp, nat_list_cmp_total}
use Rattle.std.specs.FinMap.{len, len-insert}
use Rattle.std.specs.FinMap.Entries.{length-put, is_sorted-put}
use Rattle.std.specs.Cmp.{nat_cmp_total}
use Rattle.model.specs.Graph.{Graph, Object, root_at, with_root}
use Rattle.model.specs.Store.{Store, object_at}
use Rattle.model.proofs.NatMap.{get-insert_same, get-insert_other}
use Rattle.trace_session.specs.NamesView.{named}
use Rattle.trace_session.specs.Stands.{IsNamed, LeadsTo}
use Rattle.trace_session.proofs.NamedLemmas.{same, same_text, added, added-same, added-other, none_is_some, one_value, sorted_of, is_true}

-- a name that was free leads to an object, by a root of its own
module _ (store : Store) (place : ℕ → ℕ) (heap : Graph) (names : List (List ℕ × ℕ)) (before : IsNamed store place heap names) (target : ℕ) (o : Object) (there : object_at store target ≡ Some o) (at : ℕ) (at_is : place target ≡ at) (root : ℕ) (new_root : root_at heap root ≡ None) (text : List ℕ) (free : named names text ≡ None) where
  abbrev store' : Store
  store' = record store { names = added store.names text target }

  abbrev heap' : Graph
  heap' = with_root heap root at

  other_root : (s : List ℕ) (r : ℕ) → named names s ≡ Some r → r ≢ root
  other_root s r is = λ e.
      let leads = before.leads s r is in
      none_is_some (root_at heap root) (place leads.name) new_root (subst (λ k. root_at heap k ≡ Some (place leads.name)) e leads.root_is)

  leads_new : (s : List ℕ) (r : ℕ) → s ≡ text → named (added names text root) s ≡ Some r → LeadsTo store' place heap' s r
  leads_new s r is found =
      let at_text : named (added names text root) text ≡ Some r = subst (λ t. named (added names text root) t ≡ Some r) is found in
      let r_is : root ≡ r = one_value _ root r (added-same names text root) at_text in
      record {
        name = target;
        object = o;
        named_is = rw is (added-same store.names text target);
        there = there;
        root_is = rw (← r_is) (get-insert_same heap.roots root at ∙ ap (λ k. Some k) (sym at_is));
      }

  leads_old : (s : List ℕ) (r : ℕ) → same s text ≡ false → named (added names text root) s ≡ Some r → LeadsTo store' place heap' s r
  leads_old s r other found =
      let was : named names s ≡ Some r = sym (added-other names text root s other) ∙ found in
      let leads = before.leads s r was in
      record {
        name = leads.name;
        object = leads.object;
        named_is = added-other store.names text target s other ∙ leads.named_is;
        there = leads.there;
        root_is = get-insert_other heap.roots root at r (other_root s r was) ∙ leads.root_is;
      }

  leads' : (s : List ℕ) (r : ℕ) → named (added names text root) s ≡ Some r → LeadsTo store' place heap' s r
  leads' s r found = ⊎_elim (λ e. leads_new s r (same_text s text e) found) (λ other. leads_old s r other found) (cases_Bool (same s text))

  free' : (s : List ℕ) → named (added names text root) s ≡ None → named store'.names s ≡ None
  free' s none =
      ⊎_elim
      (λ e. none_is_some _ root none (rw (same_text s text e) (added-same names text root)))
      (λ other. added-other store.names text target s other ∙ before.free s (sym (added-other names text root s other) ∙ none))
      (cases_Bool (same s text))

  apart_one : (s t : List ℕ) (r : ℕ) → s ≡ text → same t text ≡ false → named (added names text root) s ≡ Some r → named (added names text root) t ≡ Some r → s ≡ t
  apart_one s t r is other found_s found_t =
      let r_is : root ≡ r = one_value _ root r (added-same names text root) (subst (λ k. named (added names text root) k ≡ Some r) is found_s) in
      absurd (other_root t r (sym (added-other names text root t other) ∙ found_t) (sym r_is))

  apart' : (s t : List ℕ) (r : ℕ) → named (added names text root) s ≡ Some r → named (added names text root) t ≡ Some r → s ≡ t
  apart' s t r found_s found_t =
      ⊎_elim
      (λ es. ⊎_elim (λ et. same_text s text es ∙ sym (same_text t text et)) (λ nt. apart_one s t r (same_text s text es) nt found_s found_t) (cases_Bool (same t text)))
      (λ ns. ⊎_elim (λ et. sym (apart_one t s r (same_text t text et) ns found_t found_s))
      (λ nt. before.apart s t r (sym (added-other names text root s ns) ∙ found_s) (sym (added-other names text root t nt) ∙ found_t))
      (cases_Bool (same t text)))
      (cases_Bool (same s text))

  no_others' : (r t : ℕ) → root_at heap' r ≡ Some t → (s : List ℕ) × (named (added names text root) s ≡ Some r)
  no_others' r t leads =
      ⊎_elim
      (λ e. (text, rw e (added-same names text root)))
      (λ ne.
      let found = before.no_others r t (sym (get-insert_other heap.roots root at r ne) ∙ leads) in
      ⊎_elim
      (λ e. none_is_some (named names text) r free (subst (λ s. named names s ≡ Some r) (same_text found.0 text e) found.1))
      (λ other. (found.0, added-other names text root found.0 other ∙ found.1))
      (cases_Bool (same found.0 text)))
      (cases_eq r root)

  count' : len heap'.roots ≡ length store'.names
  count' =
      let more : len heap'.roots ≡ len heap.roots + 1 = len-insert nat_cmp_total heap.roots root at ∙ ap (λ o. cond (is_some o) (len heap.roots) (len heap.roots + 1)) new_root in
      let longer : length store'.names ≡ length store.names + 1 = length-put (slice_cmp nat_cmp) nat_list_cmp_total text target store.names (sorted_of store.names before.sorted) ∙ ap (λ o. cond (is_some o) (length store.names) (length store.names + 1)) (before.free text free) in
      omega (arith, more, longer, before.count)

  pub named_added : IsNamed store' place heap' (added names text root)
  named_added = record {
    leads = leads';
    free = free';
    apart = apart';
    no_others = no_others';
    sorted = is_true _ (is_sorted-put (slice_cmp nat_cmp) nat_list_cmp_total text target store.names (sorted_of store.names before.sorted));
    count = count';
  }
