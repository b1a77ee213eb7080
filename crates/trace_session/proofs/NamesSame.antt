-- The names of a session lead to the places of what the store's names lead to.
use Rattle.std.proofs.Common.{◌≡◌, ℕ, true, false, ◌&&◌, cond, List, [], ◌∷◌, map, Option, Some, None, T, refl, sym, ap, subst, ◌∙◌}
use Rattle.std.specs.Prelude.{unwrap_or}
use Rattle.std.specs.Option.{option_map}
use Rattle.std.specs.Ordering.{nat_cmp, is_eq, is_lt}
use Rattle.std.specs.Cmp.Lexicographic.{slice_cmp, nat_list_cmp_total}
use Rattle.std.specs.FinMap.{is_sorted, nat_cmp-IsAntisymmetric, slice_cmp-IsAntisymmetric}
use Rattle.std.specs.FinMap.Entries.{same_entries}
use Rattle.model.specs.Graph.{Graph, root_at}
use Rattle.model.specs.Store.{Store}
use Rattle.trace_session.specs.NamesView.{named}
use Rattle.trace_session.specs.Stands.{IsNamed}
use Rattle.trace_session.proofs.NamedLemmas.{sorted_of}
use Rattle.trace_session.proofs.NameLists.{all_after}

-- the names with what they lead to given otherwise
abbrev pub led_by : (ℕ → ℕ) → List (List ℕ × ℕ) → List (List ℕ × ℕ)
led_by f names = map {B = List ℕ × ℕ} (λ e. (e.0, f e.1)) names

named-led_by : (f : ℕ → ℕ) (names : List (List ℕ × ℕ)) (text : List ℕ) → named (led_by f names) text ≡ option_map f (named names text)
named-led_by f [] text = refl
named-led_by f (e ∷ names) text =
    elim (is_eq (slice_cmp nat_cmp text e.0)) as (λ b. cond b (Some (f e.1)) (named (led_by f names) text) ≡ option_map f (cond b (Some e.1) (named names text))) [
      | true ↦ refl
      | false ↦ named-led_by f names text
    ]

all_after-led_by : (f : ℕ → ℕ) (text : List ℕ) (names : List (List ℕ × ℕ)) → all_after text (led_by f names) ≡ all_after text names
all_after-led_by f text [] = refl
all_after-led_by f text (e ∷ names) = ap (λ b. is_lt (slice_cmp nat_cmp text e.0) && b) (all_after-led_by f text names)

is_sorted-led_by : (f : ℕ → ℕ) (names : List (List ℕ × ℕ)) → is_sorted (slice_cmp nat_cmp) (led_by f names) ≡ is_sorted (slice_cmp nat_cmp) names
is_sorted-led_by f [] = refl
is_sorted-led_by f (e ∷ names) =
    let after = all_after-led_by f e.0 names in
    let rest = is_sorted-led_by f names in
    λ i. after i && rest i

sorted_led_by : (f : ℕ → ℕ) (names : List (List ℕ × ℕ)) → T (is_sorted (slice_cmp nat_cmp) names) → T (is_sorted (slice_cmp nat_cmp) (led_by f names))
sorted_led_by f names t = subst T (sym (is_sorted-led_by f names)) t

-- the place that a root leads to
abbrev pub root_place : Graph → ℕ → ℕ
root_place heap root = unwrap_or (root_at heap root) 0

module _ (store : Store) (place : ℕ → ℕ) (heap : Graph) (names : List (List ℕ × ℕ)) (before : IsNamed store place heap names) (rise : T (is_sorted (slice_cmp nat_cmp) names)) where
  same_led : (text : List ℕ) → named (led_by (root_place heap) names) text ≡ named (led_by place store.names) text
  same_led text = named-led_by (root_place heap) names text ∙ go (named names text) refl ∙ sym (named-led_by place store.names text)
    where
      go : (r : Option ℕ) → named names text ≡ r → option_map (root_place heap) (named names text) ≡ option_map place (named store.names text)
      go None is = ap (option_map (root_place heap)) is ∙ sym (ap (option_map place) (before.free text is))
      go (Some root) is =
          let leads = before.leads text root is in
          ap (option_map (root_place heap)) is ∙ ap (λ r. Some (unwrap_or r 0)) leads.root_is ∙ sym (ap (option_map place) leads.named_is)

  pub same_names : led_by (root_place heap) names ≡ led_by place store.names
  same_names =
      same_entries (slice_cmp nat_cmp) nat_list_cmp_total (λ s t e. slice_cmp-IsAntisymmetric nat_cmp-IsAntisymmetric s t e) (led_by (root_place heap) names) (led_by place store.names)
      (sorted_led_by (root_place heap) names rise) (sorted_led_by place store.names (sorted_of store.names before.sorted)) same_led
