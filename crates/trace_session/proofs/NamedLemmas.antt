-- Names and their roots, when a name is added and when one is dropped.
use Rattle.std.proofs.Common.{◌≡◌, ℕ, Bool, true, false, cond, not, List, filter, Option, Some, None, T, IsTrue, refl, sym, ap, subst, ◌∙◌, Ordering}
use Rattle.std.specs.Prelude.{is_some}
use Rattle.std.specs.declared.cmp.Ordering.TheVariants.{Less, Equal, Greater}
use Rattle.std.specs.Ordering.{nat_cmp, eq_by_cmp, is_eq}
use Rattle.std.specs.Cmp.{tied_itself}
use Rattle.std.specs.Cmp.Lexicographic.{slice_cmp, nat_list_cmp_total}
use Rattle.std.specs.FinMap.{is_sorted, put, nat_cmp-IsAntisymmetric, slice_cmp-IsAntisymmetric}
use Rattle.std.specs.FinMap.Entries.{find-put, find-where_key}
use Rattle.trace_session.specs.NamesView.{named}

abbrev pub same : List ℕ → List ℕ → Bool
same s t = eq_by_cmp (slice_cmp nat_cmp) s t

equal_of : (r : Ordering) → is_eq r ≡ true → r ≡ Equal
equal_of Less e = cc
equal_of Equal e = refl
equal_of Greater e = cc

pub same_text : (s t : List ℕ) → same s t ≡ true → s ≡ t
same_text s t e = slice_cmp-IsAntisymmetric nat_cmp-IsAntisymmetric s t (equal_of (slice_cmp nat_cmp s t) e)

pub same_itself : (t : List ℕ) → same t t ≡ true
same_itself t = ap is_eq (tied_itself nat_list_cmp_total t)

module _ (names : List (List ℕ × ℕ)) (text : List ℕ) (v : ℕ) where
  abbrev pub added : List (List ℕ × ℕ)
  added = put (slice_cmp nat_cmp) text v names

  pub added-same : named added text ≡ Some v
  added-same = find-put (slice_cmp nat_cmp) nat_list_cmp_total text text v names ∙ ap (λ b. cond b (Some v) (named names text)) (same_itself text)

  pub added-other : (s : List ℕ) → same s text ≡ false → named added s ≡ named names s
  added-other s other = find-put (slice_cmp nat_cmp) nat_list_cmp_total s text v names ∙ ap (λ b. cond b (Some v) (named names s)) other

module _ (names : List (List ℕ × ℕ)) (text : List ℕ) where
  abbrev pub dropped : List (List ℕ × ℕ)
  dropped = filter (λ e. not (eq_by_cmp (slice_cmp nat_cmp) text e.0)) names

  dropped_is : (s : List ℕ) → named dropped s ≡ cond (not (same text s)) (named names s) None
  dropped_is s =
      find-where_key (slice_cmp nat_cmp) (λ k. not (same text k)) s
      (λ x tie. ap (λ k. not (same text k)) (sym (slice_cmp-IsAntisymmetric nat_cmp-IsAntisymmetric s x tie))) names

  pub dropped-same : (s : List ℕ) → same text s ≡ true → named dropped s ≡ None
  dropped-same s e = dropped_is s ∙ ap (λ b. cond (not b) (named names s) None) e

  pub dropped-other : (s : List ℕ) → same text s ≡ false → named dropped s ≡ named names s
  dropped-other s e = dropped_is s ∙ ap (λ b. cond (not b) (named names s) None) e

pub none_is_some : {X : Type 0} {P : Type 0} (o : Option X) (x : X) → o ≡ None → o ≡ Some x → P
none_is_some o x none some = let both : None ≡ Some x = sym none ∙ some in absurd (cc)

pub one_value : {X : Type 0} (o : Option X) (x y : X) → o ≡ Some x → o ≡ Some y → x ≡ y
one_value o x y a b = let both : Some x ≡ Some y = sym a ∙ b in cc

is_some_at : {X : Type 0} (o : Option X) (x : X) → o ≡ Some x → is_some o ≡ true
is_some_at o x e = ap is_some e

pub sorted_of : (names : List (List ℕ × ℕ)) → IsTrue (is_sorted (slice_cmp nat_cmp) names) → T (is_sorted (slice_cmp nat_cmp) names)
sorted_of names e = subst T (sym e) tt

pub is_true : (b : Bool) → T b → IsTrue b
is_true true t = refl
is_true false t = absurd t
