-- Names in order: one more gone through, and one put in its place.
use Rattle.std.proofs.Common.{◌≡◌, ℕ, ◌+◌, ◌<◌, cond, List, [], ◌∷◌, length, get_or, drop, Some, None, Ordering, refl, sym, ap, ◌∙◌}
use Rattle.std.proofs.Math.Seq.{drop-cons}
use Rattle.std.proofs.Math.Numerals.{add-one}
use Rattle.std.specs.List.{insert}
use Rattle.std.specs.Ordering.{nat_cmp, eq_by_cmp, is_eq, is_lt}
use Rattle.std.specs.declared.cmp.Ordering.TheVariants.{Less, Equal, Greater}
use Rattle.std.specs.Cmp.Lexicographic.{slice_cmp}
use Rattle.std.specs.FinMap.{find, put}
use Rattle.std.specs.FinMap.Entries.{by_order}
use Rattle.reference.specs.NamePlace.{place_of}

abbrev Names : Type 0
Names = List (List ℕ × ℕ)

drop_at : (names : Names) (i : ℕ) (d : List ℕ × ℕ) → i < length names → drop i names ≡ get_or names i d ∷ drop (i + 1) names
drop_at names i d h = drop-cons names i d h ∙ ap (λ n. get_or names i d ∷ drop n names) (sym (add-one i))

pub find_drop : (text : List ℕ) (names : Names) (i : ℕ) (d : List ℕ × ℕ) → i < length names → find (slice_cmp nat_cmp) text (drop i names) ≡ cond (eq_by_cmp (slice_cmp nat_cmp) text (get_or names i d).0) (Some (get_or names i d).1) (find (slice_cmp nat_cmp) text (drop (i + 1) names))
find_drop text names i d h = ap (find (slice_cmp nat_cmp) text) (drop_at names i d h)

pub place_drop : (text : List ℕ) (names : Names) (i : ℕ) (d : List ℕ × ℕ) → i < length names → place_of text (drop i names) ≡ cond (is_lt (slice_cmp nat_cmp text (get_or names i d).0)) 0 (place_of text (drop (i + 1) names) + 1)
place_drop text names i d h = ap (place_of text) (drop_at names i d h)

-- a name that is not there goes before the first that is after it
pub put-insert : (text : List ℕ) (name : ℕ) (names : Names) → find (slice_cmp nat_cmp) text names ≡ None → put (slice_cmp nat_cmp) text name names ≡ insert names (place_of text names) (text, name)
put-insert text name [] none = refl
put-insert text name (e ∷ es) none = go (slice_cmp nat_cmp text e.0) none (put-insert text name es)
  where
    go : (o : Ordering) → cond (is_eq o) (Some e.1) (find (slice_cmp nat_cmp) text es) ≡ None → (find (slice_cmp nat_cmp) text es ≡ None → put (slice_cmp nat_cmp) text name es ≡ insert es (place_of text es) (text, name)) → by_order o ((text, name) ∷ e ∷ es) ((e.0, name) ∷ es) (e ∷ put (slice_cmp nat_cmp) text name es) ≡ insert (e ∷ es) (cond (is_lt o) 0 (place_of text es + 1)) (text, name)
    go Less n rest = refl
    go Equal n rest = absurd (cc)
    go Greater n rest = rw add-one (ap (λ ys. e ∷ ys) (rest n))
