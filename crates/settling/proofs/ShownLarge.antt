-- One large object more stands at its own place.
use Rattle.std.proofs.Common.{◌≡◌, ℕ, ◌+◌, ◌<◌, ◌≤◌, Bool, true, false, cond, ◌||◌, List, [], ◌∷◌, ◌++◌, length, map, take, set, get_or, Option, Some, None, refl, sym, ap, subst, ◌∙◌, ⊎_elim, arith, ne_eqb}
use Rattle.std.proofs.lemmas.Bool.{cases_eq}
use Rattle.std.proofs.lemmas.List.{take_more, take_all, map-append, get_or-set_same, get_or-set_other, length-map, get_or-map}
use Rattle.std.proofs.lemmas.List.Elements.{All-get_or}
use Rattle.std.specs.Prelude.{All, slice_index}
use Rattle.std.specs.Option.{option_map}
use Rattle.model.specs.Reached.{has}
use Rattle.model.specs.OldSlots.{is_young_name}
use Rattle.model.proofs.Has.{has-append, has_head, has_right}
use Rattle.model.proofs.RisingKeys.{same_index, keys-filter_rise}
use Rattle.layout.specs.declared.place.Place.{Place}
use Rattle.layout.specs.Place.{place_word}
use Rattle.steps.specs.HeapValue.{HeapValue}
use Rattle.steps.specs.CollectionValue.{CollectionValue, IsOpened, young_names}
use Rattle.settling.specs.Shown.{shown_in, shown_of, AreShown}

-- the last of a list is none that differs from it
has_before : (xs : List ℕ) (x q : ℕ) → (q ≡ x → ⊥) → has (xs ++ x ∷ []) q ≡ has xs q
has_before xs x q ne = has-append xs (x ∷ []) q ∙ ap (λ b. has xs q || (b || false)) (ne_eqb q x ne) ∙ or_none (has xs q)
  where
    or_none : (b : Bool) → (b || (false || false)) ≡ b
    or_none true = refl
    or_none false = refl

module _ (heap : HeapValue) (c : CollectionValue) (large : List Place) (i : ℕ) (place : Place) (lt : i < length large) (is : place ≡ get_or large i place) where
  abbrev names : List ℕ
  names = young_names heap.graph c.generation

  abbrev before : List ℕ
  before = map place_word (take i large)

  words_more : map place_word (take (i + 1) large) ≡ before ++ place_word place ∷ []
  words_more = ap (map place_word) (take_more large i place lt) ∙ map-append place_word (take i large) (get_or large i place ∷ []) ∙ ap (λ x. before ++ place_word x ∷ []) (sym is)

  -- it is one of those of which something is known
  pub this_one : (P : ℕ → Type 0) → All P (map place_word large) → P (place_word place)
  this_one P all =
      subst (λ x. P (place_word x)) (sym is)
      (subst P (get_or-map place_word large i place (place_word place) lt) (All-get_or P (map place_word large) i (place_word place) (let many = length-map large place_word in omega (arith, lt, many)) all))

  one_number : (a b : ℕ) → a < length names → b < length names → slice_index names a ≡ slice_index names b → a ≡ b
  one_number a b la lb same = same_index names a b (keys-filter_rise heap.graph.objects (is_young_name heap.graph c.generation)) la lb same

  module _ (opened : IsOpened heap c.generation c) (old places : List (Option Place)) (number : ℕ) (here : number < c.cells) (name : slice_index names number ≡ place_word place) (count : length places ≡ c.cells) where
    this_shows : has (before ++ place_word place ∷ []) (place_word place) ≡ true
    this_shows = has_right before (place_word place ∷ []) (place_word place) (has_head (place_word place) [])

    pub large_more : AreShown heap c before old places → AreShown heap c (map place_word (take (i + 1) large)) old (set places number (Some place))
    large_more shown q below =
        subst (λ ws. shown_in (set places number (Some place)) q ≡ shown_of ws (slice_index names q) (shown_in old q)) (sym words_more)
        (⊎_elim
        (λ (same : q ≡ number).
        let own : slice_index names q ≡ place_word place = ap (slice_index names) same ∙ name in
        ap (shown_in (set places number (Some place))) same
        ∙ ap (option_map place_word) (get_or-set_same places number (Some place) None (omega (arith, here, count)))
        ∙ sym (ap (λ n. shown_of (before ++ place_word place ∷ []) n (shown_in old q)) own ∙ ap (λ b. cond b (Some (place_word place)) (shown_in old q)) this_shows))
        (λ ne.
        ap (option_map place_word) (get_or-set_other places number q (Some place) None ne)
        ∙ shown q below
        ∙ sym (ap (λ b. cond b (Some (slice_index names q)) (shown_in old q)) (has_before before (place_word place) (slice_index names q) (λ e. ne (one_number q number (omega (arith, below, opened.cells)) (omega (arith, here, opened.cells)) (e ∙ sym name))))))
        (cases_eq q number))

-- all large objects stand at their own places
pub large_all : (heap : HeapValue) (c : CollectionValue) (large : List Place) (i : ℕ) (old places : List (Option Place)) → length large ≤ i → AreShown heap c (map place_word (take i large)) old places → AreShown heap c (map place_word large) old places
large_all heap c large i old places le shown = subst (λ ps. AreShown heap c (map place_word ps) old places) (take_all i large le) shown
