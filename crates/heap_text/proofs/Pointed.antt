-- Pointers to objects that have numbers.
use Rattle.std.proofs.Common.{◌≡◌, ℕ, zero, suc, ◌<◌, true, List, [], ◌∷◌, length, map, get_or, Option, Some, None, refl, sym, subst, arith}
use Rattle.std.specs.Prelude.{All, flat_map}
use Rattle.model.specs.Graph.{Graph}
use Rattle.model.specs.Reached.{has}
use Rattle.model.specs.Store.{some_of}
use Rattle.model.proofs.Has.{has_head, has_tail, has_left, has_right}
use Rattle.layout.specs.declared.place.Place.{Place}
use Rattle.layout.specs.Place.{place_word}
use Rattle.layout.specs.Object.{Raw}
use Rattle.heap.specs.HeapValue.{HeapValue}
use Rattle.heap.specs.Words.{target_of_word}
use Rattle.heap_text.specs.Numbering.{IsNumbering, LeadsToNumbered, LeadsInto, IsClosedOrder}
use Rattle.heap_text.proofs.Numbered.{has_there}
use Rattle.heap_text.proofs.Shown.{Shows, shown_targets}

pub numbered_into : (heap : HeapValue) (g : ℕ) (numbers : List (Option ℕ)) (order : List ℕ) → IsNumbering heap g numbers order → (t : Option ℕ) → LeadsToNumbered order t → LeadsInto heap.graph t
numbered_into heap g numbers order numbering None leads = tt
numbered_into heap g numbers order numbering (Some t) leads = has_there heap g numbers order numbering t leads

has_pointer : (pointers : List ℕ) (k d t : ℕ) → k < length pointers → target_of_word (get_or pointers k d) ≡ Some t → has (flat_map some_of (map target_of_word pointers)) t ≡ true
has_pointer [] k d t lt is = absurd (omega arith)
has_pointer (w ∷ pointers) zero d t lt is = has_left (some_of (target_of_word w)) (flat_map some_of (map target_of_word pointers)) t (subst (λ o. has (some_of o) t ≡ true) (sym is) (has_head t []))
has_pointer (w ∷ pointers) (suc k) d t lt is = has_right (some_of (target_of_word w)) (flat_map some_of (map target_of_word pointers)) t (has_pointer pointers k d t (omega arith) is)

-- what an object with a number points to has numbers
pub numbered_targets : (graph : Graph) (order : List ℕ) (name : ℕ) (raw : Raw) → Shows graph name raw → IsClosedOrder graph order → has order name ≡ true → All (λ word. LeadsToNumbered order (target_of_word word)) raw.pointers
numbered_targets graph order name raw s closed there = λ k d lt. go k d lt (target_of_word (get_or raw.pointers k d)) refl
  where
    go : (k d : ℕ) → k < length raw.pointers → (t : Option ℕ) → target_of_word (get_or raw.pointers k d) ≡ t → LeadsToNumbered order t
    go k d lt None e = tt
    go k d lt (Some t) e = closed name t there (subst (λ ts. has ts t ≡ true) (sym (shown_targets graph name raw s)) (has_pointer raw.pointers k d t lt e))

-- a place of the list has its word in the order
pub has_word : (places : List Place) (k : ℕ) (place : Place) → k < length places → place ≡ get_or places k place → has (map place_word places) (place_word place) ≡ true
has_word [] k place lt is = absurd (omega arith)
has_word (p ∷ places) zero place lt is = subst (λ q. has (map place_word (p ∷ places)) (place_word q) ≡ true) (sym is) (has_head (place_word p) (map place_word places))
has_word (p ∷ places) (suc k) place lt is = has_tail (place_word p) (map place_word places) (place_word place) (has_word places k place (omega arith) is)
