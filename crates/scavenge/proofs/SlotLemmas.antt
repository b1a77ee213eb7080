-- What slots of the heap hold.
use Rattle.std.proofs.Common.{◌≡◌, ℕ, zero, suc, ◌≤◌, Bool, true, false, cond, nat_lt, List, [], ◌∷◌, length, Option, Some, None, refl, sym, ap, ◌∙◌, arith}
use Rattle.std.specs.Prelude.{slice_get}
use Rattle.std.specs.Option.{option_map, option_and_then, IsSomeAnd}
use Rattle.model.specs.Graph.{Graph, Object, object_at, field_at, IsClosed}
use Rattle.layout.specs.declared.place.Place.{Place}
use Rattle.layout.specs.Object.{Raw}
use Rattle.layout.specs.Place.{place_word, pointer_word}
use Rattle.heap.specs.NamesArePlaces.{NamesArePlaces}
use Rattle.heap.specs.Words.{target_of_word, IsShownAs}
use Rattle.layout.specs.Place.{IsPointer}
use Rattle.scavenge.proofs.Fields.{target_of_pointer}
use Rattle.scavenge.proofs.WorkspaceSlotLemmas.{get_map}

pub get_none : {A : Type 0} (xs : List A) (i : ℕ) → length xs ≤ i → slice_get xs i ≡ None
get_none [] i l = refl
get_none (y ∷ xs) zero l = absurd (omega arith)
get_none (y ∷ xs) (suc i) l = get_none xs i (omega arith)

-- a pointer of the heap, as its words show it
pub field_shown : (graph : Graph) (name i : ℕ) (raw : Raw) → IsSomeAnd (object_at graph name) (λ o. IsShownAs o raw) → field_at graph name i ≡ option_map target_of_word (slice_get raw.pointers i)
field_shown graph name i raw s = go (object_at graph name) s
  where
    go : (o : Option Object) → IsSomeAnd o (λ x. IsShownAs x raw) → option_and_then (λ (x : Object). slice_get x.pointers i) o ≡ option_map target_of_word (slice_get raw.pointers i)
    go None s = absurd s
    go (Some o) s = ap (λ ps. slice_get ps i) (sym s.pointers) ∙ get_map target_of_word raw.pointers i

pub is_pointer : (graph : Graph) (name i word : ℕ) → IsClosed graph → NamesArePlaces graph → field_at graph name i ≡ Some (target_of_word word) → IsPointer word
is_pointer graph name i word closed places e = go (nat_lt 0 word) refl
  where
    go : (b : Bool) → nat_lt 0 word ≡ b → IsPointer word
    go true l =
        let t : target_of_word word ≡ Some word = ap (λ b. cond b (Some word) None) l in
        let o = closed.fields name i word (e ∙ ap (λ x. Some x) t) in
        let p = places word o.0 o.1 in
        (Some p.0, p.1)
    go false l = (None, let z : 0 ≡ word = grind (arith, l) in z)

pub shown_pointer : (word : ℕ) (pointer : Option Place) → pointer_word pointer ≡ word → option_map place_word pointer ≡ target_of_word word
shown_pointer word pointer e = sym (target_of_pointer pointer) ∙ ap target_of_word e
