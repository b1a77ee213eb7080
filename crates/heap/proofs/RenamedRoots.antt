-- Each root with its new place.
use Rattle.std.proofs.Common.{◌≡◌, ℕ, List, [], ◌∷◌, ◌++◌, map, Option, refl, sym, ap, subst, ◌∙◌}
use Rattle.std.specs.Prelude.{nat_eq}
use Rattle.std.specs.List.{IsDistinct}
use Rattle.model.proofs.RisingKeys.{distinct_from_rise, keys-rise, entries-rise}
use Rattle.std.specs.FinMap.{entries}
use Rattle.model.specs.OldSlots.{Slot, old_slots}
use Rattle.layout.specs.declared.place.Place.{Place}
use Rattle.steps.specs.CollectionValue.{CollectionValue, IsOpened, root_slot, field_slot_of}
use Rattle.heap_objects.specs.Objects.{ObjectsValue}
use Rattle.heap.specs.HeapView.{heap_of}
use Rattle.heap.specs.Moves.{roots_by}
use Rattle.heap.specs.Roots.{roots_map}
use Rattle.heap.specs.RootView.{root_pair}
use Rattle.heap.specs.declared.heap_commit.moves.RenamedRoot.{RenamedRoot}

roots-fields : (f : ℕ → ℕ) (fields : List Slot) → roots_by f (map field_slot_of fields) ≡ []
roots-fields f [] = refl
roots-fields f (field ∷ fields) = roots-fields f fields

roots-slots : (f : ℕ → ℕ) (es : List (ℕ × ℕ)) (fields : List Slot) → roots_by f (map (λ e. root_slot e.0 e.1) es ++ map field_slot_of fields) ≡ map (λ e. (e.0, f e.1)) es
roots-slots f [] fields = roots-fields f fields
roots-slots f (e ∷ es) fields = ap (λ ps. (e.0, f e.1) ∷ ps) (roots-slots f es fields)

-- the slots of a collection have all the roots of the heap that it was opened on
pub roots_opened : (objects : ObjectsValue) (slots : List (Option Place)) (g : ℕ) (collection : CollectionValue) (f : ℕ → ℕ) → IsOpened (heap_of objects slots) g collection → roots_by f collection.slots ≡ map (λ e. (e.0, f e.1)) (entries (roots_map slots))
roots_opened objects slots g collection f opened =
    ap (roots_by f) opened.slots ∙ roots-slots f (entries (roots_map slots)) (old_slots (heap_of objects slots).graph objects.config.shape.generations g)

numbers-pairs : (items : List RenamedRoot) → map (λ r. r.number) items ≡ map (λ e. e.0) (map root_pair items)
numbers-pairs [] = refl
numbers-pairs (r ∷ items) = ap (λ ns. r.number ∷ ns) (numbers-pairs items)

numbers-renamed : (f : ℕ → ℕ) (es : List (ℕ × ℕ)) → map (λ e. e.0) (map {B = ℕ × ℕ} (λ e. (e.0, f e.1)) es) ≡ map (λ e. e.0) es
numbers-renamed f [] = refl
numbers-renamed f (e ∷ es) = ap (λ ns. e.0 ∷ ns) (numbers-renamed f es)

-- each root is renamed once
pub renamed_once : (f : ℕ → ℕ) (items : List RenamedRoot) (slots : List (Option Place)) → map root_pair items ≡ map (λ e. (e.0, f e.1)) (entries (roots_map slots)) → IsDistinct nat_eq (map (λ r. r.number) items)
renamed_once f items slots are =
    subst (IsDistinct nat_eq) (sym (numbers-pairs items ∙ ap (map (λ e. e.0)) are ∙ numbers-renamed f (entries (roots_map slots))))
    (distinct_from_rise _ (keys-rise 0 (entries (roots_map slots)) (entries-rise (roots_map slots))))
