use Rattle.std.proofs.Common.{◌≡◌, ◌<◌, ◌≤◌, ◌≢◌, ℕ, List, Option, Some, None, length, refl, sym, subst}
use Rattle.std.specs.Prelude.{MatchOption, IsSomeAnd, slice_get, IfSome, IfNone}
use Rattle.std.specs.FinMap.{get}
use Rattle.layout.specs.Place.{small_word}
use Rattle.layout.specs.ObjectRef.{raw_of}
use Rattle.layout.specs.declared.object.ObjectRef.{ObjectRef}
use Rattle.block_pool.specs.BlockValue.{BlockValue, offset_of}
use Rattle.nursery.specs.Table.{slot_at, objects_map}
use Rattle.nursery.proofs.TableLemmas.{TableFits}
use Rattle.steps.specs.Words.{IsShownAs}
use Rattle.heap_objects.proofs.Sound.{sound_fits, few_blocks}
use Rattle.nursery.proofs.Located.{object_found, object_none, large_none}
use Rattle.heap_objects.proofs.heap_space.space.Space.object.Goals as goal

shown : (table : List (Option BlockValue)) → TableFits table → length table ≤ 65535 → (number offset : ℕ) → offset < 512 → (o : Option ObjectRef)
    → IfSome o (λ object. (block : BlockValue) × (slot_at table number ≡ Some block) × (object.header.ordinal < length block.objects) × (offset_of block.objects object.header.ordinal ≡ offset) × (slice_get block.objects object.header.ordinal ≡ Some (raw_of object)))
    → IfNone o ((block : BlockValue) → slot_at table number ≡ Some block → (k : ℕ) → k < length block.objects → offset_of block.objects k ≢ offset)
    → MatchOption o (get (objects_map table) (small_word number offset) ≡ None) (λ object. IsSomeAnd (get (objects_map table) (small_word number offset)) (λ x. IsShownAs x (raw_of object)))
shown table fits short number offset lt None some none = object_none table fits short number offset lt none
shown table fits short number offset lt (Some object) some none =
    let found = object_found table fits short number offset object.header.ordinal (raw_of object) lt (record { block = some.0; there = some.1; in_block = some.2; at = some.3; is = some.4 }) in
    subst (λ o. IsSomeAnd o (λ x. IsShownAs x (raw_of object))) (sym found) (record { pointers = refl; plain = refl })

pub returns-in-Small : goal.returns-in-Small
returns-in-Small g c =
    let some = rw c.deref.ensures.value at c.block_object.ensures.some in
    let none = rw c.deref.ensures.value at c.block_object.ensures.none in
    rw (← c.self.view_is, c.in-Small.is) (shown c.self.inside.table.items (sound_fits _ _ _ _ c.self.invariant.space) (few_blocks _ _ _ _ c.self.invariant.space) c.in-Small.at.block c.in-Small.at.offset c.in-Small.at.offset_in_range c.block_object.result some none)

pub returns-in-Large : goal.returns-in-Large
returns-in-Large g c = rw (← c.self.view_is, c.in-Large.is) (large_none c.self.inside.table.items (sound_fits _ _ _ _ c.self.invariant.space) (few_blocks _ _ _ _ c.self.invariant.space) c.in-Large.field-0.number)
