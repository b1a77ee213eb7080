-- A new small object among both.
use Rattle.std.proofs.Common.{◌≡◌, ℕ, ◌<◌, ◌≤◌, Option, Some, None, sym, ap, subst, ◌∙◌, arith}
use Rattle.std.proofs.lemmas.Nat.{mul-le}
use Rattle.std.specs.Prelude.{IfSome, IfNone, slice_set}
use Rattle.model.specs.Graph.{fresh_object}
use Rattle.layout.specs.declared.place.Place.{Place}
use Rattle.layout.specs.Place.{place_word, large_word}
use Rattle.steps.specs.HeapValue.{nursery_count}
use Rattle.large_objects.specs.LargeValue.{LargeValue}
use Rattle.heap_objects.proofs.WithLarge.{get-small}
use Rattle.heap_objects.specs.Space.{SpaceValue, SpaceAllocates, IsSpace}
use Rattle.heap_objects.specs.Inside.{AreApart}
use Rattle.heap_objects.specs.Objects.{ObjectsValue, AllocatesSmall, objects_of}
use Rattle.heap_objects.proofs.OwnBlocks.{blocks_map}
use Rattle.heap_objects.proofs.Changes.{insert_small, insert_apart}

module _ (space space' : SpaceValue) (large : LargeValue) (apart : AreApart space large) (mutator p q : ℕ) where
  some_apart : (name : ℕ) → SpaceAllocates space mutator p q name space' → IsSpace space' → AreApart space' large
  some_apart name is sound =
      subst (λ s. AreApart s large) (sym is.change)
      (insert_apart space large apart name (fresh_object p q) (slice_set space.rooms mutator is.room) (subst IsSpace is.change sound)
      (λ block offset le none lt e. absurd (omega (arith, e, is.nursery.is, is.nursery.block_in_range, is.nursery.offset_in_range, le, lt))))

  pub allocated_apart : (r : Option Place) → IfSome r (λ place. SpaceAllocates space mutator p q (place_word place) space') → IfNone r (space' ≡ space) → IsSpace space' → AreApart space' large
  allocated_apart None some none sound = subst (λ s. AreApart s large) (sym none) apart
  allocated_apart (Some place) some none sound = some_apart (place_word place) some sound

  small_name : (name : ℕ) → SpaceAllocates space mutator p q name space' → name < large_word 0
  small_name name is = omega (arith, is.nursery.is, is.nursery.block_in_range, is.nursery.offset_in_range, few)
    where
      few : nursery_count space.config ≤ 1024
      few = mul-le space.config.mutators space.config.nursery_blocks 16 64 apart.small.in_range.most_mutators apart.small.in_range.most_nursery

  pub allocates_small : (r : Option Place) → IfSome r (λ place. SpaceAllocates space mutator p q (place_word place) space') → IfSome r (λ place. AllocatesSmall (objects_of space large) mutator p q (place_word place) (objects_of space' large))
  allocates_small None some = tt
  allocates_small (Some place) is = record {
    room = is.room;
    new_name = get-small space.objects large.slots (place_word place) (small_name (place_word place) is) ∙ is.new_name;
    has_room = is.has_room;
    change =
        ap (λ s. objects_of s large) is.change
        ∙ ap (λ m. let o : ObjectsValue = record { config = space.config; objects = m; rooms = slice_set space.rooms mutator is.room; free = space.free; large_blocks = blocks_map large.slots } in o) (insert_small space.objects large.slots (place_word place) (fresh_object p q));
  }
