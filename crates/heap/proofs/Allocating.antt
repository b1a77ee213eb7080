-- An allocation among the objects is one of the heap.
use Rattle.std.proofs.Common.{◌≡◌, ℕ, ◌+◌, ◌/◌, ◌<◌, ◌≤◌, length, true, false, List, Option, None, refl, ap, ◌∙◌, arith}
use Rattle.std.proofs.lemmas.Bool.Decides.{nat_tests}
use Rattle.std.specs.Prelude.{IsTrue, nat_lt, slice_index_or}
use Rattle.std.specs.Option.{option_map}
use Rattle.std.specs.FinMap.{insert}
use Rattle.model.specs.Commands.{is_large_size}
use Rattle.layout.specs.declared.place.Place.{Place}
use Rattle.layout.specs.Place.{place_word}
use Rattle.heap_objects.specs.Objects as objects
use Rattle.heap.specs.HeapView.{heap_with}
use Rattle.heap.specs.Roots.{roots_map}
use Rattle.heap.specs.Commands.{AllocatesSmall, AllocatesLarge, wanted_blocks}
use Rattle.heap.proofs.RootMap.{get-roots}

pub small_size : (w p q : ℕ) → 1 + p + q ≤ w / 4 → nat_lt (w / 4) (1 + p + q) ≡ false
small_size w p q small = grind (arith, nat_tests, small)

pub large_size : (w p q : ℕ) → w / 4 < 1 + p + q → nat_lt (w / 4) (1 + p + q) ≡ true
large_size w p q large = grind (arith, nat_tests, large)

module _ (old new : objects.ObjectsValue) (slots slots' : List (Option Place)) (sets : List (List ℕ)) (p q key name : ℕ) (vacant : slice_index_or slots key None ≡ None) (roots : roots_map slots' ≡ insert (roots_map slots) key name) where
  pub small_is : (mutator : ℕ) → is_large_size old.config (1 + p + q) ≡ false → objects.AllocatesSmall old mutator p q name new → AllocatesSmall (heap_with old slots sets) mutator p q key (heap_with new slots' sets)
  small_is mutator small more =
      rw more.change record {
        name = name;
        room = more.room;
        small = small;
        new_name = more.new_name;
        new_root = get-roots slots key ∙ ap (option_map place_word) vacant;
        has_room = more.has_room;
        change = rw roots refl;
      }

  pub large_is : IsTrue (is_large_size old.config (1 + p + q)) → wanted_blocks (heap_with old slots sets) p q ≤ length old.free → objects.AllocatesLarge old p q name new → AllocatesLarge (heap_with old slots sets) p q key (heap_with new slots' sets)
  large_is large enough more =
      rw more.change record {
        name = name;
        large = large;
        enough = enough;
        new_name = more.new_name;
        new_root = get-roots slots key ∙ ap (option_map place_word) vacant;
        change = rw roots refl;
      }
