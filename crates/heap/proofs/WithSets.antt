-- A heap with its remembered sets, and the same without.
use Rattle.std.proofs.Common.{ℕ, List, Option, sym, ◌∙◌}
use Rattle.std.specs.Ordering.{nat_cmp}
use Rattle.std.specs.FinMap.{get-empty}
use Rattle.model.specs.Graph.{IsClosed}
use Rattle.model.specs.Live.{IsYoung}
use Rattle.model.proofs.Options.{some_not_none}
use Rattle.layout.specs.declared.place.Place.{Place}
use Rattle.block_pool.specs.BlockValue.{BlockValue}
use Rattle.steps.specs.CollectionValue.{CollectionValue, IsNumbering, IsOpened}
use Rattle.steps.specs.Numbering.{NumberingValue}
use Rattle.steps.specs.SettledValue.{IsSettled}
use Rattle.steps.specs.CollectedHeap.{IsFreeBlock}
use Rattle.heap_objects.specs.Objects.{ObjectsValue, graph_in}
use Rattle.heap.specs.HeapView.{heap_of, heap_with}

module _ (objects : ObjectsValue) (slots : List (Option Place)) (sets : List (List ℕ)) where
  -- an object is young in the heap exactly where it is among its objects
  pub young_in : (g name : ℕ) → IsYoung (heap_with objects slots sets).graph g name → IsYoung (graph_in objects) g name
  young_in g name young = record { object = young.object; there = young.there; young = young.young }

  pub young_of : (g name : ℕ) → IsYoung (graph_in objects) g name → IsYoung (heap_with objects slots sets).graph g name
  young_of g name young = record { object = young.object; there = young.there; young = young.young }

  pub numbering_in : (g : ℕ) (n : NumberingValue) → IsNumbering (heap_with objects slots sets).graph g n → IsNumbering (graph_in objects) g n
  numbering_in g n numbering = record {
    few = numbering.few;
    blocks = numbering.blocks;
    covers = λ block offset low lt young. numbering.covers block offset low lt (young_of g _ young);
    large = numbering.large;
    covers_large = λ number young. numbering.covers_large number (young_of g _ young);
  }

  pub numbering_of : (g : ℕ) (n : NumberingValue) → IsNumbering (graph_in objects) g n → IsNumbering (heap_with objects slots sets).graph g n
  numbering_of g n numbering = record {
    few = numbering.few;
    blocks = numbering.blocks;
    covers = λ block offset low lt young. numbering.covers block offset low lt (young_in g _ young);
    large = numbering.large;
    covers_large = λ number young. numbering.covers_large number (young_in g _ young);
  }

  -- without its roots too each pointer leads to an object
  pub closed_in : IsClosed (heap_with objects slots sets).graph → IsClosed (graph_in objects)
  closed_in closed = record {
    fields = closed.fields;
    roots = λ root target is. absurd (some_not_none (sym is ∙ get-empty nat_cmp root));
  }

  pub opened_without : (g : ℕ) (c : CollectionValue) → IsOpened (heap_with objects slots sets) g c → IsOpened (heap_of objects slots) g c
  opened_without g c opened = record {
    generation = opened.generation;
    in_range = opened.in_range;
    slots = opened.slots;
    free = opened.free;
    numbering = opened.numbering;
    cells = opened.cells;
  }

  pub opened_with : (g : ℕ) (c : CollectionValue) → IsOpened (heap_of objects slots) g c → IsOpened (heap_with objects slots sets) g c
  opened_with g c opened = record {
    generation = opened.generation;
    in_range = opened.in_range;
    slots = opened.slots;
    free = opened.free;
    numbering = opened.numbering;
    cells = opened.cells;
  }

  pub settled_without : (c : CollectionValue) (places : List (Option Place)) (blocks : List BlockValue) (won : List (ℕ × ℕ)) → IsSettled (heap_with objects slots sets) c places blocks won → IsSettled (heap_of objects slots) c places blocks won
  settled_without c places blocks won settled = record {
    opened = opened_without c.generation c settled.opened;
    once = settled.once;
    numbers = settled.numbers;
    places_count = settled.places_count;
    same_places = settled.same_places;
    renaming = settled.renaming;
    numbers_once = settled.numbers_once;
    were_free = settled.were_free;
    block_words = settled.block_words;
    fresh = settled.fresh;
    copies = settled.copies;
    no_others = settled.no_others;
  }

  pub free_with : (block : ℕ) → IsFreeBlock (heap_of objects slots) block → IsFreeBlock (heap_with objects slots sets) block
  free_with block free = record { in_pool = free.in_pool; in_range = free.in_range; holds_none = free.holds_none; no_large = free.no_large }

  pub free_without : (block : ℕ) → IsFreeBlock (heap_with objects slots sets) block → IsFreeBlock (heap_of objects slots) block
  free_without block free = record { in_pool = free.in_pool; in_range = free.in_range; holds_none = free.holds_none; no_large = free.no_large }
