-- What a commit knows at each of its calls: of the values that a collection gives, and of what the calls before returned.
use Rattle.std.proofs.Common.{◌≡◌, ℕ, ◌≤◌, List, length, map, ◌++◌, Option, None, ap, subst, ◌∙◌}
use Rattle.std.specs.Prelude.{IsSome, All, nat_eq, slice_index_or}
use Rattle.std.specs.List.{IsDistinct}
use Rattle.std.specs.FinMap.{entries}
use Rattle.model.specs.Graph.{IsClosed}
use Rattle.model.specs.Collected.{renamed}
use Rattle.model.specs.OldSlots.{Slot}
use Rattle.layout.specs.declared.place.Place.{Place}
use Rattle.block_pool.specs.BlockValue.{BlockValue, used_of}
use Rattle.nursery.proofs.Installed.{each_fits}
use Rattle.nursery.proofs.CanCommit.{heap_blocks, each_block_fits}
use Rattle.steps.specs.Numbering.{NumberingValue}
use Rattle.steps.specs.CollectionValue.{CollectionValue, SlotValue, IsNumbering, field_slot_of, target_of_slot, young_names}
use Rattle.steps.specs.ReportValue.{renaming_of}
use Rattle.steps.specs.SettledValue.{IsSettled}
use Rattle.heap_objects.specs.Objects.{ObjectsValue, graph_in, heap_in}
use Rattle.heap_objects.specs.Collecting.{IsNumbered, CanReplace}
use Rattle.heap_objects.specs.Sound.{AreObjects}
use Rattle.heap.specs.Ended.{IsEnded}
use Rattle.heap.specs.HeapView.{heap_of, SlotsLeadToObjects}
use Rattle.heap.specs.Installed.{Installed, CanWrite}
use Rattle.heap.specs.IsHeap.{AreHeapObjects}
use Rattle.heap.specs.LargeSlots.{IsLargeSlot, AreLargeSlots}
use Rattle.heap.specs.Moves.{Moves, roots_by, writes_by}
use Rattle.heap.specs.RootView.{root_pair}
use Rattle.heap.specs.Roots.{roots_map, root_word, renamed_word}
use Rattle.heap.specs.declared.heap_commit.moves.RenamedRoot.{RenamedRoot}
use Rattle.heap.proofs.Committed.{collected_heap, now_sound}
use Rattle.heap.proofs.RenamedRoots.{roots_opened, renamed_once}
use Rattle.heap.proofs.SettledLemmas.{numbering, places_many, slots_lead, slots_named, kept_named, moves, copies_sound}
use Rattle.heap.proofs.Writable.{writable}

-- the pointers to write are those of the slots, and those of the large objects that are kept
abbrev pub AreMoved : ObjectsValue → ℕ → List (Option Place) → List SlotValue → List (ℕ × (ℕ × ℕ)) → Type 0
AreMoved objects g places slots writes =
    (found : List Slot) × AreLargeSlots objects g places found
    × ((f : ℕ → ℕ) → Moves objects g places f → writes ≡ writes_by f slots ++ writes_by f (map field_slot_of found))

module _ (objects : ObjectsValue) (slots : List (Option Place)) (collection : CollectionValue) (places : List (Option Place)) (blocks : List BlockValue) (won : List (ℕ × ℕ))
    (sound : AreObjects (heap_in objects))
    (closed : IsClosed (heap_of objects slots).graph)
    (settled : IsSettled (heap_of objects slots) collection places blocks won) where
  abbrev new_name : ℕ → ℕ
  new_name = renamed (renaming_of (young_names (heap_of objects slots).graph collection.generation) won)

  pub can_replace : All (λ b. used_of b ≤ b.words) blocks → CanReplace objects blocks
  can_replace fit =
      let range = sound.range in
      let fits = each_fits objects.config.block_words blocks range.most_words (each_block_fits objects.config.block_words blocks range.most_words settled.block_words fit) in
      record {
        once = settled.numbers_once;
        were_free = settled.were_free;
        sound = heap_blocks objects.config blocks range.most_words fits settled.numbers_once settled.block_words fit (copies_sound objects slots collection places blocks won sound closed settled fits);
      }

  -- what the calls are given: the generation, the slots and the new places
  module _ (g : ℕ) (is_g : g ≡ collection.generation) (ps : List (Option Place)) (is_ps : ps ≡ places) where
    pub numbering_at : (numbers : NumberingValue) → numbers ≡ collection.numbering → IsNumbering (graph_in objects) g numbers
    numbering_at numbers is = rw (is_g, is) (numbering objects slots collection places blocks won sound closed settled)

    pub count_at : length ps ≡ length (young_names (graph_in objects) g)
    count_at = rw (is_g, is_ps) (places_many objects slots collection places blocks won sound closed settled)

    pub kept_at : (slot : Slot) → IsLargeSlot objects g ps slot → (number : ℕ) → IsNumbered objects g slot.target number → IsSome (slice_index_or ps number None)
    kept_at = rw (is_g, is_ps) (kept_named objects slots collection places blocks won sound closed settled)

    moves_at : Moves objects g ps new_name
    moves_at = rw (is_g, is_ps) (moves objects slots collection places blocks won sound closed settled)

    module _ (ss : List SlotValue) (is_ss : ss ≡ collection.slots) where
      pub leads_at : SlotsLeadToObjects objects ss
      leads_at = rw is_ss (slots_lead objects slots collection places blocks won sound closed settled)

      pub named_at : All (λ slot. (number : ℕ) → IsNumbered objects g (target_of_slot slot) number → IsSome (slice_index_or ps number None)) ss
      named_at = rw (is_ss, is_g, is_ps) (slots_named objects slots collection places blocks won sound closed settled)

      -- the roots as they were renamed
      pub pairs_at : (pairs : List (ℕ × ℕ)) → ((f : ℕ → ℕ) → Moves objects g ps f → pairs ≡ roots_by f ss) → pairs ≡ map (λ e. (e.0, new_name e.1)) (entries (roots_map slots))
      pairs_at pairs each = each new_name moves_at ∙ ap (roots_by new_name) is_ss ∙ roots_opened objects slots collection.generation collection new_name settled.opened

      pub once_at : (items : List RenamedRoot) → ((f : ℕ → ℕ) → Moves objects g ps f → map root_pair items ≡ roots_by f ss) → IsDistinct nat_eq (map (λ r. r.number) items)
      once_at items each = renamed_once new_name items slots (pairs_at (map root_pair items) each)

  -- the fields as they are written
  module _ (g : ℕ) (is_g : g ≡ collection.generation) (ps : List (Option Place)) (is_ps : ps ≡ places) (ss : List SlotValue) (is_ss : ss ≡ collection.slots) (ws : List (ℕ × (ℕ × ℕ))) (moved : AreMoved objects g ps ss ws) where
    large_at : AreLargeSlots objects collection.generation places moved.0
    large_at = subst (λ x. AreLargeSlots objects x places moved.0) is_g (subst (λ x. AreLargeSlots objects g x moved.0) is_ps moved.1)

    writes_are : ws ≡ writes_by new_name collection.slots ++ writes_by new_name (map field_slot_of moved.0)
    writes_are = moved.2 new_name (moves_at g is_g ps is_ps) ∙ ap (λ xs. writes_by new_name xs ++ writes_by new_name (map field_slot_of moved.0)) is_ss

    writable_here : All (CanWrite objects collection.generation places) ws
    writable_here = rw writes_are (writable objects slots collection places blocks won sound closed settled moved.0 large_at new_name)

    pub writable_at : (h : ℕ) → h ≡ collection.generation → (qs : List (Option Place)) → qs ≡ places → (vs : List (ℕ × (ℕ × ℕ))) → vs ≡ ws → All (CanWrite objects h qs) vs
    writable_at h is_h qs is_qs vs is_vs = rw (is_h, is_qs, is_vs) writable_here

    -- what is known after the objects were installed and the roots rewritten
    module _ (objects' : ObjectsValue) (slots' : List (Option Place)) (sound' : AreObjects (heap_in objects'))
        (rooted : List (Option Place)) (is_rooted : rooted ≡ places)
        (pairs : List (ℕ × ℕ)) (each : (f : ℕ → ℕ) → Moves objects g rooted f → pairs ≡ roots_by f ss)
        (written : List (ℕ × ℕ)) (is_written : written ≡ pairs)
        (rewritten : (n : ℕ) → root_word slots' n ≡ renamed_word written n (root_word slots n))
        (qs : List (Option Place)) (is_qs : qs ≡ places)
        (vs : List (ℕ × (ℕ × ℕ))) (is_vs : vs ≡ ws)
        (installed : Installed objects g blocks qs vs objects') where
      installed_as : Installed objects collection.generation blocks places (writes_by new_name collection.slots ++ writes_by new_name (map field_slot_of moved.0)) objects'
      installed_as =
          subst (λ x. Installed objects collection.generation blocks places x objects') (is_vs ∙ writes_are)
          (subst (λ x. Installed objects collection.generation blocks x vs objects') is_qs
          (subst (λ x. Installed objects x blocks qs vs objects') is_g installed))

      rewritten_as : (n : ℕ) → root_word slots' n ≡ renamed_word pairs n (root_word slots n)
      rewritten_as n = rewritten n ∙ ap (λ p. renamed_word p n (root_word slots n)) is_written

      pub ended_at : IsEnded (heap_of objects slots) collection.generation (renaming_of (young_names (heap_of objects slots).graph collection.generation) won) (heap_of objects' slots')
      ended_at =
          collected_heap objects objects' slots slots' collection places blocks won sound sound' closed settled moved.0 large_at pairs
          (pairs_at g is_g rooted is_rooted ss is_ss pairs each) rewritten_as installed_as

      pub sound_at : AreHeapObjects (heap_of objects' slots')
      sound_at =
          now_sound objects objects' slots slots' collection places blocks won sound sound' closed settled moved.0 large_at pairs
          (pairs_at g is_g rooted is_rooted ss is_ss pairs each) rewritten_as installed_as
