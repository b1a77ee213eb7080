-- Each number has the place of its name, once the large objects that the workers scanned stand at their own places.
use Rattle.std.proofs.Common.{◌≡◌, ℕ, zero, suc, ◌+◌, ◌<◌, ◌≤◌, Bool, true, false, cond, List, [], ◌∷◌, map, Option, Some, None, refl, sym, ap, subst, ◌∙◌, arith, nat_eq, eqb-true, true≢false}
use Rattle.std.proofs.lemmas.List.Elements.{All-nil, All-cons}
use Rattle.std.specs.Prelude.{All, IsTrue, flat_map, slice_index, unwrap_or}
use Rattle.std.specs.Option.{option_map, option_map_or}
use Rattle.std.specs.Ordering.{nat_cmp}
use Rattle.std.specs.FinMap.{find}
use Rattle.model.specs.Graph.{Object, object_at, is_large}
use Rattle.model.specs.Live.{IsYoung}
use Rattle.model.specs.Reached.{has}
use Rattle.model.proofs.Has.{has_head}
use Rattle.model.proofs.LiveLemmas.{Live-young}
use Rattle.model.proofs.Options.{some_is, some_not_none}
use Rattle.layout.specs.declared.place.Place.{Place}
use Rattle.layout.specs.Place.{small_word, large_word, place_word}
use Rattle.steps.specs.HeapValue.{HeapValue}
use Rattle.steps.specs.CollectionValue.{CollectionValue, young_names}
use Rattle.heap.specs.IsHeap.{IsHeap}
use Rattle.heap.proofs.SoundHeap.{heap_large_name}
use Rattle.workers.specs.Block.{Block, Copy}
use Rattle.workers.specs.Setting.{Setting, setting_of}
use Rattle.workers.specs.Worker.{Worker}
use Rattle.workers.specs.Total.{total, one_if, times, ones}
use Rattle.workers.specs.Joined.{Each, Part, blocks_of, named_in}
use Rattle.workers.specs.Kept.{Kept, IsCopy, IsLeft, won_lists}
use Rattle.settling.specs.Shown.{shown_in, shown_of, AreShown}
use Rattle.settling.proofs.Blocks.{Each-zip, total_some, one_if-positive, has_stands, stands_has}
use Rattle.settling.proofs.Bridge.{laid_offsets}
use Rattle.settling.proofs.EndedLists.{parts_times}

-- the name is a large object's
abbrev pub large_here : HeapValue → ℕ → Bool
large_here heap name = option_map_or (is_large heap.config.block_words) (object_at heap.graph name) false

-- what a cell holds, of this name: a claim says that it is a large object, which stays
abbrev pub held_of : HeapValue → ℕ → Option Place → Option ℕ
held_of heap name held = option_map (λ place. cond (large_here heap name) name (place_word place)) held

-- what holds of each that stands in the list
all_standing : (P : ℕ → Type 0) (xs : List ℕ) → ((x : ℕ) → 0 < times x xs → P x) → All P xs
all_standing P [] h = All-nil P
all_standing P (x ∷ xs) h = All-cons P x xs (h x (has_stands x (x ∷ xs) (has_head x xs))) (all_standing P xs (λ y l. h y (omega (arith, l))))

-- what has one is there
some_of : (o : Option ℕ) → 0 < ones o → (place : ℕ) × (o ≡ Some place)
some_of None l = absurd (omega (arith, l))
some_of (Some place) l = (place, refl)

module _ (heap : HeapValue) (c : CollectionValue) (sound : IsHeap heap) (workers : ℕ) (placed : ℕ → Option ℕ) (parts : List Part) (kept : Kept heap.graph c.generation heap.config.shape heap.config.block_words workers placed parts)
    (drawn_free : (number : ℕ) → 0 < total (λ (p : Part). times number p.history.drawn) parts → IsTrue (has heap.free number)) where
  abbrev names : List ℕ
  names = young_names heap.graph c.generation

  abbrev setting : Setting
  setting = setting_of heap.graph c.generation heap.config.shape heap.config.block_words workers

  -- the large objects that the workers scanned
  abbrev pub scanned_large : List ℕ
  scanned_large = flat_map (λ (w : Worker). w.large_done) (map (λ (p : Part). p.final) parts)

  in_parts : (name : ℕ) → times name scanned_large ≡ total (λ (p : Part). times name p.final.large_done) parts
  in_parts name = parts_times (λ (w : Worker). w.large_done) name parts

  -- each was placed
  placed_large : (name : ℕ) → 0 < times name scanned_large → (place : ℕ) × (placed name ≡ Some place)
  placed_large name l = some_of (placed name) (let t = in_parts name in let s = kept.stands_once name in omega (arith, t, s, l))

  -- so it is live, and young
  pub large_young : All (IsYoung heap.graph c.generation) scanned_large
  large_young = all_standing (IsYoung heap.graph c.generation) scanned_large (λ name l. let p = placed_large name l in Live-young heap.graph c.generation name (kept.renaming.only_live name p.0 (kept.places name ∙ p.1)))

  -- and it is large
  is_large_here : (name : ℕ) → 0 < times name scanned_large → large_here heap name ≡ true
  is_large_here name l =
      let p = total_some (λ (p : Part). times name p.final.large_done) (λ (p : Part). Each (λ n. large_here heap n ≡ true) p.final.large_done) parts kept.large (let t = in_parts name in omega (arith, t, l)) in
      let n = total_some (λ (x : ℕ). one_if (nat_eq x name)) (λ n. large_here heap n ≡ true) p.0.final.large_done p.1.0 p.1.1 in
      subst (λ x. large_here heap x ≡ true) (eqb-true n.0 name (one_if-positive _ n.1.1)) n.1.0

  -- a large object stays where it was
  stays : (name : ℕ) → large_here heap name ≡ true → (place : ℕ) → placed name ≡ Some place → place ≡ name
  stays name large place at = by_object (object_at heap.graph name) refl large
    where
      found : find nat_cmp name (won_lists parts) ≡ Some place
      found = kept.places name ∙ at

      by_object : (o : Option Object) → object_at heap.graph name ≡ o → option_map_or (is_large heap.config.block_words) o false ≡ true → place ≡ name
      by_object None there e = absurd (true≢false (sym e))
      by_object (Some o) there e = sym (ap (λ p. unwrap_or p name) found) ∙ kept.renaming.large_stays name o (kept.renaming.only_live name place found) there e

  -- its name is above those of the small ones
  above : (name : ℕ) → large_here heap name ≡ true → large_word 0 ≤ name
  above name large = by_object (object_at heap.graph name) refl large
    where
      by_object : (o : Option Object) → object_at heap.graph name ≡ o → option_map_or (is_large heap.config.block_words) o false ≡ true → large_word 0 ≤ name
      by_object None there e = absurd (true≢false (sym e))
      by_object (Some o) there e = heap_large_name heap sound name o there e

  -- and the place of a copy is below those of the large ones
  copy_below : (name place : ℕ) → placed name ≡ Some place → (b : Block) → IsLeft setting placed parts b → 0 < named_in name b → place < large_word 0
  copy_below name place at b left l =
      let offsets = laid_offsets setting b.number b.destination 0 b.copies left.laid.from (let w = left.laid.within in let m = sound.blocks.sound.range.most_words in omega (arith, w, m)) in
      let copy = total_some (λ (k : Copy). one_if (nat_eq k.name name)) (λ (k : Copy). IsCopy setting placed k × ((o : ℕ) × ((o < 512) × (k.place ≡ small_word b.number o)))) b.copies
      (Each-zip (IsCopy setting placed) (λ (k : Copy). (o : ℕ) × ((o < 512) × (k.place ≡ small_word b.number o))) b.copies left.copies offsets) l in
      let same : copy.0.place ≡ place = some_is (sym copy.1.0.0.place ∙ ap placed (eqb-true copy.0.name name (one_if-positive _ copy.1.1)) ∙ at) in
      let offset : ℕ = copy.1.0.1.0 in
      let is : copy.0.place ≡ small_word b.number offset = copy.1.0.1.1.1 in
      let o : offset < 512 = copy.1.0.1.1.0 in
      let n : b.number < heap.config.blocks = ((sound.blocks.sound.free b.number).0 (drawn_free b.number left.drawn)).in_range in
      let m : heap.config.blocks ≤ 65535 = sound.blocks.sound.range.most_blocks in
      omega (arith, same, is, o, n, m)

  copied_below : (name place : ℕ) → placed name ≡ Some place → 0 < total (λ (p : Part). total (named_in name) (blocks_of p.final)) parts → place < large_word 0
  copied_below name place at l =
      let p = total_some (λ (p : Part). total (named_in name) (blocks_of p.final)) (λ (p : Part). Each (IsLeft setting placed parts) (blocks_of p.final)) parts kept.blocks l in
      let b = total_some (named_in name) (IsLeft setting placed parts) (blocks_of p.0.final) p.1.0 p.1.1 in
      copy_below name place at b.0 b.1.0 b.1.1

  -- so a large object that no worker scanned was not placed
  not_placed : (name : ℕ) → large_here heap name ≡ true → times name scanned_large ≡ 0 → placed name ≡ None
  not_placed name large none = by_placed (placed name) refl
    where
      by_placed : (o : Option ℕ) → placed name ≡ o → o ≡ None
      by_placed None at = refl
      by_placed (Some place) at =
          let t = in_parts name in
          let s : total (λ (p : Part). total (named_in name) (blocks_of p.final)) parts + total (λ (p : Part). times name p.final.large_done) parts ≡ 1 = kept.stands_once name ∙ ap ones at in
          let low = copied_below name place at (omega (arith, t, s, none)) in
          let own = stays name large place at in
          let high = above name large in
          absurd (omega (arith, low, own, high))

  -- what a name shows is where it was placed
  name_shows : (name : ℕ) (held : Option Place) → held_of heap name held ≡ placed name → shown_of scanned_large name (option_map place_word held) ≡ placed name
  name_shows name held cell = by_scanned (has scanned_large name) refl
    where
      none_held : (h : Option Place) → held_of heap name h ≡ None → option_map place_word h ≡ None
      none_held None e = refl
      none_held (Some place) e = absurd (some_not_none e)

      none_standing : has scanned_large name ≡ false → (n : ℕ) → times name scanned_large ≡ n → n ≡ 0
      none_standing absent zero e = refl
      none_standing absent (suc n) e = absurd (true≢false (sym (stands_has name scanned_large (omega (arith, e))) ∙ absent))

      by_size : has scanned_large name ≡ false → (b : Bool) → large_here heap name ≡ b → option_map place_word held ≡ placed name
      by_size absent false small = sym (ap (λ b. option_map (λ p. cond b name (place_word p)) held) small) ∙ cell
      by_size absent true large = let none = not_placed name large (none_standing absent (times name scanned_large) refl) in none_held held (cell ∙ none) ∙ sym none

      by_scanned : (b : Bool) → has scanned_large name ≡ b → cond b (Some name) (option_map place_word held) ≡ placed name
      by_scanned true there = let l = has_stands name scanned_large there in let p = placed_large name l in sym (p.1 ∙ ap Some (stays name (is_large_here name l) p.0 p.1))
      by_scanned false absent = by_size absent (large_here heap name) refl

  -- each number has the place of its name
  pub places_show : (large : List ℕ) → large ≡ scanned_large → (old places : List (Option Place)) → AreShown heap c large old places
      → (number : ℕ) → number < c.cells → (held : Option Place) → shown_in old number ≡ option_map place_word held → held_of heap (slice_index names number) held ≡ placed (slice_index names number)
      → shown_in places number ≡ placed (slice_index names number)
  places_show large are old places shown number lt held is cell =
      shown number lt
      ∙ ap (λ ns. shown_of ns (slice_index names number) (shown_in old number)) are
      ∙ ap (shown_of scanned_large (slice_index names number)) is
      ∙ name_shows (slice_index names number) held cell
