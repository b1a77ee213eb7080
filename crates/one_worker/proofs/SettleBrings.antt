-- A worker that is out of work, with an empty queue, has ended its collection: what it holds may be committed.
use Rattle.std.proofs.Common.{◌≡◌, ℕ, zero, suc, ◌+◌, ◌<◌, ◌≤◌, true, List, [], ◌∷◌, ◌++◌, length, map, Option, Some, None, refl, sym, ap, subst, ◌∙◌, arith, nat_eq}
use Rattle.std.specs.Prelude.{All, IsTrue, flat_map, slice_index, slice_index_or}
use Rattle.std.specs.Option.{option_map}
use Rattle.std.specs.Ordering.{nat_cmp}
use Rattle.std.specs.FinMap.{find}
use Rattle.model.specs.Live.{IsYoung}
use Rattle.model.specs.Reached.{has}
use Rattle.layout.specs.declared.place.Place.{Place}
use Rattle.layout.specs.Place.{place_word}
use Rattle.block_pool.specs.BlockValue.{BlockValue}
use Rattle.steps.specs.ReportValue.{renaming_of}
use Rattle.steps.specs.CollectionValue.{young_names}
use Rattle.steps.specs.SettledValue.{IsSettled}
use Rattle.heap.proofs.SoundHeap.{heap_empty}
use Rattle.forwarding.specs.Plain.{place_of, place_held}
use Rattle.workers.specs.Worker.{Worker}
use Rattle.workers.specs.WorkerSteps.{IsOutOfWork}
use Rattle.workers.specs.System.{System, Idle, End}
use Rattle.workers.specs.Total.{total, one_if, times, wins_of, ones}
use Rattle.workers.specs.Joined.{Each, Part, blocks_of}
use Rattle.workers.specs.Kept.{Kept, won_lists}
use Rattle.workers.specs.Lawful.{AllEnded}
use Rattle.workers.specs.Finish.{IsReached}
use Rattle.workers.specs.Alone.{RunBrings, AreEmpty}
use Rattle.workers.proofs.OneMore.{reached_more}
use Rattle.workers.proofs.RunBrings.{ended_brings}
use Rattle.workers.proofs.Kept.{kept}
use Rattle.scavenge.specs.Named.{named, IsWhole}
use Rattle.settling.specs.Brings.{left_blocks}
use Rattle.settling.proofs.Bridge.{settled}
use Rattle.one_worker.specs.SerialValue.{SerialValue, lane_of, system_of, setting_in, targets_in, destinations_in}
use Rattle.scavenge.specs.Waiting.{waiting_in}
use Rattle.one_worker.specs.IsSerial.{IsSerial}
use Rattle.scavenge.proofs.Starts.{has_starts, targets_live}
use Rattle.one_worker.specs.Settling.{ScansWhatItWon}
use Rattle.settling.specs.Shown.{shown_in, AreShown}
use Rattle.settling.proofs.LargeDone.{large_young, places_show}
use Rattle.settling.proofs.Blocks.{stands_has, times-places, held_place}

append_nil : {A : Type 0} (xs : List A) → xs ++ [] ≡ xs
append_nil [] = refl
append_nil (x ∷ xs) = ap (λ ys. x ∷ ys) (append_nil xs)

module _ (v : SerialValue) (k : IsSerial v) (r : IsReached (setting_in v) (destinations_in v) 1 (targets_in v) v.heap.free (system_of v)) (out : IsOutOfWork v.workspace.worker) (queue : waiting_in (lane_of v) ≡ []) where
  -- the worker is idle, and has ended
  abbrev idle_system : System
  idle_system = record (system_of v) { idle = true ∷ [] }

  abbrev ended_system : System
  ended_system = record idle_system { ended = true ∷ [] }

  reached : IsReached (setting_in v) (destinations_in v) 1 (targets_in v) v.heap.free ended_system
  reached =
      reached_more (setting_in v) (destinations_in v) 1 (targets_in v) v.heap.free idle_system ended_system (End 0)
      (reached_more (setting_in v) (destinations_in v) 1 (targets_in v) v.heap.free (system_of v) idle_system (Idle 0) r
      (record { worker = v.workspace.worker; at = record { is = refl; awake = refl }; out = out; queue = ap (λ (bs : List BlockValue). Some (map (named v.workspace.config.shape) bs)) queue; change = refl }))
      (record { is_idle = refl; not_ended = refl; all_idle = refl; change = refl })

  all_ended : AllEnded ended_system
  all_ended zero l = refl
  all_ended (suc t) l = absurd (omega arith)

  empty : AreEmpty v.heap.graph v.heap.free
  empty number offset l o = heap_empty v.heap k.ready.sound number offset (stands_has number v.heap.free l) o

  brings : RunBrings v.heap.graph v.collection.generation v.heap.config.shape v.heap.config.block_words (destinations_in v) 1 (targets_in v) v.heap.free ended_system
  brings =
      ended_brings v.heap.graph v.collection.generation v.heap.config.shape v.heap.config.block_words (destinations_in v) 1 (targets_in v) v.heap.free ended_system
      reached (targets_live v.heap v.collection k.ready) all_ended (let l = k.ready.range.most_words in omega arith) (has_starts v.heap v.collection k.ready) empty

  -- where each name was placed
  abbrev placed : ℕ → Option ℕ
  placed name = find nat_cmp name v.workspace.worker.won

  parts_kept : Kept v.heap.graph v.collection.generation v.heap.config.shape v.heap.config.block_words 1 placed brings.parts
  parts_kept = kept v.heap.graph v.collection.generation v.heap.config.shape v.heap.config.block_words 1 placed brings.parts brings.brought

  won_is : won_lists brings.parts ≡ v.workspace.worker.won
  won_is = by_workers brings.parts brings.workers
    where
      by_workers : (ps : List Part) → map (λ (p : Part). p.final) ps ≡ v.workspace.worker ∷ [] → won_lists ps ≡ v.workspace.worker.won
      by_workers [] e = absurd (cc)
      by_workers (p ∷ []) e = append_nil p.final.won ∙ ap (λ (w : Worker). w.won) (let q : p.final ≡ v.workspace.worker = cc in q)
      by_workers (p ∷ (q ∷ ps)) e = absurd (cc)

  blocks_are : left_blocks brings.parts ≡ blocks_of v.workspace.worker
  blocks_are = by_workers brings.parts brings.workers
    where
      by_workers : (ps : List Part) → map (λ (p : Part). p.final) ps ≡ v.workspace.worker ∷ [] → left_blocks ps ≡ blocks_of v.workspace.worker
      by_workers [] e = absurd (cc)
      by_workers (p ∷ []) e = append_nil (blocks_of p.final) ∙ ap blocks_of (let q : p.final ≡ v.workspace.worker = cc in q)
      by_workers (p ∷ (q ∷ ps)) e = absurd (cc)

  -- each name was won once, and each place that was won was scanned once
  pub scans_won : ScansWhatItWon v.workspace.worker
  scans_won =
      record {
        won_once = λ name. (let k : wins_of name v.workspace.worker.won ≡ ones (placed name) = ap (wins_of name) (sym won_is) ∙ parts_kept.won_once name in let l = at_most_one (placed name) in omega (arith, k, l));
        scanned = λ place. by_workers place brings.parts brings.workers (parts_kept.scanned_once place) ∙ ap (λ ws. total (λ (q : ℕ × ℕ). one_if (nat_eq q.1 place)) ws) won_is ∙ sym (times-places place v.workspace.worker.won);
      }
    where
      at_most_one : (o : Option ℕ) → ones o ≤ 1
      at_most_one None = omega arith
      at_most_one (Some x) = omega arith

      by_workers : (place : ℕ) (ps : List Part) → map (λ (p : Part). p.final) ps ≡ v.workspace.worker ∷ [] → total (λ (p : Part). times place p.final.scanned) ps ≡ total (λ (q : ℕ × ℕ). one_if (nat_eq q.1 place)) (won_lists brings.parts)
          → times place v.workspace.worker.scanned ≡ total (λ (q : ℕ × ℕ). one_if (nat_eq q.1 place)) (won_lists brings.parts)
      by_workers place [] e is = absurd (cc)
      by_workers place (p ∷ []) e is =
          let q : p.final ≡ v.workspace.worker = cc in
          let n : times place v.workspace.worker.scanned ≡ times place p.final.scanned = ap (λ (w : Worker). times place w.scanned) (sym q) in
          let z : times place p.final.scanned + 0 ≡ times place p.final.scanned = omega arith in
          n ∙ sym z ∙ is
      by_workers place (p ∷ (q ∷ ps)) e is = absurd (cc)

  -- what the worker holds may be committed
  pub settles : (places : List (Option Place)) (blocks : List BlockValue) (won : List (ℕ × ℕ))
      → map (named v.heap.config.shape) blocks ≡ blocks_of v.workspace.worker
      → Each (IsWhole v.heap.config.shape v.heap.config.block_words) blocks
      → renaming_of (young_names v.heap.graph v.collection.generation) won ≡ v.workspace.worker.won
      → All (λ e. e.0 < v.collection.cells) won
      → length places ≡ v.collection.cells
      → ((number : ℕ) → number < v.collection.cells → option_map place_word (slice_index_or places number None) ≡ placed (slice_index (young_names v.heap.graph v.collection.generation) number))
      → IsSettled v.heap v.collection places blocks won
  settles places blocks won are whole renames numbers count shown =
      settled v.heap v.collection 1 placed brings.parts places blocks won
      (record {
        opened = k.ready.opened;
        kept = parts_kept;
        few_words = k.ready.range.most_words;
        some_step = k.ready.range.some_step;
        blocks_are = are ∙ sym blocks_are;
        whole = whole;
        drawn_free = λ number l. stands_has number v.heap.free (brings.drawn number l);
        won_are = renames ∙ sym won_is;
        numbers = numbers;
        places_count = count;
        places_are = shown;
      })

  drawn_free : (number : ℕ) → 0 < total (λ (p : Part). times number p.history.drawn) brings.parts → IsTrue (has v.heap.free number)
  drawn_free number l = stands_has number v.heap.free (brings.drawn number l)

  large_is : v.workspace.worker.large_done ≡ flat_map (λ (w : Worker). w.large_done) (map (λ (p : Part). p.final) brings.parts)
  large_is = sym (ap (flat_map (λ (w : Worker). w.large_done)) brings.workers ∙ append_nil v.workspace.worker.large_done)

  -- the large objects that the worker scanned are numbered
  pub scanned_young : All (IsYoung v.heap.graph v.collection.generation) v.workspace.worker.large_done
  scanned_young = subst (All (IsYoung v.heap.graph v.collection.generation)) (sym large_is) (large_young v.heap v.collection k.ready.sound 1 placed brings.parts parts_kept drawn_free)

  -- each cell shows the place of its name, once they stand at their own places
  pub cells_show : (held places : List (Option Place)) → held ≡ map place_of v.cells.held → AreShown v.heap v.collection v.workspace.worker.large_done held places
      → (number : ℕ) → number < v.collection.cells → shown_in places number ≡ placed (slice_index (young_names v.heap.graph v.collection.generation) number)
  cells_show held places are shown number lt =
      places_show v.heap v.collection k.ready.sound 1 placed brings.parts parts_kept drawn_free v.workspace.worker.large_done large_is held places shown number lt (place_held v.cells.held number)
      (ap (λ ps. shown_in ps number) are ∙ ap (option_map place_word) (held_place v.cells.held number))
      (k.cells.shown (slice_index (young_names v.heap.graph v.collection.generation) number) number (record { in_range = lt; is = refl }))
