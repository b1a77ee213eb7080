-- What a collection that ended, or that wants a block, concludes.
use Rattle.std.proofs.Common.{◌≡◌, ◌≢◌, ℕ, zero, suc, ◌+◌, ◌*◌, ◌<◌, ◌≤◌, true, false, cond, not, List, [], ◌∷◌, ◌++◌, map, flat_map, filter, length, Option, Some, None, refl, sym, ap, subst, ◌∙◌, arith, true≢false, ne_eqb, lt-ltb, ⊎_elim}
use Rattle.std.specs.Prelude.{sum_by, slice_index_or, All}
use Rattle.std.specs.Option.{option_map_or}
use Rattle.std.proofs.lemmas.Bool.{cases_eq}
use Rattle.model.specs.Graph.{Object, object_at, is_large}
use Rattle.model.specs.LiveCount.{LiveCount}
use Rattle.steps.specs.HeapValue.{HeapValue}
use Rattle.steps.specs.CollectionValue.{CollectionValue, target_of_slot, young_names}
use Rattle.steps.specs.CollectedHeap.{CollectedHeap}
use Rattle.steps.specs.ReportValue.{WorkerLists, renaming_of, all_won}
use Rattle.steps.specs.declared.heap_values.report.Delivery.{Delivery}
use Rattle.heap.proofs.SoundHeap.{heap_free, heap_large_name}
use Rattle.workers.specs.Setting.{Setting}
use Rattle.workers.specs.Worker.{Worker, current_in, current_object}
use Rattle.workers.specs.WorkerSteps.{current_slot, slot_of_starts, IsOutOfWork}
use Rattle.workers.specs.Block.{Block}
use Rattle.workers.specs.System.{System, Look, Idle, End, opening}
use Rattle.workers.specs.Steps.{GoesIdle, Ends}
use Rattle.workers.specs.Total.{times, wins_of}
use Rattle.workers.specs.Lawful.{next_alone, next_of_one, race_or, look_or, scan_or, export_or, take_or, own_or, large_or, lowest_open, AllEnded, IsRefused}
use Rattle.workers.specs.Finish.{Stepped, stay}
use Rattle.workers.specs.Alone.{TellsSmall, ScannedInOrder}
use Rattle.workers.proofs.OneMore.{stepped_more, reached_more}
use Rattle.workers.proofs.AloneSteps.{ended_in_order}
use Rattle.workers.proofs.RunBrings.{refused_below}
use Rattle.scavenge.specs.Named.{named}
use Rattle.one_worker.specs.SerialValue.{SerialValue, system_of, setting_in, targets_in, destinations_in, lane_of}
use Rattle.scavenge.specs.Waiting.{waiting_in}
use Rattle.scavenge.specs.ReadyToCollect.{IsReadyToCollect}
use Rattle.one_worker.specs.Settling.{IsReportOf, ScansWhatItWon, exports_of}
use Rattle.settling.specs.OwnDeliveries.{own_deliveries}
use Rattle.scavenge.proofs.OpenBlocks.{none_open}
use Rattle.scavenge.proofs.Starts.{targets_live}
use Rattle.one_worker.specs.Stepping.{IsOf, IsDone, IsFullForLook, HasStepped}
use Rattle.settling.specs.Collects.{is_small_word, won_places, RunsAlone, ScansAlone, ScansOnce, Collects, IsShortOfBlocks, IsStuckAlone}
use Rattle.one_worker.proofs.Going.{reached_of}

pub begins : (v : SerialValue) → system_of v ≡ opening (destinations_in v) 1 (targets_in v) v.heap.free → HasStepped v
begins v e =
    record { count = 0; run = subst (λ s. Stepped (setting_in v) (next_alone (setting_in v)) (opening (destinations_in v) 1 (targets_in v) v.heap.free) 0 s) (sym e) stay }

pub ready_in : (heap : HeapValue) (c : CollectionValue) (v : SerialValue) → IsReadyToCollect heap c → IsOf heap c v → IsReadyToCollect v.heap v.collection
ready_in heap c v r o = subst (λ h. IsReadyToCollect h v.collection) o.heap_is (subst (IsReadyToCollect heap) o.collection_is r)

-- a refused draw
refused_here : (v : SerialValue) → IsFullForLook v v → (system_of v).free ≡ [] → IsRefused (setting_in v) (system_of v) (Look 0)
refused_here v full none = record { t = 0; worker = v.workspace.worker; look = refl; at = record { is = refl; awake = refl }; can = full.can; wanted = full.wants; none_free = none }

-- so few were free
pub short_of : (heap : HeapValue) (c : CollectionValue) (v : SerialValue) → IsReadyToCollect heap c → IsOf heap c v → HasStepped v → IsFullForLook v v → (system_of v).free ≡ [] → IsShortOfBlocks heap c.generation
short_of heap c v r o h full none =
    subst (λ (d : CollectionValue). IsShortOfBlocks heap d.generation) (sym o.collection_is) (subst (λ x. IsShortOfBlocks x v.collection.generation) (sym o.heap_is)
    (λ words live. refused_below v.heap.graph v.collection.generation v.heap.config.shape v.heap.config.block_words (destinations_in v) 1 (targets_in v) v.heap.free (system_of v) (reached_of v (ready_in heap c v r o) h)
    (targets_live v.heap v.collection (ready_in heap c v r o)) (Look 0) (refused_here v full none) words live))

-- the same worker is stuck
pub stuck_of : (heap : HeapValue) (c : CollectionValue) (v : SerialValue) → IsReadyToCollect heap c → IsOf heap c v → HasStepped v → IsFullForLook v v → (system_of v).free ≡ [] → IsStuckAlone heap c.generation
stuck_of heap c v r o h full none =
    subst (λ (d : CollectionValue). IsStuckAlone heap d.generation) (sym o.collection_is) (subst (λ x. IsStuckAlone x v.collection.generation) (sym o.heap_is)
    (record {
      count = h.count;
      last = system_of v;
      run = subst (λ slots. Stepped (setting_in v) (next_alone (setting_in v)) (opening (destinations_in v) 1 (map target_of_slot slots) v.heap.free) h.count (system_of v)) (ready_in heap c v r o).opened.slots h.run;
      stuck = record { event = Look 0; is_next = full.is_next; refused = refused_here v full none };
    }))

-- what comes next where nothing is left
module _ (setting : Setting) (w : Worker) (queue : List Block) (out : IsOutOfWork w) (none : queue ≡ []) where
  no_slot : current_slot setting w ≡ None
  no_slot = ap (slot_of_starts setting (current_object w) w.fields) out.free.no_starts ∙ ap (λ h. slot_of_starts setting (current_in w h) w.fields []) out.free.no_hand

  pub next_idle : next_of_one setting 0 w queue ≡ Idle 0
  next_idle =
      ap (λ o. race_or 0 o (look_or 0 (current_slot setting w) (scan_or 0 w.hand (export_or 0 w.aside (take_or 0 queue (own_or 0 (lowest_open 0 w.allocation) (large_or 0 w.large (Idle 0)))))))) out.free.no_proposal
      ∙ ap (λ o. look_or 0 o (scan_or 0 w.hand (export_or 0 w.aside (take_or 0 queue (own_or 0 (lowest_open 0 w.allocation) (large_or 0 w.large (Idle 0))))))) no_slot
      ∙ ap (λ h. scan_or 0 h (export_or 0 w.aside (take_or 0 queue (own_or 0 (lowest_open 0 w.allocation) (large_or 0 w.large (Idle 0)))))) out.free.no_hand
      ∙ ap (λ bs. export_or 0 bs (take_or 0 queue (own_or 0 (lowest_open 0 w.allocation) (large_or 0 w.large (Idle 0))))) out.no_aside
      ∙ ap (λ bs. take_or 0 bs (own_or 0 (lowest_open 0 w.allocation) (large_or 0 w.large (Idle 0)))) none
      ∙ ap (λ o. own_or 0 o (large_or 0 w.large (Idle 0))) (none_open 0 w.allocation (λ e l. out.all_scanned e))
      ∙ ap (λ ns. large_or 0 ns (Idle 0)) out.no_large

has_below : (limit number : ℕ) (free : List ℕ) → All (λ b. b < limit) free → 0 < times number free → number < limit
has_below limit number free all some = go free (λ k l. all k 0 l) some
  where
    go : (xs : List ℕ) → ((k : ℕ) → k < length xs → slice_index_or xs k 0 < limit) → 0 < times number xs → number < limit
    go [] h s = absurd (omega (arith, s))
    go (x ∷ xs) h s = ⊎_elim
        (λ (e : x ≡ number). let l : x < limit = h 0 (omega arith) in omega (arith, e, l))
        (λ (ne : x ≢ number). go xs (λ k l. h (suc k) (omega (arith, l))) (let z : times number (x ∷ xs) ≡ times number xs = skip x xs ne in omega (arith, z, s)))
        (cases_eq x number)
      where
        skip : (x : ℕ) (xs : List ℕ) → x ≢ number → times number (x ∷ xs) ≡ times number xs
        skip x xs ne = let z : 0 + times number xs ≡ times number xs = omega arith in ap (λ b. cond b 1 0 + times number xs) (ne_eqb x number ne) ∙ z

tells_small : (v : SerialValue) → IsReadyToCollect v.heap v.collection → TellsSmall (setting_in v) v.heap.free is_small_word
tells_small v r =
    record {
      in_block = λ number offset here l. (let b = has_below v.heap.config.blocks number v.heap.free (heap_free v.heap r.sound).in_range here in let m = r.range.most_blocks in let k : (number + 1) * 65536 + offset < 9223372036854775808 + 0 = omega (arith, b, m, l) in lt-ltb _ _ k);
      large = λ name is. not_small name (object_at v.heap.graph name) refl is;
    }
  where
    not_small : (name : ℕ) (o : Option Object) → object_at v.heap.graph name ≡ o → option_map_or (is_large v.heap.config.block_words) o false ≡ true → is_small_word name ≡ false
    not_small name None e is = absurd (true≢false (sym is))
    not_small name (Some x) e is = let above = heap_large_name v.heap r.sound name x e is in grind (arith, above)

same_places : (names : List ℕ) (won : List (ℕ × ℕ)) → map (λ (q : ℕ × ℕ). q.1) (renaming_of names won) ≡ map (λ (q : ℕ × ℕ). q.1) won
same_places names [] = refl
same_places names (e ∷ es) = ap (λ xs. e.1 ∷ xs) (same_places names es)

module _ (v : SerialValue) (r : IsReadyToCollect v.heap v.collection) (h : HasStepped v) (done : IsDone v) where
  abbrev idle_system : System
  idle_system = record (system_of v) { idle = true ∷ [] }

  abbrev ended_system : System
  ended_system = record (system_of v) { idle = true ∷ []; ended = true ∷ [] }

  queue_none : map (named v.workspace.config.shape) (waiting_in (lane_of v)) ≡ []
  queue_none = ap (map (named v.workspace.config.shape)) done.queue

  all_ended : AllEnded ended_system
  all_ended zero l = refl
  all_ended (suc t) l = absurd (omega arith)

  idles : GoesIdle (system_of v) 0 idle_system
  idles = record { worker = v.workspace.worker; at = record { is = refl; awake = refl }; out = done.out; queue = ap Some queue_none; change = refl }

  ends : Ends idle_system 0 ended_system
  ends = record { is_idle = refl; not_ended = refl; all_idle = refl; change = refl }

  in_order : destinations_in v ≡ 1 → ScannedInOrder is_small_word v.workspace.worker
  in_order one =
      ended_in_order (setting_in v) (destinations_in v) (targets_in v) v.heap.free is_small_word (tells_small v r) (let m = r.range.most_words in omega (arith, m)) (h.count + 1 + 1) ended_system
      (reached_more (setting_in v) (destinations_in v) 1 (targets_in v) v.heap.free idle_system ended_system (End 0)
      (reached_more (setting_in v) (destinations_in v) 1 (targets_in v) v.heap.free (system_of v) idle_system (Idle 0) (reached_of v r h) idles) ends)
      (stepped_more (setting_in v) (End 0) (stepped_more (setting_in v) (Idle 0) h.run (ap Some (next_idle (setting_in v) v.workspace.worker (map (named v.workspace.config.shape) (waiting_in (lane_of v))) done.out queue_none)) idles) refl ends)
      all_ended (omega (arith, one)) v.workspace.worker refl

  run_to_end : Stepped (setting_in v) (next_alone (setting_in v)) (opening (destinations_in v) 1 (targets_in v) v.heap.free) (h.count + 1 + 1) ended_system
  run_to_end =
      stepped_more (setting_in v) (End 0) (stepped_more (setting_in v) (Idle 0) h.run (ap Some (next_idle (setting_in v) v.workspace.worker (map (named v.workspace.config.shape) (waiting_in (lane_of v))) done.out queue_none)) idles) refl ends

  runs : (lists : WorkerLists) (deliveries : List Delivery) → renaming_of (young_names v.heap.graph v.collection.generation) lists.won ≡ v.workspace.worker.won → lists.scanned ≡ v.workspace.worker.scanned
      → deliveries ≡ own_deliveries (exports_of v) → RunsAlone v.heap v.collection.generation lists deliveries
  runs lists deliveries won scanned told =
      record {
        count = h.count + 1 + 1;
        last = ended_system;
        run = subst (λ slots. Stepped (setting_in v) (next_alone (setting_in v)) (opening (destinations_in v) 1 (map target_of_slot slots) v.heap.free) (h.count + 1 + 1) ended_system) r.opened.slots run_to_end;
        ended = all_ended;
        worker = v.workspace.worker;
        worker_is = refl;
        won = won;
        scanned = scanned;
        exports = exports_of v;
        exports_are = refl;
        deliveries_are = told;
      }

  pub scans : (workers : List WorkerLists) (deliveries : List Delivery) → IsReportOf v workers → deliveries ≡ own_deliveries (exports_of v) → ScansAlone v.heap v.collection.generation workers deliveries
  scans workers deliveries report told =
      let places : won_places report.lists ≡ map (λ (q : ℕ × ℕ). q.1) v.workspace.worker.won = sym (same_places (young_names v.heap.graph v.collection.generation) report.lists.won) ∙ ap (map (λ (q : ℕ × ℕ). q.1)) report.won in
      record {
        lists = report.lists;
        alone = report.alone;
        runs = runs report.lists deliveries report.won report.scanned told;
        order = λ one. record {
          small = ap (filter is_small_word) report.scanned ∙ (in_order one).small_ones ∙ ap (filter is_small_word) (sym places);
          large = ap (filter (λ x. not (is_small_word x))) report.scanned ∙ (in_order one).large_ones ∙ ap (filter (λ x. not (is_small_word x))) (sym places);
        };
      }

append-nil : {A : Type 0} (xs : List A) → xs ++ [] ≡ xs
append-nil [] = refl
append-nil (x ∷ xs) = ap (λ ys. x ∷ ys) (append-nil xs)

-- what one worker won and scanned, of which there is one
won_alone : (workers : List WorkerLists) (lists : WorkerLists) → workers ≡ lists ∷ [] → all_won workers ≡ lists.won
won_alone workers lists e = ap all_won e ∙ append-nil lists.won

scanned_alone : (workers : List WorkerLists) (lists : WorkerLists) → workers ≡ lists ∷ [] → flat_map (λ (w : WorkerLists). w.scanned) workers ≡ lists.scanned
scanned_alone workers lists e = ap (flat_map (λ (w : WorkerLists). w.scanned)) e ∙ append-nil lists.scanned

pub scans_once : (v : SerialValue) (workers : List WorkerLists) → IsReportOf v workers → ScansWhatItWon v.workspace.worker → ScansOnce v.heap v.collection.generation workers
scans_once v workers report once =
    let won : all_won workers ≡ report.lists.won = won_alone workers report.lists report.alone in
    let same : map (λ (q : ℕ × ℕ). q.1) (all_won workers) ≡ map (λ (q : ℕ × ℕ). q.1) v.workspace.worker.won =
    ap (map (λ (q : ℕ × ℕ). q.1)) won ∙ sym (same_places (young_names v.heap.graph v.collection.generation) report.lists.won) ∙ ap (map (λ (q : ℕ × ℕ). q.1)) report.won in
    record {
      won_once = λ name. subst (λ ps. wins_of name ps ≤ 1) (sym (ap (renaming_of (young_names v.heap.graph v.collection.generation)) won ∙ report.won)) (once.won_once name);
      scanned_once = λ place. ap (times place) (scanned_alone workers report.lists report.alone ∙ report.scanned) ∙ once.scanned place ∙ ap (times place) (sym same);
    }

-- what the heap, the counts and the lists are at the commit is so of what the report has
pub collects : (old new : HeapValue) (g generation kept freed : ℕ) (workers reported : List WorkerLists) → generation ≡ g → ScansOnce old generation workers → reported ≡ workers
    → CollectedHeap old generation (renaming_of (young_names old.graph generation) (all_won workers)) new → LiveCount old.graph generation kept → kept ≡ sum_by (λ (w : WorkerLists). length w.won) workers → kept + freed ≡ length (young_names old.graph generation) → Collects old g kept freed reported new
collects old new g generation kept freed workers reported same once lists_are heap live sum count =
    subst (λ n. Collects old n kept freed reported new) same
    (subst (λ ws. Collects old generation kept freed ws new) (sym lists_are)
    (record { heap = heap; kept_is = live; kept_sum = sum; freed_is = count; once = once }))

-- and so is what the worker did
pub told_alone : (heap : HeapValue) (g generation : ℕ) (workers reported : List WorkerLists) (deliveries told : List Delivery) → generation ≡ g → reported ≡ workers → told ≡ deliveries → ScansAlone heap generation workers deliveries → ScansAlone heap g reported told
told_alone heap g generation workers reported deliveries told same lists_are deliveries_are scans =
    subst (λ n. ScansAlone heap n reported told) same
    (subst (λ ws. ScansAlone heap generation ws told) (sym lists_are)
    (subst (λ ds. ScansAlone heap generation workers ds) (sym deliveries_are) scans))
