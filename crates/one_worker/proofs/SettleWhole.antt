-- What the calls that settle a collection rely on, and what they answer together.
use Rattle.std.proofs.Common.{◌≡◌, ℕ, suc, ◌<◌, List, [], ◌∷◌, ◌++◌, length, map, Option, Some, refl, sym, ap, subst, ◌∙◌}
use Rattle.std.proofs.lemmas.List.{append-nil, length-map, map-append}
use Rattle.std.specs.Prelude.{All, slice_get}
use Rattle.std.specs.Option.{option_map}
use Rattle.model.specs.Destination.{Shape}
use Rattle.layout.specs.declared.place.Place.{Place}
use Rattle.block_pool.specs.BlockValue.{BlockValue}
use Rattle.model.specs.Live.{IsYoung}
use Rattle.steps.specs.HeapValue.{HeapValue}
use Rattle.steps.specs.CollectionValue.{CollectionValue, IsOpened, young_names}
use Rattle.steps.specs.ReportValue.{WorkerLists, all_won, renaming_of}
use Rattle.steps.specs.SettledValue.{IsSettled}
use Rattle.forwarding.specs.Plain.{place_of}
use Rattle.workers.specs.Block.{Block}
use Rattle.workers.specs.WorkerSteps.{IsOutOfWork}
use Rattle.workers.specs.Joined.{Each, OnSome, somes, blocks_of}
use Rattle.workers.specs.Finish.{IsReached}
use Rattle.scavenge.specs.Named.{named, named_copies, IsWhole}
use Rattle.scavenge.specs.Fronts.{slot_at}
use Rattle.one_worker.specs.SerialValue.{SerialValue, lane_of, system_of, setting_in, targets_in, destinations_in}
use Rattle.scavenge.specs.Waiting.{waiting_in}
use Rattle.one_worker.specs.IsSerial.{IsSerial}
use Rattle.one_worker.specs.Settling.{IsReportOf, ScansWhatItWon, exports_of}
use Rattle.settling.specs.Shown.{AreShown}
use Rattle.one_worker.proofs.SettleBrings.{settles, cells_show, scanned_young, scans_won}
use Rattle.settling.proofs.Blocks.{somes-map, somes_each, named_length}

-- the worker has nothing left, and these are its heap and its collection
pub record IsAtEnd (v : SerialValue) (heap : HeapValue) (c : CollectionValue) : Type 0 where
  pub heap_is : heap ≡ v.heap
  pub collection_is : c ≡ v.collection
  pub out : IsOutOfWork v.workspace.worker
  pub queue : waiting_in (lane_of v) ≡ []
  pub reached : IsReached (setting_in v) (destinations_in v) 1 (targets_in v) v.heap.free (system_of v)

module _ (v : SerialValue) (k : IsSerial v) (heap : HeapValue) (c : CollectionValue) (e : IsAtEnd v heap c) where
  -- what was won, by number
  renames_at_end : (won : List (ℕ × ℕ)) → renaming_of v.workspace.names won ≡ v.workspace.worker.won → renaming_of (young_names v.heap.graph v.collection.generation) won ≡ v.workspace.worker.won
  renames_at_end won is = ap (λ names. renaming_of names won) (sym k.names) ∙ is

  in_cells : (won : List (ℕ × ℕ)) → All (λ p. p.0 < length v.workspace.names) won → All (λ p. p.0 < v.collection.cells) won
  in_cells won below = subst (λ n. All (λ (p : ℕ × ℕ). p.0 < n) won) (ap length k.names ∙ sym k.ready.opened.cells) below

  pub opened_at_end : IsOpened heap c.generation c
  opened_at_end = subst (λ h. IsOpened h c.generation c) (sym e.heap_is) (subst (λ (x : CollectionValue). IsOpened v.heap x.generation x) (sym e.collection_is) k.ready.opened)

  -- the large objects that it scanned are numbered
  pub young_at_end : (large : List ℕ) → large ≡ v.workspace.worker.large_done → All (IsYoung heap.graph c.generation) large
  young_at_end large are =
      subst (λ (h : HeapValue). All (IsYoung h.graph c.generation) large) (sym e.heap_is)
      (subst (λ (x : CollectionValue). All (IsYoung v.heap.graph x.generation) large) (sym e.collection_is)
      (subst (All (IsYoung v.heap.graph v.collection.generation)) (sym are) (scanned_young v k e.reached e.out e.queue)))

  pub settled_at_end : (allocation : List (Option BlockValue)) (done blocks : List BlockValue) (won : List (ℕ × ℕ)) (large : List ℕ) (held places : List (Option Place))
      → map (option_map (named v.workspace.config.shape)) allocation ≡ v.workspace.worker.allocation → map (named v.workspace.config.shape) done ≡ v.workspace.worker.done
      → ((d : ℕ) → OnSome (IsWhole v.workspace.config.shape v.workspace.config.block_words) (slot_at allocation d)) → Each (IsWhole v.workspace.config.shape v.workspace.config.block_words) done
      → blocks ≡ somes allocation ++ done → renaming_of v.workspace.names won ≡ v.workspace.worker.won → All (λ p. p.0 < length v.workspace.names) won
      → large ≡ v.workspace.worker.large_done → held ≡ map place_of v.cells.held → length places ≡ length held → AreShown heap c large held places
      → IsSettled v.heap c places blocks won
  settled_at_end allocation done blocks won large held places a d aw dw blocks_are renames numbers large_are held_are count shown =
      subst (λ (x : CollectionValue). IsSettled v.heap x places blocks won) (sym e.collection_is)
      (settles v k e.reached e.out e.queue places blocks won named_are whole (renames_at_end won renames) (in_cells won numbers)
      (count ∙ ap length held_are ∙ length-map v.cells.held place_of ∙ k.cells.count)
      (cells_show v k e.reached e.out e.queue held places held_are shown_at_end))
    where
      shown_at_end : AreShown v.heap v.collection v.workspace.worker.large_done held places
      shown_at_end =
          subst (λ h. AreShown h v.collection v.workspace.worker.large_done held places) e.heap_is
          (subst (λ x. AreShown heap x v.workspace.worker.large_done held places) e.collection_is
          (subst (λ ns. AreShown heap c ns held places) large_are shown))

      named_by : map (named v.workspace.config.shape) blocks ≡ blocks_of v.workspace.worker
      named_by =
          ap (map (named v.workspace.config.shape)) blocks_are ∙ map-append (named v.workspace.config.shape) (somes allocation) done
          ∙ ap (λ bs. bs ++ map (named v.workspace.config.shape) done) (somes-map v.workspace.config.shape allocation ∙ ap somes a) ∙ ap (λ bs. somes v.workspace.worker.allocation ++ bs) d

      named_are : map (named v.heap.config.shape) blocks ≡ blocks_of v.workspace.worker
      named_are = subst (λ config. map (named config.shape) blocks ≡ blocks_of v.workspace.worker) k.config named_by

      whole : Each (IsWhole v.heap.config.shape v.heap.config.block_words) blocks
      whole = subst (λ config. Each (IsWhole config.shape config.block_words) blocks) k.config (subst (Each (IsWhole v.workspace.config.shape v.workspace.config.block_words)) (sym blocks_are) (somes_each (IsWhole v.workspace.config.shape v.workspace.config.block_words) allocation done aw dw))

  -- there is a place for each cell
  pub held_count : (held : List (Option Place)) → held ≡ map place_of v.cells.held → length held ≡ c.cells
  held_count held are = ap length are ∙ length-map v.cells.held place_of ∙ k.cells.count ∙ ap (λ (x : CollectionValue). x.cells) (sym e.collection_is)

  pub scans_at_end : ScansWhatItWon v.workspace.worker
  scans_at_end = scans_won v k e.reached e.out e.queue

  -- the report of the worker alone
  pub reports_at_end : (workers : List WorkerLists) (lists : WorkerLists) → workers ≡ lists ∷ [] → renaming_of v.workspace.names lists.won ≡ v.workspace.worker.won → lists.scanned ≡ v.workspace.worker.scanned → IsReportOf v workers
  reports_at_end workers lists alone won scanned = record { lists = lists; alone = alone; won = renames_at_end lists.won won; scanned = scanned }

pub sizes : (shape : Shape) (bs : List BlockValue) → ((i : ℕ) (b : BlockValue) → slice_get bs i ≡ Some b → length b.origins ≡ length b.objects) → map (λ (b : BlockValue). length b.objects) bs ≡ map (λ (b : Block). length b.copies) (map (named shape) bs)
sizes shape [] noted = refl
sizes shape (b ∷ bs) noted =
    ap (λ n. n ∷ map (λ (x : BlockValue). length x.objects) bs) (sym (named_length b.number 0 b.origins b.objects (noted 0 b refl)))
    ∙ ap (λ ns. length (named_copies b.number 0 b.origins b.objects) ∷ ns) (sizes shape bs (λ i. noted (suc i)))

pub sizes_at_end : (v : SerialValue) → IsSerial v → map (λ (b : BlockValue). length b.objects) (lane_of v).sent ≡ map (λ (b : Block). length b.copies) (exports_of v)
sizes_at_end v k = sizes v.workspace.config.shape (lane_of v).sent k.queue.noted

pub all_won-alone : (workers : List WorkerLists) (lists : WorkerLists) → workers ≡ lists ∷ [] → all_won workers ≡ lists.won
all_won-alone workers lists alone = ap all_won alone ∙ append-nil lists.won
