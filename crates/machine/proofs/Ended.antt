-- Where all workers ended: what they hold may be committed.
use Rattle.std.proofs.Common.{◌≡◌, ℕ, ◌<◌, ◌≤◌, List, ◌++◌, ◌∷◌, [], length, map, Option, Some, None, refl, sym, ap, subst, ◌∙◌, arith}
use Rattle.std.proofs.lemmas.List.{length-map, append-nil}
use Rattle.std.specs.Prelude.{All, IsTrue, flat_map, slice_index}
use Rattle.std.specs.Option.{option_map}
use Rattle.std.specs.Ordering.{nat_cmp}
use Rattle.std.specs.FinMap.{find}
use Rattle.layout.specs.declared.place.Place.{Place}
use Rattle.layout.specs.Place.{place_word}
use Rattle.block_pool.specs.BlockValue.{BlockValue}
use Rattle.steps.specs.ReportValue.{WorkerLists, all_won, renaming_of}
use Rattle.steps.specs.HeapValue.{HeapValue}
use Rattle.model.specs.Live.{IsYoung}
use Rattle.model.specs.Reached.{has}
use Rattle.steps.specs.CollectionValue.{CollectionValue, IsOpened, young_names}
use Rattle.steps.specs.SettledValue.{IsSettled}
use Rattle.heap.proofs.SoundHeap.{heap_empty}
use Rattle.forwarding.specs.Plain.{place_of, place_held}
use Rattle.workers.specs.Worker.{Worker}
use Rattle.workers.specs.Total.{total, times, wins_of, ones}
use Rattle.workers.specs.Joined.{Each, Part, blocks_of}
use Rattle.workers.specs.Kept.{Kept, won_lists}
use Rattle.workers.specs.Lawful.{AllEnded}
use Rattle.workers.specs.Finish.{NothingLeft}
use Rattle.workers.specs.Alone.{RunBrings, AreEmpty}
use Rattle.workers.proofs.RunBrings.{ended_brings}
use Rattle.workers.proofs.Reached.{reached_left}
use Rattle.workers.proofs.Kept.{kept}
use Rattle.settling.specs.Brings.{left_blocks}
use Rattle.settling.proofs.Bridge.{settled}
use Rattle.scavenge.proofs.Starts.{has_starts, targets_live}
use Rattle.settling.specs.Shown.{shown_in, AreShown}
use Rattle.settling.proofs.LargeDone.{large_young, places_show}
use Rattle.settling.proofs.Blocks.{stands_has, times-places}
use Rattle.settling.proofs.Blocks.{held_place}
use Rattle.machine.specs.InterleavedValue.{InterleavedValue, MemberValue, worker_of, system_of, setting_in, targets_in, destinations_in}
use Rattle.machine.specs.IsInterleaved.{IsInterleaved}
use Rattle.machine.proofs.Places.{get-map}
use Rattle.settling.specs.Collects.{ScansOnce}
use Rattle.scavenge.specs.Shown.{WorkspaceValue}
use Rattle.settling.specs.Telling.{IsAtRest, AreBrought}
use Rattle.settling.proofs.EndedLists.{joined_lists, joined_map, renamed_joined, same_places, parts_won, parts_left, parts_times, each_place}

module _ (v : InterleavedValue) (k : IsInterleaved v) (ended : AllEnded (system_of v)) where
  empty : AreEmpty v.heap.graph v.heap.free
  empty number offset l o = heap_empty v.heap k.ready.sound number offset (stands_has number v.heap.free l) o

  pub brings : RunBrings v.heap.graph v.collection.generation v.heap.config.shape v.heap.config.block_words (destinations_in v) v.workers (targets_in v) v.heap.free (system_of v)
  brings =
      ended_brings v.heap.graph v.collection.generation v.heap.config.shape v.heap.config.block_words (destinations_in v) v.workers (targets_in v) v.heap.free (system_of v)
      k.reached (targets_live v.heap v.collection k.ready) ended (let l = k.ready.range.most_words in omega (arith, l)) (has_starts v.heap v.collection k.ready) empty

  -- where each name was placed
  abbrev placed : ℕ → Option ℕ
  placed name = find nat_cmp name (system_of v).forwarded

  parts_kept : Kept v.heap.graph v.collection.generation v.heap.config.shape v.heap.config.block_words v.workers placed brings.parts
  parts_kept = kept v.heap.graph v.collection.generation v.heap.config.shape v.heap.config.block_words v.workers placed brings.parts brings.brought

  pub nothing_left : NothingLeft (system_of v)
  nothing_left =
      (reached_left (setting_in v) (destinations_in v) v.workers (targets_in v) v.heap.free (system_of v) k.reached 0
      (ended 0 (let n : length (system_of v).workers ≡ length v.members = length-map v.members worker_of in let c = k.count in let s = k.some in omega (arith, n, c, s)))).0

  abbrev all_of : {A : Type 0} → (Worker → List A) → List A
  all_of f = flat_map f (system_of v).workers

  won_is : won_lists brings.parts ≡ all_of (λ (w : Worker). w.won)
  won_is = parts_won brings.parts ∙ ap (flat_map (λ (w : Worker). w.won)) brings.workers

  left_is : left_blocks brings.parts ≡ all_of blocks_of
  left_is = parts_left brings.parts ∙ ap (flat_map blocks_of) brings.workers

  wins_are : (name : ℕ) → wins_of name (all_of (λ (w : Worker). w.won)) ≡ ones (placed name)
  wins_are name = ap (wins_of name) (sym won_is) ∙ parts_kept.won_once name

  pub at_rest : Each (λ (m : MemberValue). IsAtRest v.heap v.collection m.workspace) v.members
  at_rest = each_place (λ (m : MemberValue). IsAtRest v.heap v.collection m.workspace) v.members (λ t m at.
      record {
        config = (k.each t m at).config;
        names = (k.each t m at).names;
        no_proposal = (nothing_left.workers t m.workspace.worker (get-map worker_of v.members t m at)).0.free.no_proposal;
      })

  drawn_free : (number : ℕ) → 0 < total (λ (p : Part). times number p.history.drawn) brings.parts → IsTrue (has v.heap.free number)
  drawn_free number l = stands_has number v.heap.free (brings.drawn number l)

  large_is : all_of (λ (w : Worker). w.large_done) ≡ flat_map (λ (w : Worker). w.large_done) (map (λ (p : Part). p.final) brings.parts)
  large_is = ap (flat_map (λ (w : Worker). w.large_done)) (sym brings.workers)

  module _ (reports : List WorkerLists) (blocks : List BlockValue) (large : List ℕ) (b : AreBrought v.heap v.collection (map worker_of v.members) reports blocks large) where
    -- the large objects that they scanned are numbered
    pub young : All (IsYoung v.heap.graph v.collection.generation) large
    young =
        subst (All (IsYoung v.heap.graph v.collection.generation)) (sym (b.large_are ∙ large_is))
        (large_young v.heap v.collection k.ready.sound v.workers placed brings.parts parts_kept drawn_free)

    renamed_is : renaming_of (young_names v.heap.graph v.collection.generation) (all_won reports) ≡ all_of (λ (w : Worker). w.won)
    renamed_is = renamed_joined (young_names v.heap.graph v.collection.generation) reports ∙ ap joined_lists b.reported.won ∙ sym (joined_map (λ (w : Worker). w.won) (system_of v).workers)

    -- what they hold may be committed, once the large objects that they scanned stand at their own places
    pub settles : (held places : List (Option Place)) → held ≡ map place_of v.cells.held → length places ≡ length held → AreShown v.heap v.collection large held places → IsSettled v.heap v.collection places blocks (all_won reports)
    settles held places are count shown =
        settled v.heap v.collection v.workers placed brings.parts places blocks (all_won reports)
        (record {
          opened = k.ready.opened;
          kept = parts_kept;
          few_words = k.ready.range.most_words;
          some_step = k.ready.range.some_step;
          blocks_are = b.left ∙ sym left_is;
          whole = b.whole;
          drawn_free = drawn_free;
          won_are = renamed_is ∙ sym won_is;
          numbers = b.numbers;
          places_count = count ∙ ap length are ∙ length-map v.cells.held place_of ∙ k.cells.count;
          places_are = λ number lt.
              places_show v.heap v.collection k.ready.sound v.workers placed brings.parts parts_kept drawn_free large (b.large_are ∙ large_is) held places shown number lt (place_held v.cells.held number)
              (ap (λ ps. shown_in ps number) are ∙ ap (option_map place_word) (held_place v.cells.held number))
              (k.cells.shown (slice_index (young_names v.heap.graph v.collection.generation) number) number (record { in_range = lt; is = refl }));
        })

    -- each name was won once, and each place that was won was scanned once
    pub scans_once : ScansOnce v.heap v.collection.generation reports
    scans_once =
        record {
          won_once = λ name. (let e : wins_of name (renaming_of (young_names v.heap.graph v.collection.generation) (all_won reports)) ≡ ones (placed name) = ap (wins_of name) renamed_is ∙ wins_are name in let l = at_most_one (placed name) in omega (arith, e, l));
          scanned_once = λ place.
              ap (times place) (joined_map (λ (l : WorkerLists). l.scanned) reports ∙ ap joined_lists b.reported.scanned ∙ sym (joined_map (λ (w : Worker). w.scanned) (system_of v).workers) ∙ ap (flat_map (λ (w : Worker). w.scanned)) (sym brings.workers))
              ∙ parts_times (λ (w : Worker). w.scanned) place brings.parts ∙ parts_kept.scanned_once place ∙ sym (times-places place (won_lists brings.parts))
              ∙ ap (λ ws. times place (map (λ (q : ℕ × ℕ). q.1) ws)) (won_is ∙ sym renamed_is) ∙ ap (times place) (same_places (young_names v.heap.graph v.collection.generation) (all_won reports));
        }
      where
        at_most_one : (o : Option ℕ) → ones o ≤ 1
        at_most_one None = omega arith
        at_most_one (Some x) = omega arith

-- there is a place for each cell
pub held_count : (v : InterleavedValue) → IsInterleaved v → (held : List (Option Place)) → held ≡ map place_of v.cells.held → length held ≡ v.collection.cells
held_count v k held are = ap length are ∙ length-map v.cells.held place_of ∙ k.cells.count

-- the members' own parts
abbrev pub workspace_of : MemberValue → WorkspaceValue
workspace_of m = m.workspace

each_map : (P : WorkspaceValue → Type 0) (ms : List MemberValue) → Each (λ (m : MemberValue). P m.workspace) ms → Each P (map workspace_of ms)
each_map P [] h = tt
each_map P (m ∷ ms) h = (h.0, each_map P ms h.1)

workers_are : (ms : List MemberValue) → map (λ (w : WorkspaceValue). w.worker) (map workspace_of ms) ≡ map worker_of ms
workers_are [] = refl
workers_are (m ∷ ms) = ap (λ ws. m.workspace.worker ∷ ws) (workers_are ms)

-- once no member is left, all parts are there
pub all_gone : (ws : List WorkspaceValue) (rest ms : List MemberValue) → length rest ≡ 0 → ws ++ map workspace_of rest ≡ map workspace_of ms → ws ≡ map workspace_of ms
all_gone ws [] ms none e = sym (append-nil ws) ∙ e
all_gone ws (m ∷ rest) ms none e = absurd (omega (arith, none))

-- the same, of the heap, the collection and the workers' own parts that the calls have
module _ (v : InterleavedValue) (heap : HeapValue) (c : CollectionValue) (members : List MemberValue) (same_heap : heap ≡ v.heap) (same_collection : c ≡ v.collection) (same_members : members ≡ v.members) (workspaces : List WorkspaceValue) (are : workspaces ≡ map workspace_of members) where
  their : workspaces ≡ map workspace_of v.members
  their = are ∙ ap (map workspace_of) same_members

  pub at_rest_in : IsInterleaved v → AllEnded (system_of v) → Each (IsAtRest heap c) workspaces
  at_rest_in k ended =
      subst (λ h. Each (IsAtRest h c) workspaces) (sym same_heap)
      (subst (λ d. Each (IsAtRest v.heap d) workspaces) (sym same_collection)
      (subst (Each (IsAtRest v.heap v.collection)) (sym their) (each_map (IsAtRest v.heap v.collection) v.members (at_rest v k ended))))

  pub brought_in : (reports : List WorkerLists) (blocks : List BlockValue) (large : List ℕ) → AreBrought heap c (map (λ (w : WorkspaceValue). w.worker) workspaces) reports blocks large → AreBrought v.heap v.collection (map worker_of v.members) reports blocks large
  brought_in reports blocks large b =
      subst (λ ws. AreBrought v.heap v.collection ws reports blocks large) (ap (map (λ (w : WorkspaceValue). w.worker)) their ∙ workers_are v.members)
      (subst (λ d. AreBrought v.heap d (map (λ (w : WorkspaceValue). w.worker) workspaces) reports blocks large) same_collection
      (subst (λ h. AreBrought h c (map (λ (w : WorkspaceValue). w.worker) workspaces) reports blocks large) same_heap b))

  -- what putting the large objects at their places asks for, and what it gives
  pub opened_in : IsInterleaved v → IsOpened heap c.generation c
  opened_in k = subst (λ h. IsOpened h c.generation c) (sym same_heap) (subst (λ (d : CollectionValue). IsOpened v.heap d.generation d) (sym same_collection) k.ready.opened)

  pub young_in : (large : List ℕ) → All (IsYoung v.heap.graph v.collection.generation) large → All (IsYoung heap.graph c.generation) large
  young_in large all =
      subst (λ (h : HeapValue). All (IsYoung h.graph c.generation) large) (sym same_heap)
      (subst (λ (d : CollectionValue). All (IsYoung v.heap.graph d.generation) large) (sym same_collection) all)

  pub shown_so : (large : List ℕ) (old new : List (Option Place)) → AreShown heap c large old new → AreShown v.heap v.collection large old new
  shown_so large old new shown = subst (λ h. AreShown h v.collection large old new) same_heap (subst (λ d. AreShown heap d large old new) same_collection shown)
