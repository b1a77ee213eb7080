-- The parts of the workers, one after another.
use Rattle.std.proofs.Common.{◌≡◌, ℕ, ◌<◌, List, [], ◌∷◌, ◌++◌, length, map, Option, refl, sym, ap, subst, ◌∙◌, arith, append_assoc}
use Rattle.std.proofs.lemmas.List.{append-nil, map-append}
use Rattle.std.proofs.lemmas.List.Concat.{flat_map-append}
use Rattle.std.proofs.lemmas.List.Elements.{All-nil, All-append}
use Rattle.std.specs.Prelude.{All, flat_map}
use Rattle.std.specs.Option.{option_map}
use Rattle.block_pool.specs.BlockValue.{BlockValue}
use Rattle.steps.specs.HeapValue.{HeapValue}
use Rattle.steps.specs.CollectionValue.{CollectionValue, young_names}
use Rattle.steps.specs.ReportValue.{WorkerLists, all_won, renaming_of}
use Rattle.workers.specs.Worker.{Worker}
use Rattle.workers.specs.Joined.{Each, OnSome, somes, blocks_of}
use Rattle.scavenge.specs.Named.{named, IsWhole}
use Rattle.scavenge.specs.Fronts.{slot_at}
use Rattle.scavenge.specs.Shown.{WorkspaceValue}
use Rattle.settling.proofs.Blocks.{somes-map, somes_each}
use Rattle.settling.specs.Telling.{IsAtRest, IsPartOf, AreBrought}

pub Each-append : {A : Type 0} (P : A → Type 0) (xs ys : List A) → Each P xs → Each P ys → Each P (xs ++ ys)
Each-append P [] ys h k = k
Each-append P (x ∷ xs) ys h k = (h.0, Each-append P xs ys h.1 k)

-- the blocks of one worker
module _ (heap : HeapValue) (w : WorkspaceValue) (config : w.config ≡ heap.config) (allocation : List (Option BlockValue)) (done blocks : List BlockValue) (are : blocks ≡ somes allocation ++ done) where
  pub blocks_left : map (option_map (named w.config.shape)) allocation ≡ w.worker.allocation → map (named w.config.shape) done ≡ w.worker.done → map (named heap.config.shape) blocks ≡ blocks_of w.worker
  blocks_left a d =
      subst (λ c. map (named c.shape) blocks ≡ blocks_of w.worker) config
      (ap (map (named w.config.shape)) are ∙ map-append (named w.config.shape) (somes allocation) done
      ∙ ap (λ bs. bs ++ map (named w.config.shape) done) (somes-map w.config.shape allocation ∙ ap somes a) ∙ ap (λ bs. somes w.worker.allocation ++ bs) d)

  pub blocks_whole : ((d : ℕ) → OnSome (IsWhole w.config.shape w.config.block_words) (slot_at allocation d)) → Each (IsWhole w.config.shape w.config.block_words) done → Each (IsWhole heap.config.shape heap.config.block_words) blocks
  blocks_whole a d = subst (λ c. Each (IsWhole c.shape c.block_words) blocks) config (subst (Each (IsWhole w.config.shape w.config.block_words)) (sym are) (somes_each (IsWhole w.config.shape w.config.block_words) allocation done a d))

abbrev pub worker_of : WorkspaceValue → Worker
worker_of w = w.worker

-- some workers were taken apart, the others weren't
pub record BroughtSoFar (heap : HeapValue) (c : CollectionValue) (all rest : List WorkspaceValue) (reports : List WorkerLists) (blocks : List BlockValue) (large : List ℕ) : Type 0 where
  pub before : List WorkspaceValue
  pub split : before ++ rest ≡ all
  pub others : Each (λ (m : WorkspaceValue). IsAtRest heap c m) rest
  pub brought : AreBrought heap c (map worker_of before) reports blocks large

module _ (heap : HeapValue) (c : CollectionValue) (all : List WorkspaceValue) where
  pub brought_none : Each (λ (m : WorkspaceValue). IsAtRest heap c m) all → BroughtSoFar heap c all all [] [] []
  brought_none h = record { before = []; split = refl; others = h; brought = record { reported = record { won = refl; scanned = refl }; numbers = All-nil (λ (e : ℕ × ℕ). e.0 < c.cells); left = refl; whole = tt; large_are = refl } }

  pub brought_more : (m : WorkspaceValue) (rest : List WorkspaceValue) (reports : List WorkerLists) (report : WorkerLists) (blocks left : List BlockValue) (large claimed : List ℕ) → BroughtSoFar heap c all (m ∷ rest) reports blocks large → IsPartOf heap c m.worker report left claimed → BroughtSoFar heap c all rest (reports ++ report ∷ []) (blocks ++ left) (large ++ claimed)
  brought_more m rest reports report blocks left large claimed k part =
      record {
        before = k.before ++ m ∷ [];
        split = append_assoc k.before (m ∷ []) rest ∙ k.split;
        others = k.others.1;
        brought = record {
          reported = record {
            won = map-append renamed reports (report ∷ []) ∙ ap (λ xs. xs ++ renamed report ∷ []) k.brought.reported.won ∙ ap (λ x. map (λ (w : Worker). w.won) (map worker_of k.before) ++ x ∷ []) part.won ∙ sym (of_more (λ (w : Worker). w.won));
            scanned = map-append (λ (l : WorkerLists). l.scanned) reports (report ∷ []) ∙ ap (λ xs. xs ++ report.scanned ∷ []) k.brought.reported.scanned ∙ ap (λ x. map (λ (w : Worker). w.scanned) (map worker_of k.before) ++ x ∷ []) part.scanned ∙ sym (of_more (λ (w : Worker). w.scanned));
          };
          numbers = subst (All (λ (e : ℕ × ℕ). e.0 < c.cells)) (sym (flat_map-append (λ (l : WorkerLists). l.won) reports (report ∷ []) ∙ ap (λ xs. all_won reports ++ xs) (append-nil report.won)))
              (All-append (λ (e : ℕ × ℕ). e.0 < c.cells) (all_won reports) report.won k.brought.numbers part.numbers);
          left = map-append (named heap.config.shape) blocks left ∙ ap (λ xs. xs ++ map (named heap.config.shape) left) k.brought.left ∙ ap (λ xs. flat_map blocks_of (map worker_of k.before) ++ xs) part.left ∙ sym (joined_more blocks_of);
          whole = Each-append (IsWhole heap.config.shape heap.config.block_words) blocks left k.brought.whole part.whole;
          large_are = ap (λ xs. xs ++ claimed) k.brought.large_are ∙ ap (λ xs. flat_map (λ (w : Worker). w.large_done) (map worker_of k.before) ++ xs) part.large_are ∙ sym (joined_more (λ (w : Worker). w.large_done));
        };
      }
    where
      renamed : WorkerLists → List (ℕ × ℕ)
      renamed l = renaming_of (young_names heap.graph c.generation) l.won

      of_more : {A : Type 0} (f : Worker → A) → map f (map worker_of (k.before ++ m ∷ [])) ≡ map f (map worker_of k.before) ++ f m.worker ∷ []
      of_more f = ap (map f) (map-append worker_of k.before (m ∷ [])) ∙ map-append f (map worker_of k.before) (m.worker ∷ [])

      joined_more : {A : Type 0} (f : Worker → List A) → flat_map f (map worker_of (k.before ++ m ∷ [])) ≡ flat_map f (map worker_of k.before) ++ f m.worker
      joined_more f = ap (flat_map f) (map-append worker_of k.before (m ∷ [])) ∙ flat_map-append f (map worker_of k.before) (m.worker ∷ []) ∙ ap (λ xs. flat_map f (map worker_of k.before) ++ xs) (append-nil (f m.worker))

  pub brought_all : (rest : List WorkspaceValue) (reports : List WorkerLists) (blocks : List BlockValue) (large : List ℕ) → length rest ≡ 0 → BroughtSoFar heap c all rest reports blocks large → AreBrought heap c (map worker_of all) reports blocks large
  brought_all [] reports blocks large none k = subst (λ ms. AreBrought heap c (map worker_of ms) reports blocks large) (sym (append-nil k.before) ∙ k.split) k.brought
  brought_all (m ∷ rest) reports blocks large none k = absurd (omega (arith, none))
