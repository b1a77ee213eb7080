-- What threads brought may be committed, and each place was scanned once.
use Rattle.std.proofs.Common.{◌≡◌, ℕ, ◌+◌, ◌<◌, ◌≤◌, List, [], ◌∷◌, ◌++◌, All, map, Option, Some, None, refl, sym, ap, subst, ◌∙◌, arith, nat_eq}
use Rattle.std.proofs.lemmas.List.{map-append}
use Rattle.std.specs.Prelude.{flat_map, slice_index}
use Rattle.model.specs.Live.{IsYoung}
use Rattle.layout.specs.declared.place.Place.{Place}
use Rattle.block_pool.specs.BlockValue.{BlockValue}
use Rattle.forwarding.specs.Settled as settled
use Rattle.steps.specs.ReportValue.{WorkerLists, all_won, renaming_of}
use Rattle.steps.specs.CollectionValue.{young_names}
use Rattle.steps.specs.SettledValue.{IsSettled}
use Rattle.workers.specs.Worker.{Worker}
use Rattle.workers.specs.Total.{total, one_if, times, wins_of, ones}
use Rattle.workers.specs.Joined.{Part, blocks_of}
use Rattle.workers.specs.Kept.{won_lists}
use Rattle.settling.specs.Brings.{left_blocks}
use Rattle.settling.proofs.Bridge.{settled as may_settle}
use Rattle.settling.proofs.LargeDone.{held_of, large_young, places_show}
use Rattle.settling.proofs.Blocks.{times-places}
use Rattle.workers_in_threads.specs.SharingValue.{forwarded_in}
use Rattle.workers_in_threads.specs.Threads.{Gathered, KeptBy, placed_in}
use Rattle.workers_in_threads.specs.Reported.{Reported, workers_of}
use Rattle.workers_in_threads.proofs.Lists.{total-append}
use Rattle.workers_in_threads.proofs.Named.{name_at, found_named, found_once, wins_named}
use Rattle.workers_in_threads.proofs.Joined.{threads_keep, in_range, given_each, cells_are, pairs, given}

abbrev joined_lists : {X : Type 0} → List (List X) → List X
joined_lists xss = flat_map (λ xs. xs) xss

joined_map : {X Y : Type 0} (f : X → List Y) (xs : List X) → flat_map f xs ≡ joined_lists (map f xs)
joined_map f [] = refl
joined_map f (x ∷ xs) = ap (λ ys. f x ++ ys) (joined_map f xs)

renamed_joined : (names : List ℕ) (reports : List WorkerLists) → renaming_of names (all_won reports) ≡ joined_lists (map (λ (l : WorkerLists). renaming_of names l.won) reports)
renamed_joined names [] = refl
renamed_joined names (l ∷ ls) = map-append _ l.won (all_won ls) ∙ ap (λ xs. renaming_of names l.won ++ xs) (renamed_joined names ls)

parts_won : (ps : List Part) → won_lists ps ≡ flat_map (λ (w : Worker). w.won) (map (λ (p : Part). p.final) ps)
parts_won [] = refl
parts_won (p ∷ ps) = ap (λ xs. p.final.won ++ xs) (parts_won ps)

parts_left : (ps : List Part) → left_blocks ps ≡ flat_map blocks_of (map (λ (p : Part). p.final) ps)
parts_left [] = refl
parts_left (p ∷ ps) = ap (λ xs. blocks_of p.final ++ xs) (parts_left ps)

module _ {P A : Type 0} {known : P → ℕ → Option Place} {won : P → List (ℕ × Place)} (all : Gathered P A known won) where
  kept_by : KeptBy all
  kept_by = threads_keep all

  -- each cell shows where its name was placed
  cell_shows : (number : ℕ) → number < all.collection.cells → (held : Option Place) → given all number ≡ held
      → held_of all.heap (slice_index (young_names all.heap.graph all.collection.generation) number) held ≡ placed_in all (slice_index (young_names all.heap.graph all.collection.generation) number)
  cell_shows number lt (Some place) e =
      let w : settled.wins_of number (pairs all) ≡ 1 = all.settled.once number ∙ ap settled.ones e in
      sym (found_named all.heap all.collection (cells_are all) (given all) number place lt e (pairs all) (in_range all) (given_each all) (omega (arith, w)))
  cell_shows number lt None e =
      let w : settled.wins_of number (pairs all) ≡ 0 = all.settled.once number ∙ ap settled.ones e in
      let n : wins_of (name_at all.heap all.collection (cells_are all) number) (forwarded_in all.heap all.collection (pairs all)) ≡ 0 = wins_named all.heap all.collection (cells_are all) number lt (pairs all) (in_range all) ∙ w in
      let f : ones (placed_in all (name_at all.heap all.collection (cells_are all) number)) ≡ 0 = sym (found_once (name_at all.heap all.collection (cells_are all) number) (forwarded_in all.heap all.collection (pairs all)) (omega (arith, n))) ∙ n in
      none_of (placed_in all (name_at all.heap all.collection (cells_are all) number)) f
    where
      none_of : (o : Option ℕ) → ones o ≡ 0 → None ≡ o
      none_of None z = refl
      none_of (Some x) z = absurd (omega (arith, z))

  -- the large objects that they scanned
  abbrev large : List ℕ
  large = flat_map (λ (w : Worker). w.large_done) (workers_of all.threads)

  large_is : large ≡ flat_map (λ (w : Worker). w.large_done) (map (λ (p : Part). p.final) kept_by.parts)
  large_is = ap (flat_map (λ (w : Worker). w.large_done)) (sym kept_by.finals)

  -- they are numbered
  pub threads_young : All (IsYoung all.heap.graph all.collection.generation) large
  threads_young =
      subst (All (IsYoung all.heap.graph all.collection.generation)) (sym large_is)
      (large_young all.heap all.collection all.ready.sound all.workers (placed_in all) kept_by.parts kept_by.kept kept_by.drawn_free)

  module _ (reports : List WorkerLists) (blocks : List BlockValue) (places : List (Option Place)) (r : Reported all reports blocks places) where
    won_is : won_lists kept_by.parts ≡ flat_map (λ (w : Worker). w.won) (workers_of all.threads)
    won_is = parts_won kept_by.parts ∙ ap (flat_map (λ (w : Worker). w.won)) kept_by.finals

    renamed_is : renaming_of (young_names all.heap.graph all.collection.generation) (all_won reports) ≡ won_lists kept_by.parts
    renamed_is = renamed_joined (young_names all.heap.graph all.collection.generation) reports ∙ ap joined_lists r.won_are ∙ sym (joined_map (λ (w : Worker). w.won) (workers_of all.threads)) ∙ sym won_is

    -- it may be committed
    pub threads_settle : IsSettled all.heap all.collection places blocks (all_won reports)
    threads_settle =
        may_settle all.heap all.collection all.workers (placed_in all) kept_by.parts places blocks (all_won reports)
        (record {
          opened = all.ready.opened;
          kept = kept_by.kept;
          few_words = all.ready.range.most_words;
          some_step = all.ready.range.some_step;
          blocks_are = r.left ∙ sym (parts_left kept_by.parts ∙ ap (flat_map blocks_of) kept_by.finals);
          whole = r.whole;
          drawn_free = kept_by.drawn_free;
          won_are = renamed_is;
          numbers = r.numbers;
          places_count = r.count;
          places_are = λ number lt.
              places_show all.heap all.collection all.ready.sound all.workers (placed_in all) kept_by.parts kept_by.kept kept_by.drawn_free large large_is all.places places r.shown number lt
              (given all number) refl (cell_shows number lt (given all number) refl);
        })

    scanned_parts : (place : ℕ) (ps : List Part) → times place (flat_map (λ (w : Worker). w.scanned) (map (λ (p : Part). p.final) ps)) ≡ total (λ (p : Part). times place p.final.scanned) ps
    scanned_parts place [] = refl
    scanned_parts place (p ∷ ps) = total-append (λ x. one_if (nat_eq x place)) p.final.scanned _ ∙ ap (λ n. times place p.final.scanned + n) (scanned_parts place ps)

    same_places : (names : List ℕ) (won : List (ℕ × ℕ)) → map (λ (q : ℕ × ℕ). q.1) (renaming_of names won) ≡ map (λ (q : ℕ × ℕ). q.1) won
    same_places names [] = refl
    same_places names (e ∷ es) = ap (λ xs. e.1 ∷ xs) (same_places names es)

    -- each name was won at most once
    pub threads_won_once : (name : ℕ) → wins_of name (renaming_of (young_names all.heap.graph all.collection.generation) (all_won reports)) ≤ 1
    threads_won_once name =
        let e : wins_of name (renaming_of (young_names all.heap.graph all.collection.generation) (all_won reports)) ≡ ones (placed_in all name) = ap (wins_of name) renamed_is ∙ kept_by.kept.won_once name in
        let l = at_most_one (placed_in all name) in omega (arith, e, l)
      where
        at_most_one : (o : Option ℕ) → ones o ≤ 1
        at_most_one None = omega arith
        at_most_one (Some x) = omega arith

    -- and each place that was won was scanned as often as it was won
    pub threads_scanned_once : (place : ℕ) → times place (flat_map (λ (l : WorkerLists). l.scanned) reports) ≡ times place (map (λ (e : ℕ × ℕ). e.1) (all_won reports))
    threads_scanned_once place =
        ap (times place) (joined_map (λ (l : WorkerLists). l.scanned) reports ∙ ap joined_lists r.scanned_are ∙ sym (joined_map (λ (w : Worker). w.scanned) (workers_of all.threads)) ∙ ap (flat_map (λ (w : Worker). w.scanned)) (sym kept_by.finals))
        ∙ scanned_parts place kept_by.parts ∙ kept_by.kept.scanned_once place ∙ sym (times-places place (won_lists kept_by.parts))
        ∙ ap (λ ws. times place (map (λ (q : ℕ × ℕ). q.1) ws)) (sym renamed_is) ∙ ap (times place) (same_places (young_names all.heap.graph all.collection.generation) (all_won reports))
