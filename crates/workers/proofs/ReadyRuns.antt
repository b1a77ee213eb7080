-- What a worker's next call may rely on, and what it hands on, follow from its run.
use Rattle.std.proofs.Common.{◌≡◌, ◌≢◌, ℕ, ◌<◌, ◌≤◌, true, List, [], ◌∷◌, Option, Some, None, refl, sym, ap, subst, ◌∙◌, inl, inr, length, arith, drop, true≢false}
use Rattle.std.specs.Prelude.{IsSome}
use Rattle.std.specs.Option.{option_and_then, option_map, option_map_or}
use Rattle.model.specs.Graph.{Graph}
use Rattle.model.specs.Live.{Live}
use Rattle.model.specs.Destination.{Shape}
use Rattle.model.proofs.LiveLemmas.{Live-young}
use Rattle.workers.specs.Block.{Block, Copy, front_copy}
use Rattle.workers.specs.Setting.{Setting, setting_of, old_field, old_pointers, is_collected}
use Rattle.workers.specs.Worker.{Worker, Proposal, Copied, Claimed, Hand, Nothing, Open, Holding, HoldingLarge, allocation_at, current_in, current_object}
use Rattle.workers.specs.WorkerSteps.{slot_of_starts, current_slot, cell_wanted}
use Rattle.workers.specs.WorkerRun.{WorkerRun, stay, go, Looked, Raced, Scanned, Exported, Took, Owned, OwnedLarge, History, no_history, first_alone, proposed_name}
use Rattle.workers.specs.Joined.{Each, OnSome, IsOpening, Roomy}
use Rattle.model.specs.Collected.{IsLiveOrOlder}
use Rattle.workers.specs.Laid.{Laid}
use Rattle.workers.specs.Ready.{HasField, CanWrite, CanFinish, CanPass, IsUnscanned, copy_in, HoldsOld, IsUntouched, IsHanded, IsReady}
use Rattle.workers.proofs.Lists.{Each-append, Each-left, Each-zip, Each-map, at-none, get-lt}
use Rattle.workers.proofs.Moves.{HandFit, Fit, name_place, front_of, front_there}
use Rattle.workers.proofs.Acts.{run_moves, ProposalFit, wanted-slot}
use Rattle.workers.proofs.OnePart.{opening-fit}
use Rattle.workers.proofs.Whole.{young-collected}
use Rattle.workers.proofs.Laid.{LaidOut, moves_laid}
use Rattle.workers.proofs.Kept.{keep, opening_live, collected-young, young-not_older}
use Rattle.workers.proofs.OwnLive.{OwnLive, BlockLive, run_live}
use Rattle.workers.proofs.SystemFalls.{Sound, run_sound}
use Rattle.workers.proofs.ReadyCopies.{Ahead, IsYoungCopy, rest_each, each_rest, front_ahead}
use Rattle.workers.proofs.ReadyMoves.{HandAhead, Waits, Keeps, moves_keep}

some_there : {A : Type 0} (o : Option A) → IsSome o → (x : A) × (o ≡ Some x)
some_there None e = absurd (true≢false (sym e))
some_there (Some x) e = (x, refl)

module _ (setting : Setting) (w : Worker) where
  untouched_hand : (hand : Hand) → HandAhead setting w.fields hand w.allocation → HoldsOld setting w.fields (copy_in w hand)
  untouched_hand Nothing h = tt
  untouched_hand (Open d) h = go (allocation_at w d) h
    where
      go : (o : Option Block) → OnSome (Ahead setting w.fields) o → HoldsOld setting w.fields (option_and_then front_copy o)
      go None h = tt
      go (Some b) h = front_ahead setting w.fields b h
  untouched_hand (Holding b) h = front_ahead setting w.fields b h
  untouched_hand (HoldingLarge n) h = tt

  -- the current pointer of the front copy is there
  has_field : (c : Copy) → HoldsOld setting w.fields (Some c) → IsSome (old_field setting c.name w.fields) → w.fields < length c.pointers
  has_field c h i = let x = some_there (old_field setting c.name w.fields) i in get-lt c.pointers w.fields x.0 (h ∙ x.1)

  can_write : (hand : Hand) → HandFit w hand → HoldsOld setting w.fields (copy_in w hand) → IsSome (option_and_then (λ (c : ℕ × ℕ). old_field setting c.0 w.fields) (current_in w hand)) → CanWrite w hand
  can_write Nothing f h i = absurd (true≢false (sym i))
  can_write (Open d) f h i =
      let c = front_there f.0 f.1.1 in
      let a : option_and_then front_copy (allocation_at w d) ≡ Some c.0 = ap (option_and_then front_copy) f.1.0 ∙ c.1 in
      subst (HasField w.fields) (sym f.1.0) (c.0, c.1, has_field c.0 (subst (HoldsOld setting w.fields) a h) (subst (λ o. IsSome (option_and_then (λ (x : ℕ × ℕ). old_field setting x.0 w.fields) (option_map name_place o))) a i))
  can_write (Holding b) f h i =
      let c = front_there b f in
      (c.0, c.1, has_field c.0 (subst (HoldsOld setting w.fields) c.1 h) (subst (λ o. IsSome (option_and_then (λ (x : ℕ × ℕ). old_field setting x.0 w.fields) (option_map name_place o))) c.1 i))
  can_write (HoldingLarge n) f h i = tt

  can_finish : Fit w → IsUntouched setting w → (starts : List ℕ) → IsSome (slot_of_starts setting (current_object w) w.fields starts) → CanFinish w starts
  can_finish f h [] i = can_write w.hand f h i
  can_finish f h (x ∷ xs) i = tt

  can_pass : (hand : Hand) → HandFit w hand → hand ≢ Nothing → CanPass w hand
  can_pass Nothing f n = n refl
  can_pass (Open d) f n = subst IsUnscanned (sym f.1.0) f.1.1
  can_pass (Holding b) f n = f
  can_pass (HoldingLarge x) f n = tt

  -- what is proposed is the target of the current slot
  proposed_wanted : (p : Proposal) → ProposalFit setting w (Some p) → cell_wanted setting w ≡ Some (proposed_name p)
  proposed_wanted (Copied copy d) q = q.wanted
  proposed_wanted (Claimed n) q = q.0

  proposed_slot : (p : Proposal) → ProposalFit setting w w.proposal → w.proposal ≡ Some p → (current_slot setting w ≡ Some (Some (proposed_name p))) × (is_collected setting (proposed_name p) ≡ true)
  proposed_slot p q e = wanted-slot setting (current_slot setting w) (proposed_name p) (proposed_wanted p (subst (ProposalFit setting w) e q))

  abbrev Few : Option (ℕ × ℕ) → Type 0
  Few o = w.fields ≤ option_map_or (λ (c : ℕ × ℕ). length (old_pointers setting c.0)) o 0

  few_fields : (hand : Hand) → HandFit w hand → OnSome (λ (c : ℕ × ℕ). w.fields ≤ length (old_pointers setting c.0)) (current_in w hand) → Few (current_in w hand)
  few_fields Nothing f l = let z : w.fields ≡ 0 = f in omega arith
  few_fields (Open d) f l =
      let c = front_there f.0 f.1.1 in
      let a : current_in w (Open d) ≡ Some (name_place c.0) = ap front_of f.1.0 ∙ ap (option_map name_place) c.1 in
      subst Few (sym a) (subst (OnSome (λ (x : ℕ × ℕ). w.fields ≤ length (old_pointers setting x.0))) a l)
  few_fields (Holding b) f l =
      let c = front_there b f in
      let a : current_in w (Holding b) ≡ Some (name_place c.0) = ap (option_map name_place) c.1 in
      subst Few (sym a) (subst (OnSome (λ (x : ℕ × ℕ). w.fields ≤ length (old_pointers setting x.0))) a l)
  few_fields (HoldingLarge n) f l = l

module _ (setting : Setting) (start w : Worker) (h : History) (opening : IsOpening start) (room : Roomy setting start) (run : WorkerRun setting start w h) where
  keeps : Each (Ahead setting 0) h.taken → Keeps setting w
  keeps t =
      moves_keep setting (run_moves setting run (opening-fit start opening) room opening.no_proposal).moves (opening-fit start opening) t
      (λ d _. subst (OnSome (Ahead setting 0)) (sym (at-none start.allocation opening.no_allocation d)) tt, (subst (λ hand. HandAhead setting start.fields hand start.allocation) (sym opening.no_hand) tt, subst (Each (Waits setting)) (sym opening.no_aside) tt))

  aside_laid : Each (Laid setting) w.aside
  aside_laid =
      let l : LaidOut setting ⊥ w h = moves_laid setting ⊥ (run_moves setting run (opening-fit start opening) room opening.no_proposal).moves (λ x. absurd x) begins in l.aside
    where
      begins : LaidOut setting ⊥ start no_history
      begins =
          record {
            allocation = λ d. subst (OnSome _) (sym (at-none start.allocation opening.no_allocation d)) tt;
            hand = λ x. absurd x;
            aside = subst (Each (Laid setting)) (sym opening.no_aside) tt;
            done = λ x. absurd x;
            exported = tt;
          }

  ready : Each (Ahead setting 0) h.taken → IsReady setting w
  ready t =
      record {
        look = λ can. finish can.slot;
        race = λ some. (let p = some_there w.proposal some in finish (subst IsSome (sym (proposed_slot setting w p.0 s.proposal p.1).0) refl));
        scan = λ can. can_pass setting w w.hand s.fit can.hand;
        untouched = untouched;
        room = s.room;
        young = λ p e. (proposed_slot setting w p s.proposal e).1;
        fields = few_fields setting w w.hand s.fit s.fields;
      }
    where
      s : Sound setting w
      s = run_sound setting start w h opening room run

      untouched : IsUntouched setting w
      untouched = untouched_hand setting w w.hand (keeps t).1.0

      finish : IsSome (current_slot setting w) → CanFinish w w.starts
      finish i = can_finish setting w s.fit untouched w.starts i

module _ (graph : Graph) (g : ℕ) (shape : Shape) (block_words workers : ℕ) where
  abbrev setting : Setting
  setting = setting_of graph g shape block_words workers

  abbrev Handed : List Block → Type 0
  Handed bs = Each (IsHanded graph g shape block_words workers) bs

  handed_ahead : (bs : List Block) → Handed bs → Each (Ahead setting 0) bs
  handed_ahead bs h =
      Each-map (IsHanded graph g shape block_words workers) (Ahead setting 0)
      (λ b x. (Each-map (λ (c : Copy). Live graph g c.name) (IsYoungCopy setting) (λ c l. young-collected graph g shape block_words workers c.name (Live-young graph g c.name l)) b.copies x.live, each_rest setting (drop b.front b.copies) x.rest))
      bs h

  handed_live : (bs : List Block) → Handed bs → Each (BlockLive (IsLiveOrOlder graph g)) bs
  handed_live bs h = Each-map (IsHanded graph g shape block_words workers) (BlockLive (IsLiveOrOlder graph g)) (λ b x. Each-map (λ (c : Copy). Live graph g c.name) (λ (c : Copy). IsLiveOrOlder graph g c.name) (λ c l. inl l) b.copies x.live) bs h

  pub run_ready : (start w : Worker) (h : History) → IsOpening start → Roomy setting start → Handed h.taken → WorkerRun setting start w h → IsReady setting w
  run_ready start w h opening room taken run = ready setting start w h opening room run (handed_ahead h.taken taken)

  -- a copy of a collected object that is live or older is live
  young_live : (name : ℕ) → is_collected setting name ≡ true → IsLiveOrOlder graph g name → Live graph g name
  young_live name y (inl l) = l
  young_live name y (inr o) = absurd (young-not_older graph g shape block_words workers name (collected-young graph g shape block_words workers name y) o)

  aside_handed : (start w : Worker) (h : History) → IsOpening start → Roomy setting start → Each (IsLiveOrOlder graph g) start.starts → Handed h.taken → WorkerRun setting start w h → Handed w.aside
  aside_handed start w h opening room starts taken run =
      Each-map (λ (b : Block). (Waits setting b × Laid setting b) × BlockLive (IsLiveOrOlder graph g) b) (IsHanded graph g shape block_words workers)
      (λ b x.
      record {
        live = Each-map (λ (c : Copy). IsYoungCopy setting c × IsLiveOrOlder graph g c.name) (λ (c : Copy). Live graph g c.name) (λ c y. young_live c.name y.0 y.1) b.copies (Each-zip (IsYoungCopy setting) (λ (c : Copy). IsLiveOrOlder graph g c.name) b.copies x.0.0.0.0 x.1);
        laid = x.0.1;
        rest = rest_each setting (drop b.front b.copies) x.0.0.0.1;
        some = x.0.0.1;
      })
      w.aside
      (Each-zip (λ (b : Block). Waits setting b × Laid setting b) (BlockLive (IsLiveOrOlder graph g)) w.aside
      (Each-zip (Waits setting) (Laid setting) w.aside (keeps setting start w h opening room run (handed_ahead h.taken taken)).1.1 (aside_laid setting start w h opening room run))
      own.aside)
    where
      own : OwnLive (IsLiveOrOlder graph g) w
      own = run_live (IsLiveOrOlder graph g) setting (keep graph g shape block_words workers) run (handed_live h.taken taken) (opening_live graph g shape block_words workers start opening starts)

  first_handed : (bs : List Block) → Handed bs → Handed (first_alone bs)
  first_handed [] x = tt
  first_handed (b ∷ bs) x = (x.0, tt)

  -- what a worker handed on was its oldest aside
  sent_handed : (start : Worker) → IsOpening start → Roomy setting start → Each (IsLiveOrOlder graph g) start.starts → {w : Worker} {h : History} → WorkerRun setting start w h → Handed h.taken → Handed h.exported
  sent_handed start opening room starts stay t = tt
  sent_handed start opening room starts (go (Looked cell number) run can) t = sent_handed start opening room starts run t
  sent_handed start opening room starts (go (Raced lost) run can) t = sent_handed start opening room starts run t
  sent_handed start opening room starts (go Scanned run can) t = sent_handed start opening room starts run t
  sent_handed start opening room starts (go {w = w} {h = h} Exported run can) t =
      Each-append (IsHanded graph g shape block_words workers) h.exported (first_alone w.aside) (sent_handed start opening room starts run t) (first_handed w.aside (aside_handed start w h opening room starts t run))
  sent_handed start opening room starts (go {h = h} (Took block) run can) t = sent_handed start opening room starts run (Each-left (IsHanded graph g shape block_words workers) h.taken (block ∷ []) t)
  sent_handed start opening room starts (go (Owned d) run can) t = sent_handed start opening room starts run t
  sent_handed start opening room starts (go OwnedLarge run can) t = sent_handed start opening room starts run t

  pub exports_handed : (start w : Worker) (h : History) → IsOpening start → Roomy setting start → Each (IsLiveOrOlder graph g) start.starts → Handed h.taken → WorkerRun setting start w h → Handed w.aside × Handed h.exported
  exports_handed start w h opening room starts taken run = (aside_handed start w h opening room starts taken run, sent_handed start opening room starts run taken)
