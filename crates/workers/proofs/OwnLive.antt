-- All that a worker has is live, if its start slots and what it takes are.
use Rattle.std.proofs.Common.{◌≡◌, ℕ, Bool, true, false, List, [], ◌∷◌, Option, Some, None, refl, subst, cond}
use Rattle.workers.proofs.Lists.{Each, OnSome, Each-append, Each-updated, Each-set, Each-get, Each-left, Each-right, either}
use Rattle.std.specs.Prelude.{slice_get}
use Rattle.std.specs.Option.{option_and_then, option_map}
use Rattle.workers.specs.Block.{Block, Copy, empty_block, has_unscanned, front_copy, with_field, with_copy, with_front_moved}
use Rattle.workers.specs.Setting.{Setting, old_field, is_collected, is_large_name, destination_of}
use Rattle.workers.specs.Worker.{Worker, Proposal, Copied, Claimed, Hand, Nothing, Open, Holding, HoldingLarge, allocation_at, current_in, current_object}
use Rattle.workers.specs.WorkerSteps.{slot_of_starts, current_slot, write_hand, finish_first, finish_slot, draws_for, is_open_at, retired, with_new_block, propose_into, look_at, look_slot, after_look, race_of, scan_block, scan_open, scan_hand, log_scan, without_oldest, claim_first}
use Rattle.workers.specs.WorkerRun.{WorkerRun, stay, go, Act, Looked, Raced, Scanned, Exported, Took, Owned, OwnedLarge, after, History, noted}

module _ (L : ℕ → Type 0) where
  abbrev pub BlockLive : Block → Type 0
  BlockLive b = Each (λ c. L c.name) b.copies

  abbrev pub ProposalLive : Proposal → Type 0
  ProposalLive (Copied copy d) = L copy.name
  ProposalLive (Claimed name) = L name

  abbrev pub HandLive : Hand → Type 0
  HandLive Nothing = Unit {0}
  HandLive (Open d) = Unit {0}
  HandLive (Holding block) = BlockLive block
  HandLive (HoldingLarge name) = L name

  pub record OwnLive (w : Worker) : Type 0 where
    pub starts : Each L w.starts
    pub proposal : OnSome ProposalLive w.proposal
    pub hand : HandLive w.hand
    pub allocation : Each (OnSome BlockLive) w.allocation
    pub aside : Each BlockLive w.aside
    pub done : Each BlockLive w.done
    pub large : Each L w.large
    pub large_done : Each L w.large_done
    pub won : Each (λ p. L p.0) w.won

  field_live : (i : ℕ) (v : Option ℕ) (b : Block) → BlockLive b → BlockLive (with_field i v b)
  field_live i v b h = Each-updated _ _ (λ c k. k) b.copies b.front h

  then_live : (f : Block → Block) → ((b : Block) → BlockLive b → BlockLive (f b)) → (o : Option Block) → OnSome BlockLive o → OnSome BlockLive (option_and_then (λ b. Some (f b)) o)
  then_live f k None h = h
  then_live f k (Some b) h = k b h

  allocation_live : (w : Worker) → OwnLive w → (d : ℕ) → OnSome BlockLive (allocation_at w d)
  allocation_live w h d = go (slice_get w.allocation d) (Each-get (OnSome BlockLive) w.allocation d h.allocation)
    where
      go : (o : Option (Option Block)) → OnSome (OnSome BlockLive) o → OnSome BlockLive (option_and_then (λ b. b) o)
      go None k = tt
      go (Some b) k = k

  write_live : (v : Option ℕ) (w : Worker) (hand : Hand) → w.hand ≡ hand → OwnLive w → OwnLive (write_hand v w hand)
  write_live v w Nothing e h = h
  write_live v w (Open d) e h = record { starts = h.starts; proposal = h.proposal; hand = h.hand; allocation = Each-updated (OnSome BlockLive) _ (then_live (with_field w.fields v) (field_live w.fields v)) w.allocation d h.allocation; aside = h.aside; done = h.done; large = h.large; large_done = h.large_done; won = h.won }
  write_live v w (Holding b) e h = record { starts = h.starts; proposal = h.proposal; hand = field_live w.fields v b (subst HandLive e h.hand); allocation = h.allocation; aside = h.aside; done = h.done; large = h.large; large_done = h.large_done; won = h.won }
  write_live v w (HoldingLarge n) e h = record { starts = h.starts; proposal = h.proposal; hand = h.hand; allocation = h.allocation; aside = h.aside; done = h.done; large = h.large; large_done = h.large_done; won = h.won }

  finish_live : (v : Option ℕ) (w : Worker) → OwnLive w → OwnLive (finish_slot v w)
  finish_live v w h = go w.starts refl
    where
      go : (xs : List ℕ) → w.starts ≡ xs → OwnLive (finish_first v w xs)
      go [] e = write_live v w w.hand refl h
      go (x ∷ xs) e = record { starts = (subst (Each L) e h.starts).1; proposal = h.proposal; hand = h.hand; allocation = h.allocation; aside = h.aside; done = h.done; large = h.large; large_done = h.large_done; won = h.won }

  retired_live : (w : Worker) (d : ℕ) (o : Option Block) → OnSome BlockLive o → OwnLive w → OwnLive (retired w d o)
  retired_live w d None k h = h
  retired_live w d (Some b) k h =
      either OwnLive (is_open_at d w.hand) _ _
      (record { starts = h.starts; proposal = h.proposal; hand = k; allocation = h.allocation; aside = h.aside; done = h.done; large = h.large; large_done = h.large_done; won = h.won })
      (either OwnLive (has_unscanned b) _ _
      (record { starts = h.starts; proposal = h.proposal; hand = h.hand; allocation = h.allocation; aside = Each-append BlockLive w.aside (b ∷ []) h.aside (k, tt); done = h.done; large = h.large; large_done = h.large_done; won = h.won })
      (record { starts = h.starts; proposal = h.proposal; hand = h.hand; allocation = h.allocation; aside = h.aside; done = Each-append BlockLive w.done (b ∷ []) h.done (k, tt); large = h.large; large_done = h.large_done; won = h.won }))

  new_block_live : (w : Worker) (d number : ℕ) → OwnLive w → OwnLive (with_new_block w d number)
  new_block_live w d number h =
      let r : OwnLive (retired w d (allocation_at w d)) = retired_live w d (allocation_at w d) (allocation_live w h d) h in
      record { starts = r.starts; proposal = r.proposal; hand = r.hand; allocation = Each-set (OnSome BlockLive) w.allocation d (Some (empty_block number d)) tt h.allocation; aside = r.aside; done = r.done; large = r.large; large_done = r.large_done; won = r.won }

  -- the current object is live
  front_live : (b : Block) → BlockLive b → OnSome (λ (c : Copy). L c.name) (front_copy b)
  front_live b h = Each-get (λ (c : Copy). L c.name) b.copies b.front h

  named_live : (o : Option Copy) → OnSome (λ (c : Copy). L c.name) o → OnSome (λ (c : ℕ × ℕ). L c.0) (option_map (λ (c : Copy). (c.name, c.place)) o)
  named_live None h = tt
  named_live (Some c) h = h

  open_front_live : (o : Option Block) → OnSome BlockLive o → OnSome (λ (c : Copy). L c.name) (option_and_then front_copy o)
  open_front_live None h = tt
  open_front_live (Some b) h = front_live b h

  current_in_live : (w : Worker) → OwnLive w → (hand : Hand) → HandLive hand → OnSome (λ (c : ℕ × ℕ). L c.0) (current_in w hand)
  current_in_live w h Nothing k = tt
  current_in_live w h (Open d) k = named_live _ (open_front_live (allocation_at w d) (allocation_live w h d))
  current_in_live w h (Holding b) k = named_live _ (front_live b k)
  current_in_live w h (HoldingLarge n) k = k

  scan_block_live : (w : Worker) (b : Block) → BlockLive b → OwnLive w → OwnLive (scan_block w b)
  scan_block_live w b k h =
      either OwnLive (has_unscanned b) _ _
      (record { starts = h.starts; proposal = h.proposal; hand = k; allocation = h.allocation; aside = h.aside; done = h.done; large = h.large; large_done = h.large_done; won = h.won })
      (record { starts = h.starts; proposal = h.proposal; hand = tt; allocation = h.allocation; aside = h.aside; done = Each-append BlockLive w.done (b ∷ []) h.done (k, tt); large = h.large; large_done = h.large_done; won = h.won })

  scan_open_live : (w : Worker) (d : ℕ) (o : Option Block) → OnSome BlockLive o → OwnLive w → OwnLive (scan_open w d o)
  scan_open_live w d None k h = h
  scan_open_live w d (Some b) k h =
      record {
        starts = h.starts;
        proposal = h.proposal;
        hand = either HandLive (has_unscanned b) (Open d) Nothing tt tt;
        allocation = Each-set (OnSome BlockLive) w.allocation d (Some b) k h.allocation;
        aside = h.aside;
        done = h.done;
        large = h.large;
        large_done = h.large_done;
        won = h.won;
      }

  scan_hand_live : (w : Worker) (hand : Hand) → HandLive hand → OwnLive w → OwnLive (scan_hand w hand)
  scan_hand_live w Nothing k h = h
  scan_hand_live w (Open d) k h = scan_open_live w d _ (then_live with_front_moved (λ b m. m) (allocation_at w d) (allocation_live w h d)) h
  scan_hand_live w (Holding b) k h = scan_block_live w (with_front_moved b) k h
  scan_hand_live w (HoldingLarge n) k h =
      record { starts = h.starts; proposal = h.proposal; hand = tt; allocation = h.allocation; aside = h.aside; done = h.done; large = h.large; large_done = Each-append L w.large_done (n ∷ []) h.large_done (k, tt); won = h.won }

  log_live : (w : Worker) (o : Option (ℕ × ℕ)) → OwnLive w → OwnLive (log_scan w o)
  log_live w None h = h
  log_live w (Some c) h = record { starts = h.starts; proposal = h.proposal; hand = h.hand; allocation = h.allocation; aside = h.aside; done = h.done; large = h.large; large_done = h.large_done; won = h.won }

  log_hand : (w : Worker) (o : Option (ℕ × ℕ)) → HandLive w.hand → HandLive (log_scan w o).hand
  log_hand w None h = h
  log_hand w (Some c) h = h

  race_live : (w : Worker) (o : Option Proposal) (lost : Option ℕ) → OnSome ProposalLive o → OwnLive w → OwnLive (race_of w o lost)
  race_live w None lost p h = h
  race_live w (Some (Copied copy d)) (Some place) p h = finish_live _ _ (record { starts = h.starts; proposal = tt; hand = h.hand; allocation = h.allocation; aside = h.aside; done = h.done; large = h.large; large_done = h.large_done; won = h.won })
  race_live w (Some (Claimed name)) (Some place) p h = finish_live _ _ (record { starts = h.starts; proposal = tt; hand = h.hand; allocation = h.allocation; aside = h.aside; done = h.done; large = h.large; large_done = h.large_done; won = h.won })
  race_live w (Some (Copied copy d)) None p h =
      finish_live _ _ (record {
        starts = h.starts;
        proposal = tt;
        hand = h.hand;
        allocation = Each-updated (OnSome BlockLive) _ (then_live (with_copy copy) (λ b k. Each-append (λ (c : Copy). L c.name) b.copies (copy ∷ []) k (p, tt))) w.allocation d h.allocation;
        aside = h.aside;
        done = h.done;
        large = h.large;
        large_done = h.large_done;
        won = Each-append (λ (q : ℕ × ℕ). L q.0) w.won _ h.won (p, tt);
      })
  race_live w (Some (Claimed name)) None p h =
      finish_live _ _ (record {
        starts = h.starts;
        proposal = tt;
        hand = h.hand;
        allocation = h.allocation;
        aside = h.aside;
        done = h.done;
        large = Each-append L w.large _ h.large (p, tt);
        large_done = h.large_done;
        won = Each-append (λ (q : ℕ × ℕ). L q.0) w.won _ h.won (p, tt);
      })

  module _ (setting : Setting) (keep : (name i target : ℕ) → L name → old_field setting name i ≡ Some (Some target) → is_collected setting target ≡ true → L target) where
    slot_live : (current : Option (ℕ × ℕ)) (fields : ℕ) (starts : List ℕ) (name : ℕ) → OnSome (λ (c : ℕ × ℕ). L c.0) current → Each L starts → slot_of_starts setting current fields starts ≡ Some (Some name) → is_collected setting name ≡ true → L name
    slot_live current fields (x ∷ xs) name k s e y = let same : x ≡ name = cc in subst L same s.0
    slot_live None fields [] name k s e y = absurd (cc)
    slot_live (Some c) fields [] name k s e y = keep c.0 fields name k e y

    propose_live : (w : Worker) (name d : ℕ) (o : Option Block) → L name → OwnLive w → OwnLive (propose_into setting w name d o)
    propose_live w name d None l h = h
    propose_live w name d (Some b) l h = record { starts = h.starts; proposal = l; hand = h.hand; allocation = h.allocation; aside = h.aside; done = h.done; large = h.large; large_done = h.large_done; won = h.won }

    look_at_live : (w : Worker) (cell : Option ℕ) (number name : ℕ) → L name → OwnLive w → OwnLive (look_at setting w cell number name)
    look_at_live w (Some place) number name l h = finish_live (Some place) w h
    look_at_live w None number name l h =
        either OwnLive (is_large_name setting name) _ _
        (record { starts = h.starts; proposal = l; hand = h.hand; allocation = h.allocation; aside = h.aside; done = h.done; large = h.large; large_done = h.large_done; won = h.won })
        (propose_live _ name (destination_of setting name) _ l
        (either OwnLive (draws_for setting w name) _ _ (new_block_live w (destination_of setting name) number h) h))

    look_live : (w : Worker) (cell : Option ℕ) (number : ℕ) → OwnLive w → OwnLive (after_look setting w cell number)
    look_live w cell number h = go (current_slot setting w) refl
      where
        go : (o : Option (Option ℕ)) → current_slot setting w ≡ o → OwnLive (look_slot setting w cell number o)
        go None e = h
        go (Some None) e = finish_live None w h
        go (Some (Some name)) e = on (is_collected setting name) refl
          where
            on : (b : Bool) → is_collected setting name ≡ b → OwnLive (cond b (look_at setting w cell number name) (finish_slot (Some name) w))
            on true y = look_at_live w cell number name (slot_live (current_object w) w.fields w.starts name (current_in_live w h w.hand h.hand) h.starts e y) h
            on false y = finish_live (Some name) w h

    abbrev pub TakesLive : Act → Type 0
    TakesLive (Took block) = BlockLive block
    TakesLive (Looked cell number) = Unit {0}
    TakesLive (Raced lost) = Unit {0}
    TakesLive Scanned = Unit {0}
    TakesLive Exported = Unit {0}
    TakesLive (Owned d) = Unit {0}
    TakesLive OwnedLarge = Unit {0}

    pub act_live : (w : Worker) (act : Act) → TakesLive act → OwnLive w → OwnLive (after setting w act)
    act_live w (Looked cell number) t h = look_live w cell number h
    act_live w (Raced lost) t h = race_live w w.proposal lost h.proposal h
    act_live w Scanned t h = scan_hand_live (log_scan w (current_object w)) w.hand h.hand (log_live w (current_object w) h)
    act_live w Exported t h = go w.aside refl
      where
        go : (bs : List Block) → w.aside ≡ bs → OwnLive (without_oldest w bs)
        go [] e = h
        go (b ∷ bs) e = record { starts = h.starts; proposal = h.proposal; hand = h.hand; allocation = h.allocation; aside = (subst (Each BlockLive) e h.aside).1; done = h.done; large = h.large; large_done = h.large_done; won = h.won }
    act_live w (Took block) t h = record { starts = h.starts; proposal = h.proposal; hand = t; allocation = h.allocation; aside = h.aside; done = h.done; large = h.large; large_done = h.large_done; won = h.won }
    act_live w (Owned d) t h = record { starts = h.starts; proposal = h.proposal; hand = tt; allocation = h.allocation; aside = h.aside; done = h.done; large = h.large; large_done = h.large_done; won = h.won }
    act_live w OwnedLarge t h = go w.large refl
      where
        go : (ns : List ℕ) → w.large ≡ ns → OwnLive (claim_first w ns)
        go [] e = h
        go (n ∷ ns) e = let s = subst (Each L) e h.large in record { starts = h.starts; proposal = h.proposal; hand = s.0; allocation = h.allocation; aside = h.aside; done = h.done; large = s.1; large_done = h.large_done; won = h.won }

    takes_live : (w : Worker) (act : Act) (k : History) → Each BlockLive (noted setting w act k).taken → TakesLive act × Each BlockLive k.taken
    takes_live w (Looked cell number) k t = (tt, t)
    takes_live w (Raced lost) k t = (tt, t)
    takes_live w Scanned k t = (tt, t)
    takes_live w Exported k t = (tt, t)
    takes_live w (Took block) k t = ((Each-right BlockLive k.taken (block ∷ []) t).0, Each-left BlockLive k.taken (block ∷ []) t)
    takes_live w (Owned d) k t = (tt, t)
    takes_live w OwnedLarge k t = (tt, t)

    -- all that a worker has after a run of its own is live
    pub run_live : {start w : Worker} {k : History} → WorkerRun setting start w k → Each BlockLive k.taken → OwnLive start → OwnLive w
    run_live stay t h = h
    run_live (go {w = w} {h = k} act run can) t h = let p = takes_live w act k t in act_live w act p.0 (run_live run p.1 h)
