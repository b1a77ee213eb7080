-- A race for the place behind the last copy, and the copy that is made once it is won, are a proposal and the race for it.
use Rattle.std.proofs.Common.{◌≡◌, ℕ, ◌<◌, ◌++◌, ◌∷◌, [], List, length, set, Option, Some, None, refl, sym, ap, subst, ◌∙◌}
use Rattle.std.specs.Prelude.{slice_get}
use Rattle.std.specs.Option.{option_and_then}
use Rattle.model.specs.Destination.{Shape}
use Rattle.layout.specs.declared.place.Place.{Place}
use Rattle.layout.specs.Object.{Raw}
use Rattle.layout.specs.Place.{place_word, small_word}
use Rattle.block_pool.specs.BlockValue.{BlockValue, used_of}
use Rattle.workers.specs.Block.{Block, Copy, updated, with_copy}
use Rattle.workers.specs.Worker.{Worker, Copied, allocation_at}
use Rattle.workers.specs.WorkerSteps.{finish_slot, race_of, after_race}
use Rattle.workers.specs.Joined.{OnSome}
use Rattle.workers.specs.Ready.{CanFinish}
use Rattle.scavenge.specs.Named.{named}
use Rattle.scavenge.specs.Fronts.{slot_at}
use Rattle.scavenge.specs.Shown.{WorkspaceValue, AreNoted, IsNoted, IsBid, slots_of, proposal_of, copied_into, propose_in, with_copy_proposed, lost_to}
use Rattle.scavenge.specs.Swept.{with_block}
use Rattle.scavenge.proofs.Fields.{Last, slots_written, slots_decided, can_still_of}
use Rattle.scavenge.proofs.Renewing.{shown_slot}
use Rattle.scavenge.proofs.Pushing.{used_named, pushed, proposed_copy, proposed_noted, slots_pushed, shown_copy, copied_is}
use Rattle.scavenge.proofs.Winning.{noted, copy_of, named_noted, noted_whole, can_win_of}
use Rattle.scavenge.proofs.Swept.{in_place, put_again, last_here}

-- a copy is proposed in the block for its destination
proposed_there : (w : Worker) (name : ℕ) (raw : Raw) (d : ℕ) (block : Block) → allocation_at w d ≡ Some block → with_copy_proposed w name raw d ≡ record w { proposal = Some (Copied (copied_into block name raw) d) }
proposed_there w name raw d block there = ap (propose_in w name raw d) there

-- what the race is run with
pub bid_is : (claim place : Place) (w : Worker) (name : ℕ) (raw : Raw) (d : ℕ) (block : Block) → allocation_at w d ≡ Some block → place_word place ≡ (copied_into block name raw).place → IsBid claim (with_copy_proposed w name raw d).proposal place
bid_is claim place w name raw d block there at = subst (λ (x : Worker). IsBid claim x.proposal place) (sym (proposed_there w name raw d block there)) at

-- the race is lost: the slot gets the place that was first
pub lost_is : (w : Worker) (name : ℕ) (raw : Raw) (d : ℕ) (block : Block) (first : ℕ) → allocation_at w d ≡ Some block → w.proposal ≡ None
    → finish_slot (Some first) w ≡ after_race (with_copy_proposed w name raw d) (Some (lost_to first (with_copy_proposed w name raw d).proposal))
lost_is w name raw d block first there none =
    ap (λ q. finish_slot (Some first) (record w { proposal = q })) none
    ∙ sym (ap (λ (x : Worker). after_race x (Some (lost_to first x.proposal))) (proposed_there w name raw d block there))

-- the race is won: it was for the copy at the end of the block, which was noted there
won_there : {V N : WorkspaceValue} → V ≡ N → (a : List (Option Block)) (won : List (ℕ × ℕ)) (copy : Copy) (d : ℕ) → a ≡ updated (λ b. option_and_then (λ x. Some (with_copy copy x)) b) V.worker.allocation d
    → won ≡ V.worker.won ++ (copy.name, copy.place) ∷ [] → V.worker.proposal ≡ Some (Copied copy d)
    → (let x : WorkspaceValue = record V { worker = finish_slot (Some copy.place) (record V.worker { proposal = None; allocation = a; won = won }) } in x) ≡ (let x : WorkspaceValue = record N { worker = after_race N.worker None } in x)
won_there {V = V} same a won copy d ae we e =
    ap (λ z. (let x : WorkspaceValue = record V { worker = finish_slot (Some copy.place) (record V.worker { proposal = None; allocation = z; won = won }) } in x)) ae
    ∙ ap (λ z. (let x : WorkspaceValue = record V { worker = finish_slot (Some copy.place) (record V.worker { proposal = None; allocation = updated (λ b. option_and_then (λ y. Some (with_copy copy y)) b) V.worker.allocation d; won = z }) } in x)) we
    ∙ ap (λ z. (let x : WorkspaceValue = record V { worker = z } in x)) (sym (ap (λ o. race_of V.worker o None) e))
    ∙ ap (λ (v : WorkspaceValue). (let x : WorkspaceValue = record v { worker = after_race v.worker None } in x)) same

-- the copy at the end of the block that is copied into, with its original noted
abbrev pub copied : BlockValue → Raw → Place → BlockValue
copied into raw name = noted (pushed into raw) (place_word name)

module _ {V N : WorkspaceValue} (same : V ≡ N) (shape : Shape) (allocation : List (Option BlockValue)) (aside done : List BlockValue) (held : Option BlockValue) (d : ℕ) (into : BlockValue) (raw : Raw) (name place : Place) (below : d < length allocation)
    (is : V.worker.allocation ≡ slots_of shape (with_block allocation d into)) (n : AreNoted (with_block allocation d into) aside done held None) (at : place_word place ≡ small_word into.number (used_of into)) where
  there : slot_at (with_block allocation d into) d ≡ Some into
  there = in_place allocation d into below

  whole : IsNoted 0 into
  whole = subst (OnSome (IsNoted 0)) there (n.in_slots d)

  -- the block in the worker's table
  pub shown : allocation_at V.worker d ≡ Some (named shape into)
  shown = ap (λ (xs : List (Option Block)). option_and_then (λ b. b) (slice_get xs d)) is ∙ shown_slot shape (with_block allocation d into) d (Some into) there

  pub place_is : place_word place ≡ (copied_into (named shape into) (place_word name) raw).place
  place_is = at ∙ ap (small_word into.number) (sym (used_named shape into whole))

  slots : List (Option BlockValue)
  slots = with_block allocation d (pushed into raw)

  again : with_block allocation d (pushed into raw) ≡ set (with_block allocation d into) d (Some (pushed into raw))
  again = put_again allocation d into (pushed into raw)

  proposed : AreNoted (with_block allocation d (pushed into raw)) aside done held (Some (proposed_copy name place d))
  proposed = proposed_noted name place d into raw there again at n

  pub decided : AreNoted (with_block allocation d (copied into raw name)) aside done held None
  decided =
      subst (λ xs. AreNoted xs aside done held None) (sym (put_again allocation d (pushed into raw) (copied into raw name)))
      (slots_decided (with_block allocation d (pushed into raw)) aside done held (proposed_copy name place d) d (pushed into raw) (copied into raw name) refl (in_place allocation d (pushed into raw) below) (noted_whole (pushed into raw) (place_word name)) proposed)

  stays : slots_of shape (with_block allocation d (pushed into raw)) ≡ V.worker.allocation
  stays = ap (slots_of shape) again ∙ slots_pushed shape (with_block allocation d into) d into raw there whole ∙ sym is

  -- the worker with the proposal
  proposing : (let x : WorkspaceValue = record V { worker = record V.worker { proposal = proposal_of (with_block allocation d (pushed into raw)) (Some (proposed_copy name place d)); allocation = slots_of shape (with_block allocation d (pushed into raw)) } } in x)
      ≡ (let x : WorkspaceValue = record N { worker = with_copy_proposed N.worker (place_word name) raw d } in x)
  proposing =
      copied_is same (place_word name) raw d (proposal_of (with_block allocation d (pushed into raw)) (Some (proposed_copy name place d))) (slots_of shape (with_block allocation d (pushed into raw))) (named shape into) shown
      (ap (λ xs. proposal_of xs (Some (proposed_copy name place d))) again ∙ shown_copy shape (with_block allocation d into) d into raw name place there whole at)
      stays

  last : (t : Last (with_block allocation d (pushed into raw)) (proposed_copy name place d) d) × (t.block ≡ pushed into raw)
  last = last_here allocation aside done held (proposed_copy name place d) d (pushed into raw) refl below proposed

  with : slots_of shape (with_block allocation d (copied into raw name)) ≡ updated (λ b. option_and_then (λ x. Some (with_copy (copy_of (proposed_copy name place d) last.0.raw) x)) b) (slots_of shape (with_block allocation d (pushed into raw))) d
  with =
      ap (slots_of shape) (put_again allocation d (pushed into raw) (copied into raw name))
      ∙ slots_written shape (with_block allocation d (pushed into raw)) d (pushed into raw) (copied into raw name) (with_copy (copy_of (proposed_copy name place d) last.0.raw)) (in_place allocation d (pushed into raw) below)
      (subst (λ b. named shape (noted b (place_word name)) ≡ with_copy (copy_of (proposed_copy name place d) last.0.raw) (named shape b)) last.1 (named_noted shape (with_block allocation d (pushed into raw)) (proposed_copy name place d) d last.0))

  -- the slot may still be finished
  pub can_finish : (b : BlockValue) → b ≡ copied into raw name → (won : List (ℕ × ℕ)) → CanFinish N.worker N.worker.starts → CanFinish (record V.worker { proposal = None; allocation = slots_of shape (with_block allocation d b); won = won }) V.worker.starts
  can_finish b e won h =
      subst (λ (x : BlockValue). CanFinish (record V.worker { proposal = None; allocation = slots_of shape (with_block allocation d x); won = won }) V.worker.starts) (sym e)
      (can_win_of proposing (slots_of shape (with_block allocation d (copied into raw name))) (copy_of (proposed_copy name place d) last.0.raw) d V.worker.large won refl with
      (subst (λ (v : WorkspaceValue). CanFinish v.worker v.worker.starts) proposing
      (can_still_of same (proposal_of (with_block allocation d (pushed into raw)) (Some (proposed_copy name place d))) (slots_of shape (with_block allocation d (pushed into raw))) stays h)))

  pub won_is : (b : BlockValue) → b ≡ copied into raw name → (won : List (ℕ × ℕ)) → won ≡ V.worker.won ++ (place_word name, place_word place) ∷ []
      → (let x : WorkspaceValue = record V { worker = finish_slot (Some (place_word place)) (record V.worker { proposal = None; allocation = slots_of shape (with_block allocation d b); won = won }) } in x)
      ≡ (let x : WorkspaceValue = record N { worker = after_race (with_copy_proposed N.worker (place_word name) raw d) None } in x)
  won_is b e won more =
      ap (λ z. (let x : WorkspaceValue = record V { worker = finish_slot (Some (place_word place)) (record V.worker { proposal = None; allocation = slots_of shape (with_block allocation d z); won = won }) } in x)) e
      ∙ won_there proposing (slots_of shape (with_block allocation d (copied into raw name))) won (copy_of (proposed_copy name place d) last.0.raw) d with more last.0.shown
