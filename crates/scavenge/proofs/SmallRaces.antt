-- A race for a small object, whose copy is put at the end of the block for its destination once it is won.
use Rattle.std.proofs.Common.{◌≡◌, ℕ, ◌<◌, ◌++◌, ◌∷◌, [], List, length, Option, Some, None, refl, sym, ap, subst, ◌∙◌}
use Rattle.model.specs.Destination.{Shape}
use Rattle.layout.specs.declared.place.Place.{Place}
use Rattle.layout.specs.Object.{Raw}
use Rattle.layout.specs.Place.{place_word, small_word}
use Rattle.block_pool.specs.BlockValue.{BlockValue, used_of}
use Rattle.workers.specs.Worker.{Worker, allocation_at}
use Rattle.workers.specs.WorkerSteps.{finish_slot, after_race}
use Rattle.workers.specs.Ready.{CanFinish}
use Rattle.scavenge.specs.Named.{named}
use Rattle.scavenge.specs.Fronts.{slot_at}
use Rattle.scavenge.specs.Shown.{WorkspaceValue, AreNoted, IsBid, slots_of, proposal_of, with_copy_proposed, lost_to}
use Rattle.scavenge.specs.Swept.{with_block}
use Rattle.scavenge.specs.declared.workspace.proposed.Proposed.{Proposed}
use Rattle.scavenge.proofs.Fields.{no_proposal, set-same}
use Rattle.scavenge.proofs.Swept.{there_below}
use Rattle.scavenge.proofs.CopyRaces.{bid_is, lost_is, copied, shown, place_is, decided, can_finish, won_is}

module _ {V N : WorkspaceValue} (same : V ≡ N) (shape : Shape) (allocation : List (Option BlockValue)) (aside done : List BlockValue) (held : Option BlockValue) (proposed : Option Proposed)
    (is : V.worker.allocation ≡ slots_of shape allocation) (q : V.worker.proposal ≡ proposal_of allocation proposed) (n : AreNoted allocation aside done held proposed) (none : N.worker.proposal ≡ None) where
  pub nothing : proposed ≡ None
  nothing = no_proposal allocation aside done held proposed n (sym q ∙ ap (λ (v : WorkspaceValue). v.worker.proposal) same ∙ none)

  pub clear : AreNoted allocation aside done held None
  clear = subst (AreNoted allocation aside done held) nothing n

  module _ (d : ℕ) (into : BlockValue) (there : slot_at allocation d ≡ Some into) (raw : Raw) (name place : Place) (at : place_word place ≡ small_word into.number (used_of into)) where
    back : with_block allocation d into ≡ allocation
    back = set-same allocation d into there

    noted : AreNoted (with_block allocation d into) aside done held None
    noted = subst (λ xs. AreNoted xs aside done held None) (sym back) clear

    shows : V.worker.allocation ≡ slots_of shape (with_block allocation d into)
    shows = is ∙ ap (slots_of shape) (sym back)

    below : d < length allocation
    below = there_below allocation d into there

    -- the block for its destination, and what the race is run with
    pub block_is : allocation_at N.worker d ≡ Some (named shape into)
    block_is = ap (λ (v : WorkspaceValue). allocation_at v.worker d) (sym same) ∙ shown same shape allocation aside done held d into raw name place below shows noted at

    pub bids : (claim : Place) → IsBid claim (with_copy_proposed N.worker (place_word name) raw d).proposal place
    bids claim = bid_is claim place N.worker (place_word name) raw d (named shape into) block_is (place_is same shape allocation aside done held d into raw name place below shows noted at)

    -- it is lost
    pub lost : (first : ℕ) (won : List (ℕ × ℕ)) → won ≡ V.worker.won → (let x : WorkspaceValue = record V { worker = finish_slot (Some first) (record V.worker { won = won }) } in x)
        ≡ (let x : WorkspaceValue = record N { worker = after_race (with_copy_proposed N.worker (place_word name) raw d) (Some (lost_to first (with_copy_proposed N.worker (place_word name) raw d).proposal)) } in x)
    lost first won e =
        ap (λ ws. (let x : WorkspaceValue = record V { worker = finish_slot (Some first) (record V.worker { won = ws }) } in x)) e
        ∙ ap (λ (v : WorkspaceValue). (let x : WorkspaceValue = record v { worker = finish_slot (Some first) v.worker } in x)) same
        ∙ ap (λ (w : Worker). (let x : WorkspaceValue = record N { worker = w } in x)) (lost_is N.worker (place_word name) raw d (named shape into) first block_is none)

    -- it is won, and the copy stands at its place
    module _ (table : List (Option BlockValue)) (more : table ≡ with_block allocation d (copied into raw name)) where
      pub noted_after : AreNoted table aside done held proposed
      noted_after =
          subst (λ xs. AreNoted xs aside done held proposed) (sym more)
          (subst (AreNoted (with_block allocation d (copied into raw name)) aside done held) (sym nothing) (decided same shape allocation aside done held d into raw name place below shows noted at))

      pub can_finish_after : (won : List (ℕ × ℕ)) → CanFinish N.worker N.worker.starts → CanFinish (record V.worker { proposal = proposal_of table proposed; allocation = slots_of shape table; won = won }) V.worker.starts
      can_finish_after won can =
          subst (λ p. CanFinish (record V.worker { proposal = p; allocation = slots_of shape table; won = won }) V.worker.starts) (sym (ap (proposal_of table) nothing))
          (subst (λ xs. CanFinish (record V.worker { proposal = None; allocation = slots_of shape xs; won = won }) V.worker.starts) (sym more)
          (can_finish same shape allocation aside done held d into raw name place below shows noted at (copied into raw name) refl won can))

      pub won_after : (won : List (ℕ × ℕ)) → won ≡ V.worker.won ++ (place_word name, place_word place) ∷ []
          → (let x : WorkspaceValue = record V { worker = finish_slot (Some (place_word place)) (record V.worker { proposal = proposal_of table proposed; allocation = slots_of shape table; won = won }) } in x)
          ≡ (let x : WorkspaceValue = record N { worker = after_race (with_copy_proposed N.worker (place_word name) raw d) None } in x)
      won_after won e =
          ap (λ p. (let x : WorkspaceValue = record V { worker = finish_slot (Some (place_word place)) (record V.worker { proposal = p; allocation = slots_of shape table; won = won }) } in x)) (ap (proposal_of table) nothing)
          ∙ ap (λ xs. (let x : WorkspaceValue = record V { worker = finish_slot (Some (place_word place)) (record V.worker { proposal = None; allocation = slots_of shape xs; won = won }) } in x)) more
          ∙ won_is same shape allocation aside done held d into raw name place below shows noted at (copied into raw name) refl won e
