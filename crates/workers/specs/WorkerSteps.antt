-- What one event changes in one worker, by the answers that cells, claims and queues gave it.
use Rattle.std.specs.Prelude.{◌≡◌, ◌≢◌, ℕ, ◌+◌, Bool, false, not, ◌&&◌, List, [], ◌∷◌, ◌++◌, Option, Some, None, IsSome, is_some, if◌then◌else◌, slice_set, option_and_then, nat_eq}
use Rattle.workers.specs.Block.{Block, empty_block, has_unscanned, updated, with_field, with_copy, with_front_moved}
use Rattle.workers.specs.Setting.{Setting, old_field, is_collected, is_large_name, destination_of, copy_into, fits_in}
use Rattle.workers.specs.Worker.{Worker, Proposal, Copied, Claimed, Hand, Nothing, Open, Holding, HoldingLarge, allocation_at, current_object}

-- what the current slot holds: of the first unfinished start slot, else of the current object's first unfinished pointer
abbrev pub slot_of_starts : Setting → Option (ℕ × ℕ) → ℕ → List ℕ → Option (Option ℕ)
slot_of_starts setting current fields (target ∷ targets) = Some (Some target)
slot_of_starts setting current fields [] = option_and_then (λ c. old_field setting c.0 fields) current

-- what the current slot holds, where there is one
abbrev pub current_slot : Setting → Worker → Option (Option ℕ)
current_slot setting worker = slot_of_starts setting (current_object worker) worker.fields worker.starts

-- the slot gets the value and is finished
abbrev pub write_hand : Option ℕ → Worker → Hand → Worker
write_hand value worker Nothing = worker
write_hand value worker (Open d) = record worker { fields = worker.fields + 1; allocation = updated (λ b. option_and_then (λ block. Some (with_field worker.fields value block)) b) worker.allocation d }
write_hand value worker (Holding block) = record worker { fields = worker.fields + 1; hand = Holding (with_field worker.fields value block) }
write_hand value worker (HoldingLarge name) = record worker { fields = worker.fields + 1 }

abbrev pub finish_first : Option ℕ → Worker → List ℕ → Worker
finish_first value worker (target ∷ targets) = record worker { starts = targets }
finish_first value worker [] = write_hand value worker worker.hand

abbrev pub finish_slot : Option ℕ → Worker → Worker
finish_slot value worker = finish_first value worker worker.starts

-- the name whose cell a look loads: the target of the current slot, where it is collected
abbrev pub collected_target : Setting → Option (Option ℕ) → Option ℕ
collected_target setting None = None
collected_target setting (Some None) = None
collected_target setting (Some (Some name)) = if is_collected setting name then Some name else None

-- the name whose cell a look at the current slot loads
abbrev pub cell_wanted : Setting → Worker → Option ℕ
cell_wanted setting worker = collected_target setting (current_slot setting worker)

-- a look whose cell is empty draws a block where a small copy doesn't fit
abbrev pub draws_for : Setting → Worker → ℕ → Bool
draws_for setting worker name = not (is_large_name setting name) && not (fits_in setting name (allocation_at worker (destination_of setting name)))

abbrev pub draw_at : Setting → Worker → Option ℕ → Option ℕ → Bool
draw_at setting worker None cell = false
draw_at setting worker (Some name) (Some place) = false
draw_at setting worker (Some name) None = draws_for setting worker name

-- a look draws a block, where the cell shows this
abbrev pub draw_wanted : Setting → Worker → Option ℕ → Bool
draw_wanted setting worker cell = draw_at setting worker (cell_wanted setting worker) cell

-- the allocation block for a destination is retired: in hand it stays there, else it goes aside or is done
abbrev pub is_open_at : ℕ → Hand → Bool
is_open_at d Nothing = false
is_open_at d (Open e) = nat_eq d e
is_open_at d (Holding block) = false
is_open_at d (HoldingLarge name) = false

abbrev pub retired : Worker → ℕ → Option Block → Worker
retired worker d None = worker
retired worker d (Some block) =
    if is_open_at d worker.hand
    then record worker { hand = Holding block }
    else (if has_unscanned block then record worker { aside = worker.aside ++ block ∷ [] } else record worker { done = worker.done ++ block ∷ [] })

abbrev pub with_new_block : Worker → ℕ → ℕ → Worker
with_new_block worker d number = record (retired worker d (allocation_at worker d)) { allocation = slice_set worker.allocation d (Some (empty_block number d)) }

abbrev pub propose_into : Setting → Worker → ℕ → ℕ → Option Block → Worker
propose_into setting worker name d None = worker
propose_into setting worker name d (Some block) = record worker { proposal = Some (Copied (copy_into setting block name) d) }

abbrev pub propose_copy : Setting → Worker → ℕ → ℕ → Worker
propose_copy setting worker name d = propose_into setting worker name d (allocation_at worker d)

-- the worker after a look: what the cell showed, and the number of the block that was drawn, if one was
abbrev pub look_at : Setting → Worker → Option ℕ → ℕ → ℕ → Worker
look_at setting worker (Some place) number name = finish_slot (Some place) worker
look_at setting worker None number name =
    if is_large_name setting name
    then record worker { proposal = Some (Claimed name) }
    else propose_copy setting (if draws_for setting worker name then with_new_block worker (destination_of setting name) number else worker) name (destination_of setting name)

abbrev pub look_slot : Setting → Worker → Option ℕ → ℕ → Option (Option ℕ) → Worker
look_slot setting worker cell number None = worker
look_slot setting worker cell number (Some None) = finish_slot None worker
look_slot setting worker cell number (Some (Some name)) = if is_collected setting name then look_at setting worker cell number name else finish_slot (Some name) worker

-- the worker after a look at its current slot
abbrev pub after_look : Setting → Worker → Option ℕ → ℕ → Worker
after_look setting worker cell number = look_slot setting worker cell number (current_slot setting worker)

-- what a race answers: None for won, else the place that the cell held
abbrev pub race_of : Worker → Option Proposal → Option ℕ → Worker
race_of worker None lost = worker
race_of worker (Some (Copied copy d)) (Some place) = finish_slot (Some place) (record worker { proposal = None })
race_of worker (Some (Claimed name)) (Some place) = finish_slot (Some place) (record worker { proposal = None })
race_of worker (Some (Copied copy d)) None =
    finish_slot (Some copy.place) (record worker { proposal = None; allocation = updated (λ b. option_and_then (λ block. Some (with_copy copy block)) b) worker.allocation d; won = worker.won ++ (copy.name, copy.place) ∷ [] })
race_of worker (Some (Claimed name)) None =
    finish_slot (Some name) (record worker { proposal = None; large = worker.large ++ name ∷ []; won = worker.won ++ (name, name) ∷ [] })

-- the worker after a race: the slot is finished, and a copy that lost is taken back
abbrev pub after_race : Worker → Option ℕ → Worker
after_race worker lost = race_of worker worker.proposal lost

-- the front moves past the current object
abbrev pub scan_block : Worker → Block → Worker
scan_block worker block = if has_unscanned block then record worker { hand = Holding block } else record worker { hand = Nothing; done = worker.done ++ block ∷ [] }

abbrev pub scan_open : Worker → ℕ → Option Block → Worker
scan_open worker d None = worker
scan_open worker d (Some block) = record worker { allocation = slice_set worker.allocation d (Some block); hand = if has_unscanned block then Open d else Nothing }

abbrev pub scan_hand : Worker → Hand → Worker
scan_hand worker Nothing = worker
scan_hand worker (Open d) = scan_open worker d (option_and_then (λ b. Some (with_front_moved b)) (allocation_at worker d))
scan_hand worker (Holding block) = scan_block worker (with_front_moved block)
scan_hand worker (HoldingLarge name) = record worker { hand = Nothing; large_done = worker.large_done ++ name ∷ [] }

abbrev pub log_scan : Worker → Option (ℕ × ℕ) → Worker
log_scan worker None = worker
log_scan worker (Some current) = record worker { fields = 0; scanned = worker.scanned ++ current.1 ∷ [] }

-- the worker after its current object is scanned
abbrev pub after_scan : Worker → Worker
after_scan worker = scan_hand (log_scan worker (current_object worker)) worker.hand

-- the oldest block aside, and what is left
abbrev pub without_oldest : Worker → List Block → Worker
without_oldest worker [] = worker
without_oldest worker (block ∷ blocks) = record worker { aside = blocks }

-- the worker without the oldest block aside
abbrev pub after_aside : Worker → Worker
after_aside worker = without_oldest worker worker.aside

-- the worker with the block in hand
abbrev pub after_take : Worker → Block → Worker
after_take worker block = record worker { hand = Holding block }

-- the worker with its allocation block in hand
abbrev pub after_own : Worker → ℕ → Worker
after_own worker d = record worker { hand = Open d }

abbrev pub claim_first : Worker → List ℕ → Worker
claim_first worker [] = worker
claim_first worker (name ∷ names) = record worker { hand = HoldingLarge name; large = names }

-- the worker with its oldest claimed large object in hand
abbrev pub after_own_large : Worker → Worker
after_own_large worker = claim_first worker worker.large

-- when each event may come, as far as the worker's own part tells: there is a slot to look at and no proposal
pub record CanLook (setting : Setting) (worker : Worker) : Type 0 where
  pub no_proposal : worker.proposal ≡ None
  pub slot : IsSome (current_slot setting worker)

-- there is a current object, each of its slots is finished, and there is no proposal
pub record CanScan (setting : Setting) (worker : Worker) : Type 0 where
  pub no_proposal : worker.proposal ≡ None
  pub hand : worker.hand ≢ Nothing
  pub no_slot : current_slot setting worker ≡ None

-- the start list is finished, and nothing is in hand or proposed
pub record IsFree (worker : Worker) : Type 0 where
  pub no_proposal : worker.proposal ≡ None
  pub no_starts : worker.starts ≡ []
  pub no_hand : worker.hand ≡ Nothing

-- the allocation block for the destination has an unscanned object
abbrev pub has_open_work : Worker → ℕ → Bool
has_open_work worker d = is_some (option_and_then (λ b. if has_unscanned b then Some b else None) (allocation_at worker d))

-- nothing of its own is left
pub record IsOutOfWork (worker : Worker) : Type 0 where
  pub free : IsFree worker
  pub no_aside : worker.aside ≡ []
  pub no_large : worker.large ≡ []
  pub all_scanned : (d : ℕ) → has_open_work worker d ≡ false
