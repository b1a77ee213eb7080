-- The parts of a collection by one worker as data.
use Rattle.std.specs.Prelude.{◌≡◌, ◌⊎◌, ℕ, Bool, List, Option, Some, None, refl}
use Rattle.std.specs.Coded.{Coded, code_by, coded×, coded⊎, coded_ℕ, coded_bool, coded_list, coded_option}
use Rattle.std.proofs.Common.{inl, inr}
use base.Stored.{coded_via}
use Rattle.model.specs.Config.{Config, config_code}
use Rattle.layout.specs.declared.place.Place.{Place}
use Rattle.layout.specs.Place.{place_word}
use Rattle.layout.proofs.Pointers.{place_word-one_to_one}
use Rattle.block_pool.specs.BlockValue.{BlockValue, block_code}
use Rattle.forwarding.specs.declared.plain_cells.held.Held.{Held}
use Rattle.forwarding.specs.Plain.{PlainPassValue}
use Rattle.forwarding.specs.Plain.{PlainValue as PlainCellsValue}
use Rattle.pending_queues.specs.PlainValue.{PlainLane}
use Rattle.pending_queues.specs.PlainValue.{PlainValue as PlainQueuesValue}
use Rattle.scavenge.specs.Handed.{CopiesKeyValue, key_code}
use Rattle.workers.specs.Block.{Block, Copy}
use Rattle.workers.specs.Worker.{Worker, Proposal, Copied, Claimed, Hand, Nothing, Open, Holding, HoldingLarge}
use Rattle.scavenge.specs.Shown.{WorkspaceValue}

-- a place by its word
abbrev pub place_code : Coded Place
place_code = coded_via coded_ℕ place_word place_word-one_to_one

abbrev pub lane_code : Coded PlainLane
lane_code = code_by (List BlockValue × List ℕ) (coded× (coded_list block_code) (coded_list coded_ℕ)) (λ l. (l.sent, l.takers)) (λ p. record { sent = p.0; takers = p.1 }) (λ _. refl)

abbrev pub queues_code : Coded (PlainQueuesValue CopiesKeyValue)
queues_code = code_by (CopiesKeyValue × List PlainLane) (coded× key_code (coded_list lane_code)) (λ q. (q.key, q.lanes)) (λ p. record { key = p.0; lanes = p.1 }) (λ _. refl)

abbrev pub held_code : Coded Held
held_code = code_by (Place × ℕ) (coded× place_code coded_ℕ) (λ h. (h.place, h.winner)) (λ p. record { place = p.0; winner = p.1 }) (λ _. refl)

abbrev pub cells_code : Coded PlainCellsValue
cells_code = code_by (List (Option Held) × ℕ) (coded× (coded_list (coded_option held_code)) coded_ℕ) (λ c. (c.held, c.passes)) (λ p. record { held = p.0; passes = p.1 }) (λ _. refl)

abbrev pub pass_code : Coded PlainPassValue
pass_code =
    code_by (ℕ × (ℕ × (List (Option Place) × List (ℕ × Place)))) (coded× coded_ℕ (coded× coded_ℕ (coded× (coded_list (coded_option place_code)) (coded_list (coded× coded_ℕ place_code)))))
    (λ m. (m.number, (m.passes, (m.known, m.won))))
    (λ p. record { number = p.0; passes = p.1.0; known = p.1.1.0; won = p.1.1.1 })
    (λ _. refl)

abbrev pub copy_code : Coded Copy
copy_code =
    code_by (ℕ × (ℕ × (List (Option ℕ) × List ℕ))) (coded× coded_ℕ (coded× coded_ℕ (coded× (coded_list (coded_option coded_ℕ)) (coded_list coded_ℕ))))
    (λ c. (c.name, (c.place, (c.pointers, c.plain))))
    (λ p. record { name = p.0; place = p.1.0; pointers = p.1.1.0; plain = p.1.1.1 })
    (λ _. refl)

abbrev pub copies_code : Coded Block
copies_code =
    code_by (ℕ × (ℕ × (List Copy × (ℕ × Option (ℕ × ℕ))))) (coded× coded_ℕ (coded× coded_ℕ (coded× (coded_list copy_code) (coded× coded_ℕ (coded_option (coded× coded_ℕ coded_ℕ))))))
    (λ b. (b.number, (b.destination, (b.copies, (b.front, b.sent)))))
    (λ p. record { number = p.0; destination = p.1.0; copies = p.1.1.0; front = p.1.1.1.0; sent = p.1.1.1.1 })
    (λ _. refl)

abbrev from_proposal : Proposal → (Copy × ℕ) ⊎ ℕ
from_proposal (Copied copy d) = inl (copy, d)
from_proposal (Claimed name) = inr name

abbrev to_proposal : (Copy × ℕ) ⊎ ℕ → Proposal
to_proposal (inl p) = Copied p.0 p.1
to_proposal (inr name) = Claimed name

abbrev same_proposal : (p : Proposal) → to_proposal (from_proposal p) ≡ p
same_proposal (Copied copy d) = refl
same_proposal (Claimed name) = refl

abbrev proposal_code : Coded Proposal
proposal_code = code_by ((Copy × ℕ) ⊎ ℕ) (coded⊎ (coded× copy_code coded_ℕ) coded_ℕ) from_proposal to_proposal same_proposal

abbrev from_hand : Hand → Option ((ℕ ⊎ Block) ⊎ ℕ)
from_hand Nothing = None
from_hand (Open d) = Some (inl (inl d))
from_hand (Holding block) = Some (inl (inr block))
from_hand (HoldingLarge name) = Some (inr name)

abbrev to_hand : Option ((ℕ ⊎ Block) ⊎ ℕ) → Hand
to_hand None = Nothing
to_hand (Some (inl (inl d))) = Open d
to_hand (Some (inl (inr block))) = Holding block
to_hand (Some (inr name)) = HoldingLarge name

abbrev same_hand : (h : Hand) → to_hand (from_hand h) ≡ h
same_hand Nothing = refl
same_hand (Open d) = refl
same_hand (Holding block) = refl
same_hand (HoldingLarge name) = refl

abbrev hand_code : Coded Hand
hand_code = code_by (Option ((ℕ ⊎ Block) ⊎ ℕ)) (coded_option (coded⊎ (coded⊎ coded_ℕ copies_code) coded_ℕ)) from_hand to_hand same_hand

abbrev pub worker_code : Coded Worker
worker_code =
    code_by
    (List ℕ × (ℕ × (Option Proposal × (Hand × (List (Option Block) × (List Block × (List Block × (List ℕ × (List ℕ × (List (ℕ × ℕ) × List ℕ))))))))))
    (coded× (coded_list coded_ℕ) (coded× coded_ℕ (coded× (coded_option proposal_code) (coded× hand_code (coded× (coded_list (coded_option copies_code)) (coded× (coded_list copies_code) (coded× (coded_list copies_code) (coded× (coded_list coded_ℕ) (coded× (coded_list coded_ℕ) (coded× (coded_list (coded× coded_ℕ coded_ℕ)) (coded_list coded_ℕ)))))))))))
    (λ w. (w.starts, (w.fields, (w.proposal, (w.hand, (w.allocation, (w.aside, (w.done, (w.large, (w.large_done, (w.won, w.scanned)))))))))))
    (λ p. record { starts = p.0; fields = p.1.0; proposal = p.1.1.0; hand = p.1.1.1.0; allocation = p.1.1.1.1.0; aside = p.1.1.1.1.1.0; done = p.1.1.1.1.1.1.0; large = p.1.1.1.1.1.1.1.0; large_done = p.1.1.1.1.1.1.1.1.0; won = p.1.1.1.1.1.1.1.1.1.0; scanned = p.1.1.1.1.1.1.1.1.1.1 })
    (λ _. refl)

abbrev pub workspace_code : Coded WorkspaceValue
workspace_code =
    code_by
    (Config × (Place × (Bool × (ℕ × (ℕ × (List ℕ × Worker))))))
    (coded× config_code (coded× place_code (coded× coded_bool (coded× coded_ℕ (coded× coded_ℕ (coded× (coded_list coded_ℕ) worker_code))))))
    (λ w. (w.config, (w.claim, (w.spare, (w.won_room, (w.block_room, (w.names, w.worker)))))))
    (λ p. record { config = p.0; claim = p.1.0; spare = p.1.1.0; won_room = p.1.1.1.0; block_room = p.1.1.1.1.0; names = p.1.1.1.1.1.0; worker = p.1.1.1.1.1.1 })
    (λ _. refl)
