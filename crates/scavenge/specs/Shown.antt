-- What contracts see of a workspace: a worker.
use Rattle.std.specs.Prelude.{◌≡◌, ℕ, ◌+◌, ◌<◌, ◌≤◌, ◌==◌, if◌then◌else◌, Bool, true, false, List, [], ◌∷◌, map, length, slice_get, nat_le, nat_lt, Option, Some, None, option_and_then}
use Rattle.std.specs.Option.{option_map}
use Rattle.model.specs.Destination.{Shape}
use Rattle.model.specs.Config.{Config}
use Rattle.layout.specs.declared.place.Place.{Place}
use Rattle.layout.specs.Object.{Raw}
use Rattle.layout.specs.Place.{place_word, small_word, IsPointer}
use Rattle.block_pool.specs.BlockValue.{BlockValue, offset_of}
use Rattle.steps.specs.Words.{target_of_word}
use Rattle.steps.specs.declared.heap_values.packed.PackedPlace.{PackedPlace}
use Rattle.steps.specs.Packed.{packed_word}
use Rattle.workers.specs.Block.{Block, Copy, used_words}
use Rattle.workers.specs.Worker.{Worker, Proposal, Copied, Claimed, Hand, Nothing, Open, Holding, HoldingLarge, allocation_at}
use Rattle.workers.specs.WorkerRun.{proposed_name}
use Rattle.workers.specs.Joined.{Each, OnSome}
use Rattle.scavenge.specs.Named.{named, IsDestination}
use Rattle.scavenge.specs.Fronts.{slot_at}
use Rattle.scavenge.specs.declared.workspace.current.Current.{Current}
use Rattle.scavenge.specs.declared.workspace.current.Current.TheVariants as current
use Rattle.scavenge.specs.declared.workspace.hand.Hand.{Hand as InHand}
use Rattle.scavenge.specs.declared.workspace.hand.Hand.TheVariants as in_hand
use Rattle.scavenge.specs.declared.workspace.proposed.Proposed.{Proposed}
use Rattle.workers.specs.Ready.{copy_in}

-- a worker and the sizes of its heap
pub record WorkspaceValue : Type 0 where
  pub config : Config
  pub claim : Place  -- what it claims large objects with
  pub spare : Bool  -- whether it has room to put a block back
  pub won_room : ℕ  -- how many races it has room for
  pub block_room : ℕ  -- how many drawn blocks it has room for
  pub names : List ℕ  -- the names that the collection numbers, by number
  pub worker : Worker

abbrev pub hand_of : {A : Type 0} → Shape → InHand A → Hand
hand_of shape in_hand.Nothing = Nothing
hand_of shape (in_hand.Open d) = Open d
hand_of shape (in_hand.Holding block) = Holding (named shape block)
hand_of shape (in_hand.Large name) = HoldingLarge (place_word name)

-- the block that is in hand
abbrev pub held_in : {A : Type 0} → InHand A → Option BlockValue
held_in in_hand.Nothing = None
held_in (in_hand.Open d) = None
held_in (in_hand.Holding block) = Some block
held_in (in_hand.Large name) = None

abbrev pub slots_of : Shape → List (Option BlockValue) → List (Option Block)
slots_of shape slots = map (option_map (named shape)) slots

abbrev pub blocks_of : Shape → List BlockValue → List Block
blocks_of shape blocks = map (named shape) blocks

abbrev pub words_of : List Place → List ℕ
words_of places = map place_word places

abbrev pub packed_words : List PackedPlace → List ℕ
packed_words places = map packed_word places

-- the object of a block that is only proposed
abbrev pub unnoted : Option BlockValue → Option Raw
unnoted None = None
unnoted (Some block) = slice_get block.objects (length block.origins)

abbrev pub copied_of : ℕ → ℕ → ℕ → Option Raw → Option Proposal
copied_of name place d None = None
copied_of name place d (Some raw) = Some (Copied (record { name = name; place = place; pointers = map target_of_word raw.pointers; plain = raw.plain }) d)

abbrev pub proposal_at : List (Option BlockValue) → Proposed → Option ℕ → Option Proposal
proposal_at slots p None = Some (Claimed (place_word p.name))
proposal_at slots p (Some d) = copied_of (place_word p.name) (place_word p.place) d (unnoted (option_and_then (λ b. b) (slice_get slots d)))

abbrev pub proposal_of : List (Option BlockValue) → Option Proposed → Option Proposal
proposal_of slots None = None
proposal_of slots (Some p) = proposal_at slots p p.destination

-- how many objects of the allocation block for d are only proposed
abbrev pub proposed_in : ℕ → Option ℕ → ℕ
proposed_in d None = 0
proposed_in d (Some e) = if d == e then 1 else 0

abbrev pub proposed_at : ℕ → Option Proposed → ℕ
proposed_at d None = 0
proposed_at d (Some p) = proposed_in d p.destination

-- the original of each object of the block is noted, but for so many, and what is scanned is noted
pub record IsNoted (more : ℕ) (block : BlockValue) : Type 0 where
  pub count : length block.objects ≡ length block.origins + more
  pub front : block.front ≤ length block.origins

-- what is proposed for a destination stands at its place, at the end of the block there
pub record StandsLast (slots : List (Option BlockValue)) (place d : ℕ) : Type 0 where
  pub block : BlockValue
  pub there : slot_at slots d ≡ Some block
  pub place_is : place ≡ small_word block.number (offset_of block.objects (length block.origins))

abbrev pub IsThere : List (Option BlockValue) → ℕ → Option ℕ → Type 0
IsThere slots place None = Unit {0}
IsThere slots place (Some d) = StandsLast slots place d

abbrev pub HasProposed : List (Option BlockValue) → Option Proposed → Type 0
HasProposed slots None = Unit {0}
HasProposed slots (Some p) = IsThere slots (place_word p.place) p.destination

pub record AreNoted (slots : List (Option BlockValue)) (aside done : List BlockValue) (held : Option BlockValue) (proposed : Option Proposed) : Type 0 where
  pub in_slots : (d : ℕ) → OnSome (IsNoted (proposed_at d proposed)) (slot_at slots d)
  pub in_aside : Each (IsNoted 0) aside
  pub in_done : Each (IsNoted 0) done
  pub in_hand : OnSome (IsNoted 0) held
  pub there : HasProposed slots proposed

-- a block of copies as a collection makes them on a heap of these sizes
pub record IsMade (config : Config) (block : BlockValue) : Type 0 where
  pub words : block.words ≡ config.block_words
  pub destination : IsDestination config.shape (block.generation, block.step)

pub record AreMade (config : Config) (slots : List (Option BlockValue)) (aside done : List BlockValue) (held : Option BlockValue) : Type 0 where
  pub in_slots : (d : ℕ) → OnSome (IsMade config) (slot_at slots d)
  pub in_aside : Each (IsMade config) aside
  pub in_done : Each (IsMade config) done
  pub in_hand : OnSome (IsMade config) held

-- the blocks begin with this one
pub record Begins (shape : Shape) (blocks : List Block) (block : BlockValue) : Type 0 where
  pub rest : List Block
  pub is : blocks ≡ named shape block ∷ rest

-- a large object that is proposed can be claimed: so many are, of so many that there is room for
abbrev pub CanClaimAt : Option ℕ → ℕ → ℕ → Type 0
CanClaimAt None count capacity = count < capacity
CanClaimAt (Some d) count capacity = Unit {0}

abbrev pub CanClaim : Option Proposed → ℕ → ℕ → Type 0
CanClaim None count capacity = Unit {0}
CanClaim (Some p) count capacity = CanClaimAt p.destination count capacity

-- each list, of which its count and capacity are given, has the room that was reserved
pub record HasRoom (won done aside claimed : ℕ × ℕ) (won_room block_room : ℕ) (spare : Bool) (proposed : Option Proposed) : Type 0 where
  pub in_won : won.0 + won_room ≤ won.1
  pub in_done : done.0 + block_room ≤ done.1
  pub in_aside : aside.0 + block_room ≤ aside.1
  pub for_spare : spare ≡ true → aside.0 + block_room < aside.1
  pub in_claimed : CanClaim proposed claimed.0 claimed.1

-- what a worker races with for its proposal: the place of a copy, or for a large object the worker's claim
abbrev pub IsBid : Place → Option Proposal → Place → Type 0
IsBid claim None place = ⊥
IsBid claim (Some (Copied copy d)) place = place_word place ≡ copy.place
IsBid claim (Some (Claimed name)) place = place ≡ claim

abbrev pub name_of : Option Proposal → ℕ
name_of None = 0
name_of (Some p) = proposed_name p

-- where a slot leads whose race was lost to a place: a large object stays at its own
abbrev pub lost_to : ℕ → Option Proposal → ℕ
lost_to place None = place
lost_to place (Some (Copied copy d)) = place
lost_to place (Some (Claimed name)) = name

-- whether a block is in hand in which another object is unscanned behind the first one
abbrev pub has_another : Hand → Bool
has_another Nothing = false
has_another (Open d) = false
has_another (Holding block) = nat_lt (block.front + 1) (length block.copies)
has_another (HoldingLarge name) = false

-- the current slot, as far as the worker itself knows it: what it holds, or which pointer of a large object it is
pub data KnownSlot : Type 0 where
  Holds : (slot : Option (Option ℕ)) → KnownSlot
  OfLarge : (name i : ℕ) → KnownSlot

abbrev pub known_in : Worker → Hand → KnownSlot
known_in w Nothing = Holds None
known_in w (Open d) = Holds (option_and_then (λ copy. slice_get copy.pointers w.fields) (copy_in w (Open d)))
known_in w (Holding block) = Holds (option_and_then (λ copy. slice_get copy.pointers w.fields) (copy_in w (Holding block)))
known_in w (HoldingLarge name) = OfLarge name w.fields

abbrev pub known_from : Worker → List ℕ → KnownSlot
known_from w [] = known_in w w.hand
known_from w (target ∷ targets) = Holds (Some (Some target))

abbrev pub known_slot : Worker → KnownSlot
known_slot w = known_from w w.starts

abbrev pub known_of : Current → KnownSlot
known_of (current.Holds slot) = Holds (option_map (option_map place_word) slot)
known_of (current.OfLarge name i) = OfLarge (place_word name) i

-- what the slot holds is a pointer
abbrev pub HoldsPointer : KnownSlot → Type 0
HoldsPointer (Holds None) = Unit {0}
HoldsPointer (Holds (Some None)) = Unit {0}
HoldsPointer (Holds (Some (Some word))) = IsPointer word
HoldsPointer (OfLarge name i) = Unit {0}

-- what the current pointer of a copy holds can be read
abbrev pub CanRead : Worker → List ℕ → Type 0
CanRead w [] = HoldsPointer (known_in w w.hand)
CanRead w (target ∷ targets) = Unit {0}

-- whether an object of this size fits at the end of the block, which has so many words
abbrev pub has_place_for : ℕ → ℕ → Option Block → Bool
has_place_for words size None = false
has_place_for words size (Some block) = nat_le (used_words block + size) words

-- the copy of the object with this name and these words, at the end of the block
abbrev pub copied_into : Block → ℕ → Raw → Copy
copied_into block name raw = record { name = name; place = small_word block.number (used_words block); pointers = map target_of_word raw.pointers; plain = raw.plain }

abbrev pub propose_in : Worker → ℕ → Raw → ℕ → Option Block → Worker
propose_in w name raw d None = w
propose_in w name raw d (Some block) = record w { proposal = Some (Copied (copied_into block name raw) d) }

abbrev pub with_copy_proposed : Worker → ℕ → Raw → ℕ → Worker
with_copy_proposed w name raw d = propose_in w name raw d (allocation_at w d)
