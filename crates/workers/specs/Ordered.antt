-- In which order the places of a block were scanned, and by whom.
use Rattle.std.specs.Prelude.{zero, suc, ◌++◌, map, ◌≡◌, ◌≢◌, ℕ, ◌+◌, ◌/◌, ◌<◌, ◌≤◌, Bool, List, [], ◌∷◌, Some, nat_eq, cond, slice_get}
use Rattle.workers.specs.Block.{Block, Copy}
use Rattle.workers.specs.Setting.{Setting}
use Rattle.workers.specs.Worker.{Worker}
use Rattle.workers.specs.WorkerRun.{WorkerRun, stay, go, History, Act, Looked, Raced, Scanned, Exported, Took, Owned, OwnedLarge}
use Rattle.workers.specs.Total.{total, front_total, times, one_if}
use Rattle.workers.specs.Joined.{Each, Part, WasExported, blocks_of}

-- the place is in that block
abbrev pub in_block : ℕ → ℕ → Bool
in_block number place = nat_eq (place / 65536) (number + 1)

abbrev pub places_in : ℕ → List ℕ → List ℕ
places_in number [] = []
places_in number (x ∷ xs) = cond (in_block number x) (x ∷ places_in number xs) (places_in number xs)

abbrev pub IsRising : List ℕ → Type 0
IsRising [] = Unit {0}
IsRising (x ∷ xs) = Each (λ y. x < y) xs × IsRising xs

-- it left this worker as its export i
pub record LeftHere (t : ℕ) (exported : List Block) (block : Block) (i : ℕ) : Type 0 where
  pub sent : Block
  pub there : slice_get exported i ≡ Some sent
  pub same : block ≡ record sent { sent = Some (t, i) }

-- worker t takes a block of its own queue only after it exported it
abbrev pub InTurn : Setting → ℕ → Act → History → Type 0
InTurn setting t (Took block) h = (i : ℕ) → block.sent ≡ Some (t, i) → LeftHere t h.exported block i
InTurn setting t (Looked cell number) h = Unit {0}
InTurn setting t (Raced lost) h = Unit {0}
InTurn setting t Scanned h = Unit {0}
InTurn setting t Exported h = Unit {0}
InTurn setting t (Owned d) h = Unit {0}
InTurn setting t OwnedLarge h = Unit {0}

abbrev pub RunsInTurn : (setting : Setting) (t : ℕ) {start w : Worker} {h : History} → WorkerRun setting start w h → Type 0
RunsInTurn setting t stay = Unit {0}
RunsInTurn setting t (go {h = h} act run can) = InTurn setting t act h × RunsInTurn setting t run

-- a run of worker t in which it takes of its own queue what it exported before
pub record TurnRun (setting : Setting) (t : ℕ) (part : Part) : Type 0 where
  pub run : WorkerRun setting part.start part.final part.history
  pub turns : RunsInTurn setting t run

abbrev pub draws_of : ℕ → List Part → ℕ
draws_of number parts = total (λ (p : Part). times number p.history.drawn) parts

abbrev pub takes_of : ℕ → Part → ℕ
takes_of number part = total (λ (b : Block). one_if (nat_eq b.number number)) part.history.taken

-- the scanned lists of all workers
pub record Ordered (setting : Setting) (parts : List Part) : Type 0 where
  -- hold each won place once
  pub won_scanned : (place : ℕ) → total (λ (p : Part). times place p.final.scanned) parts ≡ total (λ (p : Part). total (λ (q : ℕ × ℕ). one_if (nat_eq q.1 place)) p.final.won) parts
  pub scanned_once : (place : ℕ) → total (λ (p : Part). times place p.final.scanned) parts ≤ 1
  -- those of one block rising
  pub rising : (number : ℕ) → 0 < draws_of number parts → (t : ℕ) (part : Part) → slice_get parts t ≡ Some part → IsRising (places_in number part.final.scanned)
  -- in the lists of the one that drew the block and of the one that took it
  pub one_takes : (number : ℕ) → total (takes_of number) parts ≤ 1
  pub one_draws : (number : ℕ) → draws_of number parts ≤ 1
  pub only_two : (number : ℕ) → 0 < draws_of number parts → (t : ℕ) (part : Part) → slice_get parts t ≡ Some part → times number part.history.drawn ≡ 0 → takes_of number part ≡ 0 → places_in number part.final.scanned ≡ []
  -- and who didn't draw it won nothing in it
  pub one_wins : (number : ℕ) → 0 < draws_of number parts → (t : ℕ) (part : Part) → slice_get parts t ≡ Some part → times number part.history.drawn ≡ 0 → total (λ (q : ℕ × ℕ). one_if (in_block number q.1)) part.final.won ≡ 0

-- what a place of that block weighs, others nothing
abbrev pub inside : ℕ → (ℕ → ℕ) → ℕ → ℕ
inside number scan place = cond (in_block number place) (scan place) 0

-- of a block that another worker took, its exporter scanned what lies before the front, and its taker the rest
pub record HandedOn (block : Block) (exporter taker : Part) : Type 0 where
  pub before : (scan : ℕ → ℕ) → total (inside block.number scan) exporter.final.scanned ≡ front_total (λ (c : Copy). inside block.number scan c.place) block.front block.copies
  pub after : (scan : ℕ → ℕ) → total (inside block.number scan) taker.final.scanned + front_total (λ (c : Copy). inside block.number scan c.place) block.front block.copies ≡ total (λ (c : Copy). inside block.number scan c.place) block.copies

abbrev pub AreHandedOn : List Part → Type 0
AreHandedOn parts = (v i : ℕ) (taker : Part) (block : Block) (there : slice_get parts v ≡ Some taker) (taken : slice_get taker.history.taken i ≡ Some block) (from : WasExported parts block) → from.u ≢ v → HandedOn block from.part taker

-- the first n, and the others
abbrev pub firsts : {A : Type 0} → ℕ → List A → List A
firsts n [] = []
firsts zero (x ∷ xs) = []
firsts (suc n) (x ∷ xs) = x ∷ firsts n xs

abbrev pub rests : {A : Type 0} → ℕ → List A → List A
rests n [] = []
rests zero (x ∷ xs) = x ∷ xs
rests (suc n) (x ∷ xs) = rests n xs

abbrev pub places_of : Block → List ℕ
places_of block = map (λ (c : Copy). c.place) block.copies

-- the second goes on where the first stopped, and together they scanned the block's places, which rise
pub record GoesOn (block : Block) (exporter taker : Part) : Type 0 where
  pub rise : IsRising (places_of block)
  pub first : places_in block.number exporter.final.scanned ≡ firsts block.front (places_of block)
  pub second : places_in block.number taker.final.scanned ≡ rests block.front (places_of block)
  pub together : places_in block.number exporter.final.scanned ++ places_in block.number taker.final.scanned ≡ places_of block

abbrev pub GoOn : List Part → Type 0
GoOn parts = (v i : ℕ) (taker : Part) (block : Block) (there : slice_get parts v ≡ Some taker) (taken : slice_get taker.history.taken i ≡ Some block) (from : WasExported parts block) → from.u ≢ v → GoesOn block from.part taker

-- a block that its drawer leaves was scanned by it alone, in the order of its places, even where it exported it and took it back
abbrev pub ScanOwn : List Part → Type 0
ScanOwn parts = (t i : ℕ) (part : Part) (block : Block) (there : slice_get parts t ≡ Some part) (left : slice_get (blocks_of part.final) i ≡ Some block) → 0 < times block.number part.history.drawn → places_in block.number part.final.scanned ≡ places_of block
