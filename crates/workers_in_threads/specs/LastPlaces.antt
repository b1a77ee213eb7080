-- Where the last places of the blocks that a worker took stand in its scanned list.
use Rattle.std.specs.Prelude.{ℕ, List, [], ◌∷◌, Option, Some, None, unwrap_or}
use Rattle.workers.specs.Block.{Block}
use Rattle.workers.specs.Ordered.{places_of}

-- the last of these places, if there is one
abbrev pub last_of : List ℕ → Option ℕ
last_of [] = None
last_of (place ∷ places) = Some (unwrap_or (last_of places) place)

-- the place of a block's last copy, if it has one
abbrev pub last_place : Block → Option ℕ
last_place block = last_of (places_of block)

-- a place in front of places, where there is one
abbrev pub place_first : Option ℕ → List ℕ → List ℕ
place_first None places = places
place_first (Some place) places = place ∷ places

-- the places of the last copies of these blocks, in the order of the blocks
abbrev pub last_places : List Block → List ℕ
last_places [] = []
last_places (b ∷ bs) = place_first (last_place b) (last_places bs)

-- the places of the first list stand in the second, in their order, maybe with others before, between and behind them
pub data StandInOrder : List ℕ → List ℕ → Type 0 where
  at_end : StandInOrder [] []
  passes : {places scanned : List ℕ} (other : ℕ) → StandInOrder places scanned → StandInOrder places (other ∷ scanned)
  meets : {places scanned : List ℕ} (place : ℕ) → StandInOrder places scanned → StandInOrder (place ∷ places) (place ∷ scanned)
