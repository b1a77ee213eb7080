-- A block of copies as the collection sees it: by the names of the originals.
use Rattle.std.specs.Prelude.{◌≡◌, ℕ, ◌+◌, ◌≤◌, List, [], ◌∷◌, length, map}
use Rattle.model.specs.Destination.{Shape, dest}
use Rattle.layout.specs.Object.{Raw, raw_size}
use Rattle.layout.specs.Place.{small_word}
use Rattle.block_pool.specs.BlockValue.{BlockValue}
use Rattle.steps.specs.Words.{target_of_word}
use Rattle.workers.specs.Block.{Block, Copy}
use Rattle.workers.specs.Setting.{destination_number}

-- a copy with these words, at that offset of that block
abbrev pub named_copy : ℕ → ℕ → ℕ → Raw → Copy
named_copy number offset origin raw = record { name = origin; place = small_word number offset; pointers = map target_of_word raw.pointers; plain = raw.plain }

-- the objects whose originals are noted, from an offset on; an object after them is only proposed
abbrev pub named_copies : ℕ → ℕ → List ℕ → List Raw → List Copy
named_copies number offset [] raws = []
named_copies number offset (origin ∷ origins) [] = []
named_copies number offset (origin ∷ origins) (raw ∷ raws) = named_copy number offset origin raw ∷ named_copies number (offset + raw_size raw) origins raws

abbrev pub named : Shape → BlockValue → Block
named shape b =
    record {
      number = b.number;
      destination = destination_number shape (b.generation, b.step);
      copies = named_copies b.number 0 b.origins b.objects;
      front = b.front;
      sent = b.sent;
    }

-- where objects go that survive
abbrev pub IsDestination : Shape → ℕ × ℕ → Type 0
IsDestination shape at = (from : ℕ × ℕ) × (at ≡ dest shape from)

-- a block of copies with nothing proposed, as it changes hands
pub record IsWhole (shape : Shape) (block_words : ℕ) (b : BlockValue) : Type 0 where
  pub words : b.words ≡ block_words
  pub destination : IsDestination shape (b.generation, b.step)
  pub noted : length b.origins ≡ length b.objects
  pub front : b.front ≤ length b.objects
