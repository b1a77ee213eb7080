-- How copies lie in their block.
use Rattle.std.specs.Prelude.{◌≡◌, ℕ, ◌+◌, ◌<◌, ◌≤◌, List, [], ◌∷◌}
use Rattle.workers.specs.Block.{Block, Copy, copy_words}
use Rattle.layout.specs.Place.{small_word}
use Rattle.workers.specs.Setting.{Setting, words_of, old_plain, destination_of}
use Rattle.workers.specs.Total.{total}

-- a copy at this offset of that block, of its object's size and with its plain words
pub record LaidCopy (setting : Setting) (number destination offset : ℕ) (c : Copy) : Type 0 where
  pub place : c.place ≡ small_word number offset
  pub goes : destination_of setting c.name ≡ destination
  pub has_words : 0 < words_of setting c.name
  pub size : copy_words c ≡ words_of setting c.name
  pub plain : c.plain ≡ old_plain setting c.name

abbrev pub LaidFrom : Setting → ℕ → ℕ → ℕ → List Copy → Type 0
LaidFrom setting number destination offset [] = Unit {0}
LaidFrom setting number destination offset (c ∷ cs) = LaidCopy setting number destination offset c × LaidFrom setting number destination (offset + words_of setting c.name) cs

abbrev pub words_in : Setting → List Copy → ℕ
words_in setting cs = total (λ (c : Copy). words_of setting c.name) cs

-- one after another from offset 0 on, within the block, each at its destination
pub record Laid (setting : Setting) (b : Block) : Type 0 where
  pub from : LaidFrom setting b.number b.destination 0 b.copies
  pub within : words_in setting b.copies ≤ setting.block_words
