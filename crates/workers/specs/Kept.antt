-- What the workers' parts together leave of a heap.
use Rattle.std.specs.Prelude.{◌≡◌, ℕ, ◌+◌, ◌<◌, ◌≤◌, true, false, List, [], ◌∷◌, ◌++◌, Option, Some, None, nat_eq}
use Rattle.std.specs.Ordering.{nat_cmp}
use Rattle.std.specs.FinMap.{find}
use Rattle.model.specs.Graph.{Graph}
use Rattle.model.specs.Live.{IsStart}
use Rattle.model.specs.Destination.{Shape}
use Rattle.model.specs.Collected.{Renaming, IsLiveOrOlder}
use Rattle.workers.specs.Block.{Block, Copy, has_unscanned}
use Rattle.layout.specs.Place.{small_word}
use Rattle.workers.specs.Setting.{Setting, setting_of, is_large_name}
use Rattle.workers.specs.Places.{new_pointers}
use Rattle.workers.specs.Total.{total, one_if, times, wins_of, ones}
use Rattle.workers.specs.Joined.{Each, Part, Joined, blocks_of, named_in}
use Rattle.workers.specs.Laid.{Laid}

-- all that was won
abbrev pub won_lists : List Part → List (ℕ × ℕ)
won_lists [] = []
won_lists (p ∷ ps) = p.final.won ++ won_lists ps

abbrev pub CopiesLive : Graph → ℕ → Block → Type 0
CopiesLive graph g block = Each (λ (c : Copy). IsLiveOrOlder graph g c.name) block.copies

-- in a drawn block nothing stood
abbrev pub AreFresh : Setting → List Part → Type 0
AreFresh setting parts = (number offset : ℕ) → 0 < total (λ (p : Part). times number p.history.drawn) parts → offset < 65536 → setting.object (small_word number offset) ≡ None

-- the parts of a collection of the generations 0 to g
pub record Brought (graph : Graph) (g : ℕ) (shape : Shape) (block_words workers : ℕ) (f : ℕ → Option ℕ) (parts : List Part) : Type 0 where
  pub joined : Joined (setting_of graph g shape block_words workers) f parts
  pub starts : (target : ℕ) → IsStart graph g target → 0 < total (λ (p : Part). times target p.start.starts) parts
  pub only_starts : Each (λ (p : Part). Each (IsLiveOrOlder graph g) p.start.starts) parts
  pub taken_live : Each (λ (p : Part). Each (CopiesLive graph g) p.history.taken) parts
  pub small_blocks : block_words ≤ 65536
  pub fresh : AreFresh (setting_of graph g shape block_words workers) parts

-- a copy as it has to be: at its name's place, each pointer renamed
pub record IsCopy (setting : Setting) (f : ℕ → Option ℕ) (c : Copy) : Type 0 where
  pub place : f c.name ≡ Some c.place
  pub pointers : c.pointers ≡ new_pointers setting f c.name

-- a block that a worker leaves: wholly scanned, in order and full of copies, for one destination
pub record IsLeft (setting : Setting) (f : ℕ → Option ℕ) (parts : List Part) (b : Block) : Type 0 where
  pub scanned : has_unscanned b ≡ false
  pub laid : Laid setting b
  pub copies : Each (IsCopy setting f) b.copies
  pub drawn : 0 < total (λ (p : Part). times b.number p.history.drawn) parts

pub record Kept (graph : Graph) (g : ℕ) (shape : Shape) (block_words workers : ℕ) (f : ℕ → Option ℕ) (parts : List Part) : Type 0 where
  -- the won lists are a renaming of what is live
  pub renaming : Renaming block_words graph g (won_lists parts)
  pub places : (name : ℕ) → find nat_cmp name (won_lists parts) ≡ f name
  pub won_once : (name : ℕ) → wins_of name (won_lists parts) ≡ ones (f name)
  -- the scanned places are the won places, each as often
  pub scanned_once : (place : ℕ) → total (λ (p : Part). times place p.final.scanned) parts ≡ total (λ (q : ℕ × ℕ). one_if (nat_eq q.1 place)) (won_lists parts)
  -- each is once among the copies and the large objects that were done
  pub stands_once : (name : ℕ) → total (λ (p : Part). total (named_in name) (blocks_of p.final)) parts + total (λ (p : Part). times name p.final.large_done) parts ≡ ones (f name)
  pub large : Each (λ (p : Part). Each (λ n. is_large_name (setting_of graph g shape block_words workers) n ≡ true) p.final.large_done) parts
  -- the blocks
  pub blocks : Each (λ (p : Part). Each (IsLeft (setting_of graph g shape block_words workers) f parts) (blocks_of p.final)) parts
  pub one_block : (number : ℕ) → total (λ (p : Part). total (λ (b : Block). one_if (nat_eq b.number number)) (blocks_of p.final)) parts ≤ 1
