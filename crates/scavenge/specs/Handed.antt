-- Blocks as queues hand them over in a collection.
use Rattle.std.specs.Prelude.{ℕ, refl}
use Rattle.std.specs.Coded.{Coded, code_by, coded×, coded_ℕ}
use Rattle.block_pool.specs.BlockValue.{BlockValue}
use Rattle.steps.specs.HeapValue.{HeapValue, heap_code}
use Rattle.workers.specs.Ready.{IsHanded}
use Rattle.scavenge.specs.Named.{named, IsWhole}

-- the heap that is collected, and the oldest generation collected
pub record CopiesKeyValue : Type 0 where
  pub heap : HeapValue
  pub generation : ℕ

abbrev pub key_code : Coded CopiesKeyValue
key_code = code_by (HeapValue × ℕ) (coded× heap_code coded_ℕ) (λ k. (k.heap, k.generation)) (λ p. record { heap = p.0; generation = p.1 }) (λ _. refl)

-- a block of copies of live objects, with nothing proposed, of which one at least is unscanned and those not yet scanned hold the old pointers
pub record IsHandedFor (key : CopiesKeyValue) (block : BlockValue) : Type 0 where
  pub whole : IsWhole key.heap.config.shape key.heap.config.block_words block
  pub copies : IsHanded key.heap.graph key.generation key.heap.config.shape key.heap.config.block_words 0 (named key.heap.config.shape block)
