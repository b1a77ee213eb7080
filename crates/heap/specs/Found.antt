-- What a look-up tells of an object.
use Rattle.std.specs.Prelude.{◌≡◌, ℕ, ◌<◌, false, MatchOption, Option, Some, slice_index}
use Rattle.model.specs.Graph.{Object, object_at, is_large}
use Rattle.model.specs.Live.{IsYoung}
use Rattle.layout.specs.ObjectRef.{raw_of}
use Rattle.steps.specs.StepPairs.{step_pair, stands_at}
use Rattle.steps.specs.HeapValue.{HeapValue}
use Rattle.steps.specs.CollectionValue.{CollectionValue, young_names}
use Rattle.block_pool.specs.BlockValue.{BlockValue}
use Rattle.steps.specs.Words.{IsShownAs, LiesIn}
use Rattle.heap.specs.declared.found.Found.{Found}

-- the name's number in the collection
pub record HasNumber (heap : HeapValue) (c : CollectionValue) (name number : ℕ) : Type 0 where
  pub in_range : number < c.cells
  pub is : slice_index (young_names heap.graph c.generation) number ≡ name

-- the block in which the small object with that name lies, where it stands, and its number where its generation is collected
pub record IsFoundIn (heap : HeapValue) (c : CollectionValue) (name offset : ℕ) (block : BlockValue) (at : ℕ × ℕ) (found : Option ℕ) : Type 0 where
  pub object : Object
  pub there : object_at heap.graph name ≡ Some object
  pub small : is_large heap.config.block_words object ≡ false
  pub lies : LiesIn object offset block
  pub stands : at ≡ stands_at object
  pub number : MatchOption found (IsYoung heap.graph c.generation name → ⊥) (λ n. IsYoung heap.graph c.generation name × HasNumber heap c name n)

-- the words of the object with that name, where it stands, and its number where its generation is collected
pub record IsFound (heap : HeapValue) (c : CollectionValue) (name : ℕ) (found : Found) : Type 0 where
  pub object : Object
  pub there : object_at heap.graph name ≡ Some object
  pub shown : IsShownAs object (raw_of found.object)
  pub stands : step_pair found.at ≡ stands_at object
  pub number : MatchOption found.number (IsYoung heap.graph c.generation name → ⊥) (λ n. IsYoung heap.graph c.generation name × HasNumber heap c name n)
