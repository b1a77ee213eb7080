-- What a function that reads or changes the table block by block knows of the block that it found.
use Rattle.std.proofs.Common.{◌≡◌, ◌≢◌, ℕ, ◌+◌, ◌<◌, ◌≤◌, Bool, true, false, cond, List, [], ◌∷◌, ◌++◌, length, take, get_or, Option, Some, None, sum_by, max, take_all, refl, sym, ap, ◌∙◌, arith, ⊎_elim}
use Rattle.std.proofs.lemmas.Bool.{cases_lt}
use Rattle.std.proofs.lemmas.Bool.Decides.{nat_tests}
use Rattle.std.proofs.lemmas.List.{length_push}
use Rattle.std.proofs.lemmas.List.Sums.{sum_by_more}
use Rattle.std.specs.Prelude.{nat_lt, slice_get, IfSome, IfNone, IsSomeAnd}
use Rattle.std.specs.List.{AllWithin}
use Rattle.std.specs.Ordering.{ord_max, nat_cmp}
use Rattle.std.proofs.lemmas.Grind.{common_steps}
use Rattle.model.proofs.Options.{some_is}
use Rattle.layout.specs.declared.object.ObjectRef.{ObjectRef}
use Rattle.layout.specs.ObjectRef.{raw_of}
use Rattle.block_pool.specs.BlockValue.{BlockValue, offset_of}
use Rattle.nursery.specs.Counts.{HasCounted}
use Rattle.nursery.specs.Table.{cleared, slot_len, objects_before}
use Rattle.nursery.proofs.TableSteps.{get_or_any, push_each}

-- the block that was found is the one with the number
pub same_block : {X : Type 0} (table : List (Option X)) (number : ℕ) (slot : Option X) (found block : X) → number < length table → slot ≡ get_or table number slot → slot ≡ Some found → get_or table number None ≡ Some block → found ≡ block
same_block table number slot found block lt is at there = some_is (sym at ∙ is ∙ get_or_any table number slot None lt ∙ there)

pub found_there : {X : Type 0} (table : List (Option X)) (number : ℕ) (slot : Option X) (found : X) → number < length table → slot ≡ get_or table number slot → slot ≡ Some found → get_or table number None ≡ Some found
found_there table number slot found lt is at = get_or_any table number None slot lt ∙ sym is ∙ at

-- the object that begins at an offset of the block that was found
module _ (table : List (Option BlockValue)) (number offset : ℕ) (block : BlockValue) (there : get_or table number None ≡ Some block) where
  pub object_some : (object : Option ObjectRef) → ((k : ℕ) → k < length block.objects → offset_of block.objects k ≡ offset → IsSomeAnd object (λ o. (o.header.ordinal ≡ k) × (slice_get block.objects k ≡ Some (raw_of o))))
      → IfSome object (λ o. (o.header.ordinal < length block.objects) × (offset_of block.objects o.header.ordinal ≡ offset))
      → IfSome object (λ o. (b : BlockValue) × (get_or table number None ≡ Some b) × (o.header.ordinal < length b.objects) × (offset_of b.objects o.header.ordinal ≡ offset) × (slice_get b.objects o.header.ordinal ≡ Some (raw_of o)))
  object_some None some begins = tt
  object_some (Some o) some begins = (block, there, begins.0, begins.1, (some o.header.ordinal begins.0 begins.1).1)

  pub object_none : (object : Option ObjectRef) → ((k : ℕ) → k < length block.objects → offset_of block.objects k ≡ offset → IsSomeAnd object (λ o. (o.header.ordinal ≡ k) × (slice_get block.objects k ≡ Some (raw_of o))))
      → IfNone object ((b : BlockValue) → get_or table number None ≡ Some b → (k : ℕ) → k < length b.objects → offset_of b.objects k ≢ offset)
  object_none (Some o) some = tt
  object_none None some = λ b is k lt at. let same : b ≡ block = some_is (sym is ∙ there) in some k (rw same at lt) (rw same at at)

pub ord_max-is : (a b : ℕ) → ord_max nat_cmp a b ≡ max a b
ord_max-is a b = grind (arith, common_steps)

-- one block more
pub end_more : {X : Type 0} (number : X → ℕ) (xs : List X) (i end : ℕ) (x : X) → x ≡ get_or xs i x → i < length xs → AllWithin (λ b. number b < end) xs 0 i → AllWithin (λ b. number b < max end (number x + 1)) xs 0 (i + 1)
end_more number xs i end x is lt above = λ k d le more.
    ⊎_elim
    (λ low. omega (arith, above k d le low))
    (λ high.
    let last : k ≡ i = omega arith in
    let same : get_or xs k d ≡ x = ap (λ j. get_or xs j d) last ∙ get_or_any xs i d x lt ∙ sym is in
    omega (arith, ap number same))
    (cases_lt k i)

-- the blocks before a number are cleared
pub cleared_before : (old new : List (Option BlockValue)) (count : ℕ) → ((n : ℕ) → n < count → get_or new n None ≡ cleared (get_or old n None)) → ((n : ℕ) → count ≤ n → get_or new n None ≡ get_or old n None) → (n : ℕ) → get_or new n None ≡ cond (nat_lt n count) (cleared (get_or old n None)) (get_or old n None)
cleared_before old new count first others n = go (nat_lt n count) refl
  where
    go : (b : Bool) → nat_lt n count ≡ b → get_or new n None ≡ cond b (cleared (get_or old n None)) (get_or old n None)
    go true is = first n (grind (arith, nat_tests, is))
    go false is = others n (grind (arith, nat_tests, is))

-- one block's count more
pub counted_more : (table : List (Option BlockValue)) (bases : List ℕ) (objects size : ℕ) → length bases < length table → slot_len (get_or table (length bases) None) ≡ size → HasCounted table bases objects → HasCounted table (bases ++ objects ∷ []) (objects + size)
counted_more table bases objects size lt here so_far =
    let len : length (bases ++ objects ∷ []) ≡ length bases + 1 = length_push bases objects in
    record {
      each = λ b h. push_each (λ b x. x ≡ objects_before table b) bases objects 0 so_far.each so_far.objects_are b (omega (arith, h, len));
      objects_are = rw len (omega (arith, sum_by_more slot_len table (length bases) None lt, here, so_far.objects_are));
    }

pub sum-all : (f : Option BlockValue → ℕ) (table : List (Option BlockValue)) (i : ℕ) → length table ≤ i → sum_by f (take i table) ≡ sum_by f table
sum-all f table i le = ap (sum_by f) (take_all i table le)
