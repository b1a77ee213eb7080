use Rattle.std.proofs.Common.{◌≡◌, ℕ, ◌<◌, List, Option, length, Some, None, sym, subst, ◌∙◌, arith}
use Rattle.std.specs.Prelude.{IsSomeAnd}
use Rattle.model.specs.Graph.{Object}
use Rattle.layout.specs.Object.{Raw}
use Rattle.steps.specs.Words.{LiesIn}
use Rattle.block_pool.specs.BlockValue.{BlockValue, offset_of, BeginsAt}
use Rattle.model.proofs.Options.{some_is}
use Rattle.nursery.specs.Table.{slot_at}
use Rattle.heap_objects.proofs.Finding.{block_there, lies_in, stands_there, too_old, young_enough, number_is, number_few}
use Rattle.heap_objects.proofs.YoungNumbers.{base_at}
use Rattle.heap_objects.proofs.heap_space.space.Space.find_small.Goals as goal

-- the ordinal in the block is that in the block of that number
ordinal_there : (table : List (Option BlockValue)) (number offset ordinal : ℕ) (found : BlockValue) → slot_at table number ≡ Some found → ((k : ℕ) → k < length found.objects → offset_of found.objects k ≡ offset → ordinal ≡ k)
    → (block : BlockValue) (k : ℕ) → slot_at table number ≡ Some block → k < length block.objects → offset_of block.objects k ≡ offset → ordinal ≡ k
ordinal_there table number offset ordinal found is tells block k there lt at =
    subst (λ (b : BlockValue). (j : ℕ) → j < length b.objects → offset_of b.objects j ≡ offset → ordinal ≡ j) (some_is (sym is ∙ there)) tells k lt at

-- the words of the object that lies there
begins_there : (o : Option Object) (offset : ℕ) (block : BlockValue) → IsSomeAnd o (λ x. LiesIn x offset block) → (raw : Raw) × BeginsAt block offset raw
begins_there None offset block there = absurd there
begins_there (Some o) offset block there = (there.raw, there.begins)

pub block_of-block-requires : goal.block_of-block-requires
block_of-block-requires g c =
    let there = rw (← c.self.view_is) at c.requires.there in
    rw c.deref.ensures.value (block_there _ _ _ _ c.self.invariant.space c.args.at.block c.args.at.offset c.args.at.offset_in_range there)

pub returns-then-step-generation-clause-block : goal.returns-then-step-generation-clause-block
returns-then-step-generation-clause-block g c =
    let there = rw (← c.self.view_is) at c.requires.there in
    let found = rw c.deref.ensures.value at c.block_of-block.ensures in
    rw (← c.self.view_is) (lies_in _ _ _ _ c.self.invariant.space c.args.at.block c.args.at.offset c.args.at.offset_in_range there _ found)

pub returns-clause-block : goal.returns-clause-block
returns-clause-block g c =
    let there = rw (← c.self.view_is) at c.requires.there in
    let found = rw c.deref.ensures.value at c.block_of-block.ensures in
    rw (← c.self.view_is) (lies_in _ _ _ _ c.self.invariant.space c.args.at.block c.args.at.offset c.args.at.offset_in_range there _ found)

pub returns-then-step-generation-clause-step : goal.returns-then-step-generation-clause-step
returns-then-step-generation-clause-step g c =
    let there = rw (← c.self.view_is) at c.requires.there in
    let found = rw c.deref.ensures.value at c.block_of-block.ensures in
    rw (← c.self.view_is, c.generation.ensures, c.step.ensures) (stands_there _ _ _ _ c.self.invariant.space c.args.at.block c.args.at.offset c.args.at.offset_in_range there _ found)

pub returns-clause-step : goal.returns-clause-step
returns-clause-step g c =
    let there = rw (← c.self.view_is) at c.requires.there in
    let found = rw c.deref.ensures.value at c.block_of-block.ensures in
    rw (← c.self.view_is, c.generation.ensures, c.step.ensures) (stands_there _ _ _ _ c.self.invariant.space c.args.at.block c.args.at.offset c.args.at.offset_in_range there _ found)

pub returns-then-step-generation-clause-number : goal.returns-then-step-generation-clause-number
returns-then-step-generation-clause-number g c =
    let there = rw (← c.self.view_is) at c.requires.there in
    let found = rw c.deref.ensures.value at c.block_of-block.ensures in
    rw (← c.self.view_is) (too_old _ _ _ _ c.self.invariant.space c.args.at.block c.args.at.offset c.args.at.offset_in_range there _ found c.args.generation (omega (arith, c.if-step-generation.true, c.generation.ensures)))

pub ordinal_from-requires : goal.ordinal_from-requires
ordinal_from-requires g c =
    let there = rw (← c.self.view_is) at c.requires.there in
    let found = rw c.deref.ensures.value at c.block_of-block.ensures in
    begins_there _ _ _ (lies_in _ _ _ _ c.self.invariant.space c.args.at.block c.args.at.offset c.args.at.offset_in_range there _ found)

pub bounds-bases-number : goal.bounds-bases-number
bounds-bases-number g c =
    let there = rw (← c.self.view_is) at c.requires.there in
    let found = rw c.deref.ensures.value at c.block_of-block.ensures in
    let bases = rw (← c.self.view_is) at c.requires.bases in
    let young = young_enough _ _ _ _ c.self.invariant.space c.args.at.block c.args.at.offset c.args.at.offset_in_range there _ found c.args.generation (omega (arith, c.if-step-generation.false, c.generation.ensures)) in
    (base_at _ _ _ _ c.self.invariant.space c.args.generation c.args.bases.now c.args.at.block c.args.at.offset bases c.args.at.offset_in_range young).0

pub overflow_cast-named : goal.overflow_cast-named
overflow_cast-named g c =
    let there = rw (← c.self.view_is) at c.requires.there in
    let found = rw c.deref.ensures.value at c.block_of-block.ensures in
    let bases = rw (← c.self.view_is) at c.requires.bases in
    let young = young_enough _ _ _ _ c.self.invariant.space c.args.at.block c.args.at.offset c.args.at.offset_in_range there _ found c.args.generation (omega (arith, c.if-step-generation.false, c.generation.ensures)) in
    let few = number_few _ _ _ _ c.self.invariant.space c.args.generation c.args.at.block c.args.at.offset c.args.at.offset_in_range young c.args.bases.now bases c.ordinal_from.result (ordinal_there c.self.inside.table.items c.args.at.block c.args.at.offset c.ordinal_from.result _ found c.ordinal_from.ensures) in
    omega (arith, few)

pub overflow_add-named : goal.overflow_add-named
overflow_add-named g c =
    let there = rw (← c.self.view_is) at c.requires.there in
    let found = rw c.deref.ensures.value at c.block_of-block.ensures in
    let bases = rw (← c.self.view_is) at c.requires.bases in
    let young = young_enough _ _ _ _ c.self.invariant.space c.args.at.block c.args.at.offset c.args.at.offset_in_range there _ found c.args.generation (omega (arith, c.if-step-generation.false, c.generation.ensures)) in
    let few = number_few _ _ _ _ c.self.invariant.space c.args.generation c.args.at.block c.args.at.offset c.args.at.offset_in_range young c.args.bases.now bases c.ordinal_from.result (ordinal_there c.self.inside.table.items c.args.at.block c.args.at.offset c.ordinal_from.result _ found c.ordinal_from.ensures) in
    omega (arith, few)

pub returns-clause-number : goal.returns-clause-number
returns-clause-number g c =
    let there = rw (← c.self.view_is) at c.requires.there in
    let found = rw c.deref.ensures.value at c.block_of-block.ensures in
    let bases = rw (← c.self.view_is) at c.requires.bases in
    let young = young_enough _ _ _ _ c.self.invariant.space c.args.at.block c.args.at.offset c.args.at.offset_in_range there _ found c.args.generation (omega (arith, c.if-step-generation.false, c.generation.ensures)) in
    rw (← c.self.view_is) (young, number_is _ _ _ _ c.self.invariant.space c.args.generation c.args.at.block c.args.at.offset c.args.at.offset_in_range young c.args.bases.now bases c.ordinal_from.result (ordinal_there c.self.inside.table.items c.args.at.block c.args.at.offset c.ordinal_from.result _ found c.ordinal_from.ensures))
