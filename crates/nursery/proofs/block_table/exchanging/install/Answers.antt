use Rattle.std.proofs.Common.{◌≡◌, ◌<◌, [], length, get_or, None, true, arith, sym, ap, subst, ◌∙◌, rules, cond}
use Rattle.std.specs.Prelude.{is_some, Contains}
use Rattle.std.proofs.lemmas.Bool.{true≢false}
use Rattle.model.specs.Reached.{has}
use Rattle.block_pool.specs.BlockValue.{BlockValue}
use Rattle.block_pool.specs.PoolValue.{without}
use Rattle.nursery.specs.Installed.{installed}
use Rattle.nursery.proofs.Installing.{Installing-none, Installing-skip, Installing-put, Installing-all, still_free, whole_is, All-middle, some_object, no_blocks}
use Rattle.nursery.proofs.block_table.exchanging.install.Goals as goal

pub loop-block-init : goal.loop-block-init
loop-block-init g c = record {
  so_far = Installing-none _ _ _;
  limit = search rules;
}

pub loop-block-preserved-then-is_empty : goal.loop-block-preserved-then-is_empty
loop-block-preserved-then-is_empty g c = record {
  so_far = Installing-skip _ _ _ _ _ _ _ _ c.in-Some.ensures.items c.loop-block.invariant.so_far (c.is_empty.ensures.0 c.if-is_empty.true);
  limit = c.loop-block.invariant.limit;
}

pub take-requires : goal.take-requires
take-requires g c =
    let some = some_object c.in-Some.block (λ e. true≢false (sym (c.is_empty.ensures.1 e) ∙ c.if-is_empty.false)) in
    let so_far = c.loop-block.invariant.so_far in
    let whole = whole_is _ _ _ c.in-Some.block _ _ _ _ c.in-Some.ensures.items so_far in
    let was_free : has c.args.pool.now.free c.in-Some.block.number ≡ true = All-middle (λ (b : BlockValue). has c.args.pool.now.free b.number ≡ true) c.pop.new.self.items c.in-Some.block so_far.done (rw whole at c.requires.free) in
    subst (Contains c.loop-block.pool.free) (sym c.number.ensures.value) (still_free _ _ _ c.in-Some.block _ _ _ _ c.in-Some.ensures.items so_far c.requires.once some was_free)

pub put_block-requires : goal.put_block-requires
put_block-requires g c =
    let so_far = c.loop-block.invariant.so_far in
    let whole = whole_is _ _ _ c.in-Some.block _ _ _ _ c.in-Some.ensures.items so_far in
    let room : c.in-Some.block.number < length c.args.table.now = All-middle (λ (b : BlockValue). b.number < length c.args.table.now) c.pop.new.self.items c.in-Some.block so_far.done (rw whole at c.requires.in_table) in
    omega (arith, c.loop-block.auto.table, room)

pub loop-block-preserved : goal.loop-block-preserved
loop-block-preserved g c =
    let some = some_object c.in-Some.block (λ e. true≢false (sym (c.is_empty.ensures.1 e) ∙ c.if-is_empty.false)) in
    let so_far = c.loop-block.invariant.so_far in
    let whole = whole_is _ _ _ c.in-Some.block _ _ _ _ c.in-Some.ensures.items so_far in
    let room : c.in-Some.block.number < length c.args.table.now = All-middle (λ (b : BlockValue). b.number < length c.args.table.now) c.pop.new.self.items c.in-Some.block so_far.done (rw whole at c.requires.in_table) in
    let was_free : has c.args.pool.now.free c.in-Some.block.number ≡ true = All-middle (λ (b : BlockValue). has c.args.pool.now.free b.number ≡ true) c.pop.new.self.items c.in-Some.block so_far.done (rw whole at c.requires.free) in
    let put = Installing-put _ _ _ c.in-Some.block _ _ _ _ c.in-Some.ensures.items so_far c.requires.once some (omega (arith, c.loop-block.auto.table, room)) was_free in
    let free_is : c.take.new.self.free ≡ without c.in-Some.block.number c.loop-block.pool.free = ap (λ p. p.free) c.take.ensures.taken ∙ ap (λ n. without n c.loop-block.pool.free) c.number.ensures.value in
    record {
      so_far = rw (c.put_block.ensures, free_is) put;
      limit = ap (λ p. p.limit) c.take.ensures.taken ∙ c.loop-block.invariant.limit;
    }

pub returns-clause-table : goal.returns-clause-table
returns-clause-table g c =
    let so_far = c.loop-block.invariant.so_far in
    let left : c.loop-block.blocks.items ≡ [] = no_blocks c.loop-block.blocks.items (omega (arith, c.in_default.ensures.cases, c.loop-block.blocks.ok.0)) in
    let done_is : so_far.done ≡ c.args.blocks.items = Installing-all _ _ _ _ _ _ left so_far in
    λ n. so_far.slots n ∙ ap (λ bs. cond (is_some (installed bs n)) (installed bs n) (get_or c.args.table.now n None)) done_is
