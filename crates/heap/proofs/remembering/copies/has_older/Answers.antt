use Rattle.std.proofs.Common.{◌≤◌, get_or, sym, subst, ap, ◌∙◌, arith, ⊎_elim}
use Rattle.std.proofs.lemmas.Bool.{cases_eq}
use Rattle.nursery.proofs.TableSteps.{get_or_any}
use Rattle.heap.proofs.remembering.copies.has_older.Goals as goal

pub loop-block-preserved : goal.loop-block-preserved
loop-block-preserved g c k d lt =
    let blocks = c.args.blocks.now in
    let i = c.loop-block.block-index in
    ⊎_elim
    (λ same.
    let here = get_or_any blocks i d c.block-item.result c.loop-block-test.true ∙ sym c.block-item.is in
    subst (λ j. (get_or blocks j d).generation ≤ c.args.youngest) (sym same) (omega (arith, ap (λ b. b.generation) here, c.generation.ensures, c.if-generation-youngest.false)))
    (λ differ. c.loop-block.invariant k d (omega (arith, lt, differ)))
    (cases_eq k i)

pub returns-then-generation-youngest-clause-some : goal.returns-then-generation-youngest-clause-some
returns-then-generation-youngest-clause-some g c _ =
    let blocks = c.args.blocks.now in
    let i = c.loop-block.block-index in (
      i,
      c.loop-block-test.true,
      λ d.
          let here = get_or_any blocks i d c.block-item.result c.loop-block-test.true ∙ sym c.block-item.is in
          omega (arith, ap (λ b. b.generation) here, c.generation.ensures, c.if-generation-youngest.true),
    )

pub returns-clause-none : goal.returns-clause-none
returns-clause-none g c _ k d lt = c.loop-block.invariant k d (omega (arith, lt, c.loop-block-test.false))
