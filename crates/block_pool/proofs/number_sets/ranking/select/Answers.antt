use Rattle.std.proofs.Common.{◌≡◌, ◌<◌, ◌^◌, ◌∙◌, ap, arith, get_or}
use Rattle.block_pool.specs.Members.{set_from}
use Rattle.block_pool.specs.NumberSetsWords.{bits_of}
use Rattle.block_pool.proofs.Bits.{is_lowest}
use Rattle.block_pool.proofs.Ranks.{some_left, first_left, left_after}
use Rattle.block_pool.proofs.number_sets.ranking.select.Goals as goal

pub overflow_shl-left : goal.overflow_shl-left
overflow_shl-left c =
    let below : c.args.word < 2 ^ 64 = omega (arith, c.ranges.word.fits) in
    let left_below : c.loop.left < 2 ^ 64 = omega (arith, c.loop.auto.left-fits) in
    (is_lowest c.loop.left (some_left _ _ _ c.loop.invariant below (omega (arith, c.loop-test.true))) left_below).within

pub loop-preserved : goal.loop-preserved
loop-preserved c =
    let below : c.args.word < 2 ^ 64 = omega (arith, c.ranges.word.fits) in
    let left_below : c.loop.left < 2 ^ 64 = omega (arith, c.loop.auto.left-fits) in
    left_after _ _ _ c.loop.invariant (some_left _ _ _ c.loop.invariant below (omega (arith, c.loop-test.true))) left_below

pub returns-clause-within : goal.returns-clause-within
returns-clause-within c =
    let below : c.args.word < 2 ^ 64 = omega (arith, c.ranges.word.fits) in
    let left_below : c.loop.left < 2 ^ 64 = omega (arith, c.loop.auto.left-fits) in
    (is_lowest c.loop.left (some_left _ _ _ c.loop.invariant below (omega (arith, c.loop-test.false, c.loop.auto.counter-end))) left_below).within

pub returns-clause-value : goal.returns-clause-value
returns-clause-value c =
    λ first.
    let below : c.args.word < 2 ^ 64 = omega (arith, c.ranges.word.fits) in
    let left_below : c.loop.left < 2 ^ 64 = omega (arith, c.loop.auto.left-fits) in
    let all : c.args.k ≡ c.loop.counter = omega (arith, c.loop-test.false, c.loop.auto.counter-end) in
    ap (λ j. get_or (set_from first (bits_of 64 c.args.word)) j 0) all
    ∙ first_left _ _ _ first c.loop.invariant (some_left _ _ _ c.loop.invariant below (omega (arith, c.loop-test.false, c.loop.auto.counter-end))) left_below
