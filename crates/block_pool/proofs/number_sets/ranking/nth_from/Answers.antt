use Rattle.std.proofs.Common.{◌≡◌, ◌<◌, ◌+◌, ◌-◌, ◌*◌, ◌^◌, ◌∙◌, ap, arith, rules, refl, get_or, ℕ, Some}
use Rattle.block_pool.specs.Members.{set_from}
use Rattle.block_pool.specs.NumberSetsWords.{bits_of, rank}
use Rattle.block_pool.proofs.Ranks.{word_within, word_passed, member_in}
use Rattle.block_pool.proofs.number_sets.ranking.nth_from.Goals as goal

pub bounds-words-at : goal.bounds-words-at
bounds-words-at c = word_within c.args.words.now c.args.from _ (omega arith) c.requires.some

pub loop-flags-init : goal.loop-flags-init
loop-flags-init c =
    let within = word_within c.args.words.now c.args.from _ (omega arith) c.requires.some in
    record { left_is = record { within = within; left_is = refl }; flags_is = search rules }

pub bounds-words-at-in-loop-flags : goal.bounds-words-at-in-loop-flags
bounds-words-at-in-loop-flags c =
    let ws = c.args.words.now in
    let below : get_or ws c.loop-flags.at 0 < 2 ^ 64 = search rules in
    (word_passed ws _ _ _ _ c.loop-flags.invariant.left_is c.loop-flags.invariant.flags_is below (omega (arith, c.loop-flags-test.true)) c.requires.some).within

pub loop-flags-preserved : goal.loop-flags-preserved
loop-flags-preserved c =
    let ws = c.args.words.now in
    let below : get_or ws c.loop-flags.at 0 < 2 ^ 64 = search rules in
    record {
      left_is = word_passed ws _ _ _ _ c.loop-flags.invariant.left_is c.loop-flags.invariant.flags_is below (omega (arith, c.loop-flags-test.true)) c.requires.some;
      flags_is = search rules;
    }

pub returns : goal.returns
returns c =
    let ws = c.args.words.now in
    let at : ℕ = c.loop-flags.at in
    let k : ℕ = rank ws c.args.from + c.args.k in
    let is_left = c.loop-flags.invariant.left_is in
    let below : get_or ws at 0 < 2 ^ 64 = search rules in
    let left : k - rank ws at ≡ c.loop-flags.left = omega (arith, is_left.left_is) in
    let value : get_or (set_from (64 * at) (bits_of 64 (get_or ws at 0))) (k - rank ws at) 0 ≡ 64 * at + c.select.result =
    ap (λ n. get_or (set_from (64 * at) (bits_of 64 (get_or ws at 0))) n 0) left ∙ c.select.ensures.value (64 * at)
    in
    let place : 64 * at + c.select.result ≡ at * 64 + c.select.result = omega arith in
    member_in ws at _ k _ is_left.within refl below (omega (arith, is_left.left_is)) (omega (arith, is_left.left_is, c.loop-flags.invariant.flags_is, c.loop-flags-test.false)) value
    ∙ ap (λ n. Some n) place
