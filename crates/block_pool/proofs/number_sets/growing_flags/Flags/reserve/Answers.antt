use Rattle.std.proofs.Common.{◌≡◌, ◌+◌, ◌-◌, ◌/◌, ℕ, List, ◌++◌, arith, get_or, ◌∙◌, ap, false, length, replicate, take, vec_len}
use Rattle.std.proofs.lemmas.List.{take_all}
use Rattle.block_pool.specs.NumberSetsWords.{flags_of}
use Rattle.block_pool.proofs.NumberSetsWordLemmas.{length-flags}
use Rattle.block_pool.proofs.FirstFlags.{flags-grown}
use Rattle.block_pool.proofs.number_sets.growing_flags.Flags.reserve.Goals as goal

pub returns-in_err-resize-clause-already : goal.returns-in_err-resize-clause-already
returns-in_err-resize-clause-already g c h =
    absurd (omega (arith, h, c.if-n-len.true, c.len.ensures, length-flags c.self.inside.words.items, ap length c.self.view_is))

pub returns-in_ok-resize-clause-within : goal.returns-in_ok-resize-clause-within
returns-in_ok-resize-clause-within g c =
    omega (arith, length-flags c.resize.new.self.items, c.in_ok-resize.ensures.len)

pub returns-in_ok-resize-clause-kept : goal.returns-in_ok-resize-clause-kept
returns-in_ok-resize-clause-kept g c k =
    let ws : List ℕ = c.self.inside.words.items in
    let n : ℕ = c.args.n / 64 + 1 in
    let more : ℕ = n - vec_len c.self.inside.words in
    let items : c.resize.new.self.items ≡ take n ws ++ replicate more 0 = c.in_ok-resize.ensures.items in
    let whole : take n ws ≡ ws = take_all n ws (omega (arith, c.if-n-len.true, c.len.ensures)) in
    let grown : c.resize.new.self.items ≡ ws ++ replicate more 0 = items ∙ ap (λ vs. vs ++ replicate more 0) whole in
    ap (λ vs. get_or (flags_of vs) k false) grown ∙ flags-grown ws more k ∙ ap (λ bs. get_or bs k false) c.self.view_is

pub returns-in_ok-resize-clause-already : goal.returns-in_ok-resize-clause-already
returns-in_ok-resize-clause-already g c h =
    absurd (omega (arith, h, c.if-n-len.true, c.len.ensures, length-flags c.self.inside.words.items, ap length c.self.view_is))

pub returns-else-n-len-clause-within : goal.returns-else-n-len-clause-within
returns-else-n-len-clause-within g c =
    omega (arith, c.if-n-len.false, c.len.ensures, length-flags c.self.inside.words.items, ap length c.self.view_is)
