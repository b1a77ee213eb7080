use Rattle.std.proofs.Common.{◌≡◌, ◌<◌, ◌*◌, ◌/◌, arith, get_or, ◌∙◌, ap, false, length}
use Rattle.std.proofs.lemmas.List.{get_or_read, get_or-set_same, get_or-set_other, length-set}
use Rattle.block_pool.specs.NumberSetsWords.{flags_of}
use Rattle.block_pool.proofs.NumberSetsWordLemmas.{length-flags, flags-cleared}
use Rattle.block_pool.proofs.FirstFlags.{flags-past}
use Rattle.block_pool.proofs.number_sets.growing_flags.Flags.unset.Goals as goal

pub returns-then-n-len-clause-flag : goal.returns-then-n-len-clause-flag
returns-then-n-len-clause-flag g c =
    let ws = c.self.inside.words.items in
    let within : c.args.n < 64 * length ws = omega (arith, c.if-n-len.true, c.len.ensures) in
    let word : c.index_mut.result.now ≡ get_or ws (c.args.n / 64) 0 = get_or_read ws (c.args.n / 64) _ (omega arith) c.index_mut.ensures.value 0 in
    let flags = flags-cleared ws c.args.n c.index_mut.result.now within word in
    rw flags (get_or-set_same (flags_of ws) c.args.n false false (omega (arith, length-flags ws)))

pub returns-then-n-len-clause-others : goal.returns-then-n-len-clause-others
returns-then-n-len-clause-others g c k ne =
    let ws = c.self.inside.words.items in
    let within : c.args.n < 64 * length ws = omega (arith, c.if-n-len.true, c.len.ensures) in
    let word : c.index_mut.result.now ≡ get_or ws (c.args.n / 64) 0 = get_or_read ws (c.args.n / 64) _ (omega arith) c.index_mut.ensures.value 0 in
    let flags = flags-cleared ws c.args.n c.index_mut.result.now within word in
    rw flags (get_or-set_other (flags_of ws) c.args.n k false false ne ∙ ap (λ bs. get_or bs k false) c.self.view_is)

pub returns-then-n-len-clause-len : goal.returns-then-n-len-clause-len
returns-then-n-len-clause-len g c =
    let ws = c.self.inside.words.items in
    let within : c.args.n < 64 * length ws = omega (arith, c.if-n-len.true, c.len.ensures) in
    let word : c.index_mut.result.now ≡ get_or ws (c.args.n / 64) 0 = get_or_read ws (c.args.n / 64) _ (omega arith) c.index_mut.ensures.value 0 in
    let flags = flags-cleared ws c.args.n c.index_mut.result.now within word in
    rw flags (length-set (flags_of ws) c.args.n false ∙ ap length c.self.view_is)

pub returns-else-n-len-clause-flag : goal.returns-else-n-len-clause-flag
returns-else-n-len-clause-flag g c =
    let ws = c.self.inside.words.items in
    rw (← c.self.view_is) (flags-past ws c.args.n (omega (arith, c.if-n-len.false, c.len.ensures)))
