use Rattle.std.proofs.Common.{◌≡◌, ◌<◌, ◌*◌, ◌/◌, arith, get_or, ◌∙◌, ap, true, false, length}
use Rattle.std.proofs.lemmas.List.{get_or_read, get_or-set_same, get_or-set_other, length-set}
use Rattle.block_pool.specs.NumberSetsWords.{flags_of}
use Rattle.block_pool.proofs.NumberSetsWordLemmas.{length-flags, flags-set}
use Rattle.block_pool.proofs.number_sets.growing_flags.Flags.set.Goals as goal

pub index_mut-requires : goal.index_mut-requires
index_mut-requires g c =
    omega (arith, c.requires, length-flags c.self.inside.words.items, ap length c.self.view_is)

pub returns-clause-flag : goal.returns-clause-flag
returns-clause-flag g c =
    let ws = c.self.inside.words.items in
    let within : c.args.n < 64 * length ws = omega (arith, c.requires, length-flags ws, ap length c.self.view_is) in
    let word : c.index_mut.result.now ≡ get_or ws (c.args.n / 64) 0 = get_or_read ws (c.args.n / 64) _ (omega arith) c.index_mut.ensures.value 0 in
    let flags = flags-set ws c.args.n c.index_mut.result.now within word in
    rw flags (get_or-set_same (flags_of ws) c.args.n true false (omega (arith, length-flags ws)))

pub returns-clause-others : goal.returns-clause-others
returns-clause-others g c k ne =
    let ws = c.self.inside.words.items in
    let within : c.args.n < 64 * length ws = omega (arith, c.requires, length-flags ws, ap length c.self.view_is) in
    let word : c.index_mut.result.now ≡ get_or ws (c.args.n / 64) 0 = get_or_read ws (c.args.n / 64) _ (omega arith) c.index_mut.ensures.value 0 in
    let flags = flags-set ws c.args.n c.index_mut.result.now within word in
    rw flags (get_or-set_other (flags_of ws) c.args.n k true false ne ∙ ap (λ bs. get_or bs k false) c.self.view_is)

pub returns-clause-len : goal.returns-clause-len
returns-clause-len g c =
    let ws = c.self.inside.words.items in
    let within : c.args.n < 64 * length ws = omega (arith, c.requires, length-flags ws, ap length c.self.view_is) in
    let word : c.index_mut.result.now ≡ get_or ws (c.args.n / 64) 0 = get_or_read ws (c.args.n / 64) _ (omega arith) c.index_mut.ensures.value 0 in
    let flags = flags-set ws c.args.n c.index_mut.result.now within word in
    rw flags (length-set (flags_of ws) c.args.n true ∙ ap length c.self.view_is)
