use Rattle.std.proofs.Common.{◌≡◌, ◌/◌, ◌%◌, arith, get_or, sym, ◌∙◌, ap, eqb, false}
use Rattle.std.proofs.lemmas.Bool.{le-ltb}
use Rattle.std.proofs.lemmas.List.{get_or_read}
use Rattle.std.proofs.lemmas.Nat.Bits.{shr_and_one}
use Rattle.block_pool.specs.NumberSetsWords.{flags_of}
use Rattle.block_pool.proofs.NumberSetsWordLemmas.{flags-at}
use Rattle.block_pool.proofs.FirstFlags.{flags-past}
use Rattle.block_pool.proofs.number_sets.growing_flags.Flags.is_set.Goals as goal

pub returns-then-n-len : goal.returns-then-n-len
returns-then-n-len g c =
    let ws = c.self.inside.words.items in
    let word : c.index.result.now ≡ get_or ws (c.args.n / 64) 0 =
    get_or_read ws (c.args.n / 64) _ (omega (arith, c.if-n-len.true, c.len.ensures)) c.index.ensures 0
    in
    let flag : get_or (flags_of ws) c.args.n false ≡ eqb _ 1 = flags-at ws c.args.n (omega (arith, c.if-n-len.true, c.len.ensures)) in
    rw (shr_and_one c.index.result.now (c.args.n % 64), word, ← flag) (ap (λ bs. get_or bs c.args.n false) c.self.view_is)

pub returns-else-n-len : goal.returns-else-n-len
returns-else-n-len g c =
    let ws = c.self.inside.words.items in
    le-ltb _ _ c.if-n-len.false ∙ sym (flags-past ws c.args.n (omega (arith, c.if-n-len.false, c.len.ensures))) ∙ ap (λ bs. get_or bs c.args.n false) c.self.view_is
