use Rattle.std.proofs.Common.{◌+◌, ap, arith, sym, ◌∙◌}
use Rattle.std.proofs.lemmas.List.{get_or_read}
use Rattle.block_pool.proofs.WriteLemmas.{pointer_rewritten}
use Rattle.block_pool.proofs.ReadLemmas.{HasPointers, has_pointers}
use Rattle.block_pool.proofs.block.Block.pointer.Goals as goal

pub overflow_add-offset-2 : goal.overflow_add-offset-2
overflow_add-offset-2 g c = omega (arith, (pointer_rewritten _ _ _ _ _ _ _ c.args.k c.index.result.now c.args.i 0 c.self.invariant (ap (λ v. v.objects) c.self.view_is) c.requires.object c.index.ensures c.requires.field).few)

pub index-requires-2 : goal.index-requires-2
index-requires-2 g c = omega (arith, (pointer_rewritten _ _ _ _ _ _ _ c.args.k c.index.result.now c.args.i 0 c.self.invariant (ap (λ v. v.objects) c.self.view_is) c.requires.object c.index.ensures c.requires.field).in_words)

pub returns : goal.returns
returns g c =
    λ raw is.
    let has : HasPointers c.self.inside.words.items c.index.result.now raw = has_pointers _ _ _ _ _ _ _ c.args.k c.index.result.now raw c.self.invariant (ap (λ v. v.objects) c.self.view_is) c.requires.object c.index.ensures is in
    get_or_read c.self.inside.words.items (c.index.result.now + 1 + c.args.i) c.index-2.result.now ((pointer_rewritten _ _ _ _ _ _ _ c.args.k c.index.result.now c.args.i 0 c.self.invariant (ap (λ v. v.objects) c.self.view_is) c.requires.object c.index.ensures c.requires.field).in_words) c.index-2.ensures 0
    ∙ sym (has.reads c.args.i (c.requires.field raw is))
