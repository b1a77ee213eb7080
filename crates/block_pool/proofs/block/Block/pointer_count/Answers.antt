use Rattle.std.proofs.Common.{ap, arith, sym, ◌∙◌}
use Rattle.std.proofs.lemmas.List.{get_or_read}
use Rattle.block_pool.specs.Words.{pointers_of}
use Rattle.block_pool.proofs.WriteLemmas.{header_in_words}
use Rattle.block_pool.proofs.ReadLemmas.{HasPointers, has_pointers}
use Rattle.block_pool.proofs.block.Block.pointer_count.Goals as goal

pub index-requires-2 : goal.index-requires-2
index-requires-2 g c = omega (arith, header_in_words _ _ _ _ _ _ _ c.args.k c.index.result.now c.self.invariant (ap (λ v. v.objects) c.self.view_is) c.requires c.index.ensures)

pub returns : goal.returns
returns g c =
    λ raw is.
    let has : HasPointers c.self.inside.words.items c.index.result.now raw = has_pointers _ _ _ _ _ _ _ c.args.k c.index.result.now raw c.self.invariant (ap (λ v. v.objects) c.self.view_is) c.requires c.index.ensures is in
    ap pointers_of (get_or_read c.self.inside.words.items c.index.result.now c.index-2.result.now has.in_words c.index-2.ensures 0) ∙ sym has.count
