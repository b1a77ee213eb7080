use Rattle.std.proofs.Common.{◌∙◌, sym, ap, arith}
use Rattle.std.proofs.lemmas.List.{get_or_read}
use Rattle.block_pool.proofs.BlockLemmas.{has_object, HasObject}
use Rattle.block_pool.proofs.block.Block.offset.Goals as goal

pub returns-clause-value : goal.returns-clause-value
returns-clause-value g c =
    let f : HasObject c.self.inside.words.items c.self.inside.offsets.items c.self.inside.len c.args.self.now.objects c.args.k =
    has_object _ _ _ _ _ _ _ _ c.self.invariant (ap (λ v. v.objects) c.self.view_is) c.requires
    in get_or_read c.self.inside.offsets.items c.args.k _ f.in_offsets c.index.ensures 0 ∙ sym f.offset_is

pub returns-clause-in_block : goal.returns-clause-in_block
returns-clause-in_block g c =
    let f : HasObject c.self.inside.words.items c.self.inside.offsets.items c.self.inside.len c.args.self.now.objects c.args.k =
    has_object _ _ _ _ _ _ _ _ c.self.invariant (ap (λ v. v.objects) c.self.view_is) c.requires
    in omega (arith, get_or_read c.self.inside.offsets.items c.args.k _ f.in_offsets c.index.ensures 0, f.ends, c.self.invariant.words_to)
