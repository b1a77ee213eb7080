use Rattle.std.proofs.Common.{◌≡◌, ap, arith}
use Rattle.block_pool.specs.Words.{ordinal_of}
use Rattle.block_pool.proofs.BlockLemmas.{ordinal_of-begin}
use Rattle.block_pool.proofs.BeginLemmas.{Begun, begun}
use Rattle.block_pool.proofs.block.Block.ordinal_from.Goals as goal

pub index-requires : goal.index-requires
index-requires g c =
    let f : Begun c.self.inside.words.items c.args.offset c.requires.0 = begun _ _ _ _ _ _ c.args.self.now c.args.offset c.requires.0 c.self.invariant (ap (λ v. v.objects) c.self.view_is) c.requires.1 in
    omega (arith, f.ends)

pub returns : goal.returns
returns g c =
    λ k within is.
    let same : ordinal_of c.index.result.now ≡ k =
    ordinal_of-begin _ _ _ _ _ _ _ k c.args.offset c.index.result.now c.self.invariant (ap (λ v. v.objects) c.self.view_is) within is c.index.ensures
    in same
