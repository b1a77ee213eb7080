use Rattle.std.proofs.Common.{sym, ap, arith, length, ◌∙◌}
use Rattle.block_pool.specs.Words.{span}
use Rattle.block_pool.proofs.BeginLemmas.{Begun, begun}
use Rattle.block_pool.proofs.block.Block.size_from.Goals as goal

pub size_at-requires : goal.size_at-requires
size_at-requires g c =
    let f : Begun c.self.inside.words.items c.args.offset c.requires.0 = begun _ _ _ _ _ _ c.args.self.now c.args.offset c.requires.0 c.self.invariant (ap (λ v. v.objects) c.self.view_is) c.requires.1 in
    omega (arith, f.ends, ap length c.deref.ensures.value)

pub returns : goal.returns
returns g c = λ raw r.
    let f : Begun c.self.inside.words.items c.args.offset raw = begun _ _ _ _ _ _ c.args.self.now c.args.offset raw c.self.invariant (ap (λ v. v.objects) c.self.view_is) r in
    c.size_at.ensures ∙ ap (λ ws. span ws c.args.offset) c.deref.ensures.value ∙ sym f.size
