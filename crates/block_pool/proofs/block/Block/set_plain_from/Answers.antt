use Rattle.std.proofs.Common.{◌+◌, ap, arith, refl}
use Rattle.std.proofs.lemmas.List.{length-set}
use Rattle.block_pool.specs.BlockValue.{with_plain_word}
use Rattle.block_pool.specs.Words.{pointers_of}
use Rattle.block_pool.proofs.WriteLemmas.{header_from, plain_from, IsRewritten}
use Rattle.block_pool.proofs.block.Block.set_plain_from.Goals as goal

pub index-requires : goal.index-requires
index-requires g c = omega (arith, header_from _ _ _ _ _ _ _ c.requires.object.0 c.args.offset c.self.invariant (ap (λ v. v.objects) c.self.view_is) c.requires.object.1 c.requires.object.2)

pub overflow_add-offset : goal.overflow_add-offset
overflow_add-offset g c = omega (arith, header_from _ _ _ _ _ _ _ c.requires.object.0 c.args.offset c.self.invariant (ap (λ v. v.objects) c.self.view_is) c.requires.object.1 c.requires.object.2, c.self.invariant.words_to)

pub overflow_add-offset-2 : goal.overflow_add-offset-2
overflow_add-offset-2 g c = omega (arith, header_from _ _ _ _ _ _ _ c.requires.object.0 c.args.offset c.self.invariant (ap (λ v. v.objects) c.self.view_is) c.requires.object.1 c.requires.object.2, c.self.invariant.words_to)

pub overflow_add-offset-3 : goal.overflow_add-offset-3
overflow_add-offset-3 g c = omega (arith, (plain_from _ _ _ _ _ _ _ c.requires.object.0 c.args.offset c.self.invariant (ap (λ v. v.objects) c.self.view_is) c.requires.object.1 c.requires.object.2 c.index.result.now c.args.i c.args.word c.index.ensures (λ raw is. c.requires.field c.requires.object.0 raw c.requires.object.1 c.requires.object.2 is)).few)

pub index_mut-requires : goal.index_mut-requires
index_mut-requires g c = omega (arith, (plain_from _ _ _ _ _ _ _ c.requires.object.0 c.args.offset c.self.invariant (ap (λ v. v.objects) c.self.view_is) c.requires.object.1 c.requires.object.2 c.index.result.now c.args.i c.args.word c.index.ensures (λ raw is. c.requires.field c.requires.object.0 raw c.requires.object.1 c.requires.object.2 is)).in_words)

pub invariant_of-self : goal.invariant_of-self
invariant_of-self g c = (plain_from _ _ _ _ _ _ _ c.requires.object.0 c.args.offset c.self.invariant (ap (λ v. v.objects) c.self.view_is) c.requires.object.1 c.requires.object.2 c.index.result.now c.args.i c.args.word c.index.ensures (λ raw is. c.requires.field c.requires.object.0 raw c.requires.object.1 c.requires.object.2 is)).sound

pub returns : goal.returns
returns g c =
    λ k raw within begins is.
    let done : IsRewritten c.self.inside.words.items c.self.inside.offsets.items c.self.inside.len c.self.inside.used c.self.inside.front c.self.inside.label.number c.args.self.now.objects k (c.args.offset + 1 + pointers_of c.index.result.now + c.args.i) c.args.word (λ raw. with_plain_word raw c.args.i c.args.word) =
    plain_from _ _ _ _ _ _ _ k c.args.offset c.self.invariant (ap (λ v. v.objects) c.self.view_is) within begins c.index.result.now c.args.i c.args.word c.index.ensures (λ raw is. c.requires.field k raw within begins is)
    in
    rw (length-set c.self.inside.words.items (c.args.offset + 1 + pointers_of c.index.result.now + c.args.i) c.args.word, done.objects_are raw is, ← c.self.view_is) refl
