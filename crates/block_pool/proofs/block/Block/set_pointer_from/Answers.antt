use Rattle.std.proofs.Common.{◌+◌, ap, arith, refl}
use Rattle.std.proofs.lemmas.List.{length-set}
use Rattle.block_pool.specs.BlockValue.{with_pointer_word}
use Rattle.block_pool.proofs.WriteLemmas.{header_from, pointer_from, IsRewritten}
use Rattle.block_pool.proofs.block.Block.set_pointer_from.Goals as goal

pub overflow_add-offset : goal.overflow_add-offset
overflow_add-offset g c = omega (arith, header_from _ _ _ _ _ _ _ c.requires.object.0 c.args.offset c.self.invariant (ap (λ v. v.objects) c.self.view_is) c.requires.object.1 c.requires.object.2, c.self.invariant.words_to)

pub overflow_add-offset-2 : goal.overflow_add-offset-2
overflow_add-offset-2 g c = omega (arith, (pointer_from _ _ _ _ _ _ _ c.requires.object.0 c.args.offset c.self.invariant (ap (λ v. v.objects) c.self.view_is) c.requires.object.1 c.requires.object.2 c.args.i c.args.word (λ raw is. c.requires.field c.requires.object.0 raw c.requires.object.1 c.requires.object.2 is)).few)

pub index_mut-requires : goal.index_mut-requires
index_mut-requires g c = omega (arith, (pointer_from _ _ _ _ _ _ _ c.requires.object.0 c.args.offset c.self.invariant (ap (λ v. v.objects) c.self.view_is) c.requires.object.1 c.requires.object.2 c.args.i c.args.word (λ raw is. c.requires.field c.requires.object.0 raw c.requires.object.1 c.requires.object.2 is)).in_words)

pub invariant_of-self : goal.invariant_of-self
invariant_of-self g c = (pointer_from _ _ _ _ _ _ _ c.requires.object.0 c.args.offset c.self.invariant (ap (λ v. v.objects) c.self.view_is) c.requires.object.1 c.requires.object.2 c.args.i c.args.word (λ raw is. c.requires.field c.requires.object.0 raw c.requires.object.1 c.requires.object.2 is)).sound

pub returns : goal.returns
returns g c =
    λ k raw within begins is.
    let done : IsRewritten c.self.inside.words.items c.self.inside.offsets.items c.self.inside.len c.self.inside.used c.self.inside.front c.self.inside.label.number c.args.self.now.objects k (c.args.offset + 1 + c.args.i) c.args.word (λ raw. with_pointer_word raw c.args.i c.args.word) =
    pointer_from _ _ _ _ _ _ _ k c.args.offset c.self.invariant (ap (λ v. v.objects) c.self.view_is) within begins c.args.i c.args.word (λ raw is. c.requires.field k raw within begins is)
    in
    rw (length-set c.self.inside.words.items (c.args.offset + 1 + c.args.i) c.args.word, done.objects_are raw is, ← c.self.view_is) refl
