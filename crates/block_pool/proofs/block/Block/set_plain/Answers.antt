use Rattle.std.proofs.Common.{◌+◌, ap, arith, refl}
use Rattle.std.proofs.lemmas.List.{length-set}
use Rattle.block_pool.specs.BlockValue.{with_plain_word}
use Rattle.block_pool.specs.Words.{pointers_of}
use Rattle.block_pool.proofs.WriteLemmas.{plain_rewritten, header_in_words, IsRewritten}
use Rattle.block_pool.proofs.block.Block.set_plain.Goals as goal

pub index-requires-2 : goal.index-requires-2
index-requires-2 g c =
    omega (arith, header_in_words _ _ _ _ _ _ _ c.args.k c.index.result.now c.self.invariant (ap (λ v. v.objects) c.self.view_is) c.requires.object c.index.ensures)

pub overflow_add-offset-3 : goal.overflow_add-offset-3
overflow_add-offset-3 g c =
    let done : IsRewritten c.self.inside.words.items c.self.inside.offsets.items c.self.inside.len c.self.inside.used c.self.inside.front c.self.inside.label.number c.args.self.now.objects c.args.k (c.index.result.now + 1 + pointers_of c.index-2.result.now + c.args.i) c.args.word (λ raw. with_plain_word raw c.args.i c.args.word) =
    plain_rewritten _ _ _ _ _ _ _ c.args.k c.index.result.now c.index-2.result.now c.args.i c.args.word c.self.invariant (ap (λ v. v.objects) c.self.view_is) c.requires.object c.index.ensures c.index-2.ensures c.requires.field
    in omega (arith, done.few)

pub index_mut-requires : goal.index_mut-requires
index_mut-requires g c =
    omega (arith, (plain_rewritten _ _ _ _ _ _ _ c.args.k c.index.result.now c.index-2.result.now c.args.i c.args.word c.self.invariant (ap (λ v. v.objects) c.self.view_is) c.requires.object c.index.ensures c.index-2.ensures c.requires.field).in_words)

pub invariant_of-self : goal.invariant_of-self
invariant_of-self g c =
    (plain_rewritten _ _ _ _ _ _ _ c.args.k c.index.result.now c.index-2.result.now c.args.i c.args.word c.self.invariant (ap (λ v. v.objects) c.self.view_is) c.requires.object c.index.ensures c.index-2.ensures c.requires.field).sound

pub returns : goal.returns
returns g c =
    λ raw is.
    let done : IsRewritten c.self.inside.words.items c.self.inside.offsets.items c.self.inside.len c.self.inside.used c.self.inside.front c.self.inside.label.number c.args.self.now.objects c.args.k (c.index.result.now + 1 + pointers_of c.index-2.result.now + c.args.i) c.args.word (λ raw. with_plain_word raw c.args.i c.args.word) =
    plain_rewritten _ _ _ _ _ _ _ c.args.k c.index.result.now c.index-2.result.now c.args.i c.args.word c.self.invariant (ap (λ v. v.objects) c.self.view_is) c.requires.object c.index.ensures c.index-2.ensures c.requires.field
    in
    rw (length-set c.self.inside.words.items (c.index.result.now + 1 + pointers_of c.index-2.result.now + c.args.i) c.args.word, done.objects_are raw is, ← c.self.view_is) refl
