use Rattle.std.proofs.Common.{◌+◌, ◌<◌, length, sym, ap, subst, arith, ◌∙◌}
use Rattle.std.proofs.lemmas.List.{get_or_read}
use Rattle.layout.specs.Object.{Raw}
use Rattle.block_pool.proofs.BeginLemmas.{Begun, begun}
use Rattle.block_pool.proofs.block.Block.pointer_from.Goals as goal

pub overflow_add-offset : goal.overflow_add-offset
overflow_add-offset g c =
    let f : Begun c.self.inside.words.items c.args.offset c.requires.0 = begun _ _ _ _ _ _ c.args.self.now c.args.offset c.requires.0 c.self.invariant (ap (λ v. v.objects) c.self.view_is) c.requires.1 in
    omega (arith, f.pointers.fits, c.requires.2, c.self.invariant.words_to)

pub overflow_add-offset-2 : goal.overflow_add-offset-2
overflow_add-offset-2 g c =
    let f : Begun c.self.inside.words.items c.args.offset c.requires.0 = begun _ _ _ _ _ _ c.args.self.now c.args.offset c.requires.0 c.self.invariant (ap (λ v. v.objects) c.self.view_is) c.requires.1 in
    omega (arith, f.pointers.fits, c.requires.2, c.self.invariant.words_to)

pub index-requires : goal.index-requires
index-requires g c =
    let f : Begun c.self.inside.words.items c.args.offset c.requires.0 = begun _ _ _ _ _ _ c.args.self.now c.args.offset c.requires.0 c.self.invariant (ap (λ v. v.objects) c.self.view_is) c.requires.1 in
    omega (arith, f.pointers.fits, c.requires.2)

pub returns : goal.returns
returns g c = λ raw r.
    let first : Begun c.self.inside.words.items c.args.offset c.requires.0 = begun _ _ _ _ _ _ c.args.self.now c.args.offset c.requires.0 c.self.invariant (ap (λ v. v.objects) c.self.view_is) c.requires.1 in
    let f : Begun c.self.inside.words.items c.args.offset raw = begun _ _ _ _ _ _ c.args.self.now c.args.offset raw c.self.invariant (ap (λ v. v.objects) c.self.view_is) r in
    let field : c.args.i < length raw.pointers = subst (λ (x : Raw). c.args.i < length x.pointers) (first.is ∙ sym f.is) c.requires.2 in
    get_or_read c.self.inside.words.items (c.args.offset + 1 + c.args.i) c.index.result.now (omega (arith, f.pointers.fits, field)) c.index.ensures 0 ∙ sym (f.pointers.reads c.args.i field)
