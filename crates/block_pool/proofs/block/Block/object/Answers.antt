use Rattle.std.proofs.Common.{◌≡◌, ◌∙◌, sym, ap, get_or, Some}
use Rattle.std.proofs.lemmas.List.{get_or_read}
use Rattle.layout.specs.Object.{Raw}
use Rattle.block_pool.proofs.BlockLemmas.{has_object, HasObject}
use Rattle.block_pool.proofs.block.Block.object.Goals as goal

pub read_object-requires-clause-room : goal.read_object-requires-clause-room
read_object-requires-clause-room g c =
    let f : HasObject c.self.inside.words.items c.self.inside.offsets.items c.self.inside.len c.args.self.now.objects c.args.k =
    has_object _ _ _ _ _ _ _ _ c.self.invariant (ap (λ v. v.objects) c.self.view_is) c.requires
    in
    let at : c.index.result.now ≡ get_or c.self.inside.offsets.items c.args.k 0 = get_or_read c.self.inside.offsets.items c.args.k _ f.in_offsets c.index.ensures 0 in
    rw (c.deref.ensures.value, at) f.ends

pub returns-clause-object : goal.returns-clause-object
returns-clause-object g c =
    let f : HasObject c.self.inside.words.items c.self.inside.offsets.items c.self.inside.len c.args.self.now.objects c.args.k =
    has_object _ _ _ _ _ _ _ _ c.self.invariant (ap (λ v. v.objects) c.self.view_is) c.requires
    in
    let at : c.index.result.now ≡ get_or c.self.inside.offsets.items c.args.k 0 = get_or_read c.self.inside.offsets.items c.args.k _ f.in_offsets c.index.ensures 0 in
    f.object_is ∙ ap (λ (o : Raw). Some o) (sym (rw (c.deref.ensures.value, at) at c.read_object.ensures.object))

pub returns-clause-ordinal : goal.returns-clause-ordinal
returns-clause-ordinal g c =
    let f : HasObject c.self.inside.words.items c.self.inside.offsets.items c.self.inside.len c.args.self.now.objects c.args.k =
    has_object _ _ _ _ _ _ _ _ c.self.invariant (ap (λ v. v.objects) c.self.view_is) c.requires
    in
    let at : c.index.result.now ≡ get_or c.self.inside.offsets.items c.args.k 0 = get_or_read c.self.inside.offsets.items c.args.k _ f.in_offsets c.index.ensures 0 in
    (rw (c.deref.ensures.value, at) at c.read_object.ensures.ordinal) ∙ f.ordinal_is
