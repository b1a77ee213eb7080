use Rattle.std.proofs.Common.{◌≡◌, ◌∙◌, sym, ap, get_or, Some}
use Rattle.layout.specs.Object.{Raw}
use Rattle.block_pool.proofs.BlockLemmas.{has_object, HasObject}
use Rattle.block_pool.proofs.block.Block.object_from.Goals as goal

pub read_object-requires-clause-room : goal.read_object-requires-clause-room
read_object-requires-clause-room g c =
    let f : HasObject c.self.inside.words.items c.self.inside.offsets.items c.self.inside.len c.args.self.now.objects c.requires.0 =
    has_object _ _ _ _ _ _ _ _ c.self.invariant (ap (λ v. v.objects) c.self.view_is) c.requires.1
    in
    let at : c.args.offset ≡ get_or c.self.inside.offsets.items c.requires.0 0 = sym c.requires.2 ∙ f.offset_is in
    rw (c.deref.ensures.value, at) f.ends

pub returns : goal.returns
returns g c = λ k within is.
    let f : HasObject c.self.inside.words.items c.self.inside.offsets.items c.self.inside.len c.args.self.now.objects k =
    has_object _ _ _ _ _ _ _ _ c.self.invariant (ap (λ v. v.objects) c.self.view_is) within
    in
    let at : c.args.offset ≡ get_or c.self.inside.offsets.items k 0 = sym is ∙ f.offset_is in (
      (rw (c.deref.ensures.value, at) at c.read_object.ensures.ordinal) ∙ f.ordinal_is,
      f.object_is ∙ ap (λ (o : Raw). Some o) (sym (rw (c.deref.ensures.value, at) at c.read_object.ensures.object)),
    )
