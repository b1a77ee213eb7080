use Rattle.std.proofs.Common.{◌≡◌, ◌∙◌, ◌<◌, length, sym, ap, arith, get_or}
use Rattle.std.proofs.lemmas.List.{get_or_read}
use Rattle.block_pool.specs.Words.{ordinal_of}
use Rattle.block_pool.proofs.BlockLemmas.{has_objects, has_object, HasObject, ordinal_of-begin}
use Rattle.block_pool.proofs.block.Block.object_at.Goals as goal
use Rattle.block_pool.proofs.block.Block.object_at.Goals.{else-ordinal-self-via-then-ordinal-self+else-index-offset, else-ordinal-self-via-else-ordinal-self}

pub returns-then-offset-len-clause-some : goal.returns-then-offset-len-clause-some
returns-then-offset-len-clause-some g c =
    λ k within is.
    let f : HasObject c.self.inside.words.items c.self.inside.offsets.items c.self.inside.len c.args.self.now.objects k =
    has_object _ _ _ _ _ _ _ _ c.self.invariant (ap (λ v. v.objects) c.self.view_is) within
    in
    omega (arith, f.ends, f.offset_is, is, c.len.ensures)

pub returns-then-index-offset-clause-some : goal.returns-then-index-offset-clause-some
returns-then-index-offset-clause-some g c =
    λ k within is.
    let same : ordinal_of c.index.result.now ≡ k =
    ordinal_of-begin _ _ _ _ _ _ _ k c.args.offset c.index.result.now c.self.invariant (ap (λ v. v.objects) c.self.view_is) within is c.index.ensures
    in
    (c.object.ensures.ordinal ∙ same, rw same at c.object.ensures.object)

pub returns-then-index-offset-clause-begins : goal.returns-then-index-offset-clause-begins
returns-then-index-offset-clause-begins g c =
    let count : length c.args.self.now.objects ≡ c.self.inside.len = (has_objects _ _ _ _ _ _ _ c.self.invariant (ap (λ v. v.objects) c.self.view_is)).count in
    let within : ordinal_of c.index.result.now < length c.args.self.now.objects = omega (arith, c.if-ordinal-self.true) in
    let f : HasObject c.self.inside.words.items c.self.inside.offsets.items c.self.inside.len c.args.self.now.objects (ordinal_of c.index.result.now) =
    has_object _ _ _ _ _ _ _ _ c.self.invariant (ap (λ v. v.objects) c.self.view_is) within
    in
    let at : c.index-then-ordinal-self.result.now ≡ get_or c.self.inside.offsets.items (ordinal_of c.index.result.now) 0 =
    get_or_read c.self.inside.offsets.items _ _ f.in_offsets c.index-then-ordinal-self.ensures 0
    in
    rw c.object.ensures.ordinal (within, f.offset_is ∙ sym at ∙ c.if-index-offset.true)

pub returns-else-ordinal-self-clause-some : goal.returns-else-ordinal-self-clause-some
returns-else-ordinal-self-clause-some g c =
    λ k within is.
    let count : length c.args.self.now.objects ≡ c.self.inside.len = (has_objects _ _ _ _ _ _ _ c.self.invariant (ap (λ v. v.objects) c.self.view_is)).count in
    let same : ordinal_of c.index.result.now ≡ k =
    ordinal_of-begin _ _ _ _ _ _ _ k c.args.offset c.index.result.now c.self.invariant (ap (λ v. v.objects) c.self.view_is) within is c.index.ensures
    in
    let f : HasObject c.self.inside.words.items c.self.inside.offsets.items c.self.inside.len c.args.self.now.objects k =
    has_object _ _ _ _ _ _ _ _ c.self.invariant (ap (λ v. v.objects) c.self.view_is) within
    in
    elim c.else-ordinal-self.branch [
      | else-ordinal-self-via-then-ordinal-self+else-index-offset w ↦
          let read = rw same at w.index-then-ordinal-self.ensures in
          w.if-index-offset.false (get_or_read c.self.inside.offsets.items k _ f.in_offsets read 0 ∙ sym f.offset_is ∙ is)
      | else-ordinal-self-via-else-ordinal-self w ↦ omega (arith, w.if-ordinal-self.false)
    ]
