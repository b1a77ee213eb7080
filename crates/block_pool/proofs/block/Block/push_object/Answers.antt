use Rattle.std.proofs.Common.{◌≡◌, ◌∙◌, ◌≤◌, ◌+◌, length, sym, ap, arith, refl}
use Rattle.std.proofs.lemmas.List.{with_items_is}
use Rattle.std.specs.Vec.{with_items}
use Rattle.layout.specs.Object.{raw_size}
use Rattle.layout.specs.ObjectRef.{raw_of}
use Rattle.block_pool.specs.BlockValue.{words_of}
use Rattle.block_pool.specs.Words.{IsWritten}
use Rattle.block_pool.proofs.BlockLemmas.{has_objects, HasObjects, is_pushed, IsPushed}
use Rattle.block_pool.proofs.block.Block.push_object.Goals as goal

pub write_object-requires : goal.write_object-requires
write_object-requires g c =
    let f : HasObjects c.self.inside.words.items c.self.inside.offsets.items c.self.inside.len c.self.inside.used c.args.self.now.objects =
    has_objects _ _ _ _ _ _ _ c.self.invariant (ap (λ v. v.objects) c.self.view_is)
    in
    let words : length c.self.inside.words.items ≡ c.args.self.now.words = ap (λ v. v.words) c.self.view_is in
    let room : c.self.inside.used + raw_size (raw_of c.args.object) ≤ length c.deref_mut.result.now = omega (arith, c.requires, f.used_is, words, ap length c.deref_mut.ensures.value) in
    record { room = room }

pub index_mut-requires : goal.index_mut-requires
index_mut-requires g c =
    let f : HasObjects c.self.inside.words.items c.self.inside.offsets.items c.self.inside.len c.self.inside.used c.args.self.now.objects =
    has_objects _ _ _ _ _ _ _ c.self.invariant (ap (λ v. v.objects) c.self.view_is)
    in
    let words : length c.self.inside.words.items ≡ c.args.self.now.words = ap (λ v. v.words) c.self.view_is in
    omega (arith, c.requires, f.used_is, f.at_most_used, words, c.self.invariant.as_many_offsets)

pub invariant_of-self : goal.invariant_of-self
invariant_of-self g c =
    let f : HasObjects c.self.inside.words.items c.self.inside.offsets.items c.self.inside.len c.self.inside.used c.args.self.now.objects =
    has_objects _ _ _ _ _ _ _ c.self.invariant (ap (λ v. v.objects) c.self.view_is)
    in
    let words : length c.self.inside.words.items ≡ c.args.self.now.words = ap (λ v. v.words) c.self.view_is in
    let size : raw_size (raw_of c.args.object) ≡ c.size-size.result = sym c.size-size.ensures in
    let stays : length c.write_object.new.words ≡ length c.self.inside.words.items = c.write_object.auto.words ∙ ap length c.deref_mut.ensures.value in
    let written : IsWritten c.self.inside.words.items c.write_object.new.words c.self.inside.used c.self.inside.len (raw_of c.args.object) = rw c.deref_mut.ensures.value at c.write_object.ensures in
    let pushed : IsPushed c.self.inside.words.items c.write_object.new.words c.self.inside.offsets.items c.self.inside.len c.self.inside.used (c.self.inside.used + c.size-size.result) c.self.inside.front c.self.inside.label.number (raw_of c.args.object) =
    is_pushed _ _ _ _ _ _ _ _ _ c.self.invariant written stays (omega arith) (omega (arith, c.requires, f.used_is, words))
    in
    let items : (with_items c.self.inside.words c.write_object.new.words).items ≡ c.write_object.new.words = with_items_is c.self.inside.words c.write_object.new.words (omega (arith, c.write_object.auto.words, c.deref_mut.ensures.len)) in
    rw items pushed.sound

pub returns-clause-offset : goal.returns-clause-offset
returns-clause-offset g c =
    sym (has_objects _ _ _ _ _ _ _ c.self.invariant (ap (λ v. v.objects) c.self.view_is)).used_is

pub returns-clause-in_block : goal.returns-clause-in_block
returns-clause-in_block g c =
    let used : words_of c.args.self.now.objects ≡ c.self.inside.used = (has_objects _ _ _ _ _ _ _ c.self.invariant (ap (λ v. v.objects) c.self.view_is)).used_is in
    let words : length c.self.inside.words.items ≡ c.args.self.now.words = ap (λ v. v.words) c.self.view_is in
    omega (arith, c.requires, c.self.invariant.words_to)

pub returns-clause-pushed : goal.returns-clause-pushed
returns-clause-pushed g c =
    let f : HasObjects c.self.inside.words.items c.self.inside.offsets.items c.self.inside.len c.self.inside.used c.args.self.now.objects =
    has_objects _ _ _ _ _ _ _ c.self.invariant (ap (λ v. v.objects) c.self.view_is)
    in
    let words : length c.self.inside.words.items ≡ c.args.self.now.words = ap (λ v. v.words) c.self.view_is in
    let size : raw_size (raw_of c.args.object) ≡ c.size-size.result = sym c.size-size.ensures in
    let stays : length c.write_object.new.words ≡ length c.self.inside.words.items = c.write_object.auto.words ∙ ap length c.deref_mut.ensures.value in
    let written : IsWritten c.self.inside.words.items c.write_object.new.words c.self.inside.used c.self.inside.len (raw_of c.args.object) = rw c.deref_mut.ensures.value at c.write_object.ensures in
    let pushed : IsPushed c.self.inside.words.items c.write_object.new.words c.self.inside.offsets.items c.self.inside.len c.self.inside.used (c.self.inside.used + c.size-size.result) c.self.inside.front c.self.inside.label.number (raw_of c.args.object) =
    is_pushed _ _ _ _ _ _ _ _ _ c.self.invariant written stays (omega arith) (omega (arith, c.requires, f.used_is, words))
    in
    let items : (with_items c.self.inside.words c.write_object.new.words).items ≡ c.write_object.new.words = with_items_is c.self.inside.words c.write_object.new.words (omega (arith, c.write_object.auto.words, c.deref_mut.ensures.len)) in
    rw (items, stays, pushed.objects_are, ← c.self.view_is) refl
