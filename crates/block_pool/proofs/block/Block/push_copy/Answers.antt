use Rattle.std.proofs.Common.{◌≡◌, ◌∙◌, ◌≤◌, ◌+◌, length, sym, ap, arith, refl}
use Rattle.std.proofs.lemmas.List.{with_items_is}
use Rattle.std.specs.Vec.{with_items}
use Rattle.layout.specs.Object.{raw_size}
use Rattle.block_pool.specs.Words.{raw_at, IsWritten}
use Rattle.block_pool.proofs.WordLemmas.{raw_size-raw_at}
use Rattle.block_pool.proofs.BlockLemmas.{has_objects, HasObjects, is_pushed, IsPushed}
use Rattle.block_pool.proofs.BeginLemmas.{Begun, begun}
use Rattle.block_pool.proofs.block.Block.push_copy.Goals as goal

pub copy_object-requires-clause-size : goal.copy_object-requires-clause-size
copy_object-requires-clause-size g c =
    let f : Begun c.from.inside.words.items c.args.offset c.requires.0 = begun _ _ _ _ _ _ c.args.from.now c.args.offset c.requires.0 c.from.invariant (ap (λ v. v.objects) c.from.view_is) c.requires.1 in
    rw c.deref.ensures.value (c.requires.2 ∙ f.size)

pub copy_object-requires-clause-room : goal.copy_object-requires-clause-room
copy_object-requires-clause-room g c =
    let f : Begun c.from.inside.words.items c.args.offset c.requires.0 = begun _ _ _ _ _ _ c.args.from.now c.args.offset c.requires.0 c.from.invariant (ap (λ v. v.objects) c.from.view_is) c.requires.1 in
    let o : HasObjects c.self.inside.words.items c.self.inside.offsets.items c.self.inside.len c.self.inside.used c.args.self.now.objects = has_objects _ _ _ _ _ _ _ c.self.invariant (ap (λ v. v.objects) c.self.view_is) in
    let words : length c.self.inside.words.items ≡ c.args.self.now.words = ap (λ v. v.words) c.self.view_is in
    omega (arith, c.requires.2, c.requires.3, f.size, o.used_is, words, ap length c.deref_mut.ensures.value)

pub copy_object-requires-clause-there : goal.copy_object-requires-clause-there
copy_object-requires-clause-there g c =
    let f : Begun c.from.inside.words.items c.args.offset c.requires.0 = begun _ _ _ _ _ _ c.args.from.now c.args.offset c.requires.0 c.from.invariant (ap (λ v. v.objects) c.from.view_is) c.requires.1 in
    rw c.deref.ensures.value (omega (arith, f.ends, c.requires.2, f.size))

pub index_mut-requires : goal.index_mut-requires
index_mut-requires g c =
    let o : HasObjects c.self.inside.words.items c.self.inside.offsets.items c.self.inside.len c.self.inside.used c.args.self.now.objects = has_objects _ _ _ _ _ _ _ c.self.invariant (ap (λ v. v.objects) c.self.view_is) in
    let words : length c.self.inside.words.items ≡ c.args.self.now.words = ap (λ v. v.words) c.self.view_is in
    omega (arith, c.requires.3, o.used_is, o.at_most_used, words, c.self.invariant.as_many_offsets)

pub invariant_of-self : goal.invariant_of-self
invariant_of-self g c =
    let f : Begun c.from.inside.words.items c.args.offset c.requires.0 = begun _ _ _ _ _ _ c.args.from.now c.args.offset c.requires.0 c.from.invariant (ap (λ v. v.objects) c.from.view_is) c.requires.1 in
    let o : HasObjects c.self.inside.words.items c.self.inside.offsets.items c.self.inside.len c.self.inside.used c.args.self.now.objects = has_objects _ _ _ _ _ _ _ c.self.invariant (ap (λ v. v.objects) c.self.view_is) in
    let words : length c.self.inside.words.items ≡ c.args.self.now.words = ap (λ v. v.words) c.self.view_is in
    let object = raw_at c.from.inside.words.items c.args.offset in
    let size : raw_size object ≡ c.args.size = raw_size-raw_at c.from.inside.words.items c.args.offset f.ends ∙ sym (c.requires.2 ∙ f.size) in
    let fits : c.self.inside.used + c.args.size ≤ length c.self.inside.words.items = omega (arith, c.requires.2, c.requires.3, f.size, o.used_is, words) in
    let stays : length c.copy_object.new.words ≡ length c.self.inside.words.items = c.copy_object.auto.words ∙ ap length c.deref_mut.ensures.value in
    let written : IsWritten c.self.inside.words.items c.copy_object.new.words c.self.inside.used c.self.inside.len object = rw (c.deref_mut.ensures.value, c.deref.ensures.value) at c.copy_object.ensures in
    let pushed : IsPushed c.self.inside.words.items c.copy_object.new.words c.self.inside.offsets.items c.self.inside.len c.self.inside.used (c.self.inside.used + c.args.size) c.self.inside.front c.self.inside.label.number object =
    is_pushed _ _ _ _ _ _ _ _ _ c.self.invariant written stays (omega arith) fits
    in
    let items : (with_items c.self.inside.words c.copy_object.new.words).items ≡ c.copy_object.new.words = with_items_is c.self.inside.words c.copy_object.new.words (omega (arith, c.copy_object.auto.words, c.deref_mut.ensures.len)) in
    rw items pushed.sound

pub returns-clause-offset : goal.returns-clause-offset
returns-clause-offset g c =
    sym (has_objects _ _ _ _ _ _ _ c.self.invariant (ap (λ v. v.objects) c.self.view_is)).used_is

pub returns-clause-in_block : goal.returns-clause-in_block
returns-clause-in_block g c =
    let o : HasObjects c.self.inside.words.items c.self.inside.offsets.items c.self.inside.len c.self.inside.used c.args.self.now.objects = has_objects _ _ _ _ _ _ _ c.self.invariant (ap (λ v. v.objects) c.self.view_is) in
    let words : length c.self.inside.words.items ≡ c.args.self.now.words = ap (λ v. v.words) c.self.view_is in
    omega (arith, c.requires.3, o.used_is, words, c.self.invariant.words_to)

pub returns-clause-pushed : goal.returns-clause-pushed
returns-clause-pushed g c = λ raw r.
    let f : Begun c.from.inside.words.items c.args.offset raw = begun _ _ _ _ _ _ c.args.from.now c.args.offset raw c.from.invariant (ap (λ v. v.objects) c.from.view_is) r in
    let first : Begun c.from.inside.words.items c.args.offset c.requires.0 = begun _ _ _ _ _ _ c.args.from.now c.args.offset c.requires.0 c.from.invariant (ap (λ v. v.objects) c.from.view_is) c.requires.1 in
    let o : HasObjects c.self.inside.words.items c.self.inside.offsets.items c.self.inside.len c.self.inside.used c.args.self.now.objects = has_objects _ _ _ _ _ _ _ c.self.invariant (ap (λ v. v.objects) c.self.view_is) in
    let words : length c.self.inside.words.items ≡ c.args.self.now.words = ap (λ v. v.words) c.self.view_is in
    let object = raw_at c.from.inside.words.items c.args.offset in
    let size : raw_size object ≡ c.args.size = raw_size-raw_at c.from.inside.words.items c.args.offset f.ends ∙ sym (c.requires.2 ∙ first.size) in
    let fits : c.self.inside.used + c.args.size ≤ length c.self.inside.words.items = omega (arith, c.requires.2, c.requires.3, first.size, o.used_is, words) in
    let stays : length c.copy_object.new.words ≡ length c.self.inside.words.items = c.copy_object.auto.words ∙ ap length c.deref_mut.ensures.value in
    let written : IsWritten c.self.inside.words.items c.copy_object.new.words c.self.inside.used c.self.inside.len object = rw (c.deref_mut.ensures.value, c.deref.ensures.value) at c.copy_object.ensures in
    let pushed : IsPushed c.self.inside.words.items c.copy_object.new.words c.self.inside.offsets.items c.self.inside.len c.self.inside.used (c.self.inside.used + c.args.size) c.self.inside.front c.self.inside.label.number object =
    is_pushed _ _ _ _ _ _ _ _ _ c.self.invariant written stays (omega arith) fits
    in
    let items : (with_items c.self.inside.words c.copy_object.new.words).items ≡ c.copy_object.new.words = with_items_is c.self.inside.words c.copy_object.new.words (omega (arith, c.copy_object.auto.words, c.deref_mut.ensures.len)) in
    rw f.is (rw (items, stays, pushed.objects_are, ← c.self.view_is) refl)
