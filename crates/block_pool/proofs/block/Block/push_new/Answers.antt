use Rattle.std.proofs.Common.{◌≡◌, ◌∙◌, ◌≤◌, ◌+◌, length, sym, ap, arith, refl}
use Rattle.std.proofs.lemmas.List.{with_items_is}
use Rattle.std.specs.Vec.{with_items}
use Rattle.layout.specs.Object.{raw_size}
use Rattle.block_pool.specs.BlockValue.{new_object, words_of}
use Rattle.block_pool.specs.Words.{IsWritten}
use Rattle.block_pool.proofs.WordLemmas.{raw_size-new_object}
use Rattle.block_pool.proofs.BlockLemmas.{has_objects, HasObjects, is_pushed, IsPushed}
use Rattle.block_pool.proofs.block.Block.push_new.Goals as goal

pub write_new-requires-clause-room : goal.write_new-requires-clause-room
write_new-requires-clause-room g c =
    let f : HasObjects c.self.inside.words.items c.self.inside.offsets.items c.self.inside.len c.self.inside.used c.args.self.now.objects =
    has_objects _ _ _ _ _ _ _ c.self.invariant (ap (λ v. v.objects) c.self.view_is)
    in
    let words : length c.self.inside.words.items ≡ c.args.self.now.words = ap (λ v. v.words) c.self.view_is in
    let room : c.self.inside.used + (1 + c.args.pointers + c.args.plain_words) ≤ length c.deref_mut.result.now = omega (arith, c.requires, f.used_is, words, ap length c.deref_mut.ensures.value) in
    room

pub index_mut-requires : goal.index_mut-requires
index_mut-requires g c =
    let f : HasObjects c.self.inside.words.items c.self.inside.offsets.items c.self.inside.len c.self.inside.used c.args.self.now.objects =
    has_objects _ _ _ _ _ _ _ c.self.invariant (ap (λ v. v.objects) c.self.view_is)
    in
    let words : length c.self.inside.words.items ≡ c.args.self.now.words = ap (λ v. v.words) c.self.view_is in
    omega (arith, c.requires, f.used_is, f.at_most_used, words, c.self.invariant.as_many_offsets)

pub invariant_of-self : goal.invariant_of-self
invariant_of-self g c =
    let f : HasObjects c.self.inside.words.items c.self.inside.offsets.items c.self.inside.len c.self.inside.used c.args.self.now.objects =
    has_objects _ _ _ _ _ _ _ c.self.invariant (ap (λ v. v.objects) c.self.view_is)
    in
    let words : length c.self.inside.words.items ≡ c.args.self.now.words = ap (λ v. v.words) c.self.view_is in
    let size : raw_size (new_object c.args.pointers c.args.plain_words) ≡ (1 + c.args.pointers + c.args.plain_words) = raw_size-new_object c.args.pointers c.args.plain_words in
    let stays : length c.write_new.new.words ≡ length c.self.inside.words.items = c.write_new.auto.words ∙ ap length c.deref_mut.ensures.value in
    let written : IsWritten c.self.inside.words.items c.write_new.new.words c.self.inside.used c.self.inside.len (new_object c.args.pointers c.args.plain_words) = rw c.deref_mut.ensures.value at c.write_new.ensures in
    let pushed : IsPushed c.self.inside.words.items c.write_new.new.words c.self.inside.offsets.items c.self.inside.len c.self.inside.used (c.self.inside.used + (1 + c.args.pointers + c.args.plain_words)) c.self.inside.front c.self.inside.label.number (new_object c.args.pointers c.args.plain_words) =
    is_pushed _ _ _ _ _ _ _ _ _ c.self.invariant written stays (omega arith) (omega (arith, c.requires, f.used_is, words))
    in
    let items : (with_items c.self.inside.words c.write_new.new.words).items ≡ c.write_new.new.words = with_items_is c.self.inside.words c.write_new.new.words (omega (arith, c.write_new.auto.words, c.deref_mut.ensures.len)) in
    rw items pushed.sound

pub returns-clause-offset : goal.returns-clause-offset
returns-clause-offset g c =
    sym (has_objects _ _ _ _ _ _ _ c.self.invariant (ap (λ v. v.objects) c.self.view_is)).used_is

pub returns-clause-in_block : goal.returns-clause-in_block
returns-clause-in_block g c =
    let used : words_of c.args.self.now.objects ≡ c.self.inside.used = (has_objects _ _ _ _ _ _ _ c.self.invariant (ap (λ v. v.objects) c.self.view_is)).used_is in
    let words : length c.self.inside.words.items ≡ c.args.self.now.words = ap (λ v. v.words) c.self.view_is in
    omega (arith, c.requires, c.self.invariant.words_to)

pub returns-clause-pushed : goal.returns-clause-pushed
returns-clause-pushed g c =
    let f : HasObjects c.self.inside.words.items c.self.inside.offsets.items c.self.inside.len c.self.inside.used c.args.self.now.objects =
    has_objects _ _ _ _ _ _ _ c.self.invariant (ap (λ v. v.objects) c.self.view_is)
    in
    let words : length c.self.inside.words.items ≡ c.args.self.now.words = ap (λ v. v.words) c.self.view_is in
    let size : raw_size (new_object c.args.pointers c.args.plain_words) ≡ (1 + c.args.pointers + c.args.plain_words) = raw_size-new_object c.args.pointers c.args.plain_words in
    let stays : length c.write_new.new.words ≡ length c.self.inside.words.items = c.write_new.auto.words ∙ ap length c.deref_mut.ensures.value in
    let written : IsWritten c.self.inside.words.items c.write_new.new.words c.self.inside.used c.self.inside.len (new_object c.args.pointers c.args.plain_words) = rw c.deref_mut.ensures.value at c.write_new.ensures in
    let pushed : IsPushed c.self.inside.words.items c.write_new.new.words c.self.inside.offsets.items c.self.inside.len c.self.inside.used (c.self.inside.used + (1 + c.args.pointers + c.args.plain_words)) c.self.inside.front c.self.inside.label.number (new_object c.args.pointers c.args.plain_words) =
    is_pushed _ _ _ _ _ _ _ _ _ c.self.invariant written stays (omega arith) (omega (arith, c.requires, f.used_is, words))
    in
    let items : (with_items c.self.inside.words c.write_new.new.words).items ≡ c.write_new.new.words = with_items_is c.self.inside.words c.write_new.new.words (omega (arith, c.write_new.auto.words, c.deref_mut.ensures.len)) in
    rw (items, stays, pushed.objects_are, ← c.self.view_is) refl
