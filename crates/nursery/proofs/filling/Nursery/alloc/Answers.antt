use Rattle.std.proofs.Common.{◌≡◌, ◌+◌, Some, sym, ap, ◌∙◌, arith, refl}
use Rattle.layout.specs.Place.{small_word, place_word}
use Rattle.block_pool.specs.BlockValue.{BlockValue, used_of}
use Rattle.nursery.specs.Table.{slot_words}
use Rattle.nursery.proofs.Nurseries.{current_block, current_in_table, chosen, no_room, one_size, number_in_table, pushes}
use Rattle.nursery.proofs.filling.Nursery.alloc.Goals as goal

some_same : {x y : BlockValue} → Some x ≡ Some y → x ≡ y
some_same e = cc

pub block_for-requires-clause-in_range : goal.block_for-requires-clause-in_range
block_for-requires-clause-in_range g c = current_in_table _ _ _ c.requires.sound

pub returns-in_default-clause-full : goal.returns-in_default-clause-full
returns-in_default-clause-full g c = λ words is.
    let b = current_block words _ _ is in
    (λ _. no_room words _ _ is (1 + c.args.pointers + c.args.plain_words) (sym (c.block_for.ensures b.0 b.1) ∙ c.in_default.is), λ _. refl)

pub overflow_add-number : goal.overflow_add-number
overflow_add-number g c =
    let is = rw (← c.self.view_is) at c.requires.sound in
    let b = current_block _ _ _ is in
    let at = chosen _ _ _ is (1 + c.args.pointers + c.args.plain_words) c.in-Some.current c.requires.small (sym (rw (← c.self.view_is) at c.block_for.ensures b.0 b.1) ∙ c.in-Some.is) in
    omega (arith, at.in_nursery, c.self.invariant)

pub push_new-offset-requires-clause-in_range : goal.push_new-offset-requires-clause-in_range
push_new-offset-requires-clause-in_range g c =
    let is = rw (← c.self.view_is) at c.requires.sound in
    let b = current_block _ _ _ is in
    let at = chosen _ _ _ is (1 + c.args.pointers + c.args.plain_words) c.in-Some.current c.requires.small (sym (rw (← c.self.view_is) at c.block_for.ensures b.0 b.1) ∙ c.in-Some.is) in
    number_in_table _ _ _ is c.args.pointers c.args.plain_words c.in-Some.current at

pub push_new-offset-requires-clause-fits : goal.push_new-offset-requires-clause-fits
push_new-offset-requires-clause-fits g c =
    let is = rw (← c.self.view_is) at c.requires.sound in
    let b = current_block _ _ _ is in
    let at = chosen _ _ _ is (1 + c.args.pointers + c.args.plain_words) c.in-Some.current c.requires.small (sym (rw (← c.self.view_is) at c.block_for.ensures b.0 b.1) ∙ c.in-Some.is) in
    λ block there.
    let words = (is.each c.in-Some.current block at.in_nursery there).0 in
    let used : used_of at.block ≡ used_of block = ap used_of (some_same (sym at.there ∙ there)) in
    omega (arith, at.has_room, words, used)

pub overflow_cast-number : goal.overflow_cast-number
overflow_cast-number g c =
    let is = rw (← c.self.view_is) at c.requires.sound in
    let b = current_block _ _ _ is in
    let at = chosen _ _ _ is (1 + c.args.pointers + c.args.plain_words) c.in-Some.current c.requires.small (sym (rw (← c.self.view_is) at c.block_for.ensures b.0 b.1) ∙ c.in-Some.is) in
    omega (arith, at.in_nursery, c.self.invariant)

pub small-requires-clause-block_in_range : goal.small-requires-clause-block_in_range
small-requires-clause-block_in_range g c =
    let is = rw (← c.self.view_is) at c.requires.sound in
    let b = current_block _ _ _ is in
    let at = chosen _ _ _ is (1 + c.args.pointers + c.args.plain_words) c.in-Some.current c.requires.small (sym (rw (← c.self.view_is) at c.block_for.ensures b.0 b.1) ∙ c.in-Some.is) in
    omega (arith, at.in_nursery, c.self.invariant)

pub returns-clause-ok : goal.returns-clause-ok
returns-clause-ok g c = λ words is0.
    let small = rw (one_size _ _ _ _ c.requires.sound is0) at c.requires.small in
    let is = rw (← c.self.view_is) at is0 in
    let b = current_block words _ _ is in
    let at = chosen words _ _ is (1 + c.args.pointers + c.args.plain_words) c.in-Some.current small (sym (rw (← c.self.view_is) at c.block_for.ensures b.0 b.1) ∙ c.in-Some.is) in
    let offset : c.push_new-offset.result ≡ used_of at.block = c.push_new-offset.ensures.offset ∙ ap slot_words at.there in
    let place : place_word c.small.result ≡ small_word (c.self.inside.first + c.in-Some.current) (used_of at.block) = c.small.ensures.word ∙ ap (λ o. small_word (c.self.inside.first + c.in-Some.current) o) offset in
    rw (← c.self.view_is) (pushes words _ _ is c.args.pointers c.args.plain_words c.in-Some.current at _ _ place (c.push_new-offset.ensures.pushed at.block at.there))

pub returns-clause-full : goal.returns-clause-full
returns-clause-full g c = λ words is0.
    let small = rw (one_size _ _ _ _ c.requires.sound is0) at c.requires.small in
    let is = rw (← c.self.view_is) at is0 in
    let b = current_block words _ _ is in
    let at = chosen words _ _ is (1 + c.args.pointers + c.args.plain_words) c.in-Some.current small (sym (rw (← c.self.view_is) at c.block_for.ensures b.0 b.1) ∙ c.in-Some.is) in
    let some = at.after in
    (λ e. absurd (cc), λ none. let none' = rw (← c.self.view_is) at none in absurd (cc))
