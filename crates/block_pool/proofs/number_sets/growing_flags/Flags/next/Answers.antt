use Rattle.std.proofs.Common.{◌≡◌, ◌<◌, ◌≤◌, ◌*◌, ◌/◌, arith, rules, get_or, length}
use Rattle.std.proofs.lemmas.List.{get_or_read}
use Rattle.block_pool.specs.NumberSetsWords.{flags_of, NoneSetBetween}
use Rattle.block_pool.proofs.NumberSetsWordLemmas.{length-flags}
use Rattle.block_pool.proofs.FirstFlags.{flags-past, first_in_rest, none_between-words, none_from-words, first_in-word}
use Rattle.block_pool.proofs.number_sets.growing_flags.Flags.next.Goals as goal

pub returns-then-at-len-clause-none : goal.returns-then-at-len-clause-none
returns-then-at-len-clause-none g c =
    let ws = c.self.inside.words.items in
    rw (← c.self.view_is) (λ k a. flags-past ws k (omega (arith, c.if-at-len.true, c.len.ensures)))

pub overflow_add-result : goal.overflow_add-result
overflow_add-result g c =
    let ws = c.self.inside.words.items in
    let within : c.args.from < 64 * length ws = omega (arith, c.if-at-len.false, c.len.ensures) in
    let word : c.index.result.now ≡ get_or ws (c.args.from / 64) 0 = get_or_read ws (c.args.from / 64) _ (omega arith) c.index.ensures 0 in
    let first = first_in_rest ws c.args.from c.index.result.now within word (search rules) (omega (arith, c.if-rest-ne0.true)) (search rules) in
    omega (arith, first.within, length-flags ws, c.self.invariant)

pub returns-then-rest-ne0-clause-flag : goal.returns-then-rest-ne0-clause-flag
returns-then-rest-ne0-clause-flag g c =
    let ws = c.self.inside.words.items in
    let within : c.args.from < 64 * length ws = omega (arith, c.if-at-len.false, c.len.ensures) in
    let word : c.index.result.now ≡ get_or ws (c.args.from / 64) 0 = get_or_read ws (c.args.from / 64) _ (omega arith) c.index.ensures 0 in
    rw (← c.self.view_is) ((first_in_rest ws c.args.from c.index.result.now within word (search rules) (omega (arith, c.if-rest-ne0.true)) (search rules)).is_set)

pub returns-then-rest-ne0-clause-first : goal.returns-then-rest-ne0-clause-first
returns-then-rest-ne0-clause-first g c =
    let ws = c.self.inside.words.items in
    let within : c.args.from < 64 * length ws = omega (arith, c.if-at-len.false, c.len.ensures) in
    let word : c.index.result.now ≡ get_or ws (c.args.from / 64) 0 = get_or_read ws (c.args.from / 64) _ (omega arith) c.index.ensures 0 in
    rw (← c.self.view_is) ((first_in_rest ws c.args.from c.index.result.now within word (search rules) (omega (arith, c.if-rest-ne0.true)) (search rules)).none_between)

pub returns-then-at-len-2-clause-none : goal.returns-then-at-len-2-clause-none
returns-then-at-len-2-clause-none g c =
    let ws = c.self.inside.words.items in
    let within : c.args.from < 64 * length ws = omega (arith, c.if-at-len.false, c.len.ensures) in
    let word : c.index.result.now ≡ get_or ws (c.args.from / 64) 0 = get_or_read ws (c.args.from / 64) _ (omega arith) c.index.ensures 0 in
    let passed = rw c.deref.ensures.value at c.next_word-at.ensures.passed in
    let most = rw c.deref.ensures.value at c.next_word-at.ensures.to in
    let none : NoneSetBetween (flags_of ws) c.args.from (64 * c.next_word-at.result) = none_between-words ws c.args.from c.index.result.now c.next_word-at.result within word (omega (arith, c.if-rest-ne0.false)) most passed in
    rw (← c.self.view_is) (none_from-words ws c.args.from c.next_word-at.result (omega (arith, c.if-at-len-2.true, c.len-2.ensures)) none)

pub returns-clause-flag : goal.returns-clause-flag
returns-clause-flag g c =
    let ws = c.self.inside.words.items in
    let within : c.args.from < 64 * length ws = omega (arith, c.if-at-len.false, c.len.ensures) in
    let word : c.index.result.now ≡ get_or ws (c.args.from / 64) 0 = get_or_read ws (c.args.from / 64) _ (omega arith) c.index.ensures 0 in
    let passed = rw c.deref.ensures.value at c.next_word-at.ensures.passed in
    let most = rw c.deref.ensures.value at c.next_word-at.ensures.to in
    let none : NoneSetBetween (flags_of ws) c.args.from (64 * c.next_word-at.result) = none_between-words ws c.args.from c.index.result.now c.next_word-at.result within word (omega (arith, c.if-rest-ne0.false)) most passed in
    let found = rw c.deref.ensures.value at c.next_word-at.ensures.found in
    let inside : c.next_word-at.result < length ws = omega (arith, c.if-at-len-2.false, c.len-2.ensures, most) in
    let next : c.index-2.result.now ≡ get_or ws c.next_word-at.result 0 = get_or_read ws c.next_word-at.result _ inside c.index-2.ensures 0 in
    let low : c.args.from ≤ 64 * c.next_word-at.result = omega (arith, c.next_word-at.ensures.from) in
    let first = first_in-word ws c.args.from c.next_word-at.result c.index-2.result.now inside next (omega (arith, found inside)) (search rules) low none in
    rw (← c.self.view_is) first.is_set

pub returns-clause-first : goal.returns-clause-first
returns-clause-first g c =
    let ws = c.self.inside.words.items in
    let within : c.args.from < 64 * length ws = omega (arith, c.if-at-len.false, c.len.ensures) in
    let word : c.index.result.now ≡ get_or ws (c.args.from / 64) 0 = get_or_read ws (c.args.from / 64) _ (omega arith) c.index.ensures 0 in
    let passed = rw c.deref.ensures.value at c.next_word-at.ensures.passed in
    let most = rw c.deref.ensures.value at c.next_word-at.ensures.to in
    let none : NoneSetBetween (flags_of ws) c.args.from (64 * c.next_word-at.result) = none_between-words ws c.args.from c.index.result.now c.next_word-at.result within word (omega (arith, c.if-rest-ne0.false)) most passed in
    let found = rw c.deref.ensures.value at c.next_word-at.ensures.found in
    let inside : c.next_word-at.result < length ws = omega (arith, c.if-at-len-2.false, c.len-2.ensures, most) in
    let next : c.index-2.result.now ≡ get_or ws c.next_word-at.result 0 = get_or_read ws c.next_word-at.result _ inside c.index-2.ensures 0 in
    let low : c.args.from ≤ 64 * c.next_word-at.result = omega (arith, c.next_word-at.ensures.from) in
    let first = first_in-word ws c.args.from c.next_word-at.result c.index-2.result.now inside next (omega (arith, found inside)) (search rules) low none in
    rw (← c.self.view_is) first.none_between
