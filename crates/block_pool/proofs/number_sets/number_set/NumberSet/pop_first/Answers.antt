use Rattle.std.proofs.Common.{◌≡◌, ◌∙◌, ◌<◌, ◌^◌, ap, sym, arith, get_or, length, rules}
use Rattle.std.proofs.lemmas.List.{get_or_read}
use Rattle.block_pool.specs.NumberSetsWords.{members_of}
use Rattle.block_pool.proofs.NumberSetsWordLemmas.{first_taken, IsNumberSet-none}
use Rattle.block_pool.proofs.number_sets.number_set.NumberSet.pop_first.Goals as goal

pub invariant_of-self : goal.invariant_of-self
invariant_of-self g c =
    let passed = rw c.deref.ensures.value at c.next_word-at.ensures.passed in
    (IsNumberSet-none _ _ _ _ _ c.self.invariant passed (omega (arith, c.if-at-len.true, c.len.ensures))).0

pub returns-then-at-len-clause-value : goal.returns-then-at-len-clause-value
returns-then-at-len-clause-value g c =
    let members : members_of c.self.inside.words.items ≡ c.args.self.now.members = ap (λ v. v.members) c.self.view_is in
    let passed = rw c.deref.ensures.value at c.next_word-at.ensures.passed in
    (sym members ∙ (IsNumberSet-none _ _ _ _ _ c.self.invariant passed (omega (arith, c.if-at-len.true, c.len.ensures))).1, c.self.view_is)

pub overflow_sub-self : goal.overflow_sub-self
overflow_sub-self g c =
    let ws = c.self.inside.words.items in
    let passed = rw c.deref.ensures.value at c.next_word-at.ensures.passed in
    let most = rw c.deref.ensures.value at c.next_word-at.ensures.to in
    let found = rw c.deref.ensures.value at c.next_word-at.ensures.found in
    let within : c.next_word-at.result < length ws = omega (arith, c.if-at-len.false, c.len.ensures, most) in
    let below : c.index-word.result.now < 2 ^ 64 = omega (arith, c.type_inv.word) in
    let word : c.index-word.result.now ≡ get_or ws c.next_word-at.result 0 = get_or_read ws c.next_word-at.result _ within c.index-word.ensures 0 in
    (first_taken ws _ _ _ _ _ c.self.invariant passed within word (omega (arith, found within)) below).some

pub invariant_of-self-2 : goal.invariant_of-self-2
invariant_of-self-2 g c =
    let ws = c.self.inside.words.items in
    let passed = rw c.deref.ensures.value at c.next_word-at.ensures.passed in
    let most = rw c.deref.ensures.value at c.next_word-at.ensures.to in
    let found = rw c.deref.ensures.value at c.next_word-at.ensures.found in
    let within : c.next_word-at.result < length ws = omega (arith, c.if-at-len.false, c.len.ensures, most) in
    let below : c.index-word.result.now < 2 ^ 64 = search rules in
    let word : c.index-word.result.now ≡ get_or ws c.next_word-at.result 0 = get_or_read ws c.next_word-at.result _ within c.index-word.ensures 0 in
    (first_taken ws _ _ _ _ _ c.self.invariant passed within word (omega (arith, found within)) below).sound

pub returns-clause-value : goal.returns-clause-value
returns-clause-value g c =
    let ws = c.self.inside.words.items in
    let members : members_of ws ≡ c.args.self.now.members = ap (λ v. v.members) c.self.view_is in
    let passed = rw c.deref.ensures.value at c.next_word-at.ensures.passed in
    let most = rw c.deref.ensures.value at c.next_word-at.ensures.to in
    let found = rw c.deref.ensures.value at c.next_word-at.ensures.found in
    let within : c.next_word-at.result < length ws = omega (arith, c.if-at-len.false, c.len.ensures, most) in
    let below : c.index-word.result.now < 2 ^ 64 = search rules in
    let word : c.index-word.result.now ≡ get_or ws c.next_word-at.result 0 = get_or_read ws c.next_word-at.result _ within c.index-word.ensures 0 in
    sym members ∙ (first_taken ws _ _ _ _ _ c.self.invariant passed within word (omega (arith, found within)) below).first
