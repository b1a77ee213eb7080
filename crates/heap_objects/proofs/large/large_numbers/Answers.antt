use Rattle.std.proofs.Common.{◌≡◌, vec_len, ◌-◌, ◌+◌, ◌++◌, length, take, replicate, true, false, sym, ap, ◌∙◌, arith}
use Rattle.heap_objects.proofs.LargeReads.{in_use}
use Rattle.heap_objects.proofs.YoungLarge.{before_all, numbered_to, numbered_next}
use Rattle.heap_objects.proofs.large.large_numbers.Goals as goal

pub loop-number-preserved-then-is_young : goal.loop-number-preserved-then-is_young
loop-number-preserved-then-is_young g c =
    let first = c.in-Some.ensures in
    let so_far = c.loop-number.invariant in
    let slots = c.args.large.now.slots in
    let number = c.in-Some.number.number in
    let old = c.loop-number.numbers.items in
    let object = in_use c.args.large.now number first.in_use in
    let len : c.len.result ≡ length old = omega (arith, c.loop-number.numbers.ok.0, c.len.ensures) in
    let held : vec_len c.loop-number.numbers ≡ length old = omega (arith, c.loop-number.numbers.ok.0) in
    let items = c.in_ok-resize.ensures.items ∙ ap (λ len. take (number + 1) old ++ replicate (number + 1 - len) c.loop-number.next) held in
    let has = numbered_to c.args.g slots c.args.small c.loop-number.next number old c.resize.new.self.items (omega (arith, first.from_on, len)) so_far.each so_far.value (λ k a b. first.lowest k (omega (arith, a, len)) b) items in
    record {
      few = omega (arith, has.count, c.in-Some.number.in_range);
      each = has.each;
      value = numbered_next c.args.g slots c.args.small c.loop-number.next number (length old) c.resize.new.self.items object.0 true has (omega (arith, first.from_on, len)) so_far.value (λ k a b. first.lowest k (omega (arith, a, len)) b) object.1 (sym (c.is_young.ensures object.0 object.1) ∙ c.if-is_young.true);
    }

pub loop-number-preserved : goal.loop-number-preserved
loop-number-preserved g c =
    let first = c.in-Some.ensures in
    let so_far = c.loop-number.invariant in
    let slots = c.args.large.now.slots in
    let number = c.in-Some.number.number in
    let old = c.loop-number.numbers.items in
    let object = in_use c.args.large.now number first.in_use in
    let len : c.len.result ≡ length old = omega (arith, c.loop-number.numbers.ok.0, c.len.ensures) in
    let held : vec_len c.loop-number.numbers ≡ length old = omega (arith, c.loop-number.numbers.ok.0) in
    let items = c.in_ok-resize.ensures.items ∙ ap (λ len. take (number + 1) old ++ replicate (number + 1 - len) c.loop-number.next) held in
    let has = numbered_to c.args.g slots c.args.small c.loop-number.next number old c.resize.new.self.items (omega (arith, first.from_on, len)) so_far.each so_far.value (λ k a b. first.lowest k (omega (arith, a, len)) b) items in
    record {
      few = omega (arith, has.count, c.in-Some.number.in_range);
      each = has.each;
      value = omega (arith, numbered_next c.args.g slots c.args.small c.loop-number.next number (length old) c.resize.new.self.items object.0 false has (omega (arith, first.from_on, len)) so_far.value (λ k a b. first.lowest k (omega (arith, a, len)) b) object.1 (sym (c.is_young.ensures object.0 object.1) ∙ c.if-is_young.false));
    }

pub returns-clause-all : goal.returns-clause-all
returns-clause-all g c =
    c.loop-number.invariant.value ∙ ap (λ n. c.args.small + n) (before_all c.args.g c.args.large.now.slots (length c.loop-number.numbers.items) (λ k from. c.in_default.ensures k (omega (arith, from, c.len.ensures, c.loop-number.numbers.ok.0))))
