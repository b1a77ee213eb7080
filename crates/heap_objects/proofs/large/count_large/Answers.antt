use Rattle.std.proofs.Common.{map, sum_by, length, ap, ◌∙◌, arith}
use Rattle.model.specs.Graph.{Object, size_of}
use Rattle.std.proofs.Common.{ℕ, List}
use Rattle.std.proofs.lemmas.List.{length-map}
use Rattle.steps.specs.Words.{target_of_word}
use Rattle.heap_objects.proofs.LargeReads.{in_use}
use Rattle.heap_objects.proofs.LargeSizes.{counts_next, entries_end}
use Rattle.heap_objects.proofs.large.count_large.Goals as goal

pub overflow_add-count-in-Some : goal.overflow_add-count-in-Some
overflow_add-count-in-Some g c =
    let object = in_use c.args.large.now c.in-Some.number.number c.in-Some.ensures.in_use in
    let size = c.size_at.ensures object.0 object.1 in
    let most = c.requires c.in-Some.number.number object.0 object.1 in
    omega (arith, size, most, length-map object.0.raw.pointers target_of_word, c.loop-number.invariant.few_words, c.loop-number.invariant.in_range)

pub loop-number-preserved : goal.loop-number-preserved
loop-number-preserved g c =
    let first = c.in-Some.ensures in
    let slots = c.args.large.now.slots in
    let number = c.in-Some.number.number in
    let so_far = c.loop-number.invariant in
    let object = in_use c.args.large.now number first.in_use in
    let size = c.size_at.ensures object.0 object.1 in
    let most = c.requires number object.0 object.1 in
    let next = counts_next slots c.loop-number.from number object.0 first.from_on first.lowest object.1 in
    let fields = length-map object.0.raw.pointers target_of_word in
    record {
      in_range = omega (arith, c.in-Some.number.in_range);
      few = omega (arith, so_far.few, first.from_on);
      few_words = omega (arith, so_far.few_words, first.from_on, size, most, fields);
      objects = omega (arith, so_far.objects, next.objects);
      words = omega (arith, so_far.words, next.words, size);
    }

pub returns-clause-objects : goal.returns-clause-objects
returns-clause-objects g c = c.loop-number.invariant.objects ∙ ap (λ (es : List (ℕ × Object)). length es) (entries_end c.args.large.now.slots c.loop-number.from c.in_default.ensures)

pub returns-clause-words : goal.returns-clause-words
returns-clause-words g c = c.loop-number.invariant.words ∙ ap (λ es. sum_by size_of (map (λ (e : ℕ × Object). e.1) es)) (entries_end c.args.large.now.slots c.loop-number.from c.in_default.ensures)
