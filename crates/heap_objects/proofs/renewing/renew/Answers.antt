use Rattle.std.proofs.Common.{ℕ, None, is_some, slice_index, ap, ◌∙◌, arith}
use Rattle.std.specs.Prelude.{slice_index_or, option_and_then}
use Rattle.large_objects.specs.LargeValue.{LargeObject, large_at}
use Rattle.heap_objects.specs.Space.{SpaceValue}
use Rattle.heap_objects.specs.Renewing.{renewed}
use Rattle.heap_objects.proofs.Renewals.{renewed_to, kept_from}
use Rattle.heap_objects.proofs.renewing.renew.Goals as goal

pub loop-number-preserved : goal.loop-number-preserved
loop-number-preserved g c =
    let first = c.in-Some.ensures in
    let so_far = c.loop-number.invariant in
    let number = c.in-Some.number.number in
    let kept = λ (n : ℕ). is_some (slice_index_or c.args.places.now (slice_index c.args.numbers.now n) None) in
    let renew = λ (n : ℕ) (o : LargeObject). renewed c.args.space.now.config.shape c.args.g (kept n) o in
    let this = c.renew_one.ensures.this ∙ ap (λ s. option_and_then (renewed s.config.shape c.args.g (kept number)) (large_at c.loop-number.large number)) so_far.space in
    record {
      in_range = omega (arith, c.in-Some.number.in_range);
      apart = c.renew_one.ensures.apart;
      space = c.renew_one.ensures.space ∙ ap (λ (s : SpaceValue). let r : SpaceValue = record s { free = c.renew_one.new.space.free } in r) so_far.space;
      done = renewed_to renew c.args.large.now c.loop-number.large c.renew_one.new.large c.loop-number.from number first.from_on so_far.done so_far.rest first.lowest this c.renew_one.ensures.others;
      rest = kept_from renew c.args.large.now c.loop-number.large c.renew_one.new.large c.loop-number.from number first.from_on so_far.done so_far.rest first.lowest this c.renew_one.ensures.others;
    }
