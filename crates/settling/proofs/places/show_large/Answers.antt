use Rattle.std.proofs.Common.{◌+◌, Some, length, map, take, length-set, ap, subst, sym, ◌∙◌, arith}
use Rattle.model.specs.Live.{IsYoung}
use Rattle.layout.specs.Place.{place_word}
use Rattle.settling.specs.Shown.{AreShown}
use Rattle.settling.proofs.ShownLarge.{this_one, large_more}
use Rattle.settling.proofs.places.show_large.Goals as goal

pub number_of-requires-clause-young : goal.number_of-requires-clause-young
number_of-requires-clause-young g c =
    this_one c.args.heap.now c.args.collection.now c.args.large.now c.loop-place.place-index c.place-item.result c.loop-place-test.true c.place-item.is (IsYoung c.args.heap.now.graph c.args.collection.now.generation) c.requires.young

pub set-requires : goal.set-requires
set-requires g c = omega (arith, c.number_of.ensures.in_range, c.loop-place.invariant.count, c.requires.count)

pub loop-place-preserved : goal.loop-place-preserved
loop-place-preserved g c = record {
  count = ap length c.set.ensures ∙ (length-set c.loop-place.places c.number_of.result (Some c.place-item.result) ∙ c.loop-place.invariant.count);
  shown =
      subst (AreShown c.args.heap.now c.args.collection.now (map place_word (take (c.loop-place.place-index + 1) c.args.large.now)) c.args.places.now) (sym c.set.ensures)
      (large_more c.args.heap.now c.args.collection.now c.args.large.now c.loop-place.place-index c.place-item.result c.loop-place-test.true c.place-item.is
      c.requires.opened c.args.places.now c.loop-place.places c.number_of.result c.number_of.ensures.in_range c.number_of.ensures.number (c.loop-place.invariant.count ∙ c.requires.count) c.loop-place.invariant.shown);
}
