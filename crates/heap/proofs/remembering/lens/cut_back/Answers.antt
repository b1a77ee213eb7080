use Rattle.std.proofs.Common.{◌≡◌, ◌<◌, ◌≤◌, length, sym, ap, ◌∙◌, arith}
use Rattle.std.proofs.lemmas.List.{length-map, length-set}
use Rattle.heap.proofs.Grown.{cut_next, cut_all, lens_at}
use Rattle.heap.proofs.remembering.lens.cut_back.Goals as goal

pub loop-h-preserved : goal.loop-h-preserved
loop-h-preserved g c = record {
  generations = ap length c.cut.ensures ∙ length-set c.loop-h.sets c.loop-h.h _ ∙ c.loop-h.invariant.generations;
  cut = λ start is grown.
      let h = c.loop-h.h in
      let count : length start ≡ length c.args.lens.now = sym (length-map start length) ∙ ap length (sym is) in
      let in_range : h < length start = omega (arith, count, c.loop-h-test.true) in
      let below : h < length c.args.sets.now = omega (arith, c.requires, c.loop-h-test.true) in
      let len = lens_at start c.args.lens.now h 0 is in_range in
      cut_next start c.args.sets.now c.loop-h.sets c.cut.new.self h _ grown below len c.cut.ensures (c.loop-h.invariant.cut start is grown);
}

pub returns : goal.returns
returns g c = λ start is grown.
    let count : length start ≤ c.loop-h.h = omega (arith, ap length is, length-map start length, c.loop-h-test.false) in
    cut_all start c.args.sets.now c.loop-h.sets c.loop-h.h grown count (c.loop-h.invariant.cut start is grown)
