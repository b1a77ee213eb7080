use Rattle.std.proofs.Common.{ap, ◌∙◌, arith}
use Rattle.std.specs.Prelude.{decimal}
use Rattle.model.proofs.Joined.{joined_first, joined_next}
use Rattle.heap_text.proofs.listing.push_words.Goals as goal
use Rattle.heap_text.proofs.listing.push_words.Goals.{then-i-gt0+in_ok-write, else-i-gt0}

pub loop-i-preserved : goal.loop-i-preserved
loop-i-preserved g c =
    elim c.if-i-gt0.branch [
      | then-i-gt0+in_ok-write w ↦ joined_next decimal c.args.text.now.items c.loop-i.text.items c.if-i-gt0.text.items _ c.args.words.now c.loop-i.i 0 w.if-i-gt0.true c.loop-i-test.true c.loop-i.invariant (ap (λ v. v.items) w.text-is ∙ w.in_ok-write.ensures.bytes) c.in_ok-write-2.ensures.bytes
      | else-i-gt0 w ↦ joined_first decimal c.args.text.now.items c.if-i-gt0.text.items _ c.args.words.now c.loop-i.i 0 (omega arith) c.loop-i-test.true (ap (λ v. v.items) w.text-is ∙ c.loop-i.invariant) c.in_ok-write-2.ensures.bytes
    ]
