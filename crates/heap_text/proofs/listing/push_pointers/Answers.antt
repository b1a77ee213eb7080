use Rattle.std.proofs.Common.{map, ap, ◌∙◌, arith}
use Rattle.model.specs.Text.{pointer_text}
use Rattle.layout.specs.Place.{place_word}
use Rattle.heap.specs.Words.{target_of_word}
use Rattle.model.proofs.Joined.{joined_first, joined_next, joined_all}
use Rattle.heap_text.proofs.listing.push_pointers.Goals as goal
use Rattle.heap_text.proofs.listing.push_pointers.Goals.{then-i-gt0+in_ok-write, else-i-gt0}

pub loop-i-preserved : goal.loop-i-preserved
loop-i-preserved g c =
    elim c.if-i-gt0.branch [
      | then-i-gt0+in_ok-write w ↦ joined_next (λ word. pointer_text (map place_word c.args.numbering.now.places.items) (target_of_word word)) c.args.text.now.items c.loop-i.text.items c.if-i-gt0.text.items _ c.args.pointers.now c.loop-i.i 0 w.if-i-gt0.true c.loop-i-test.true c.loop-i.invariant (ap (λ v. v.items) w.text-is ∙ w.in_ok-write.ensures.bytes) c.in_ok-push_pointer.ensures
      | else-i-gt0 w ↦ joined_first (λ word. pointer_text (map place_word c.args.numbering.now.places.items) (target_of_word word)) c.args.text.now.items c.if-i-gt0.text.items _ c.args.pointers.now c.loop-i.i 0 (omega arith) c.loop-i-test.true (ap (λ v. v.items) w.text-is ∙ c.loop-i.invariant) c.in_ok-push_pointer.ensures
    ]

pub returns : goal.returns
returns g c = joined_all (pointer_text (map place_word c.args.numbering.now.places.items)) target_of_word c.args.text.now.items c.loop-i.text.items c.args.pointers.now c.loop-i.i c.loop-i-test.false c.loop-i.invariant
