use Rattle.std.proofs.Common.{◌+◌, sym, ap, ◌∙◌}
use Rattle.heap_objects.specs.Large.{young_before}
use Rattle.std.proofs.Common.{length}
use Rattle.heap_objects.proofs.Numbers.{is_numbering, young_length}
use Rattle.heap_objects.proofs.objects.HeapObjects.numbering.Goals as goal

pub returns-clause-numbering : goal.returns-clause-numbering
returns-clause-numbering g c =
    let large = c.self.inside.large in
    let small = c.in_ok-blocks.ensures.all in
    rw (← c.self.view_is, c.new.ensures) (is_numbering _ _ c.self.invariant c.args.generation c.in_ok-blocks.blocks.items c.in_ok-large.large.items c.in_ok-blocks.ensures.bases c.in_ok-blocks.ensures.short c.in_ok-large.ensures.covers
    (λ n lt. c.in_ok-large.ensures.each n lt ∙ ap (λ m. m + young_before c.args.generation large.slots n) small))

pub returns-clause-all : goal.returns-clause-all
returns-clause-all g c =
    let large = c.self.inside.large in
    rw (← c.self.view_is) (c.in_ok-large.ensures.all ∙ ap (λ m. m + young_before c.args.generation large.slots (length large.slots)) c.in_ok-blocks.ensures.all ∙ sym (young_length _ _ c.self.invariant c.args.generation))
