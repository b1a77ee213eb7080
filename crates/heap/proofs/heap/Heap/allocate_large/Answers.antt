use Rattle.std.proofs.Common.{ap, sym, ◌∙◌, None, ◌≤◌, length, arith}
use Rattle.std.specs.Prelude.{slice_index_or}
use Rattle.std.specs.FinMap.{insert}
use Rattle.layout.specs.Place.{place_word}
use Rattle.heap_objects.specs.Objects.{wanted}
use Rattle.heap.specs.Roots.{roots_map}
use Rattle.heap.proofs.RootMap.{roots-insert}
use Rattle.heap.proofs.Allocating.{large_size, large_is}
use Rattle.heap.proofs.Wholes.{whole_large}
use Rattle.heap.proofs.heap.Heap.allocate_large.Goals as goal

pub invariant_of-self-in-Ok : goal.invariant_of-self-in-Ok
invariant_of-self-in-Ok g c =
    let kept = c.reserve.ensures.slots in
    let vacant = sym (ap (λ s. slice_index_or s c.insert_reserved.result None) kept) ∙ c.insert_reserved.ensures.was_vacant in
    let roots = roots-insert c.reserve.new.self.slots c.insert_reserved.new.self.slots c.insert_reserved.result c.in-Ok.place c.insert_reserved.ensures.updates ∙ ap (λ s. insert (roots_map s) c.insert_reserved.result (place_word c.in-Ok.place)) kept in
    let large = large_size c.self.inside.objects.config.block_words c.args.p c.args.q (rw (← c.self.view_is) at c.requires.large) in
    let enough : wanted c.self.inside.objects.config c.args.p c.args.q ≤ length c.self.inside.objects.free = omega (arith, c.if-free_count-wanted.false, c.free_count.ensures.value, c.wanted.ensures) in
    let made = large_is c.self.inside.objects c.allocate_large.new.self c.self.inside.roots.slots c.insert_reserved.new.self.slots c.self.inside.remembered c.args.p c.args.q c.insert_reserved.result (place_word c.in-Ok.place) vacant roots large enough c.in-Ok.ensures.ok in
    whole_large c.self.inside.objects c.self.inside.roots.slots c.self.inside.remembered c.args.p c.args.q c.insert_reserved.result _ c.self.invariant made

pub returns-in-Ok-clause-ok : goal.returns-in-Ok-clause-ok
returns-in-Ok-clause-ok g c =
    let kept = c.reserve.ensures.slots in
    let vacant = sym (ap (λ s. slice_index_or s c.insert_reserved.result None) kept) ∙ c.insert_reserved.ensures.was_vacant in
    let roots = roots-insert c.reserve.new.self.slots c.insert_reserved.new.self.slots c.insert_reserved.result c.in-Ok.place c.insert_reserved.ensures.updates ∙ ap (λ s. insert (roots_map s) c.insert_reserved.result (place_word c.in-Ok.place)) kept in
    let large = large_size c.self.inside.objects.config.block_words c.args.p c.args.q (rw (← c.self.view_is) at c.requires.large) in
    let enough : wanted c.self.inside.objects.config c.args.p c.args.q ≤ length c.self.inside.objects.free = omega (arith, c.if-free_count-wanted.false, c.free_count.ensures.value, c.wanted.ensures) in
    let made = large_is c.self.inside.objects c.allocate_large.new.self c.self.inside.roots.slots c.insert_reserved.new.self.slots c.self.inside.remembered c.args.p c.args.q c.insert_reserved.result (place_word c.in-Ok.place) vacant roots large enough c.in-Ok.ensures.ok in
    rw (← c.self.view_is) made
