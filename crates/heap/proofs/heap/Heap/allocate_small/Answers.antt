use Rattle.std.proofs.Common.{ap, sym, ◌∙◌, None}
use Rattle.std.specs.Prelude.{slice_index_or}
use Rattle.std.specs.FinMap.{insert}
use Rattle.layout.specs.Place.{place_word}
use Rattle.heap.specs.Roots.{roots_map}
use Rattle.heap.proofs.RootMap.{roots-insert}
use Rattle.heap.proofs.Allocating.{small_size, small_is}
use Rattle.heap.proofs.Wholes.{whole_small}
use Rattle.heap.proofs.heap.Heap.allocate_small.Goals as goal

pub invariant_of-self-in-Some : goal.invariant_of-self-in-Some
invariant_of-self-in-Some g c =
    let kept = c.reserve.ensures.slots in
    let vacant = sym (ap (λ s. slice_index_or s c.insert_reserved.result None) kept) ∙ c.insert_reserved.ensures.was_vacant in
    let roots = roots-insert c.reserve.new.self.slots c.insert_reserved.new.self.slots c.insert_reserved.result c.in-Some.place c.insert_reserved.ensures.updates ∙ ap (λ s. insert (roots_map s) c.insert_reserved.result (place_word c.in-Some.place)) kept in
    let small = small_size c.self.inside.objects.config.block_words c.args.p c.args.q (rw (← c.self.view_is) at c.requires.small) in
    let made = small_is c.self.inside.objects c.allocate.new.self c.self.inside.roots.slots c.insert_reserved.new.self.slots c.self.inside.remembered c.args.p c.args.q c.insert_reserved.result (place_word c.in-Some.place) vacant roots c.args.mutator small c.in-Some.ensures.some in
    whole_small c.self.inside.objects c.self.inside.roots.slots c.self.inside.remembered c.args.p c.args.q c.insert_reserved.result _ c.self.invariant c.args.mutator made

pub returns-in-Some-clause-ok : goal.returns-in-Some-clause-ok
returns-in-Some-clause-ok g c =
    let kept = c.reserve.ensures.slots in
    let vacant = sym (ap (λ s. slice_index_or s c.insert_reserved.result None) kept) ∙ c.insert_reserved.ensures.was_vacant in
    let roots = roots-insert c.reserve.new.self.slots c.insert_reserved.new.self.slots c.insert_reserved.result c.in-Some.place c.insert_reserved.ensures.updates ∙ ap (λ s. insert (roots_map s) c.insert_reserved.result (place_word c.in-Some.place)) kept in
    let small = small_size c.self.inside.objects.config.block_words c.args.p c.args.q (rw (← c.self.view_is) at c.requires.small) in
    let made = small_is c.self.inside.objects c.allocate.new.self c.self.inside.roots.slots c.insert_reserved.new.self.slots c.self.inside.remembered c.args.p c.args.q c.insert_reserved.result (place_word c.in-Some.place) vacant roots c.args.mutator small c.in-Some.ensures.some in
    rw (← c.self.view_is) made
