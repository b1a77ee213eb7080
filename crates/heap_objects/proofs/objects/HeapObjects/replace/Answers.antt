use Rattle.std.proofs.Common.{ℕ, List, None, is_some, slice_index, sym, ap, subst, ◌∙◌, arith}
use Rattle.std.specs.Prelude.{slice_index_or, option_and_then}
use Rattle.model.specs.Config.{Config}
use Rattle.large_objects.specs.LargeValue.{large_at}
use Rattle.heap_objects.specs.Space.{SpaceValue}
use Rattle.heap_objects.specs.Objects.{objects_of}
use Rattle.heap_objects.specs.Inside.{AreApart}
use Rattle.heap_objects.specs.Renewing.{renewed}
use Rattle.heap_objects.specs.Collecting.{IsReplaced}
use Rattle.heap_objects.proofs.Numbers.{young_of_large, numbered_large}
use Rattle.heap_objects.proofs.Replaced.{replaced_apart, is_replaced}
use Rattle.heap_objects.proofs.objects.HeapObjects.replace.Goals as goal

pub replace-requires : goal.replace-requires
replace-requires g c =
    let can = rw (← c.self.view_is) at c.requires.blocks in
    record { once = can.once; were_free = can.were_free; sound = can.sound }

pub renew-requires-clause-apart : goal.renew-requires-clause-apart
renew-requires-clause-apart g c =
    let can = rw (← c.self.view_is) at c.requires.blocks in
    replaced_apart _ _ _ c.args.generation c.args.blocks.items c.self.invariant can c.in_ok-replace.ensures.ok c.free_count-free.ensures.space

pub renew-requires-clause-numbers : goal.renew-requires-clause-numbers
renew-requires-clause-numbers g c = λ n o is young.
    let numbering = rw (← c.self.view_is) at c.requires.numbering in
    let count = rw (← c.self.view_is) at c.requires.count in
    let lt = numbering.covers_large n (young_of_large _ _ c.self.invariant c.args.generation n o is young) in
    let at = numbered_large _ _ c.self.invariant c.args.generation n o (slice_index c.args.numbering.now.large n) is young (numbering.large n lt) in
    rw c.large.ensures (lt, omega (arith, at.in_range, count))

pub returns-clause-ok : goal.returns-clause-ok
returns-clause-ok g c =
    let space = c.self.inside.space in
    let large = c.self.inside.large in
    let mid = c.replace.new.self in
    let places = c.args.places in
    let numbering = rw (← c.self.view_is) at c.requires.numbering in
    let done = c.in_ok-replace.ensures.ok in
    let after = subst (λ (s : SpaceValue). AreApart s c.renew.new.large) c.renew.ensures.space c.renew.ensures.apart in
    let each = λ (n : ℕ). c.renew.ensures.each n
    ∙ ap (λ (ns : List ℕ). option_and_then (renewed mid.config.shape c.args.generation (is_some (slice_index_or places (slice_index ns n) None))) (large_at large n)) c.large.ensures
    ∙ ap (λ (k : Config). option_and_then (renewed k.shape c.args.generation (is_some (slice_index_or places (slice_index c.args.numbering.now.large n) None))) (large_at large n)) done.config in
    let replaced = is_replaced space mid c.renew.new.space.free large c.renew.new.large c.args.generation c.args.blocks.items c.args.numbering.now places c.self.invariant after numbering each done in
    rw (← c.self.view_is, c.keep_spare.ensures) (subst (λ (s : SpaceValue). IsReplaced (objects_of space large) c.args.generation c.args.blocks.items places (objects_of s c.renew.new.large)) (sym c.renew.ensures.space) replaced)
