use Rattle.std.proofs.Common.{refl, sym, ap, ◌∙◌}
use Rattle.std.specs.Option.{option_map}
use Rattle.layout.specs.Place.{place_word}
use Rattle.model.proofs.ClosedLemmas.{closed-without_root}
use Rattle.heap.proofs.RootMap.{get-roots, roots-remove}
use Rattle.heap.proofs.heap.Heap.release.Goals as goal

pub returns-in_default-clause-known : goal.returns-in_default-clause-known
returns-in_default-clause-known g c =
    let none = get-roots c.self.inside.roots.slots c.args.root.number ∙ ap (option_map place_word) (sym c.in_default.ensures.value) in
    (λ e. cc, λ some. let some' = rw (← c.self.view_is, none) at some in cc)

pub returns-clause-known : goal.returns-clause-known
returns-clause-known g c =
    let some = get-roots c.self.inside.roots.slots c.args.root.number ∙ ap (option_map place_word) (sym c.in-Some.ensures.value) in
    (λ e. rw (← c.self.view_is, some) refl, λ is. refl)

pub returns-clause-ok : goal.returns-clause-ok
returns-clause-ok g c =
    rw (← c.self.view_is, roots-remove c.self.inside.roots.slots c.remove.new.self.slots c.args.root.number c.in-Some.ensures.updates) refl

pub invariant_of-self-2 : goal.invariant_of-self-2
invariant_of-self-2 g c =
    rw (roots-remove c.self.inside.roots.slots c.remove.new.self.slots c.args.root.number c.in-Some.ensures.updates) (record { closed = closed-without_root _ c.args.root.number c.self.invariant.closed; sets = c.self.invariant.sets; covers = c.self.invariant.covers })
