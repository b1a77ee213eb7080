use Rattle.std.proofs.Common.{arith, sym, ◌∙◌}
use Rattle.heap_objects.proofs.Sound.{few_blocks}
use Rattle.heap_objects.proofs.YoungNumbers.{are_bases, young_count, few_young}
use Rattle.heap_objects.proofs.heap_space.space.Space.bases.Goals as goal

pub bases-requires : goal.bases-requires
bases-requires g c = record { short = rw c.deref.ensures.value (few_blocks _ _ _ _ c.self.invariant.space); areas = rw c.deref.ensures.value c.self.invariant.flags }

pub returns-clause-bases : goal.returns-clause-bases
returns-clause-bases g c =
    let covers = rw c.deref.ensures.value at c.in_ok-found.ensures.covers in
    let each = rw c.deref.ensures.value at c.in_ok-found.ensures.bases in
    rw (← c.self.view_is) (are_bases _ _ _ _ c.self.invariant.space c.args.generation c.in_ok-found.found.0.items covers each)

pub returns-clause-short : goal.returns-clause-short
returns-clause-short g c =
    let len = rw c.deref.ensures.value at c.in_ok-found.ensures.len in
    omega (arith, len, few_blocks _ _ _ _ c.self.invariant.space)

pub returns-clause-all : goal.returns-clause-all
returns-clause-all g c =
    let all = rw c.deref.ensures.value at c.in_ok-found.ensures.all in
    rw (← c.self.view_is) (all ∙ sym (young_count _ _ _ _ c.self.invariant.space c.args.generation))

pub returns-clause-few : goal.returns-clause-few
returns-clause-few g c =
    let all = rw c.deref.ensures.value at c.in_ok-found.ensures.all in
    omega (arith, all, few_young _ _ _ _ c.self.invariant.space c.args.generation)
