use Rattle.std.proofs.Common.{◌≡◌, ◌<◌, [], length, ap, ◌∙◌, arith}
use Rattle.std.proofs.lemmas.List.{get_or_read}
use Rattle.remembered_set.specs.Sets.{members_of}
use Rattle.remembered_set.proofs.remembered.Remembered.members.Goals as goal

pub returns-clause-all : goal.returns-clause-all
returns-clause-all g c =
    let inside : c.args.generation < length c.self.inside.sets.items = omega (arith, c.if-generation-len.false, c.len.ensures) in
    let same : c.index.result.now ≡ members_of c.args.self.now c.args.generation = get_or_read c.self.inside.sets.items c.args.generation c.index.result.now inside c.index.ensures [] ∙ ap (λ sets. members_of sets c.args.generation) c.self.view_is in
    rw (← same) c.rising.ensures.all
