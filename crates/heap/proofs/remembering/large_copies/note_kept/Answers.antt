use Rattle.std.proofs.Common.{◌≡◌, ◌<◌, length, true, ap, ◌∙◌, arith}
use Rattle.std.proofs.lemmas.Result.{on_ok_weaker}
use Rattle.model.specs.Reached.{has}
use Rattle.layout.specs.Place.{large_word}
use Rattle.remembered_set.specs.Sets.{members_of}
use Rattle.heap.proofs.Grown.{grown_by_note, noted_has}
use Rattle.heap.proofs.LargeNoted.{noted_not, noted_going}
use Rattle.heap.proofs.remembering.large_copies.note_kept.Goals as goal

pub returns-in_default-clause-noted : goal.returns-in_default-clause-noted
returns-in_default-clause-noted g c = noted_not c.args.objects.now c.args.collection.now.generation c.args.places.now c.args.of.number c.args.youngest c.args.sets.now (c.kept.ensures.none c.in_default.is)

pub returns-clause-grown : goal.returns-clause-grown
returns-clause-grown g c =
    let lt : c.in-Some.to < length c.args.sets.now = omega (arith, c.if-to-generations.false, c.generations.ensures.value) in
    grown_by_note c.args.sets.now c.in-Some.to (large_word c.args.of.number) lt c.note.result c.note.new.self c.note.ensures.ok c.note.ensures.err

pub returns-clause-noted : goal.returns-clause-noted
returns-clause-noted g c =
    let to = c.in-Some.to in
    let word = large_word c.args.of.number in
    let lt : to < length c.args.sets.now = omega (arith, c.if-to-generations.false, c.generations.ensures.value) in
    on_ok_weaker c.note.result
    (λ e.
    let member : has (members_of c.note.new.self to) word ≡ true = ap (λ ss. has (members_of ss to) word) e ∙ noted_has c.args.sets.now to word lt in
    noted_going c.args.objects.now c.args.collection.now.generation c.args.places.now c.args.of.number c.args.youngest c.note.new.self to c.in-Some.ensures.to member)
    c.note.ensures.ok
