use Rattle.std.proofs.Common.{arith}
use Rattle.std.proofs.lemmas.Result.{on_ok_weaker}
use Rattle.steps.specs.BlockObjects.{copies_of}
use Rattle.heap.specs.Lowest.{AreLowest}
use Rattle.heap.specs.Noted.{AreFrom, AreNoted}
use Rattle.heap.proofs.Grown.{grown_more}
use Rattle.heap.proofs.NotedCopies.{all_noted_still}
use Rattle.heap.proofs.remembering.ending.note_all.Goals as goal

pub returns-clause-grown : goal.returns-clause-grown
returns-clause-grown g c = grown_more _ _ _ c.note_copies.ensures.grown c.note_large.ensures.grown

pub returns-clause-noted : goal.returns-clause-noted
returns-clause-noted g c =
    let settled = c.args.settled.now in
    let youngest = c.youngest_of_large-youngest.result in
    let lowest = c.in_ok-note_copies.ensures.noted.0 in
    let copies_from : AreFrom c.youngest_of_copies-youngest.result (copies_of settled.blocks.items) = rw c.deref.ensures.value at c.youngest_of_copies-youngest.ensures.copies in
    let blocks : AreLowest lowest (copies_of settled.blocks.items) = rw c.deref-2.ensures.value at c.in_ok-note_copies.ensures.noted.1 in
    let copies : AreNoted lowest youngest c.note_copies.new.sets (copies_of settled.blocks.items) = rw c.deref-2.ensures.value at c.in_ok-note_copies.ensures.noted.2 in
    on_ok_weaker c.note_large.result
    (λ large. (
      lowest,
      youngest,
      record {
        stays = omega (arith, c.youngest_of_large-youngest.ensures.most, c.youngest_of_copies-youngest.ensures.most, c.generation.ensures);
        copies_from = λ k d lt. omega (arith, copies_from k d lt, c.youngest_of_large-youngest.ensures.most);
        large_from = c.youngest_of_large-youngest.ensures.large;
        blocks = blocks;
        copies = all_noted_still lowest youngest c.note_copies.new.sets c.note_large.new.sets (copies_of settled.blocks.items) c.note_large.ensures.grown copies;
        large = large;
      },
    ))
    c.note_large.ensures.noted
