use Rattle.std.proofs.Common.{arith, ◌≡◌, ◌<◌, ◌∙◌, ap, sym, map, length}
use Rattle.forwarding.specs.Boxed.{note_cell}
use Rattle.forwarding.proofs.Noting.{known_many, still_of, told_set}
use Rattle.forwarding.proofs.Joining.{same_cell, unchanged, joins_more, left_more, same_lengths}
use Rattle.forwarding.proofs.box_cells.box_notes.join_all.Goals as goal

pub join-both-requires-clause-cell : goal.join-both-requires-clause-cell
join-both-requires-clause-cell c =
    let inv = c.loop-at.invariant in
    let are : map note_cell c.loop-at.others.items ≡ map note_cell c.loop-at.notes.items = ap (map note_cell) inv.others ∙ (c.requires.cells ∙ sym inv.cells) in
    let many = same_lengths _ _ are in
    let now = same_lengths _ _ inv.cells in
    let within : c.loop-at.at < length c.loop-at.notes.items = omega (arith, c.len-at-end.ensures) in
    same_cell _ _ c.loop-at.at _ _ are within (omega arith) c.index_mut.ensures.value c.index_mut-in-loop-at.ensures.value

pub loop-at-preserved : goal.loop-at-preserved
loop-at-preserved c =
    let inv = c.loop-at.invariant in
    let known = known_many _ _ inv.told in
    let found = known_many _ _ c.requires.found in
    let are : map note_cell c.loop-at.others.items ≡ map note_cell c.loop-at.notes.items = ap (map note_cell) inv.others ∙ (c.requires.cells ∙ sym inv.cells) in
    let many = same_lengths _ _ are in
    let others = ap length inv.others in
    let now = same_lengths _ _ inv.cells in
    let within : c.loop-at.at < length c.loop-at.notes.items = omega (arith, c.len-at-end.ensures) in
    record {
      cells = still_of _ _ _ _ c.index_mut.ensures.value c.join-both.ensures.cell ∙ inv.cells;
      told = told_set _ _ _ _ _ inv.told c.join-both.ensures.told;
      others = unchanged _ _ _ _ _ c.index_mut-in-loop-at.ensures.value c.join-both.ensures.other ∙ inv.others;
      done = joins_more c.args.known.now c.args.found.now c.loop-at.known c.loop-at.at _ _ _ (omega arith) c.index-known-at.is c.index-found-at.is (omega arith) c.join-both.ensures.joined inv.left inv.done;
      left = left_more c.args.known.now c.args.found.now c.loop-at.known c.loop-at.at _ _ _ (omega arith) c.index-known-at.is c.index-found-at.is (omega arith) c.join-both.ensures.joined inv.left;
    }
