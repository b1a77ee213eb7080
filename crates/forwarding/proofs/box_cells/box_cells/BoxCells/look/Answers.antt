use Rattle.std.proofs.lemmas.Grind.{common_steps}
use Rattle.std.proofs.Common.{arith, ◌≡◌, ◌∙◌, ap, sym, map}
use Rattle.forwarding.specs.Boxed.{note_cell, names_of}
use Rattle.forwarding.proofs.Noting.{same_many, has_cell, of_cell, still_of, looked, noted_set}
use Rattle.forwarding.proofs.box_cells.box_cells.BoxCells.look.Goals as goal

pub get_as-requires : goal.get_as-requires
get_as-requires c =
    let are : map note_cell c.pass.inside.notes.items ≡ names_of c.self.inside.cells.items = ap (λ v. v.cells) c.pass.view_is ∙ (c.requires.pass ∙ sym c.self.view_is) in
    of_cell _ _ c.args.name _ _ are (has_cell _ _ _ c.self.view_is c.requires.name) c.index.ensures c.index_mut.ensures.value

pub invariant_of-pass : goal.invariant_of-pass
invariant_of-pass c =
    let are : map note_cell c.pass.inside.notes.items ≡ names_of c.self.inside.cells.items = ap (λ v. v.cells) c.pass.view_is ∙ (c.requires.pass ∙ sym c.self.view_is) in
    let within = has_cell _ _ _ c.self.view_is c.requires.name in
    let many = same_many _ _ are in
    let found = looked _ _ _ c.get_as.ensures.value in
    noted_set _ c.args.name _ _ _ _ _ _ _ c.pass.invariant (omega arith) c.index_mut.ensures.value (found.0 ∙ sym c.copied-found.ensures) (λ b e. c.copied-found.ensures ∙ found.1 b e)

pub returns-clause-pass : goal.returns-clause-pass
returns-clause-pass c = record {
  number = ap (λ v. v.number) c.pass.view_is;
  cells = still_of _ _ _ _ c.index_mut.ensures.value c.get_as.ensures.cell ∙ ap (λ v. v.cells) c.pass.view_is;
}

pub returns-clause-known : goal.returns-clause-known
returns-clause-known c = grind (arith, common_steps)
