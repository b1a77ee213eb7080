use Rattle.std.proofs.Common.{arith, ◌∙◌, ◌++◌, ◌∷◌, [], List, ap, sym, subst, rules}
use Rattle.std.specs.Prelude.{All, AllPairs}
use Rattle.std.proofs.lemmas.List.{length_push}
use Rattle.std.proofs.lemmas.List.FromFn.{map-range_with_len_more}
use Rattle.forwarding.specs.Boxed.{names_of}
use Rattle.forwarding.specs.Noted.{NotedValue, IsPassOf, IsApart, new_pass}
use Rattle.forwarding.proofs.Noting.{new_passes-fit, new_passes-apart}
use Rattle.forwarding.proofs.box_cells.box_cells.BoxCells.new.Goals as goal

pub loop-number-preserved : goal.loop-number-preserved
loop-number-preserved g c =
    let cells = names_of c.in_ok-empty_cells.field-0.items in
    let more = map-range_with_len_more (new_pass cells) 0 c.loop-number.number c.loop-number.number (omega arith) in
    record {
      made = c.push_reserved.ensures.items ∙ (ap (λ (p : NotedValue). c.loop-number.made.items ++ p ∷ []) c.in_ok-new_pass.ensures ∙ (ap (λ (ps : List NotedValue). ps ++ new_pass cells c.loop-number.number ∷ []) c.loop-number.invariant.made ∙ sym more));
      many = rw (c.push_reserved.ensures.items, length_push) (omega arith);
      room = omega arith;
      cells = c.loop-number.invariant.cells;
    }

pub returns-clause-apart : goal.returns-clause-apart
returns-clause-apart g c =
    subst (λ (ps : List NotedValue). AllPairs IsApart ps) (sym c.loop-number.invariant.made) (new_passes-apart (names_of c.in_ok-empty_cells.field-0.items) c.loop-number.number)

pub returns-clause-fits : goal.returns-clause-fits
returns-clause-fits g c =
    subst (λ (ps : List NotedValue). All (IsPassOf (names_of c.in_ok-empty_cells.field-0.items)) ps) (sym c.loop-number.invariant.made) (new_passes-fit (names_of c.in_ok-empty_cells.field-0.items) c.loop-number.number)

pub loop-number-init : goal.loop-number-init
loop-number-init g c = search rules
