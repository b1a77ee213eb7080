use Rattle.std.proofs.Common.{◌≡◌, ℕ, List, Some, IfOk, length, map, sym, subst, ap, ◌∙◌}
use Rattle.std.proofs.lemmas.List.{length-map}
use Rattle.model.specs.Store.{live_list}
use Rattle.model.specs.Reached.{reached_list}
use Rattle.reference.specs.Table.{row}
use Rattle.reference.proofs.PlainLemmas.{reached_rows}
use Rattle.reference.proofs.store.Store.live.Goals as goal

pub returns : goal.returns
returns g c =
    let rows = c.as_slice.result.now in
    let table : List (List ℕ) = map (λ r. r.items) rows in
    let same : reached_list (row table) (length rows) c.as_slice-2.result.now ≡ live_list c.args.self.now c.args.generation =
    reached_rows c.args.self.now (Some c.args.generation) table c.as_slice-2.result.now (length rows) (ap (map (λ r. r.items)) c.as_slice.ensures.value ∙ c.in_ok-rows.ensures) (sym (length-map rows (λ r. r.items)))
    ∙ ap (reached_list _ _) (c.as_slice-2.ensures.value ∙ c.in_ok-start.ensures) in
    subst (λ ys. IfOk c.reached.result (λ v. v.items ≡ ys)) same c.reached.ensures
