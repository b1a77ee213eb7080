use Rattle.std.proofs.Common.{◌≡◌, ◌<◌, ◌+◌, ◌++◌, ℕ, List, length, get_or, map, sym, ap, ◌∙◌, arith, length-append, vec_len}
use Rattle.model.specs.Reached.{fresh_of}
use Rattle.reference.specs.Table.{row}
use Rattle.model.proofs.SpreadLemmas.{spread_more, spread_ended}
use Rattle.reference.proofs.reference_data.spread.reached.Goals as goal
use Rattle.reference.proofs.reference_data.spread.reached.Goals.{then-loop-done-test+else-done-rows, else-loop-done-test}

pub loop-done-preserved : goal.loop-done-preserved
loop-done-preserved g c =
    let next : ℕ → List ℕ = row (map (λ r. r.items) c.args.rows.now) in
    let found : List ℕ = c.loop-done.found.items in
    let more : List ℕ = c.in_ok-more.more.items in
    let name : ℕ = c.index.result.now in
    let len : vec_len c.loop-done.found ≡ length found = c.loop-done.found.ok.0 in
    let short : c.loop-done.done < length found = omega arith in
    let at : get_or found c.loop-done.done name ≡ name = sym c.index.ensures in
    let new : more ≡ fresh_of found (next (get_or found c.loop-done.done name)) =
    c.in_ok-more.ensures ∙ ap (λ xs. fresh_of xs c.row_of.result.now) c.as_slice.ensures.value ∙ ap (fresh_of found) (c.row_of.ensures ∙ ap next (sym at)) in
    let grown : c.extend_from_slice.new.self.items ≡ found ++ more = c.in_ok-extend_from_slice.ensures.items ∙ ap (λ xs. found ++ xs) c.as_slice-in-loop-done.ensures.value in
    record {
      in_found = let longer : length c.extend_from_slice.new.self.items ≡ length found + length more = ap length grown ∙ length-append found more in omega arith;
      in_rows = omega arith;
      rest = spread_more next (length c.args.rows.now) c.loop-done.done name found c.extend_from_slice.new.self.items more _ short c.if-done-rows.true new grown c.loop-done.invariant.rest;
    }

pub returns : goal.returns
returns g c =
    let next : ℕ → List ℕ = row (map (λ r. r.items) c.args.rows.now) in
    let found : List ℕ = c.loop-done.found.items in
    let len : vec_len c.loop-done.found ≡ length found = c.loop-done.found.ok.0 in
    let stop : c.loop-done.done < length found → c.loop-done.done < length c.args.rows.now → ⊥ =
    elim c.loop-done-test.branch [
      | then-loop-done-test+else-done-rows w ↦ λ a b. absurd (omega arith)
      | else-loop-done-test w ↦ λ a b. absurd (omega arith)
    ] in
    sym (c.loop-done.invariant.rest ∙ spread_ended next (length c.args.rows.now) c.loop-done.done found c.loop-done.invariant.in_found c.loop-done.invariant.in_rows stop)
