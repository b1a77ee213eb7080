use Rattle.std.proofs.Common.{◌≡◌, ◌≤◌, ◌-◌, map, length, take, drop}
use Rattle.model.specs.Reached.{spread, reached_list}
use Rattle.reference.specs.Table.{row}
use Rattle.reference.proofs.reference_data.spread.reached.Given as goal

abbrev pub invariant-loop-done : goal.invariant-loop-done
invariant-loop-done g l =
    record {
      in_found : l.done ≤ length l.found.items;
      in_rows : l.done ≤ length l.rows;
      rest : reached_list (row (map (λ r. r.items) l.rows)) (length l.rows) l.start
          ≡ spread (row (map (λ r. r.items) l.rows)) (length l.rows - l.done) (take l.done l.found.items) (drop l.done l.found.items);
    }

abbrev pub decreases-loop-done : goal.decreases-loop-done
decreases-loop-done g l = length l.rows - l.done
