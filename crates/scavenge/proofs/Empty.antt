-- A look whose cell is empty.
use Rattle.std.proofs.Common.{◌≡◌, ℕ, true, false, nat_le, le-leb, cond, Option, Some, None, Result, Ok, Err, sym, ap, subst, ◌∙◌}
use Rattle.std.specs.Prelude.{OnOk, MatchOption}
use Rattle.std.specs.Option.{option_map_or}
use Rattle.model.specs.Graph.{Object}
use Rattle.model.specs.Live.{IsYoung}
use Rattle.layout.specs.declared.place.Place.{Place}
use Rattle.block_pool.specs.ClaimsValue.{SeatValue}
use Rattle.heap.specs.declared.found.Found.{Found}
use Rattle.block_pool.specs.BlockValue.{BlockValue}
use Rattle.heap.specs.Found.{IsFound, IsFoundIn, HasNumber}
use Rattle.heap.specs.HeapValue.{HeapValue}
use Rattle.heap.specs.CollectionValue.{CollectionValue}
use Rattle.workers.specs.Setting.{is_collected}
use Rattle.workers.specs.Worker.{Worker}
use Rattle.workers.specs.WorkerSteps.{current_slot, cell_wanted, collected_target, draw_at, after_look, look_slot, look_at, finish_slot}
use Rattle.scavenge.specs.Shown.{WorkspaceValue}
use Rattle.scavenge.specs.Told.{Tells}
use Rattle.scavenge.specs.Slots.{seen, objects_of, Looks, Proposes, IsTold, cell_of, seat_after}

pub on_ok : {A E P Q : Type 0} (r : Result A E) → (P → Q) → OnOk r P → OnOk r Q
on_ok (Ok x) f p = f p
on_ok (Err x) f p = p

-- what has a number is collected
pub numbered : (heap : HeapValue) (c : CollectionValue) (name : ℕ) (found : Found) (number : ℕ) → found.number ≡ Some number → IsFound heap c name found → IsYoung heap.graph c.generation name × HasNumber heap c name number
numbered heap c name found number is f = subst (λ o. MatchOption o (IsYoung heap.graph c.generation name → ⊥) (λ n. IsYoung heap.graph c.generation name × HasNumber heap c name n)) is f.number

pub numbered_in : (heap : HeapValue) (c : CollectionValue) (name offset : ℕ) (block : BlockValue) (at : ℕ × ℕ) (found : Option ℕ) (number : ℕ) → found ≡ Some number → IsFoundIn heap c name offset block at found → IsYoung heap.graph c.generation name × HasNumber heap c name number
numbered_in heap c name offset block at found number is f = subst (λ o. MatchOption o (IsYoung heap.graph c.generation name → ⊥) (λ n. IsYoung heap.graph c.generation name × HasNumber heap c name n)) is f.number

pub collected : (heap : HeapValue) (c : CollectionValue) (name : ℕ) → IsYoung heap.graph c.generation name → is_collected (seen heap c) name ≡ true
collected heap c name young = ap (λ o. option_map_or (λ (x : Object). nat_le x.generation c.generation) o false) young.there ∙ le-leb _ _ young.young

pub looks_none : (heap : HeapValue) (c : CollectionValue) (gives : ℕ → Option Place → Type 0) (old_known new_known : ℕ → Option Place) (seat seat' : SeatValue) (old new : WorkspaceValue) (name : ℕ)
    → current_slot (seen heap c) old.worker ≡ Some (Some name) → is_collected (seen heap c) name ≡ true → Tells heap c gives old_known new_known name None → Proposes (objects_of heap) name seat seat' old new → Looks heap c gives old_known new_known seat seat' old new
looks_none heap c gives old_known new_known seat seat' old new name current young tells p =
    record {
      shown = None;
      number = p.number;
      told = subst (IsTold heap c gives old_known new_known None) (sym wanted) tells;
      drawn = p.drawn ∙ sym (ap (λ b. seat_after seat b p.number) (ap (λ x. draw_at (seen heap c) old.worker x (cell_of (seen heap c) x None)) wanted));
      worker = p.worker ∙ ap (λ (w : Worker). (let x : WorkspaceValue = record old { worker = w } in x))
          (sym (ap (λ x. after_look (seen heap c) old.worker (cell_of (seen heap c) x None) p.number) wanted
          ∙ ap (look_slot (seen heap c) old.worker None p.number) current
          ∙ ap (λ b. cond b (look_at (seen heap c) old.worker None p.number name) (finish_slot (Some name) old.worker)) young));
    }
  where
    wanted : cell_wanted (seen heap c) old.worker ≡ Some name
    wanted = ap (collected_target (seen heap c)) current ∙ ap (λ b. cond b (Some name) None) young
