use Rattle.std.proofs.Common.{◌≡◌, ◌≤◌, ◌*◌, take, sum_by}
use Rattle.reference.specs.Plain.{words_in}
use Rattle.reference.proofs.store.Store.slot_words_in.Given as goal

abbrev pub invariant-loop-slot : goal.invariant-loop-slot
invariant-loop-slot g l =
    record {
      sum : l.words ≡ sum_by (words_in l.config.block_words l.part) (take l.slot-index l.slot-items);
      bound : l.words ≤ l.slot-index * 200001;
    }
