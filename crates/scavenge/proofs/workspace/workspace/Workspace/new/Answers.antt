use Rattle.std.proofs.Common.{None, map, replicate, ap, ◌∙◌, arith}
use Rattle.model.specs.Config.{Config}
use Rattle.model.specs.Destination.{dest_count}
use Rattle.heap.specs.CollectionValue.{target_of_slot}
use Rattle.steps.specs.ReportValue.{renaming_of}
use Rattle.steps.specs.ReportView.{won_value}
use Rattle.workers.specs.System.{every}
use Rattle.scavenge.specs.Shown.{WorkspaceValue, slots_of, blocks_of, words_of, packed_words}
use Rattle.scavenge.proofs.Pushing.{map_nones}
use Rattle.scavenge.proofs.Begun.{begun_noted, begun_made, begun_is, none_won}
use Rattle.scavenge.proofs.workspace.workspace.Workspace.new.Goals as goal

pub invariant_of-result : goal.invariant_of-result
invariant_of-result g c = (
  begun_noted c.dest_count-count.result c.in_ok-allocation.ensures c.new-2.ensures.items c.new-3.ensures.items,
  begun_made c.config-config.result c.dest_count-count.result c.in_ok-allocation.ensures c.new-2.ensures.items c.new-3.ensures.items,
  record { in_won = grind arith; in_done = grind arith; in_aside = grind arith; for_spare = λ s. absurd (cc); in_claimed = tt },
  none_won c.of.result.numbers c.new-6.ensures.items,
)

pub returns-clause-worker : goal.returns-clause-worker
returns-clause-worker g c =
    ap (λ (v : WorkspaceValue). v.worker) (begun_is c.large.result c.of.result.numbers c.config-config.ensures
    (c.in_ok-starts.ensures ∙ ap (λ xs. every c.args.n c.args.t 0 (map target_of_slot xs)) c.slots.ensures)
    (ap (slots_of c.config-config.result.shape) c.in_ok-allocation.ensures ∙ map_nones c.config-config.result.shape c.dest_count-count.result
    ∙ ap (λ n. replicate n None) (c.dest_count-count.ensures.value ∙ ap (dest_count c.config-config.result.shape) c.generation.ensures ∙ ap (λ (k : Config). dest_count k.shape c.args.collection.now.generation) c.config-config.ensures))
    (ap (blocks_of c.config-config.result.shape) c.new-2.ensures.items)
    (ap (blocks_of c.config-config.result.shape) c.new-3.ensures.items)
    (ap words_of c.new-4.ensures.items)
    (ap words_of c.new-5.ensures.items)
    (ap (λ ws. renaming_of c.of.result.numbers (map won_value ws)) c.new-6.ensures.items)
    (ap packed_words c.new-7.ensures.items))
