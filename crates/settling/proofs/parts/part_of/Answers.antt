use Rattle.std.proofs.Common.{ℕ, ◌<◌, All, length, map, sym, ap, subst, ◌∙◌}
use Rattle.steps.specs.CollectionValue.{young_names}
use Rattle.steps.specs.ReportValue.{WorkerLists, renaming_of}
use Rattle.steps.specs.ReportView.{won_value}
use Rattle.settling.proofs.Parted.{blocks_left, blocks_whole}
use Rattle.settling.proofs.parts.part_of.Goals as goal

pub returns : goal.returns
returns g c =
    record {
      won = ap (λ (l : WorkerLists). renaming_of (young_names c.args.heap.now.graph c.args.collection.now.generation) l.won) c.new.ensures ∙ ap (λ names. renaming_of names (map won_value c.into_parts-allocation.result.won.items)) (sym c.requires.rest.names) ∙ c.into_parts-allocation.ensures.won;
      numbers = subst (λ (l : WorkerLists). All (λ e. e.0 < c.args.collection.now.cells) l.won) (sym c.new.ensures)
          (subst (λ n. All (λ (e : ℕ × ℕ). e.0 < n) (map won_value c.into_parts-allocation.result.won.items)) (ap length c.requires.rest.names ∙ sym c.requires.opened.cells) c.into_parts-allocation.ensures.numbers);
      scanned = ap (λ (l : WorkerLists). l.scanned) c.new.ensures ∙ c.into_parts-allocation.ensures.scanned;
      left = blocks_left c.args.heap.now c.args.workspace c.requires.rest.config c.into_parts-allocation.result.allocation.items c.into_parts-allocation.result.done.items c.in_ok-blocks.blocks.items c.in_ok-blocks.ensures c.into_parts-allocation.ensures.allocation c.into_parts-allocation.ensures.done;
      whole = blocks_whole c.args.heap.now c.args.workspace c.requires.rest.config c.into_parts-allocation.result.allocation.items c.into_parts-allocation.result.done.items c.in_ok-blocks.blocks.items c.in_ok-blocks.ensures c.into_parts-allocation.ensures.allocation_whole c.into_parts-allocation.ensures.done_whole;
      large_are = c.into_parts-allocation.ensures.large;
    }
