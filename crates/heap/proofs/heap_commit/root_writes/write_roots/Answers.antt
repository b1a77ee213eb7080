use Rattle.std.proofs.Common.{ap, ◌∙◌, None, slice_index_or}
use Rattle.std.specs.Option.{option_map}
use Rattle.layout.specs.Place.{place_word}
use Rattle.heap.specs.Roots.{root_word}
use Rattle.heap.proofs.Rewriting.{written_next, word_of_map}
use Rattle.heap.proofs.heap_commit.root_writes.write_roots.Goals as goal

pub loop-root-preserved : goal.loop-root-preserved
loop-root-preserved g c =
    written_next (λ r. r.number) (λ r. place_word r.place) c.args.renamed.now (root_word c.args.roots.now.slots) (root_word c.loop-root.roots.slots) (root_word c.set.new.self.slots) c.loop-root.root-index c.root-item.result
    c.root-item.is c.loop-root-test.true c.requires c.loop-root.invariant
    (ap (option_map place_word) c.set.ensures.changed ∙ word_of_map place_word c.root-item.result.place (slice_index_or c.loop-root.roots.slots c.root-item.result.number None))
    (λ n ne. ap (option_map place_word) (c.set.ensures.others n ne))
