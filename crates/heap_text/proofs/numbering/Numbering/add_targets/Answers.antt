use Rattle.std.proofs.Common.{sym, ◌∙◌}
use Rattle.heap_text.proofs.Shown.{is_pointer_word, leads_there}
use Rattle.heap_text.proofs.Steps.{target_nil, target_more}
use Rattle.heap_text.proofs.numbering.Numbering.add_targets.Goals as goal
use Rattle.heap_text.proofs.numbering.Numbering.add_targets.Goals.{in-Some+in_ok-add, in_default}

pub target_of-requires : goal.target_of-requires
target_of-requires g c = is_pointer_word c.args.heap.now.graph _ c.requires.all.places (c.requires.lead c.loop-word.word-index 0 c.loop-word-test.true)

pub add-requires-clause-there : goal.add-requires-clause-there
add-requires-clause-there g c = leads_there c.args.heap.now.graph _ _ (c.requires.lead c.loop-word.word-index 0 c.loop-word-test.true) c.in-Some.ensures

pub loop-word-preserved : goal.loop-word-preserved
loop-word-preserved g c =
    elim c.match-target_of.branch [
      | in-Some+in_ok-add w ↦
          rw w.self-is (record {
            numbering = w.in_ok-add.ensures.numbering;
            rest = target_more _ _ c.args.pointers.now c.loop-word.word-index 0 _ c.loop-word-test.true (sym w.in-Some.ensures) w.in_ok-add.ensures.order ∙ c.loop-word.invariant.rest;
          })
      | in_default w ↦
          rw w.self-is (record {
            numbering = c.loop-word.invariant.numbering;
            rest = target_nil _ c.args.pointers.now c.loop-word.word-index 0 c.loop-word-test.true (sym w.in_default.ensures) ∙ c.loop-word.invariant.rest;
          })
    ]
