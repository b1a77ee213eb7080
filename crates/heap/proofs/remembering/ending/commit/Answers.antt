use Rattle.std.proofs.Common.{[], ◌∙◌, rules}
use Rattle.steps.specs.ReportValue.{all_won}
use Rattle.heap.proofs.WithSets.{settled_without, closed_in, numbering_in}
use Rattle.heap.proofs.AfterCollection.{collected_with, whole_with}
use Rattle.heap.proofs.remembering.ending.commit.Goals as goal

pub keep_holders-requires : goal.keep_holders-requires
keep_holders-requires g c = closed_in c.commit.new.objects c.commit.new.roots.slots [] c.in-Ok-commit.ensures.sound.closed

pub note_all-requires-clause-numbering : goal.note_all-requires-clause-numbering
note_all-requires-clause-numbering g c = numbering_in c.args.objects.now c.args.roots.now.slots c.args.sets.now c.args.settled.collection.generation c.args.settled.collection.numbering c.requires.settled.opened.numbering

pub note_all-requires-clause-count : goal.note_all-requires-clause-count
note_all-requires-clause-count g c = c.requires.settled.places_count ∙ c.requires.settled.opened.cells

pub commit-requires-clause-settled : goal.commit-requires-clause-settled
commit-requires-clause-settled g c = settled_without c.args.objects.now c.args.roots.now.slots c.args.sets.now c.args.settled.collection c.args.settled.places c.args.settled.blocks.items (all_won c.args.settled.workers.items) c.requires.settled

pub returns-in-Ok-commit-clause-ok : goal.returns-in-Ok-commit-clause-ok
returns-in-Ok-commit-clause-ok g c =
    let settled = settled_without c.args.objects.now c.args.roots.now.slots c.args.sets.now c.args.settled.collection c.args.settled.places c.args.settled.blocks.items (all_won c.args.settled.workers.items) c.requires.settled in
    collected_with c.args.objects.now c.commit.new.objects c.args.roots.now.slots c.commit.new.roots.slots c.args.sets.now c.note_all.new.sets c.keep_holders.new.sets c.args.settled.collection c.args.settled.places c.args.settled.blocks.items (all_won c.args.settled.workers.items)
    c.free_count-before.ensures.sound c.requires.closed settled c.requires.covers c.requires.generations c.in-Ok-commit.ensures.ok c.in-Ok-commit.ensures.sound c.note_all.ensures.grown c.in-Ok.ensures.noted.0 c.in-Ok.ensures.noted.1 c.in-Ok.ensures.noted.2 c.keep_holders.ensures.generations c.keep_holders.ensures.members c.keep_holders.ensures.once

pub returns-in-Ok-commit-clause-sound : goal.returns-in-Ok-commit-clause-sound
returns-in-Ok-commit-clause-sound g c =
    let settled = settled_without c.args.objects.now c.args.roots.now.slots c.args.sets.now c.args.settled.collection c.args.settled.places c.args.settled.blocks.items (all_won c.args.settled.workers.items) c.requires.settled in
    whole_with c.args.objects.now c.commit.new.objects c.args.roots.now.slots c.commit.new.roots.slots c.args.sets.now c.note_all.new.sets c.keep_holders.new.sets c.args.settled.collection c.args.settled.places c.args.settled.blocks.items (all_won c.args.settled.workers.items)
    c.free_count-before.ensures.sound c.requires.closed settled c.requires.covers c.requires.generations c.in-Ok-commit.ensures.ok c.in-Ok-commit.ensures.sound c.note_all.ensures.grown c.in-Ok.ensures.noted.0 c.in-Ok.ensures.noted.1 c.in-Ok.ensures.noted.2 c.keep_holders.ensures.generations c.keep_holders.ensures.members c.keep_holders.ensures.once

pub returns-in-Err-clause-err : goal.returns-in-Err-clause-err
returns-in-Err-clause-err g c = (search rules, search rules, c.cut_back-in-Err.ensures c.args.sets.now (c.as_slice-in-Err.ensures.value ∙ c.lens-lens.ensures) c.note_all.ensures.grown)
