use Rattle.std.proofs.Common.{ap, arith, map, refl}
use Rattle.steps.specs.ReportValue.{all_won}
use Rattle.steps.specs.SlotView.{slot_value}
use Rattle.heap.specs.Moves.{field_write}
use Rattle.heap.specs.RootView.{root_pair}
use Rattle.heap.proofs.GraphIn.{closed_in}
use Rattle.heap.proofs.CommitCalls.{can_replace, numbering_at, count_at, kept_at, leads_at, named_at, once_at, writable_at, ended_at, sound_at}
use Rattle.heap.proofs.KeptCount.{won_within, kept_count}
use Rattle.heap.proofs.heap_commit.ending.commit.Goals as goal

pub renamed_roots-requires-clause-numbering : goal.renamed_roots-requires-clause-numbering
renamed_roots-requires-clause-numbering g c =
    numbering_at c.args.objects.now c.args.roots.now.slots c.args.settled.collection c.args.settled.places c.args.settled.blocks.items (all_won c.args.settled.workers.items) c.free_count-before.ensures.sound c.requires.closed c.requires.settled c.generation-g.result c.generation-g.ensures c.args.settled.places refl c.numbering-numbering.result.now c.numbering-numbering.ensures

pub renamed_roots-requires-clause-leads : goal.renamed_roots-requires-clause-leads
renamed_roots-requires-clause-leads g c =
    leads_at c.args.objects.now c.args.roots.now.slots c.args.settled.collection c.args.settled.places c.args.settled.blocks.items (all_won c.args.settled.workers.items) c.free_count-before.ensures.sound c.requires.closed c.requires.settled c.generation-g.result c.generation-g.ensures c.args.settled.places refl (map slot_value c.slots-slots.result.now) c.slots-slots.ensures

pub renamed_roots-requires-clause-count : goal.renamed_roots-requires-clause-count
renamed_roots-requires-clause-count g c =
    count_at c.args.objects.now c.args.roots.now.slots c.args.settled.collection c.args.settled.places c.args.settled.blocks.items (all_won c.args.settled.workers.items) c.free_count-before.ensures.sound c.requires.closed c.requires.settled c.generation-g.result c.generation-g.ensures c.args.settled.places refl

pub renamed_roots-requires-clause-named : goal.renamed_roots-requires-clause-named
renamed_roots-requires-clause-named g c =
    named_at c.args.objects.now c.args.roots.now.slots c.args.settled.collection c.args.settled.places c.args.settled.blocks.items (all_won c.args.settled.workers.items) c.free_count-before.ensures.sound c.requires.closed c.requires.settled c.generation-g.result c.generation-g.ensures c.args.settled.places refl (map slot_value c.slots-slots.result.now) c.slots-slots.ensures

pub moved_fields-requires-clause-closed : goal.moved_fields-requires-clause-closed
moved_fields-requires-clause-closed g c =
    closed_in c.args.objects.now c.args.roots.now.slots c.requires.closed

pub moved_fields-requires-clause-numbering : goal.moved_fields-requires-clause-numbering
moved_fields-requires-clause-numbering g c =
    numbering_at c.args.objects.now c.args.roots.now.slots c.args.settled.collection c.args.settled.places c.args.settled.blocks.items (all_won c.args.settled.workers.items) c.free_count-before.ensures.sound c.requires.closed c.requires.settled c.generation-g.result c.generation-g.ensures c.args.settled.places refl c.numbering-numbering.result.now c.numbering-numbering.ensures

pub moved_fields-requires-clause-leads : goal.moved_fields-requires-clause-leads
moved_fields-requires-clause-leads g c =
    leads_at c.args.objects.now c.args.roots.now.slots c.args.settled.collection c.args.settled.places c.args.settled.blocks.items (all_won c.args.settled.workers.items) c.free_count-before.ensures.sound c.requires.closed c.requires.settled c.generation-g.result c.generation-g.ensures c.args.settled.places refl (map slot_value c.slots-slots.result.now) c.slots-slots.ensures

pub moved_fields-requires-clause-count : goal.moved_fields-requires-clause-count
moved_fields-requires-clause-count g c =
    count_at c.args.objects.now c.args.roots.now.slots c.args.settled.collection c.args.settled.places c.args.settled.blocks.items (all_won c.args.settled.workers.items) c.free_count-before.ensures.sound c.requires.closed c.requires.settled c.generation-g.result c.generation-g.ensures c.args.settled.places refl

pub moved_fields-requires-clause-named : goal.moved_fields-requires-clause-named
moved_fields-requires-clause-named g c =
    named_at c.args.objects.now c.args.roots.now.slots c.args.settled.collection c.args.settled.places c.args.settled.blocks.items (all_won c.args.settled.workers.items) c.free_count-before.ensures.sound c.requires.closed c.requires.settled c.generation-g.result c.generation-g.ensures c.args.settled.places refl (map slot_value c.slots-slots.result.now) c.slots-slots.ensures

pub moved_fields-requires-clause-large_named : goal.moved_fields-requires-clause-large_named
moved_fields-requires-clause-large_named g c =
    kept_at c.args.objects.now c.args.roots.now.slots c.args.settled.collection c.args.settled.places c.args.settled.blocks.items (all_won c.args.settled.workers.items) c.free_count-before.ensures.sound c.requires.closed c.requires.settled c.generation-g.result c.generation-g.ensures c.args.settled.places refl

pub install-requires-clause-blocks : goal.install-requires-clause-blocks
install-requires-clause-blocks g c =
    can_replace c.args.objects.now c.args.roots.now.slots c.args.settled.collection c.args.settled.places c.args.settled.blocks.items (all_won c.args.settled.workers.items) c.free_count-before.ensures.sound c.requires.closed c.requires.settled (rw c.deref.ensures.value at c.all_fit-fit.ensures)

pub install-requires-clause-numbering : goal.install-requires-clause-numbering
install-requires-clause-numbering g c =
    numbering_at c.args.objects.now c.args.roots.now.slots c.args.settled.collection c.args.settled.places c.args.settled.blocks.items (all_won c.args.settled.workers.items) c.free_count-before.ensures.sound c.requires.closed c.requires.settled c.generation-g.result c.generation-g.ensures c.args.settled.places refl c.numbering-numbering.result.now c.numbering-numbering.ensures

pub install-requires-clause-count : goal.install-requires-clause-count
install-requires-clause-count g c =
    count_at c.args.objects.now c.args.roots.now.slots c.args.settled.collection c.args.settled.places c.args.settled.blocks.items (all_won c.args.settled.workers.items) c.free_count-before.ensures.sound c.requires.closed c.requires.settled c.generation-g.result c.generation-g.ensures c.args.settled.places refl

pub install-requires-clause-fields : goal.install-requires-clause-fields
install-requires-clause-fields g c =
    writable_at c.args.objects.now c.args.roots.now.slots c.args.settled.collection c.args.settled.places c.args.settled.blocks.items (all_won c.args.settled.workers.items) c.free_count-before.ensures.sound c.requires.closed c.requires.settled c.generation-g.result c.generation-g.ensures c.args.settled.places refl (map slot_value c.slots-slots.result.now) c.slots-slots.ensures (map field_write c.in_ok-fields.fields.items) c.in_ok-fields.ensures c.generation-g.result c.generation-g.ensures c.args.settled.places refl (map field_write c.deref-3.result.now) (ap (map field_write) c.deref-3.ensures.value)

pub install-requires-clause-once : goal.install-requires-clause-once
install-requires-clause-once g c =
    rw c.deref-2.ensures.value (once_at c.args.objects.now c.args.roots.now.slots c.args.settled.collection c.args.settled.places c.args.settled.blocks.items (all_won c.args.settled.workers.items) c.free_count-before.ensures.sound c.requires.closed c.requires.settled c.generation-g.result c.generation-g.ensures c.args.settled.places refl (map slot_value c.slots-slots.result.now) c.slots-slots.ensures c.in_ok-renamed.renamed.items c.in_ok-renamed.ensures)

pub report_of-requires : goal.report_of-requires
report_of-requires g c =
    let within = won_within c.args.objects.now c.args.roots.now.slots c.args.settled.collection c.args.settled.places c.args.settled.blocks.items c.args.settled.workers.items c.free_count-before.ensures.sound c.requires.closed c.requires.settled in omega (arith, within, c.cells.ensures)

pub returns-clause-ok : goal.returns-clause-ok
returns-clause-ok g c =
    ended_at c.args.objects.now c.args.roots.now.slots c.args.settled.collection c.args.settled.places c.args.settled.blocks.items (all_won c.args.settled.workers.items) c.free_count-before.ensures.sound c.requires.closed c.requires.settled c.generation-g.result c.generation-g.ensures c.args.settled.places refl (map slot_value c.slots-slots.result.now) c.slots-slots.ensures (map field_write c.in_ok-fields.fields.items) c.in_ok-fields.ensures c.install.new.objects c.install.new.roots.slots c.free_count-after.ensures.sound c.args.settled.places refl (map root_pair c.in_ok-renamed.renamed.items) c.in_ok-renamed.ensures (map root_pair c.deref-2.result.now) (ap (map root_pair) c.deref-2.ensures.value) c.in_ok-install.ensures.roots c.args.settled.places refl (map field_write c.deref-3.result.now) (ap (map field_write) c.deref-3.ensures.value) c.in_ok-install.ensures.objects

pub returns-clause-sound : goal.returns-clause-sound
returns-clause-sound g c =
    sound_at c.args.objects.now c.args.roots.now.slots c.args.settled.collection c.args.settled.places c.args.settled.blocks.items (all_won c.args.settled.workers.items) c.free_count-before.ensures.sound c.requires.closed c.requires.settled c.generation-g.result c.generation-g.ensures c.args.settled.places refl (map slot_value c.slots-slots.result.now) c.slots-slots.ensures (map field_write c.in_ok-fields.fields.items) c.in_ok-fields.ensures c.install.new.objects c.install.new.roots.slots c.free_count-after.ensures.sound c.args.settled.places refl (map root_pair c.in_ok-renamed.renamed.items) c.in_ok-renamed.ensures (map root_pair c.deref-2.result.now) (ap (map root_pair) c.deref-2.ensures.value) c.in_ok-install.ensures.roots c.args.settled.places refl (map field_write c.deref-3.result.now) (ap (map field_write) c.deref-3.ensures.value) c.in_ok-install.ensures.objects

pub returns-clause-kept : goal.returns-clause-kept
returns-clause-kept g c =
    rw c.report_of.ensures.won (kept_count c.args.objects.now c.args.roots.now.slots c.args.settled.collection c.args.settled.places c.args.settled.blocks.items c.args.settled.workers.items c.free_count-before.ensures.sound c.requires.closed c.requires.settled)

pub returns-clause-freed : goal.returns-clause-freed
returns-clause-freed g c =
    omega (arith, c.report_of.ensures.freed, c.cells.ensures, c.requires.settled.opened.cells)
