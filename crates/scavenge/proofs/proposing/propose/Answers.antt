use Rattle.std.proofs.Common.{◌≡◌, ◌≤◌, ◌/◌, false, nat_lt, sym, ap, ◌∙◌, arith}
use Rattle.model.specs.Config.{Config}
use Rattle.layout.specs.Object.{raw_size}
use Rattle.layout.specs.Place.{place_word}
use Rattle.layout.specs.ObjectRef.{raw_of}
use Rattle.workers.specs.Setting.{words_of}
use Rattle.workers.specs.Worker.{allocation_at}
use Rattle.workers.specs.WorkerSteps.{with_new_block}
use Rattle.scavenge.specs.Shown.{WorkspaceValue, has_place_for}
use Rattle.scavenge.specs.Slots.{objects_of}
use Rattle.scavenge.proofs.Placing.{Facts, facts, fits_alike, fits_new}
use Rattle.scavenge.proofs.proposing.propose.Goals as goal

pub push_copy-requires-clause-fits : goal.push_copy-requires-clause-fits
push_copy-requires-clause-fits g c =
    let f : Facts c.args.heap.now (place_word c.args.name) (raw_of c.args.found.object) = facts c.args.heap.now (place_word c.args.name) (raw_of c.args.found.object) c.requires.shown in
    let r = c.in_ok-draw_block.ensures.ok in
    let small : nat_lt (c.args.heap.now.config.block_words / 4) (raw_size (raw_of c.args.found.object)) ≡ false = sym f.large ∙ c.in-Some.ensures.small in
    let quarter : raw_size (raw_of c.args.found.object) ≤ c.args.heap.now.config.block_words / 4 = grind (arith, small) in
    let words : words_of (objects_of c.args.heap.now) (place_word c.args.name) ≤ c.args.heap.now.config.block_words = omega (arith, f.words, quarter) in
    ap (λ (v : WorkspaceValue). has_place_for v.config.block_words (raw_size (raw_of c.args.found.object)) (allocation_at v.worker c.in-Some.d)) r.worker
    ∙ ap (λ (v : WorkspaceValue). has_place_for v.config.block_words (raw_size (raw_of c.args.found.object)) (allocation_at (with_new_block v.worker c.in-Some.d r.number) c.in-Some.d)) (c.propose_there.ensures.none c.if-propose_there.false)
    ∙ ap (λ (k : Config). has_place_for k.block_words (raw_size (raw_of c.args.found.object)) (allocation_at (with_new_block c.args.workspace.now.worker c.in-Some.d r.number) c.in-Some.d)) c.requires.config
    ∙ sym (fits_alike c.args.heap.now (place_word c.args.name) (raw_size (raw_of c.args.found.object)) (allocation_at (with_new_block c.args.workspace.now.worker c.in-Some.d r.number) c.in-Some.d) f.words)
    ∙ fits_new (objects_of c.args.heap.now) c.args.workspace.now.worker (place_word c.args.name) c.in-Some.d r.number (omega (arith, c.requires.room, c.in-Some.ensures.of)) words
