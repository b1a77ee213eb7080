use Rattle.std.proofs.Common.{◌<◌, length, sym, ap, subst, ◌∙◌}
use Rattle.layout.specs.Object.{Raw}
use Rattle.block_pool.specs.BlockValue.{BlockValue}
use Rattle.scavenge.specs.Cursors.{StandsAt}
use Rattle.workers.proofs.Lists.{get-lt}
use Rattle.scavenge.proofs.CursorLemmas.{is_front, stands_still}
use Rattle.scavenge.proofs.sweep.cursor.write_at.Goals as goal

pub set_pointer_from-requires-clause-field : goal.set_pointer_from-requires-clause-field
set_pointer_from-requires-clause-field g c = λ k raw lt at there.
    let s = c.requires.stands in
    subst (λ n. c.args.i < n) (s.pointers_is ∙ ap (λ (x : Raw). length x.pointers) (is_front c.args.block.now c.args.cursor s k raw lt at there).1) c.requires.field

pub returns-clause-written : goal.returns-clause-written
returns-clause-written g c = λ raw there.
    let s = c.requires.stands in
    c.set_pointer_from.ensures c.args.block.now.front raw (get-lt c.args.block.now.objects c.args.block.now.front raw there) (sym s.at_is) there

pub returns-clause-stands : goal.returns-clause-stands
returns-clause-stands g c =
    let s = c.requires.stands in
    let is = c.set_pointer_from.ensures c.args.block.now.front s.raw (get-lt c.args.block.now.objects c.args.block.now.front s.raw s.there) (sym s.at_is) s.there in
    subst (λ (b : BlockValue). StandsAt b c.args.cursor) (sym is) (stands_still c.args.block.now c.args.cursor c.args.i c.args.word s)
