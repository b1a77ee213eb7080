use Rattle.std.proofs.Common.{sym, ap, ◌∙◌}
use Rattle.block_pool.specs.BlockValue.{BeginsAt, offset_of}
use Rattle.scavenge.proofs.Fields.{some_there}
use Rattle.scavenge.proofs.sweep.cursor.cursor_of.Goals as goal

pub pointer_count_from-requires : goal.pointer_count_from-requires
pointer_count_from-requires g c =
    let r = some_there c.args.block.now.objects c.args.block.now.front c.requires in
    (r.0, record { ordinal = c.args.block.now.front; within = c.requires; begins = sym (c.offset-at.ensures.value ∙ ap (offset_of c.args.block.now.objects) c.front.ensures.value); there = r.1 })

pub returns : goal.returns
returns g c =
    let r = some_there c.args.block.now.objects c.args.block.now.front c.requires in
    let at = c.offset-at.ensures.value ∙ ap (offset_of c.args.block.now.objects) c.front.ensures.value in
    let begins : BeginsAt c.args.block.now c.offset-at.result r.0 = record { ordinal = c.args.block.now.front; within = c.requires; begins = sym at; there = r.1 } in
    record { raw = r.0; there = r.1; at_is = at; pointers_is = c.pointer_count_from.ensures r.0 begins }
