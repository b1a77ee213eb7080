use Rattle.std.proofs.Common.{refl, sym, ap, ◌∙◌, arith}
use Rattle.large_objects.specs.LargeValue.{LargeValue}
use Rattle.block_pool.specs.PoolValue.{PoolValue}
use Rattle.large_objects.proofs.OnePool.{add_blocks, made_of, is_added, same_count, enough}
use Rattle.large_objects.proofs.table.LargeTable.add.Goals as goal

pub returns-clause-added : goal.returns-clause-added
returns-clause-added g c =
    let count = same_count c.args.pointers c.args.plain_words c.args.block_words in
    let stored = c.new.ensures ∙ made_of c.args.pointers c.args.plain_words _ c.args.block_words c.args.pool.now.free c.in-Ok-zeros.words.items c.in_ok-blocks.blocks.items c.in-Ok-zeros.ensures c.in_ok-blocks.ensures.granted count in
    let old = ap (λ (v : LargeValue). v.slots) c.self.view_is in
    is_added c.args.self.now _ c.make_room.new.slab.slots c.insert_reserved-key.result c.in-Ok.number.number c.new.result _
    (c.in-Ok.ensures.slots ∙ old)
    (c.insert_reserved-key.ensures.key ∙ c.in-Ok.ensures.next ∙ sym c.in-Ok.ensures.number)
    stored
    c.insert_reserved-key.ensures.was_vacant
    c.insert_reserved-key.ensures.updates.changed
    c.insert_reserved-key.ensures.updates.others

pub returns-clause-pool_blocks : goal.returns-clause-pool_blocks
returns-clause-pool_blocks g c =
    let count = same_count c.args.pointers c.args.plain_words c.args.block_words in
    let stored = c.new.ensures in
    let old = ap (λ (v : LargeValue). v.slots) c.self.view_is in
    let added = is_added c.args.self.now _ c.make_room.new.slab.slots c.insert_reserved-key.result c.insert_reserved-key.result c.new.result _
    (c.in-Ok.ensures.slots ∙ old)
    refl
    stored
    c.insert_reserved-key.ensures.was_vacant
    c.insert_reserved-key.ensures.updates.changed
    c.insert_reserved-key.ensures.updates.others in
    add_blocks c.args.self.now _ c.args.pool.now c.grant.new.self c.insert_reserved-key.result _ c.requires.blocks added
    record {
      limit = ap (λ (p : PoolValue). p.limit) c.in_ok-blocks.ensures.rest;
      some = enough c.args.pointers c.args.plain_words _ c.args.block_words c.args.pool.now.free c.in_ok-blocks.blocks.items c.in_ok-blocks.ensures.granted count (omega (arith, c.requires.words_from)) (omega (arith, c.if-free_count-count.false, c.free_count.ensures.value));
      rising = c.in_ok-blocks.ensures.rising;
      in_limit = c.in_ok-blocks.ensures.in_limit;
      members = c.in_ok-blocks.ensures.members;
      apart = c.in_ok-blocks.ensures.apart;
    }
