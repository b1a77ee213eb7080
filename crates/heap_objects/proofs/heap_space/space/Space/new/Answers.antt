use Rattle.std.proofs.Common.{◌≡◌, ◌-◌, ◌*◌, Some, Err, length, drop, ap, ◌∙◌, arith}
use Rattle.std.proofs.lemmas.List.FromFn.{length-range_with_len}
use Rattle.block_pool.specs.declared.pool.GrantError.TheVariants.{HeapFull}
use Rattle.model.specs.Destination.{numbers_from}
use Rattle.steps.specs.HeapValue.{nursery_count}
use Rattle.nursery.specs.NurseryValue.{NurseryValue}
use Rattle.heap_objects.specs.Nursery.{empty_block}
use Rattle.heap_objects.proofs.Empty.{empty_sound, empty_is, free_is, youngest}
use Rattle.heap_objects.proofs.heap_space.space.Space.new.Goals as goal

pub areas_of-requires-clause-within : goal.areas_of-requires-clause-within
areas_of-requires-clause-within g c = λ n block is.
    let youngest = youngest c.in_ok-table.table.items c.nursery_blocks-count.result c.block_words.result c.in_ok-table.ensures.len c.in_ok-table.ensures.blocks n block (rw c.deref.ensures.value at is) in
    omega (arith, youngest, c.generations.ensures.value, c.generations.ensures.in_range.some_generation)

pub unreachable-requires : goal.unreachable-requires
unreachable-requires g c =
    let full : c.grant.result ≡ Err HeapFull = c.in-Err-HeapFull.is ∙ ap Err c.in-Err-HeapFull.field-0-is in
    let short = (c.grant.ensures.full).0 full in
    let all = ap (λ p. length p.free) c.in_ok-pool.ensures ∙ length-range_with_len 0 c.blocks-2.result in
    omega (arith, short, all, c.nursery_blocks-count.ensures.value, c.blocks-2.ensures.value, c.requires)

pub invariant_of-result : goal.invariant_of-result
invariant_of-result g c =
    let count = c.nursery_blocks-count.ensures.value in
    let free : c.grant.new.self.free ≡ numbers_from (nursery_count c.args.config) (c.args.config.blocks - nursery_count c.args.config) = ap (λ p. p.free) c.in-Ok.ensures.rest ∙ ap (drop c.nursery_blocks-count.result) (ap (λ p. p.free) c.in_ok-pool.ensures) ∙ rw (count, c.blocks-2.ensures.value) (free_is (nursery_count c.args.config) c.args.config.blocks c.requires) in
    record {
      space = empty_sound c.args.config c.in_ok-table.table.items c.in_ok-nurseries.nurseries.items c.grant.new.self c.block_words.ensures.in_range c.requires (c.in_ok-table.ensures.len ∙ count)
          (λ n lt. c.in_ok-table.ensures.blocks n (omega (arith, count, lt)) ∙ ap (λ w. Some (empty_block n w)) c.block_words.ensures.value)
          (c.in_ok-nurseries.ensures.len ∙ c.mutators.ensures.value)
          (λ m lt. c.in_ok-nurseries.ensures.each m (omega (arith, lt, c.mutators.ensures.value)) ∙ ap (λ b. Some (let n : NurseryValue = record { first = m * b; blocks = b; current = 0 } in n)) c.nursery_blocks.ensures.value)
          (ap (λ p. p.limit) c.in-Ok.ensures.rest ∙ ap (λ p. p.limit) c.in_ok-pool.ensures ∙ c.blocks-2.ensures.value) free;
      flags = rw c.deref.ensures.value at c.in_ok-areas.ensures.areas;
      generations = c.in_ok-areas.ensures.generations ∙ c.generations.ensures.value;
      room = record { each = λ h lt. let room = rw c.deref.ensures.value at c.in_ok-areas.ensures.room in omega (arith, room.each h lt, c.in_ok-table.ensures.len, count) };
    }

pub returns : goal.returns
returns g c =
    let count = c.nursery_blocks-count.ensures.value in
    let free : c.grant.new.self.free ≡ numbers_from (nursery_count c.args.config) (c.args.config.blocks - nursery_count c.args.config) = ap (λ p. p.free) c.in-Ok.ensures.rest ∙ ap (drop c.nursery_blocks-count.result) (ap (λ p. p.free) c.in_ok-pool.ensures) ∙ rw (count, c.blocks-2.ensures.value) (free_is (nursery_count c.args.config) c.args.config.blocks c.requires) in
    empty_is c.args.config c.in_ok-table.table.items c.in_ok-nurseries.nurseries.items c.grant.new.self c.block_words.ensures.in_range c.requires (c.in_ok-table.ensures.len ∙ count)
    (λ n lt. c.in_ok-table.ensures.blocks n (omega (arith, count, lt)) ∙ ap (λ w. Some (empty_block n w)) c.block_words.ensures.value)
    (c.in_ok-nurseries.ensures.len ∙ c.mutators.ensures.value)
    (λ m lt. c.in_ok-nurseries.ensures.each m (omega (arith, lt, c.mutators.ensures.value)) ∙ ap (λ b. Some (let n : NurseryValue = record { first = m * b; blocks = b; current = 0 } in n)) c.nursery_blocks.ensures.value)
    (ap (λ p. p.limit) c.in-Ok.ensures.rest ∙ ap (λ p. p.limit) c.in_ok-pool.ensures ∙ c.blocks-2.ensures.value) free
