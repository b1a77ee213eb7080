use Rattle.std.proofs.Common.{◌≡◌, ◌<◌, map, take, length, refl, ap, ◌∙◌}
use Rattle.std.proofs.Common.{Option, Some, None}
use Rattle.std.proofs.lemmas.List.{take_all}
use Rattle.std.specs.Prelude.{IsSomeAnd}
use Rattle.std.specs.Option.{option_map}
use Rattle.std.specs.FinMap.{get}
use Rattle.model.specs.Graph.{Object}
use Rattle.heap.specs.Moves.{field_write, with_writes}
use Rattle.heap.proofs.MovedFields.{all_at, take_next, can_write, change, now_written}
use Rattle.heap.proofs.heap_commit.moves.write_fields.Goals as goal

option_id : (o : Option Object) → o ≡ option_map (λ x. x) o
option_id None = refl
option_id (Some x) = refl

pub set_pointer-requires : goal.set_pointer-requires
set_pointer-requires g c =
    let has = all_at (λ w. IsSomeAnd (get c.args.objects.now.objects w.0) (λ o. w.1.0 < length o.pointers)) field_write c.args.fields.now c.loop-write.write-index c.write-item.result c.write-item.is c.loop-write-test.true c.requires in
    can_write c.args.objects.now c.loop-write.objects (map field_write (take c.loop-write.write-index c.args.fields.now)) (field_write c.write-item.result) c.loop-write.invariant.objects has

pub loop-write-init : goal.loop-write-init
loop-write-init g c = record { config = refl; rooms = refl; free = refl; large_blocks = refl; objects = λ name. option_id (get c.args.objects.now.objects name) }

pub loop-write-preserved : goal.loop-write-preserved
loop-write-preserved g c =
    let has = all_at (λ w. IsSomeAnd (get c.args.objects.now.objects w.0) (λ o. w.1.0 < length o.pointers)) field_write c.args.fields.now c.loop-write.write-index c.write-item.result c.write-item.is c.loop-write-test.true c.requires in
    let ws = map field_write (take c.loop-write.write-index c.args.fields.now) in
    let changed = change c.args.objects.now c.loop-write.objects ws (field_write c.write-item.result) c.loop-write.invariant.objects has c.set_pointer.new.self c.set_pointer.ensures in
    let next = take_next field_write c.args.fields.now c.loop-write.write-index c.write-item.result c.write-item.is c.loop-write-test.true in
    record {
      config = ap (λ s. s.config) changed ∙ c.loop-write.invariant.config;
      rooms = ap (λ s. s.rooms) changed ∙ c.loop-write.invariant.rooms;
      free = ap (λ s. s.free) changed ∙ c.loop-write.invariant.free;
      large_blocks = ap (λ s. s.large_blocks) changed ∙ c.loop-write.invariant.large_blocks;
      objects = λ name. rw next (now_written c.args.objects.now c.loop-write.objects ws (field_write c.write-item.result) c.loop-write.invariant.objects has c.set_pointer.new.self c.set_pointer.ensures name);
    }

pub returns : goal.returns
returns g c =
    let all = take_all c.loop-write.write-index c.args.fields.now c.loop-write-test.false in
    record {
      config = c.loop-write.invariant.config;
      rooms = c.loop-write.invariant.rooms;
      free = c.loop-write.invariant.free;
      large_blocks = c.loop-write.invariant.large_blocks;
      objects = λ name. c.loop-write.invariant.objects name ∙ ap (λ fs. option_map (with_writes (map field_write fs) name) (get c.args.objects.now.objects name)) all;
    }
