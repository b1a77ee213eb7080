use Rattle.std.proofs.Common.{map}
use Rattle.heap.specs.Moves.{field_write}
use Rattle.heap.proofs.Writable.{still_there}
use Rattle.heap.proofs.heap_commit.installing.install.Goals as goal

pub write_fields-requires : goal.write_fields-requires
write_fields-requires g c = still_there c.args.objects.now c.args.g c.args.blocks.items c.args.places c.replace.new.self (map field_write c.args.fields.now) c.in_ok-replace.ensures.ok c.requires.fields

pub returns-clause-objects : goal.returns-clause-objects
returns-clause-objects g c =
    record {
      replaced = c.replace.new.self;
      replaces = c.in_ok-replace.ensures.ok;
      config = c.write_fields.ensures.config;
      rooms = c.write_fields.ensures.rooms;
      large_blocks = c.write_fields.ensures.large_blocks;
      objects = c.write_fields.ensures.objects;
    }
