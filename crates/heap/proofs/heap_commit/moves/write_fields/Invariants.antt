use Rattle.std.proofs.Common.{◌≡◌, ℕ, map, take}
use Rattle.std.specs.Option.{option_map}
use Rattle.std.specs.FinMap.{get}
use Rattle.heap.specs.Moves.{field_write, with_writes}
use Rattle.heap.proofs.heap_commit.moves.write_fields.Given as goal

-- the fields before this one are written
abbrev pub invariant-loop-write : goal.invariant-loop-write
invariant-loop-write g l = record {
  config : l.objects.config ≡ l.fn.objects.config;
  rooms : l.objects.rooms ≡ l.fn.objects.rooms;
  free : l.objects.free ≡ l.fn.objects.free;
  large_blocks : l.objects.large_blocks ≡ l.fn.objects.large_blocks;
  objects : (name : ℕ) → get l.objects.objects name ≡ option_map (with_writes (map field_write (take l.write-index l.fields)) name) (get l.fn.objects.objects name);
}
