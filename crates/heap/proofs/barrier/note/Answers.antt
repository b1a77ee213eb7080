use Rattle.std.proofs.Common.{◌<◌, arith}
use Rattle.layout.specs.Place.{place_word}
use Rattle.heap.proofs.Noting.{generation_in_range, err_not}
use Rattle.heap.proofs.barrier.note.Goals as goal

pub note-requires : goal.note-requires
note-requires g c =
    let low : c.args.at.generation < c.args.objects.now.config.shape.generations = generation_in_range c.args.objects.now (place_word c.args.holder) c.args.at.generation c.free_count-free.ensures.sound c.requires.at in
    omega (arith, low, c.requires.generations)

pub returns-clause-memory : goal.returns-clause-memory
returns-clause-memory g c = err_not c.note.result c.note.ensures.member
