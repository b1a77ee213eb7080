use Rattle.std.proofs.Common.{[], ap, sym, ◌∙◌}
use Rattle.std.specs.Option.{option_map}
use Rattle.layout.specs.ObjectRef.{raw_of}
use Rattle.layout.specs.Place.{place_word}
use Rattle.heap.specs.HeapView.{heap_of}
use Rattle.heap.proofs.Wholes.{objects_are}
use Rattle.heap.proofs.Loading.{reads, same_pointer}
use Rattle.heap.proofs.heap.Heap.pointer_at.Goals as goal

pub unreachable-requires : goal.unreachable-requires
unreachable-requires g c =
    let heap = heap_of c.self.inside.objects c.self.inside.roots.slots in
    let sound = objects_are c.self.inside.objects c.self.inside.roots.slots [] c.free_count-free.ensures.sound c.self.invariant.closed in
    let root_is = sym (rw (← c.self.view_is) at c.target.ensures) ∙ ap (option_map place_word) c.in-Some.is in
    let read = reads heap sound c.args.root.number (place_word c.in-Some.holder) c.args.field (raw_of c.in-Some-object.object) root_is c.in-Some-object.ensures c.if-field-object.true in
    c.in-None.ensures.none read.pointer read.word_is

pub returns-in-Some-from_word-clause-ok : goal.returns-in-Some-from_word-clause-ok
returns-in-Some-from_word-clause-ok g c =
    let heap = heap_of c.self.inside.objects c.self.inside.roots.slots in
    let sound = objects_are c.self.inside.objects c.self.inside.roots.slots [] c.free_count-free.ensures.sound c.self.invariant.closed in
    let root_is = sym (rw (← c.self.view_is) at c.target.ensures) ∙ ap (option_map place_word) c.in-Some.is in
    let read = reads heap sound c.args.root.number (place_word c.in-Some.holder) c.args.field (raw_of c.in-Some-object.object) root_is c.in-Some-object.ensures c.if-field-object.true in
    rw (← c.self.view_is) (same_pointer heap.graph c.args.root.number c.args.field _ c.in-Some-from_word.pointer read (c.in-Some-from_word.ensures.back read.pointer read.word_is))
