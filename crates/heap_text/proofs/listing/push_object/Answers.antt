use Rattle.std.proofs.Common.{ℕ, List, map}
use Rattle.std.proofs.lemmas.Result.{on_ok_weaker}
use Rattle.layout.specs.Place.{place_word}
use Rattle.layout.specs.ObjectRef.{raw_of}
use Rattle.heap_text.proofs.Numbered.{has_there}
use Rattle.heap_text.proofs.Pointed.{numbered_targets}
use Rattle.heap_text.proofs.ObjectLine.{object_stands, line_is, line_written}
use Rattle.heap_text.proofs.Shown.{Shows, shows, some_shown}
use Rattle.heap_text.proofs.listing.push_object.Goals as goal

pub unwrap-object-requires : goal.unwrap-object-requires
unwrap-object-requires g c = some_shown c.object.result _ _ c.object.ensures (has_there _ _ _ _ c.requires.numbering (place_word c.args.place) c.requires.has)

pub push_pointers-requires-clause-lead : goal.push_pointers-requires-clause-lead
push_pointers-requires-clause-lead g c =
    numbered_targets c.args.heap.now.graph _ _ _ (shows c.args.heap.now.graph _ c.object.result c.unwrap-object.result c.object.ensures c.unwrap-object.ensures) c.requires.closed c.requires.has

pub returns : goal.returns
returns g c =
    let order : List ℕ = map place_word c.args.numbering.now.places.items in
    let shown : Shows c.args.heap.now.graph (place_word c.args.place) (raw_of c.unwrap-object.result) =
    shows c.args.heap.now.graph _ c.object.result c.unwrap-object.result c.object.ensures c.unwrap-object.ensures in
    let stands = object_stands _ shown.object c.step_of.result c.unwrap-stands.result shown.there c.step_of.ensures c.unwrap-stands.ensures in
    let line = line_is c.args.heap.now.graph order (place_word c.args.place) (raw_of c.unwrap-object.result) shown c.unwrap-stands.result stands c.number-number.result c.number-number.ensures in
    on_ok_weaker c.writeln.result
    (λ last. line_written c.args.text.now.items c.write.new.self.items c.push_pointers.new.text.items c.write-2.new.self.items c.push_words.new.text.items c.writeln.new.self.items
    _ _ _ _ _ _ c.in_ok-write.ensures.bytes c.in_ok-push_pointers.ensures c.in_ok-write-2.ensures.bytes c.in_ok-push_words.ensures last line)
    c.writeln.ensures.bytes
