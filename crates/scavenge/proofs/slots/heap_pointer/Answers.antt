use Rattle.std.proofs.Common.{Some, sym, ap, ◌∙◌}
use Rattle.std.specs.Option.{option_map}
use Rattle.layout.specs.Place.{place_word}
use Rattle.layout.specs.ObjectRef.{raw_of}
use Rattle.heap.specs.Words.{target_of_word}
use Rattle.scavenge.proofs.WorkspaceSlotLemmas.{get_index}
use Rattle.scavenge.proofs.SlotLemmas.{field_shown, is_pointer, shown_pointer, get_none}
use Rattle.scavenge.proofs.slots.heap_pointer.Goals as goal

pub pointer_of-requires : goal.pointer_of-requires
pointer_of-requires g c =
    is_pointer c.args.heap.now.graph (place_word c.args.name) c.args.i _ c.requires.closed c.requires.places
    (field_shown c.args.heap.now.graph (place_word c.args.name) c.args.i (raw_of c.in_ok-object.object) c.in_ok-object.ensures ∙ ap (option_map target_of_word) (get_index c.in_ok-object.object.pointers.now c.args.i 0 c.if-i-object.true))

pub returns-then-i-object : goal.returns-then-i-object
returns-then-i-object g c =
    ap (λ x. Some x) (shown_pointer _ c.pointer_of.result c.pointer_of.ensures)
    ∙ sym (field_shown c.args.heap.now.graph (place_word c.args.name) c.args.i (raw_of c.in_ok-object.object) c.in_ok-object.ensures ∙ ap (option_map target_of_word) (get_index c.in_ok-object.object.pointers.now c.args.i 0 c.if-i-object.true))

pub returns : goal.returns
returns g c =
    sym (field_shown c.args.heap.now.graph (place_word c.args.name) c.args.i (raw_of c.in_ok-object.object) c.in_ok-object.ensures ∙ ap (option_map target_of_word) (get_none c.in_ok-object.object.pointers.now c.args.i c.if-i-object.false))
