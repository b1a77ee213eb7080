use Rattle.std.proofs.Common.{ap, sym, ◌∙◌, None}
use Rattle.std.specs.Prelude.{slice_index_or}
use Rattle.std.specs.FinMap.{insert}
use Rattle.layout.specs.Place.{place_word}
use Rattle.heap.specs.HeapView.{heap_of}
use Rattle.heap.specs.Roots.{roots_map}
use Rattle.heap.proofs.RootMap.{roots-insert}
use Rattle.heap.proofs.Loading.{adds_root, closed_loaded, pointer_leads}
use Rattle.heap.proofs.heap.Heap.load.Goals as goal

pub invariant_of-self-2 : goal.invariant_of-self-2
invariant_of-self-2 g c =
    let slots = c.self.inside.roots.slots in
    let name = place_word c.in-Some.place in
    let leads = pointer_leads (heap_of c.self.inside.objects slots).graph c.args.root.number c.args.field c.in-Ok.pointer c.in-Some.place (rw (← c.self.view_is) at c.in-Ok.ensures.ok) c.in-Some.is in
    let kept = c.reserve.ensures.slots in
    let roots = roots-insert c.reserve.new.self.slots c.insert_reserved.new.self.slots c.insert_reserved.result c.in-Some.place c.insert_reserved.ensures.updates ∙ ap (λ s. insert (roots_map s) c.insert_reserved.result name) kept in
    record {
      closed = closed_loaded c.self.inside.objects slots c.insert_reserved.new.self.slots c.args.root.number c.args.field c.insert_reserved.result name c.self.invariant.closed leads roots;
      sets = c.self.invariant.sets;
      covers = c.self.invariant.covers;
    }

pub returns-clause-ok : goal.returns-clause-ok
returns-clause-ok g c =
    let slots = c.self.inside.roots.slots in
    let name = place_word c.in-Some.place in
    let leads = pointer_leads c.args.self.now.graph c.args.root.number c.args.field c.in-Ok.pointer c.in-Some.place c.in-Ok.ensures.ok c.in-Some.is in
    let kept = c.reserve.ensures.slots in
    let vacant = sym (ap (λ s. slice_index_or s c.insert_reserved.result None) kept) ∙ c.insert_reserved.ensures.was_vacant in
    let roots = roots-insert c.reserve.new.self.slots c.insert_reserved.new.self.slots c.insert_reserved.result c.in-Some.place c.insert_reserved.ensures.updates ∙ ap (λ s. insert (roots_map s) c.insert_reserved.result name) kept in
    (name, leads, rw (← c.self.view_is) (adds_root c.self.inside.objects slots c.insert_reserved.new.self.slots c.self.inside.remembered c.insert_reserved.result name vacant roots))
