use Rattle.std.proofs.Common.{◌≡◌, ℕ, List, Ok, Err, Result, sym, ap, subst, ◌∙◌}
use Rattle.std.specs.Prelude.{IfOk, OnErr}
use Rattle.heap.specs.RootsValue.{RootsValue}
use Rattle.heap_objects.specs.Objects.{ObjectsValue}
use Rattle.heap.specs.HeapView.{heap_with}
use Rattle.heap.specs.IsHeap.{IsHeap}
use Rattle.heap.specs.Whole.{IsWhole}
use Rattle.heap.proofs.heap.Heap.commit.Goals as goal

module _ {T E : Type 0} (objects objects' : ObjectsValue) (roots roots' : RootsValue) (sets sets' : List (List ℕ)) where
  as_before : (r : Result T E) → OnErr r ((objects' ≡ objects) × (roots' ≡ roots) × (sets' ≡ sets)) → OnErr r (heap_with objects' roots'.slots sets' ≡ heap_with objects roots.slots sets)
  as_before (Ok x) same = tt
  as_before (Err e) same = ap (λ s. heap_with s roots'.slots sets') same.0 ∙ ap (λ r. heap_with objects r.slots sets') same.1 ∙ ap (heap_with objects roots.slots) same.2

  still_whole : (r : Result T E) → IfOk r (λ _. IsHeap (heap_with objects' roots'.slots sets')) → OnErr r (heap_with objects' roots'.slots sets' ≡ heap_with objects roots.slots sets) → IsWhole (heap_with objects roots.slots sets) → IsWhole (heap_with objects' roots'.slots sets')
  still_whole (Ok x) sound same whole = record { closed = sound.blocks.closed; sets = sound.sets; covers = sound.remembered }
  still_whole (Err e) sound same whole = subst IsWhole (sym same) whole

pub commit-requires-clause-closed : goal.commit-requires-clause-closed
commit-requires-clause-closed g c = c.self.invariant.closed

pub commit-requires-clause-settled : goal.commit-requires-clause-settled
commit-requires-clause-settled g c = rw (← c.self.view_is) at c.requires

pub commit-requires-clause-covers : goal.commit-requires-clause-covers
commit-requires-clause-covers g c = c.self.invariant.covers

pub commit-requires-clause-generations : goal.commit-requires-clause-generations
commit-requires-clause-generations g c = c.self.invariant.sets

pub invariant_of-self : goal.invariant_of-self
invariant_of-self g c =
    let same = as_before c.self.inside.objects c.commit.new.objects c.self.inside.roots c.commit.new.roots c.self.inside.remembered c.commit.new.sets c.commit.result c.commit.ensures.err in
    still_whole c.self.inside.objects c.commit.new.objects c.self.inside.roots c.commit.new.roots c.self.inside.remembered c.commit.new.sets c.commit.result c.commit.ensures.sound same c.self.invariant

pub returns-clause-ok : goal.returns-clause-ok
returns-clause-ok g c = rw (← c.self.view_is) c.commit.ensures.ok

pub returns-clause-kept : goal.returns-clause-kept
returns-clause-kept g c = rw (← c.self.view_is) c.commit.ensures.kept

pub returns-clause-freed : goal.returns-clause-freed
returns-clause-freed g c = rw (← c.self.view_is) c.commit.ensures.freed

pub returns-clause-err : goal.returns-clause-err
returns-clause-err g c =
    rw (← c.self.view_is) (as_before c.self.inside.objects c.commit.new.objects c.self.inside.roots c.commit.new.roots c.self.inside.remembered c.commit.new.sets c.commit.result c.commit.ensures.err)
