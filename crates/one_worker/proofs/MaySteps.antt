-- What a look and a race ask of the worker.
use Rattle.std.proofs.Common.{◌≡◌, None, sym, ap, subst, ◌∙◌}
use Rattle.std.specs.Prelude.{IsSome}
use Rattle.steps.specs.HeapValue.{HeapValue}
use Rattle.steps.specs.CollectionValue.{CollectionValue, IsOpened}
use Rattle.scavenge.specs.MayStep.{IsOpenFor, MayLook, MayRace, AreThere}
use Rattle.scavenge.proofs.StartSlots.{starts_there}
use Rattle.one_worker.specs.SerialValue.{SerialValue, destinations_in}
use Rattle.one_worker.specs.IsSerial.{IsSerial}
use Rattle.one_worker.proofs.Looked.{closed_of, places_of, untouched_of, can_look}
use Rattle.one_worker.proofs.Raced.{few_of}
use Rattle.one_worker.proofs.Readiness.{ready_of}

module _ (v : SerialValue) (k : IsSerial v) where
  pub may_race : IsSome v.workspace.worker.proposal → MayRace v.workspace
  may_race some = record { proposal = some; slot = (ready_of v k).race some; few = few_of v k }

  -- in the heap and the collection that are passed
  module _ (heap : HeapValue) (c : CollectionValue) (same_heap : heap ≡ v.heap) (same_collection : c ≡ v.collection) where
    pub open_for : IsOpenFor heap c v.workspace
    open_for = record {
      opened = subst (λ (h : HeapValue). IsOpened h c.generation c) (sym same_heap)
          (subst (λ (d : CollectionValue). IsOpened v.heap d.generation d) (sym same_collection) k.ready.opened);
      closed = closed_of v k heap c same_heap same_collection;
      places = places_of v k heap c same_heap same_collection;
      config = k.config ∙ ap (λ (h : HeapValue). h.config) (sym same_heap);
    }

    pub may_look : v.workspace.worker.proposal ≡ None → MayLook heap c v.workspace
    may_look none = record {
      proposal = none;
      slot = λ some. (ready_of v k).look (can_look v k heap c same_heap same_collection v.pass none some);
      few = few_of v k;
      untouched = untouched_of v k heap c same_heap same_collection;
    }

    pub starts_in : AreThere heap v.workspace.worker.starts
    starts_in =
        subst (λ (h : HeapValue). AreThere h v.workspace.worker.starts) (sym same_heap)
        (starts_there v.heap v.collection k.ready (destinations_in v) 1 0 v.workspace.worker k.worked.history k.worked.run k.worked.taken)
