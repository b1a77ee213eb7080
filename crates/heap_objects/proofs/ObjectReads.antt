-- What is read of a large object.
use Rattle.std.proofs.Common.{◌≡◌, List, Option, Some, None, Result, Ok, Err, refl, sym, ap, subst, arith}
use Rattle.std.specs.Prelude.{MatchOption, IsSomeAnd}
use Rattle.std.specs.Option.{option_map}
use Rattle.std.specs.Result.{OnOk}
use Rattle.model.specs.Graph.{Object, IsClosed}
use Rattle.model.proofs.Options.{some_is, some_not_none}
use Rattle.layout.specs.ObjectRef.{raw_of}
use Rattle.layout.specs.declared.object.ObjectRef.{ObjectRef}
use Rattle.block_pool.specs.BlockValue.{BlockValue}
use Rattle.steps.specs.StepPairs.{stands_at}
use Rattle.steps.specs.Words.{IsShownAs}
use Rattle.nursery.specs.Table.{objects_map, AreHeapBlocks}
use Rattle.large_objects.specs.LargeValue.{LargeObject, LargeValue}
use Rattle.heap_objects.specs.WithLarge.{large_object, with_large}
use Rattle.heap_objects.specs.HeapGraph.{IsHeapGraph}
use Rattle.heap_objects.proofs.GraphObjects.{closed_leads}
use Rattle.heap_objects.specs.Space.{SpaceValue}
use Rattle.heap_objects.specs.Objects.{objects_of, graph_in}
use Rattle.heap_objects.specs.Inside.{AreApart}

pub shown_large : (r : Option ObjectRef) (x : Option LargeObject) → option_map raw_of r ≡ option_map (λ (o : LargeObject). o.raw) x → MatchOption r (option_map large_object x ≡ None) (λ object. IsSomeAnd (option_map large_object x) (λ o. IsShownAs o (raw_of object)))
shown_large None None e = refl
shown_large None (Some o) e = absurd (some_not_none (sym e))
shown_large (Some object) None e = absurd (some_not_none e)
shown_large (Some object) (Some o) e =
    let same : raw_of object ≡ o.raw = some_is e in
    subst (λ raw. IsShownAs (large_object o) raw) (sym same) (record { pointers = refl; plain = refl })

-- what a look at an object says follows the object
pub shown_at : (r : Option ObjectRef) (x y : Option Object) → x ≡ y → MatchOption r (y ≡ None) (λ object. IsSomeAnd y (λ o. IsShownAs o (raw_of object))) → MatchOption r (x ≡ None) (λ object. IsSomeAnd x (λ o. IsShownAs o (raw_of object)))
shown_at r x y same shown = subst (λ o. MatchOption r (o ≡ None) (λ object. IsSomeAnd o (λ p. IsShownAs p (raw_of object)))) (sym same) shown

pub stands_large : (x : Option LargeObject) → option_map (λ (o : LargeObject). (o.generation, o.step)) x ≡ option_map stands_at (option_map large_object x)
stands_large None = refl
stands_large (Some o) = refl

-- the blocks and the large objects make the graph
pub shows_graph : (space : SpaceValue) (large : LargeValue) (table : List (Option BlockValue)) → AreApart space large → objects_map table ≡ space.objects → AreHeapBlocks space.config 0 table → IsClosed (graph_in (objects_of space large)) → IsHeapGraph (graph_in (objects_of space large)) table large
shows_graph space large table apart objects blocks closed = record {
  fits = λ n block is. let b = blocks n block is in omega (arith, b.fits, apart.small.in_range.most_words);
  numbers = apart.numbers;
  objects = ap (λ m. with_large m large.slots) (sym objects);
  lead = closed_leads (graph_in (objects_of space large)) closed;
}

pub on_ok : {T E : Type 0} {P Q : Type 0} (r : Result T E) → OnOk r P → (P → Q) → OnOk r Q
on_ok (Ok x) p f = f p
on_ok (Err e) p f = tt
