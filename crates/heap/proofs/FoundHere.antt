-- What a look-up tells of an object.
use Rattle.std.proofs.Common.{◌≡◌, ℕ, false, List, Option, Some, None, refl, arith}
use Rattle.std.specs.Prelude.{IsSomeAnd, MatchOption}
use Rattle.std.specs.Option.{option_map}
use Rattle.std.specs.FinMap.{get}
use Rattle.model.specs.Graph.{Object, is_large}
use Rattle.model.specs.Live.{IsYoung}
use Rattle.model.proofs.Options.{some_is}
use Rattle.layout.specs.declared.place.Place.{Place}
use Rattle.layout.specs.ObjectRef.{raw_of}
use Rattle.layout.specs.declared.object.ObjectRef.{ObjectRef}
use Rattle.steps.specs.StepPairs.{step_pair, stands_at}
use Rattle.steps.specs.declared.step_id.StepId.{StepId}
use Rattle.steps.specs.CollectionValue.{CollectionValue, IsOpened}
use Rattle.block_pool.specs.BlockValue.{BlockValue}
use Rattle.steps.specs.Words.{IsShownAs, LiesIn}
use Rattle.heap_objects.specs.Objects.{ObjectsValue, graph_in}
use Rattle.heap_objects.specs.Collecting.{IsNumbered}
use Rattle.heap.specs.HeapView.{heap_with}
use Rattle.heap.specs.Found.{IsFound, IsFoundIn, HasNumber}
use Rattle.heap.proofs.WithSets.{young_in, young_of}

module _ (objects : ObjectsValue) (slots : List (Option Place)) (sets : List (List ℕ)) (c : CollectionValue) (opened : IsOpened (heap_with objects slots sets) c.generation c) (name : ℕ) where
  number_is : (n : Option ℕ) → MatchOption n (IsYoung (graph_in objects) c.generation name → ⊥) (λ k. IsYoung (graph_in objects) c.generation name × IsNumbered objects c.generation name k)
      → MatchOption n (IsYoung (heap_with objects slots sets).graph c.generation name → ⊥) (λ k. IsYoung (heap_with objects slots sets).graph c.generation name × HasNumber (heap_with objects slots sets) c name k)
  number_is None not = λ young. not (young_in objects slots sets c.generation name young)
  number_is (Some n) is = (young_of objects slots sets c.generation name is.0, record { in_range = omega (arith, is.1.in_range, opened.cells); is = is.1.is })

pub found_in_here : (objects : ObjectsValue) (slots : List (Option Place)) (sets : List (List ℕ)) (c : CollectionValue) (name offset : ℕ) (block : BlockValue) (at : ℕ × ℕ) (number : Option ℕ) → IsOpened (heap_with objects slots sets) c.generation c
    → IsSomeAnd (get objects.objects name) (λ o. is_large objects.config.block_words o ≡ false) → IsSomeAnd (get objects.objects name) (λ o. LiesIn o offset block) → Some at ≡ option_map stands_at (get objects.objects name)
    → MatchOption number (IsYoung (graph_in objects) c.generation name → ⊥) (λ n. IsYoung (graph_in objects) c.generation name × IsNumbered objects c.generation name n)
    → IsFoundIn (heap_with objects slots sets) c name offset block at number
found_in_here objects slots sets c name offset block at number opened small lies stands numbered = go (get objects.objects name) refl small lies stands
  where
    go : (o : Option Object) → get objects.objects name ≡ o → IsSomeAnd o (λ x. is_large objects.config.block_words x ≡ false) → IsSomeAnd o (λ x. LiesIn x offset block) → Some at ≡ option_map stands_at o → IsFoundIn (heap_with objects slots sets) c name offset block at number
    go None is s h e = absurd h
    go (Some x) is s h e = record { object = x; there = is; small = s; lies = h; stands = some_is e; number = number_is objects slots sets c opened name number numbered }

pub found_here : (objects : ObjectsValue) (slots : List (Option Place)) (sets : List (List ℕ)) (c : CollectionValue) (name : ℕ) (object : ObjectRef) (at : StepId) (number : Option ℕ) → IsOpened (heap_with objects slots sets) c.generation c
    → IsSomeAnd (get objects.objects name) (λ o. IsShownAs o (raw_of object)) → Some (step_pair at) ≡ option_map stands_at (get objects.objects name)
    → MatchOption number (IsYoung (graph_in objects) c.generation name → ⊥) (λ n. IsYoung (graph_in objects) c.generation name × IsNumbered objects c.generation name n)
    → IsFound (heap_with objects slots sets) c name (record { object = object; at = at; number = number })
found_here objects slots sets c name object at number opened shown stands numbered = go (get objects.objects name) refl shown stands
  where
    go : (o : Option Object) → get objects.objects name ≡ o → IsSomeAnd o (λ x. IsShownAs x (raw_of object)) → Some (step_pair at) ≡ option_map stands_at o → IsFound (heap_with objects slots sets) c name (record { object = object; at = at; number = number })
    go None is h e = absurd h
    go (Some x) is h e = record { object = x; there = is; shown = h; stands = some_is e; number = number_is objects slots sets c opened name number numbered }
