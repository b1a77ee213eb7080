-- What the barrier knows of a holder and of what it will lead to.
use Rattle.std.proofs.Common.{◌≡◌, ℕ, ◌<◌, Bool, true, false, cond, List, [], Option, Some, None, Result, Ok, Err, refl, sym, ap, ◌∙◌, arith}
use Rattle.std.specs.Prelude.{nat_lt, IsOk, OnErr}
use Rattle.std.specs.Option.{option_map, option_map_or}
use Rattle.std.specs.FinMap.{get}
use Rattle.model.specs.Graph.{Object}
use Rattle.model.proofs.Options.{some_is, some_not_none}
use Rattle.steps.specs.StepPairs.{step_pair, stands_at}
use Rattle.steps.specs.declared.step_id.StepId.{StepId}
use Rattle.heap_objects.specs.Objects.{ObjectsValue, graph_in, heap_in}
use Rattle.heap_objects.specs.Sound.{AreObjects}
use Rattle.heap.specs.HeapView.{heap_with}
use Rattle.remembered_set.specs.Sets.{noted}
use Rattle.heap.specs.Commands.{leads_younger, remembered_after}

pub err_not : {T E P : Type 0} (r : Result T E) → (P → IsOk r) → OnErr r (P → ⊥)
err_not (Ok x) f = tt
err_not (Err e) f = λ p. let ok = f p in cc

-- the object that stands there
pub standing : (at : StepId) (found : Option Object) → Some (step_pair at) ≡ option_map stands_at found → (o : Object) × (found ≡ Some o) × (o.generation ≡ at.generation)
standing at None is = absurd (some_not_none is)
standing at (Some o) is = (o, refl, sym (ap (λ p. p.0) (some_is is)))

pub none_standing : (found : Option Object) → None ≡ option_map stands_at found → found ≡ None
none_standing None is = refl
none_standing (Some o) is = absurd (some_not_none (sym is))

pub generation_in_range : (objects : ObjectsValue) (name n : ℕ) → AreObjects (heap_in objects) → option_map (λ o. o.generation) (get objects.objects name) ≡ Some n → n < objects.config.shape.generations
generation_in_range objects name n sound is = go (get objects.objects name) refl is
  where
    go : (found : Option Object) → get objects.objects name ≡ found → option_map (λ o. o.generation) found ≡ Some n → n < objects.config.shape.generations
    go None there e = absurd (some_not_none (sym e))
    go (Some o) there e = omega (arith, (sound.objects name o there).step.generation, some_is e)

module _ (objects : ObjectsValue) (sets : List (List ℕ)) (name : ℕ) (o : Object) where
  pub leads_is : (target : ℕ) (other : Object) (b : Bool) → get objects.objects target ≡ Some other → nat_lt other.generation o.generation ≡ b → leads_younger (graph_in objects) o (Some target) ≡ b
  leads_is target other b there test = ap (λ found. option_map_or (λ t. nat_lt t.generation o.generation) found false) there ∙ test

  pub leads_nowhere : (target : ℕ) → get objects.objects target ≡ None → leads_younger (graph_in objects) o (Some target) ≡ false
  leads_nowhere target none = ap (λ found. option_map_or (λ t. nat_lt t.generation o.generation) found false) none

  pub after_noted : (value : Option ℕ) → leads_younger (graph_in objects) o value ≡ true → remembered_after (heap_with objects [] sets) name o value ≡ noted sets o.generation name
  after_noted value leads = ap (λ b. cond b (noted sets o.generation name) sets) leads

  pub after_same : (value : Option ℕ) → leads_younger (graph_in objects) o value ≡ false → sets ≡ remembered_after (heap_with objects [] sets) name o value
  after_same value leads = sym (ap (λ b. cond b (noted sets o.generation name) sets) leads)
