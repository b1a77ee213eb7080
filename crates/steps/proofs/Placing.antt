-- The destinations of a collection, put into a list one after the other.
use Rattle.std.proofs.Common.{◌≡◌, ℕ, ◌+◌, ◌<◌, List, [], ◌∷◌, ◌++◌, map, length, take, Some, sym, ap, ◌∙◌}
use Rattle.std.proofs.lemmas.List.{take_more, map-append}
use Rattle.std.proofs.lemmas.Option.{get_or_from_slice_get, slice_get_within}
use Rattle.std.specs.Prelude.{slice_get}
use Rattle.model.specs.Config.{Config}
use Rattle.model.specs.Destination.{dest_count}
use Rattle.model.specs.DestinationList.{destination_at, destination_list}
use Rattle.model.proofs.Destinations.{lists_destinations, nth_place}
use Rattle.steps.specs.ConfigRange.{IsInRange}
use Rattle.steps.specs.StepPairs.{step_pair}
use Rattle.steps.specs.declared.step_id.StepId.{StepId}
use Rattle.steps.proofs.Ranges.{some_generation, few_generations}

pub one_more : (list : List (ℕ × ℕ)) (places : List StepId) (place : StepId) (number : ℕ) → map step_pair places ≡ take number list → slice_get list number ≡ Some (step_pair place) → map step_pair (places ++ place ∷ []) ≡ take (number + 1) list
one_more list places place number before is =
    map-append step_pair places (place ∷ [])
    ∙ ap (λ xs. xs ++ step_pair place ∷ []) before
    ∙ ap (λ p. take number list ++ p ∷ []) (sym (get_or_from_slice_get list number (step_pair place) (step_pair place) is))
    ∙ sym (take_more list number (step_pair place) (slice_get_within list number (step_pair place) is))

module _ (config : Config) (g : ℕ) (in_range : IsInRange config) (lt : g < config.shape.generations) where
  pub list_count : length (destination_list config.shape g) ≡ dest_count config.shape g
  list_count = (lists_destinations config.shape g (some_generation config in_range) (few_generations config in_range) in_range.some_step in_range.most_steps lt).count

  pub list_place : (i : ℕ) → i < dest_count config.shape g → slice_get (destination_list config.shape g) i ≡ Some (destination_at config.shape i)
  list_place i below = nth_place config.shape g (some_generation config in_range) (few_generations config in_range) in_range.some_step in_range.most_steps lt i below
