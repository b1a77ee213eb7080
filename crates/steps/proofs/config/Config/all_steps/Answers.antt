use Rattle.std.proofs.Common.{◌≡◌, ◌+◌, ◌-◌, ◌*◌, ◌<◌, ◌≤◌, ◌++◌, ◌∷◌, [], ℕ, map, length, sym, ap, ◌∙◌, arith, length-append}
use Rattle.std.proofs.lemmas.List.{map-append, length-map}
use Rattle.std.proofs.lemmas.Nat.{mul-le}
use Rattle.model.specs.Destination.{oldest}
use Rattle.steps.specs.declared.step_id.StepId.{StepId}
use Rattle.steps.specs.StepPairs.{step_pair}
use Rattle.steps.proofs.Numbers.{steps_at, steps_below, below-more, length-steps}
use Rattle.steps.proofs.config.Config.all_steps.Goals as goal

pub loop-generation-init : goal.loop-generation-init
loop-generation-init c = record { found = ap (map step_pair) c.new-found.ensures; len = ap length c.new-found.ensures ∙ omega arith }

-- so many steps of the generations before the last are few
few_steps : (generation oldest steps : ℕ) → generation < oldest → oldest ≤ 3 → steps ≤ 4 → generation * steps + steps ≤ 12
few_steps generation oldest steps lt few short =
    let all : (generation + 1) * steps ≤ 3 * 4 = mul-le (generation + 1) steps 3 4 (omega arith) short in
    let split : (generation + 1) * steps ≡ generation * steps + steps = grind arith in
    omega (arith, all, split)

pub push_steps-requires-clause-room : goal.push_steps-requires-clause-room
push_steps-requires-clause-room c =
    let range = c.steps-steps.ensures.in_range in
    let few = few_steps c.loop-generation.generation (c.generations-oldest.result - 1) c.steps-steps.result c.loop-generation-test.true (omega (arith, range.most_generations, c.generations-oldest.ensures.value)) (omega (arith, range.most_steps, c.steps-steps.ensures.value)) in
    omega (arith, few, c.loop-generation.invariant.len)

pub loop-generation-preserved : goal.loop-generation-preserved
loop-generation-preserved c =
    let split : (c.loop-generation.generation + 1) * c.steps-steps.result ≡ c.loop-generation.generation * c.steps-steps.result + c.steps-steps.result = grind arith in
    let more = c.push_steps.ensures in
    let len : length c.push_steps.new.found.items ≡ length c.loop-generation.found.items + c.steps-steps.result =
    sym (length-map c.push_steps.new.found.items step_pair) ∙ ap length more ∙ length-append (map step_pair c.loop-generation.found.items) (steps_at c.loop-generation.generation c.steps-steps.result)
    ∙ ap (λ n. n + length (steps_at c.loop-generation.generation c.steps-steps.result)) (length-map c.loop-generation.found.items step_pair)
    ∙ ap (λ n. length c.loop-generation.found.items + n) (length-steps c.loop-generation.generation c.steps-steps.result) in
    record {
      found = more ∙ ap (λ ps. ps ++ steps_at c.loop-generation.generation c.steps-steps.result) c.loop-generation.invariant.found ∙ sym (below-more c.loop-generation.generation c.steps-steps.result);
      len = omega (arith, len, split, c.loop-generation.invariant.len);
    }

at_most : (generation steps : ℕ) → generation ≤ 3 → steps ≤ 4 → generation * steps ≤ 12
at_most generation steps few short = let all : generation * steps ≤ 3 * 4 = mul-le generation steps 3 4 few short in omega (arith, all)

pub push-requires : goal.push-requires
push-requires c =
    let range = c.steps-steps.ensures.in_range in
    let last : c.loop-generation.generation ≡ c.generations-oldest.result - 1 = omega (arith, c.loop-generation-test.false, c.loop-generation.auto.generation-end) in
    let most = at_most c.loop-generation.generation c.steps-steps.result (omega (arith, last, range.most_generations, c.generations-oldest.ensures.value)) (omega (arith, range.most_steps, c.steps-steps.ensures.value)) in
    (omega arith, let lt : length c.loop-generation.found.items < 13 = omega (arith, most, c.loop-generation.invariant.len) in lt)

pub returns-clause-steps : goal.returns-clause-steps
returns-clause-steps c =
    let last : c.loop-generation.generation ≡ oldest c.args.self.now.shape = omega (arith, c.loop-generation-test.false, c.loop-generation.auto.generation-end, c.generations-oldest.ensures.value) in
    let top : c.generations-oldest.result - 1 ≡ oldest c.args.self.now.shape = omega (arith, c.generations-oldest.ensures.value) in
    let one : StepId = record { generation = c.generations-oldest.result - 1; step = 0 } in
    ap (map step_pair) c.push.ensures.items
    ∙ map-append step_pair c.loop-generation.found.items (one ∷ [])
    ∙ ap (λ ps. ps ++ step_pair one ∷ []) c.loop-generation.invariant.found
    ∙ ap (λ n. steps_below n c.steps-steps.result ++ step_pair one ∷ []) last
    ∙ ap (λ s. steps_below (oldest c.args.self.now.shape) s ++ step_pair one ∷ []) c.steps-steps.ensures.value
    ∙ ap (λ n. steps_below (oldest c.args.self.now.shape) c.args.self.now.shape.steps ++ (n, 0) ∷ []) top

pub returns-clause-few : goal.returns-clause-few
returns-clause-few c =
    let range = c.steps-steps.ensures.in_range in
    let last : c.loop-generation.generation ≡ c.generations-oldest.result - 1 = omega (arith, c.loop-generation-test.false, c.loop-generation.auto.generation-end) in
    let most = at_most c.loop-generation.generation c.steps-steps.result (omega (arith, last, range.most_generations, c.generations-oldest.ensures.value)) (omega (arith, range.most_steps, c.steps-steps.ensures.value)) in
    let one : StepId = record { generation = c.generations-oldest.result - 1; step = 0 } in
    omega (arith, ap length c.push.ensures.items, length-append c.loop-generation.found.items (one ∷ []), most, c.loop-generation.invariant.len)
