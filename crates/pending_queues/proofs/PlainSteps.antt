-- Each step keeps what a queue of one thread keeps.
use Rattle.std.proofs.Common.{◌≡◌, ℕ, zero, suc, ◌+◌, ◌<◌, ◌≤◌, List, [], ◌∷◌, ◌++◌, All, length, map, drop, get_or, sym, refl, ap, ◌∙◌, subst, arith, slice_get, Option, Some, None, length-append, append_assoc, Bor, MatchOption}
use Rattle.std.proofs.lemmas.List.{append-nil, drop-append-le, map-append, drop_all, drop_more, length-drop, length-map}
use Rattle.std.proofs.lemmas.List.Elements.{All-append, All-cons, All-nil, All-tail}
use Rattle.std.proofs.lemmas.Option.{slice_get_past, slice_get-get_or}
use Rattle.std.specs.Option.{option_copied}
use Rattle.std.specs.List.{HoldsAt}
use Rattle.block_pool.specs.BlockValue.{BlockValue}
use Rattle.pending_queues.specs.declared.exports.deliveries.Delivery.{Delivery}
use Rattle.pending_queues.specs.PlainValue.{PlainLane, front_of, outcomes}
use Rattle.pending_queues.specs.PlainKept.{IsPlain}

-- what is left of a list is its next element and then the rest
pub next_left : {X : Type 0} (xs : List X) (n : ℕ) (x : X) (rest : List X) → drop n xs ≡ x ∷ rest
    → (slice_get xs n ≡ Some x) × (rest ≡ drop (n + 1) xs) × (n < length xs)
next_left xs n x rest e =
    let within : n < length xs = (let l = length-drop n xs in let z = ap length e in omega arith) in
    let more : x ∷ rest ≡ get_or xs n x ∷ drop (n + 1) xs = sym e ∙ drop_more xs n x within in
    let first : x ≡ get_or xs n x = ap (λ l. get_or l 0 x) more in
    (slice_get-get_or xs n x within ∙ ap Some (sym first), ap (drop 1) more, within)

abbrev sizes_of : List BlockValue → List ℕ
sizes_of blocks = map (λ (b : BlockValue). length b.objects) blocks

drop_none : {X : Type 0} (n : ℕ) → drop {A = X} n [] ≡ []
drop_none zero = refl
drop_none (suc n) = refl

-- what became of the block at a place, and of those after it
next_outcome : (i : ℕ) (sent : List BlockValue) (takers : List ℕ) (d : ℕ) → i < length sent
    → outcomes (drop i sent) (drop i takers) ≡ record { objects = get_or (sizes_of sent) i d; taker = slice_get takers i } ∷ outcomes (drop (suc i) sent) (drop (suc i) takers)
next_outcome i [] takers d lt = absurd (omega arith)
next_outcome zero (b ∷ bs) [] d lt = refl
next_outcome zero (b ∷ bs) (t ∷ ts) d lt = refl
next_outcome (suc i) (b ∷ bs) [] d lt =
    let none : slice_get {X = ℕ} [] i ≡ slice_get [] (suc i) = slice_get_past [] i (omega arith) ∙ sym (slice_get_past [] (suc i) (omega arith)) in
    ap (outcomes (drop i bs)) (sym (drop_none i)) ∙ next_outcome i bs [] d (omega arith)
    ∙ (λ j. record { objects = get_or (sizes_of bs) i d; taker = none j } ∷ outcomes (drop (suc i) bs) [])
next_outcome (suc i) (b ∷ bs) (t ∷ ts) d lt = next_outcome i bs ts d (omega arith)

-- what a look at a place of a list gives
pub copied_there : (items : List ℕ) (at : ℕ) (read : Option (Bor ℕ)) → MatchOption read (length items ≤ at) (λ x. (at < length items) × HoldsAt (λ y. x.now ≡ y) items at)
    → option_copied read ≡ slice_get items at
copied_there items at None past = sym (slice_get_past items at past)
copied_there items at (Some x) there = sym (slice_get-get_or items at 0 there.0 ∙ ap Some (sym (there.1 0)))

-- one more delivery is told
pub more_outcomes : (sent : List BlockValue) (takers sizes : List ℕ) (done more : List Delivery) (i d : ℕ) (taker : Option ℕ) → sizes ≡ sizes_of sent → i < length sizes
    → taker ≡ slice_get takers i → more ≡ done ++ record { objects = get_or sizes i d; taker = taker } ∷ []
    → outcomes sent takers ≡ done ++ outcomes (drop i sent) (drop i takers) → outcomes sent takers ≡ more ++ outcomes (drop (i + 1) sent) (drop (i + 1) takers)
more_outcomes sent takers sizes done more i d taker es lt et em told =
    let within : i < length sent = (let l = ap length es ∙ length-map sent (λ (b : BlockValue). length b.objects) in omega arith) in
    let one : Delivery = record { objects = get_or (sizes_of sent) i d; taker = slice_get takers i } in
    let em' : more ≡ done ++ one ∷ [] = em ∙ (λ j. done ++ record { objects = get_or (es j) i d; taker = et j } ∷ []) in
    let next : suc i ≡ i + 1 = omega arith in
    told ∙ ap (λ l. done ++ l) (next_outcome i sent takers d within ∙ ap (λ n. one ∷ outcomes (drop n sent) (drop n takers)) next) ∙ sym (append_assoc done (one ∷ []) (outcomes (drop (i + 1) sent) (drop (i + 1) takers)))
    ∙ ap (λ l. l ++ outcomes (drop (i + 1) sent) (drop (i + 1) takers)) (sym em')

-- where all are told, nothing is left
pub all_outcomes : (sent : List BlockValue) (takers sizes : List ℕ) (done : List Delivery) (i : ℕ) → sizes ≡ sizes_of sent → length sizes ≤ i
    → outcomes sent takers ≡ done ++ outcomes (drop i sent) (drop i takers) → done ≡ outcomes sent takers
all_outcomes sent takers sizes done i es le told =
    let past : length sent ≤ i = (let l = ap length es ∙ length-map sent (λ (b : BlockValue). length b.objects) in omega arith) in
    sym (told ∙ ap (λ l. done ++ outcomes l (drop i takers)) (drop_all i sent past) ∙ append-nil done)

module _ {K : Type 0} (fits : K → BlockValue → Type 0) (key : K) where
  -- the front of what waits is the first that nobody took
  pub waits_first : (lane : PlainLane) (waiting rest : List BlockValue) (sizes : List ℕ) (x : BlockValue)
      → IsPlain fits key lane waiting sizes → waiting ≡ x ∷ rest → Some x ≡ front_of lane
  waits_first lane waiting rest sizes x old e = sym (next_left lane.sent (length lane.takers) x rest (sym old.rest ∙ e)).0

  -- and the queue without it has one taker more
  pub keeps_taken : (sent : List BlockValue) (takers before more : List ℕ) (waiting rest : List BlockValue) (sizes : List ℕ) (x : BlockValue) (t : ℕ)
      → IsPlain fits key (record { sent = sent; takers = takers }) waiting sizes → waiting ≡ x ∷ rest → before ≡ takers → more ≡ before ++ t ∷ []
      → IsPlain fits key (record { sent = sent; takers = more }) rest sizes
  keeps_taken sent takers before more waiting rest sizes x t old e eb em =
      let next = next_left sent (length takers) x rest (sym old.rest ∙ e) in
      let longer : length more ≡ length takers + 1 = ap length em ∙ length-append before (t ∷ []) ∙ ap (λ l. length l + 1) eb in
      let within = next.2 in record {
        few = omega (arith, within, longer);
        rest = next.1 ∙ ap (λ n. drop n sent) (sym longer);
        facts = All-tail (fits key) x rest (subst (All (fits key)) e old.facts);
        sizes_sent = old.sizes_sent;
      }

  -- a block more is sent
  pub keeps_sent : (lane : PlainLane) (waiting : List BlockValue) (sizes : List ℕ) (sent' waiting' : List BlockValue) (sizes' : List ℕ) (b : BlockValue)
      → IsPlain fits key lane waiting sizes → fits key b → sent' ≡ lane.sent ++ b ∷ [] → waiting' ≡ waiting ++ b ∷ [] → sizes' ≡ sizes ++ length b.objects ∷ []
      → IsPlain fits key (record lane { sent = sent' }) waiting' sizes'
  keeps_sent lane waiting sizes sent' waiting' sizes' b old fact es ew ez =
      let len : length sent' ≡ length lane.sent + 1 = ap length es ∙ length-append lane.sent (b ∷ []) in
      let few = old.few in record {
        few = omega arith;
        rest = ew ∙ ap (λ l. l ++ b ∷ []) old.rest ∙ sym (drop-append-le (length lane.takers) lane.sent (b ∷ []) few) ∙ ap (drop (length lane.takers)) (sym es);
        facts = subst (All (fits key)) (sym ew) (All-append (fits key) waiting (b ∷ []) old.facts (All-cons (fits key) b [] fact (All-nil (fits key))));
        sizes_sent = ez ∙ ap (λ l. l ++ length b.objects ∷ []) old.sizes_sent ∙ sym (map-append (λ (c : BlockValue). length c.objects) lane.sent (b ∷ [])) ∙ ap (map (λ (c : BlockValue). length c.objects)) (sym es);
      }
