-- The queues of one thread, where one of them changed.
use Rattle.std.proofs.Common.{◌≡◌, ℕ, zero, suc, ◌+◌, ◌<◌, ◌≤◌, List, [], ◌∷◌, ◌++◌, length, map, set, take, replicate, get_or, sym, refl, ap, ◌∙◌, subst, Option, MatchResult, Ok, Err, arith}
use Rattle.std.specs.Prelude.{Result}
use Rattle.std.proofs.lemmas.List.{length-map, take_all, map-set, get_or-map, set-get_or}
use Rattle.std.specs.List.{range_with_len}
use Rattle.block_pool.specs.BlockValue.{BlockValue}
use Rattle.pending_queues.specs.PlainValue.{PlainLane, PlainValue, empty_lane, new_pending, lane_at, with_export, with_taker, after_export, after_take, outcomes_of}
use Rattle.pending_queues.specs.declared.exports.deliveries.Delivery.{Delivery}
use Rattle.pending_queues.specs.PlainKept.{KeyedLane}

-- a list of numbers with the next one
range_more : (a n : ℕ) → range_with_len a n ++ (a + n) ∷ [] ≡ range_with_len a (n + 1)
range_more a zero = ap (λ k. k ∷ []) (omega arith)
range_more a (suc n) =
    let same : a + suc n ≡ a + 1 + n = omega arith in let more : suc (n + 1) ≡ suc n + 1 = omega arith in
    ap (λ k. a ∷ (range_with_len (a + 1) n ++ k ∷ [])) same ∙ ap (λ l. a ∷ l) (range_more (a + 1) n) ∙ ap (range_with_len a) more

-- the numbers up to the next
pub range_next : (n : ℕ) → range_with_len 0 n ++ n ∷ [] ≡ range_with_len 0 (n + 1)
range_next n = let same : n ≡ 0 + n = omega arith in ap (λ k. range_with_len 0 n ++ k ∷ []) same ∙ range_more 0 n

map_replicate : {A B : Type 0} (f : A → B) (n : ℕ) (x : A) → map f (replicate n x) ≡ replicate n (f x)
map_replicate f zero x = refl
map_replicate f (suc n) x = ap (λ l. f x ∷ l) (map_replicate f n x)

map_twice : {A B C : Type 0} (f : A → B) (h : B → C) (xs : List A) → map h (map f xs) ≡ map (λ x. h (f x)) xs
map_twice f h [] = refl
map_twice f h (x ∷ xs) = ap (λ l. h (f x) ∷ l) (map_twice f h xs)

module _ {K : Type 0} where
  abbrev pub pending_of : K → List (KeyedLane K) → PlainValue K
  pending_of key queues = record { key = key; lanes = map (λ q. q.lane) queues }

  -- as many empty queues
  pub all_empty : (key : K) (count : ℕ) (queues : List (KeyedLane K)) → queues ≡ replicate count (record { key = key; lane = empty_lane }) → pending_of key queues ≡ new_pending key count
  all_empty key count queues e = ap (pending_of key) e ∙ (λ i. record { key = key; lanes = map_replicate (λ (q : KeyedLane K). q.lane) count (record { key = key; lane = empty_lane }) i })

  -- what became of each block, once each queue has told it
  pub all_told : (key : K) (queues seen : List (KeyedLane K)) (i : ℕ) (lists : List (List Delivery)) (old : PlainValue K)
      → lists ≡ map (λ q. outcomes_of q.lane) (take i seen) → seen ≡ queues → length seen ≤ i → pending_of key queues ≡ old → lists ≡ map outcomes_of old.lanes
  all_told key queues seen i lists old told same past is =
      told ∙ ap (map (λ (q : KeyedLane K). outcomes_of q.lane)) (take_all i seen past ∙ same) ∙ sym (map_twice (λ (q : KeyedLane K). q.lane) outcomes_of queues) ∙ ap (λ (v : PlainValue K). map outcomes_of v.lanes) is

  -- one queue has another lane
  changed : (key : K) (queues : List (KeyedLane K)) (u : ℕ) (q : KeyedLane K) (f : PlainLane → PlainLane) → u < length queues → q ≡ get_or queues u q
      → pending_of key (set queues u (record q { lane = f q.lane })) ≡ record { key = key; lanes = set (map (λ q. q.lane) queues) u (f (lane_at (pending_of key queues) u)) }
  changed key queues u q f lt there =
      let here : lane_at (pending_of key queues) u ≡ q.lane = get_or-map (λ (x : KeyedLane K). x.lane) queues u q empty_lane lt ∙ ap (λ (x : KeyedLane K). x.lane) (sym there) in
      (λ i. record { key = key; lanes = map-set (λ (x : KeyedLane K). x.lane) queues u (record q { lane = f q.lane }) i })
      ∙ (λ i. record { key = key; lanes = set (map (λ (x : KeyedLane K). x.lane) queues) u (f (sym here i)) })

  -- no queue changed
  unchanged : (key : K) (queues : List (KeyedLane K)) (u : ℕ) (q : KeyedLane K) → q ≡ get_or queues u q → pending_of key (set queues u q) ≡ pending_of key queues
  unchanged key queues u q there = ap (λ x. pending_of key (set queues u x)) there ∙ ap (pending_of key) (set-get_or queues u q)

  -- a number below that of the lanes is below that of the queues
  inside : (key : K) (queues : List (KeyedLane K)) (u : ℕ) (old : PlainValue K) → u < length old.lanes → pending_of key queues ≡ old → u < length queues
  inside key queues u old lt is = let many : length queues ≡ length old.lanes = sym (length-map queues (λ (q : KeyedLane K). q.lane)) ∙ ap (λ (v : PlainValue K). length v.lanes) is in omega arith

  pub export_ends : {E : Type 0} (P : E → Type 0) (result : Result (Unit {0}) E) (key : K) (queues : List (KeyedLane K)) (u seat : ℕ) (q new : KeyedLane K) (block : BlockValue) (old : PlainValue K)
      → u ≡ seat → seat < length old.lanes → q ≡ get_or queues u q → pending_of key queues ≡ old
      → MatchResult result (λ _. new ≡ record q { lane = with_export q.lane u block }) (λ e. P e × (new ≡ q))
      → MatchResult result (λ _. pending_of key (set queues u new) ≡ after_export old seat block) (λ e. P e × (pending_of key (set queues u new) ≡ old))
  export_ends P (Ok x) key queues u seat q new block old own lt there is e =
      ap (λ n. pending_of key (set queues u n)) e ∙ changed key queues u q (λ l. with_export l u block) (inside key queues u old (subst (λ n. n < length old.lanes) (sym own) lt) is) there
      ∙ ap (λ (v : PlainValue K). after_export v u block) is ∙ ap (λ n. after_export old n block) own
  export_ends P (Err x) key queues u seat q new block old own lt there is e = (e.0, ap (λ n. pending_of key (set queues u n)) e.1 ∙ unchanged key queues u q there ∙ is)

  pub take_ends : {E : Type 0} (result : Result (Option BlockValue) E) (key : K) (queues : List (KeyedLane K)) (u index taker : ℕ) (q new : KeyedLane K) (old : PlainValue K)
      → index ≡ taker → u < length old.lanes → q ≡ get_or queues u q → pending_of key queues ≡ old
      → MatchResult result (λ r. new ≡ record q { lane = with_taker q.lane index r }) (λ _. new ≡ q)
      → MatchResult result (λ r. pending_of key (set queues u new) ≡ after_take old u taker r) (λ _. pending_of key (set queues u new) ≡ old)
  take_ends (Ok r) key queues u index taker q new old own lt there is e =
      ap (λ n. pending_of key (set queues u n)) e ∙ changed key queues u q (λ l. with_taker l index r) (inside key queues u old lt is) there
      ∙ ap (λ (v : PlainValue K). after_take v u index r) is ∙ ap (λ n. after_take old u n r) own
  take_ends (Err x) key queues u index taker q new old own lt there is e = ap (λ n. pending_of key (set queues u n)) e ∙ unchanged key queues u q there ∙ is
