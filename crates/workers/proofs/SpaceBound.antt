-- Where a worker is refused a block, fewer were free than the space bound.
use Rattle.std.proofs.Common.{◌≡◌, ℕ, zero, suc, ◌+◌, ◌-◌, ◌*◌, ◌/◌, ◌<◌, ◌≤◌, Bool, true, false, ◌||◌, List, [], ◌∷◌, Option, Some, None, refl, sym, ap, subst, ◌∙◌, ⊎_elim, cond, length, arith, true≢false, nat_eq, nat_lt, eqb-true, ltb-true, ltb-false, add-mul, one-mul, zero-mul}
use Rattle.std.proofs.lemmas.Nat.{le-div}
use Rattle.std.specs.Prelude.{slice_get, sum_by}
use Rattle.std.specs.Option.{option_map_or}
use Rattle.model.specs.Graph.{Graph, Object, object_at, size_of, is_large}
use Rattle.model.specs.Destination.{Shape}
use Rattle.model.specs.Live.{Live}
use Rattle.model.specs.LiveCount.{LiveWords, small_words}
use Rattle.model.specs.Reached.{has}
use Rattle.model.specs.SpaceBound.{space_bound}
use Rattle.workers.specs.Setting.{Setting, setting_of, is_collected}
use Rattle.workers.specs.Total.{total, one_if, wins_of}
use Rattle.workers.specs.Joined.{Each, Part}
use Rattle.model.specs.Collected.{IsLiveOrOlder}
use Rattle.workers.specs.Kept.{CopiesLive, won_lists}
use Rattle.workers.specs.Refused.{HasBegun, Refused}
use Rattle.workers.proofs.Lists.{Each-zip, Each-map, none-some}
use Rattle.workers.proofs.Totals.{total-same, total-Each, total-sum}
use Rattle.workers.proofs.Moves.{destinations}
use Rattle.workers.proofs.Won.{won_known, known_collected}
use Rattle.workers.proofs.Deliveries.{guarded-none, guarded-once}
use Rattle.workers.proofs.Laid.{sum_by-total}
use Rattle.workers.proofs.OnePart.{total-zero}
use Rattle.workers.proofs.Renamed.{total-le}
use Rattle.workers.proofs.OwnLive.{OwnLive, run_live}
use Rattle.workers.proofs.Kept.{total-won, Each-won, young-not_older, collected-young, keep, opening_live}
use Rattle.workers.proofs.Space.{least_full, won_words, won_pair, moves, covered, refused_covered}

-- of sums over two lists
pub total-swap : {A B : Type 0} (g : A → B → ℕ) (xs : List A) (ys : List B) → total (λ x. total (λ y. g x y) ys) xs ≡ total (λ y. total (λ x. g x y) xs) ys
total-swap g [] ys = sym (total-zero ys)
total-swap g (x ∷ xs) ys =
    let a : total (λ z. total (λ y. g z y) ys) xs ≡ total (λ y. total (λ z. g z y) xs) ys = total-swap g xs ys in
    let b : total (λ y. g x y + total (λ z. g z y) xs) ys ≡ total (λ y. g x y) ys + total (λ y. total (λ z. g z y) xs) ys = total-sum (λ y. g x y) (λ y. total (λ z. g z y) xs) ys in
    omega arith

pub total-below : {A : Type 0} (f g : A → ℕ) → ((x : A) → f x ≤ g x) → (xs : List A) → total f xs ≤ total g xs
total-below f g k [] = omega arith
total-below f g k (x ∷ xs) =
    let a : f x ≤ g x = k x in
    let b : total f xs ≤ total g xs = total-below f g k xs in
    omega arith

total-mul : {A : Type 0} (f : A → ℕ) (c : ℕ) (xs : List A) → total (λ x. f x * c) xs ≡ total f xs * c
total-mul f c [] = sym (zero-mul c)
total-mul f c (x ∷ xs) = ap (λ n. f x * c + n) (total-mul f c xs) ∙ sym (add-mul (f x) (total f xs) c)

total-each : {A : Type 0} (c : ℕ) (xs : List A) → total (λ _. c) xs ≡ length xs * c
total-each c [] = sym (zero-mul c)
total-each {A = A} c (x ∷ xs) =
    let a : total {V = A} (λ _. c) xs ≡ length xs * c = total-each c xs in
    let b : (1 + length xs) * c ≡ 1 * c + length xs * c = add-mul 1 (length xs) c in
    let d : 1 * c ≡ c = one-mul c in
    let e : 1 + length xs ≡ suc (length xs) = omega arith in
    ap (λ n. c + n) a ∙ ap (λ n. n + length xs * c) (sym d) ∙ sym b ∙ ap (λ n. n * c) e

-- one of them is less by so much
total-less : {A : Type 0} (f g : A → ℕ) (c : ℕ) (xs : List A) (t : ℕ) (x : A) → slice_get xs t ≡ Some x → Each (λ y. f y ≤ g y) xs → f x + c ≤ g x → total f xs + c ≤ total g xs
total-less f g c [] t x e h l = absurd (none-some e)
total-less f g c (y ∷ xs) zero x e h l =
    let q : y ≡ x = cc in
    let m : f y + c ≤ g y = subst (λ z. f z + c ≤ g z) (sym q) l in
    let r : total f xs ≤ total g xs = total-le f g (λ z. f z ≤ g z) (λ z k. k) xs h.1 in
    omega arith
total-less f g c (y ∷ xs) (suc t) x e h l =
    let a : f y ≤ g y = h.0 in
    let r : total f xs + c ≤ total g xs = total-less f g c xs t x e h.1 l in
    omega arith

-- names that are won once each weigh no more than a list that has them all
module _ (f : ℕ → ℕ) where
  at_member : (x : ℕ) (names : List ℕ) → has names x ≡ true → f x ≤ total (λ n. cond (nat_eq x n) (f n) 0) names
  at_member x [] h = absurd (true≢false (sym h))
  at_member x (n ∷ ns) h = go (nat_eq x n) refl h (at_member x ns)
    where
      go : (b : Bool) → nat_eq x n ≡ b → (b || has ns x) ≡ true → (has ns x ≡ true → f x ≤ total (λ n. cond (nat_eq x n) (f n) 0) ns) → f x ≤ cond b (f n) 0 + total (λ n. cond (nat_eq x n) (f n) 0) ns
      go true e k t = let q : f x ≡ f n = ap f (eqb-true x n e) in omega arith
      go false e k t = let r : f x ≤ total (λ n. cond (nat_eq x n) (f n) 0) ns = t k in omega arith

  guarded-le : {B : Type 0} (h : B → Bool) (v : ℕ) (bs : List B) → total (λ b. one_if (h b)) bs ≤ 1 → total (λ b. cond (h b) v 0) bs ≤ v
  guarded-le h v bs l = go (total (λ b. one_if (h b)) bs) refl l
    where
      go : (n : ℕ) → total (λ b. one_if (h b)) bs ≡ n → n ≤ 1 → total (λ b. cond (h b) v 0) bs ≤ v
      go zero e l = let z : total (λ b. cond (h b) v 0) bs ≡ 0 = guarded-none h v bs e in omega arith
      go (suc zero) e l = let z : total (λ b. cond (h b) v 0) bs ≡ v = guarded-once h v bs e in omega arith
      go (suc (suc n)) e l = absurd (omega arith)

  pub once_below : (won : List (ℕ × ℕ)) (names : List ℕ) → Each (λ (q : ℕ × ℕ). has names q.0 ≡ true) won → ((n : ℕ) → wins_of n won ≤ 1) → total (λ (q : ℕ × ℕ). f q.0) won ≤ total f names
  once_below won names m o =
      let a : total (λ (q : ℕ × ℕ). f q.0) won ≤ total (λ (q : ℕ × ℕ). total (λ n. cond (nat_eq q.0 n) (f n) 0) names) won =
      total-le (λ (q : ℕ × ℕ). f q.0) (λ (q : ℕ × ℕ). total (λ n. cond (nat_eq q.0 n) (f n) 0) names) (λ (q : ℕ × ℕ). has names q.0 ≡ true) (λ q h. at_member q.0 names h) won m in
      let b : total (λ (q : ℕ × ℕ). total (λ n. cond (nat_eq q.0 n) (f n) 0) names) won ≡ total (λ n. total (λ (q : ℕ × ℕ). cond (nat_eq q.0 n) (f n) 0) won) names =
      total-swap (λ (q : ℕ × ℕ) n. cond (nat_eq q.0 n) (f n) 0) won names in
      let c : total (λ n. total (λ (q : ℕ × ℕ). cond (nat_eq q.0 n) (f n) 0) won) names ≤ total f names =
      total-below (λ n. total (λ (q : ℕ × ℕ). cond (nat_eq q.0 n) (f n) 0) won) f (λ n. guarded-le (λ (q : ℕ × ℕ). nat_eq q.0 n) (f n) won (o n)) names in
      omega arith

divided : (c x m n : ℕ) → 0 < c → n * c + c ≤ x + m * c → n < x / c + m
divided c x m n p h = go (nat_lt n m) refl
  where
    some_less : (q : ℕ) → n < m → n < q + m
    some_less q l = omega arith

    rest : (q : ℕ) → m ≤ n → n + 1 - m ≤ q → n < q + m
    rest q l k = omega arith

    times_c : m ≤ n → (n + 1 - m) * c ≤ x
    times_c l =
        let e : (n + 1 - m) + m ≡ n + 1 = omega arith in
        let a : (n + 1 - m) * c + m * c ≡ n * c + c = sym (add-mul (n + 1 - m) m c) ∙ ap (λ z. z * c) e ∙ add-mul n 1 c ∙ ap (λ z. n * c + z) (one-mul c) in
        atoms ((n + 1 - m) * c) (m * c) (n * c) a h
      where
        atoms : (u v w : ℕ) → u + v ≡ w + c → w + c ≤ x + v → u ≤ x
        atoms u v w a h = omega arith

    go : (b : Bool) → nat_lt n m ≡ b → n < x / c + m
    go true e = some_less (x / c) (ltb-true n m e)
    go false e = let l : m ≤ n = ltb-false n m e in rest (x / c) l (le-div (n + 1 - m) x c p (times_c l))

module _ (graph : Graph) (g : ℕ) (shape : Shape) (block_words workers d drawn : ℕ) (parts : List Part) (r : Refused graph g shape block_words workers d drawn parts) where
  abbrev s : Setting
  s = setting_of graph g shape block_words workers

  abbrev W : Part → Type 0
  W p = Each (λ (q : ℕ × ℕ). Live graph g q.0) p.final.won

  part_live : (p : Part) → HasBegun s p → Each (IsLiveOrOlder graph g) p.start.starts → Each (CopiesLive graph g) p.history.taken → W p
  part_live p b starts taken =
      let o : OwnLive (IsLiveOrOlder graph g) p.final = run_live (IsLiveOrOlder graph g) s (keep graph g shape block_words workers) b.run taken (opening_live graph g shape block_words workers p.start b.opening starts) in
      let y : Each (λ (q : ℕ × ℕ). is_collected s q.0 ≡ true) p.final.won =
      won_known s (λ (q : ℕ × ℕ). is_collected s q.0 ≡ true) (moves s p b) (known_collected s (moves s p b) tt) (subst (Each (λ (q : ℕ × ℕ). is_collected s q.0 ≡ true)) (sym b.opening.no_won) tt) in
      Each-map (λ (q : ℕ × ℕ). IsLiveOrOlder graph g q.0 × (is_collected s q.0 ≡ true)) (λ (q : ℕ × ℕ). Live graph g q.0)
      (λ q h. ⊎_elim (λ (x : Live graph g q.0). x) (λ x. absurd (young-not_older graph g shape block_words workers q.0 (collected-young graph g shape block_words workers q.0 h.1) x)) h.0)
      p.final.won (Each-zip (λ (q : ℕ × ℕ). IsLiveOrOlder graph g q.0) (λ (q : ℕ × ℕ). is_collected s q.0 ≡ true) p.final.won o.won y)

  all_live : (ps : List Part) → Each (HasBegun s) ps → Each (λ (p : Part). Each (IsLiveOrOlder graph g) p.start.starts) ps → Each (λ (p : Part). Each (CopiesLive graph g) p.history.taken) ps → Each W ps
  all_live [] a b c = tt
  all_live (p ∷ ps) a b c = (part_live p a.0 b.0 c.0, all_live ps a.1 b.1 c.1)

  same_words : (names : List ℕ) → sum_by (small_words graph block_words) names ≡ total (won_words s) names
  same_words names = sum_by-total (small_words graph block_words) names ∙ total-same (small_words graph block_words) (won_words s) (λ n. go (object_at graph n)) names
    where
      go : (o : Option Object) → option_map_or (λ o. cond (is_large block_words o) 0 (size_of o)) o 0 ≡ cond (option_map_or (is_large block_words) o false) 0 (option_map_or size_of o 0)
      go None = refl
      go (Some o) = refl

  -- what was won is no more than the small live objects take
  won_below : (x : ℕ) → LiveWords graph g block_words x → total (λ (p : Part). total (won_pair s) p.final.won) parts ≤ x
  won_below x l =
      let a : total (won_pair s) (won_lists parts) ≡ total (λ (p : Part). total (won_pair s) p.final.won) parts = total-won (won_pair s) parts in
      let b : total (won_pair s) (won_lists parts) ≤ total (won_words s) l.names =
      once_below (won_words s) (won_lists parts) l.names
      (Each-map (λ (q : ℕ × ℕ). Live graph g q.0) (λ (q : ℕ × ℕ). has l.names q.0 ≡ true) (λ q h. l.lists.all q.0 h) (won_lists parts) (Each-won (λ (q : ℕ × ℕ). Live graph g q.0) parts (all_live parts r.runs r.only_starts r.taken_live)))
      (λ n. subst (λ m. m ≤ 1) (sym (total-won (λ (q : ℕ × ℕ). one_if (nat_eq q.0 n)) parts)) (r.won_once n)) in
      let c : x ≡ total (won_words s) l.names = l.words ∙ same_words l.names in
      omega arith

  abbrev F : ℕ
  F = least_full s

  all_places : (ps : List Part) → Each (HasBegun s) ps → Each (λ (p : Part). length p.start.allocation ≡ d) ps → total (λ (p : Part). total (λ _. F) p.final.allocation) ps ≡ length ps * d * F
  all_places ps a b =
      total-Each (λ (p : Part). total (λ _. F) p.final.allocation) (λ _. d * F) (λ (p : Part). HasBegun s p × (length p.start.allocation ≡ d))
      (λ p h. total-each F p.final.allocation ∙ ap (λ n. n * F) (destinations s (moves s p h.0) ∙ h.1)) ps (Each-zip (HasBegun s) (λ (p : Part). length p.start.allocation ≡ d) ps a b)
      ∙ total-mul (λ _. d) F ps ∙ ap (λ n. n * F) (total-each d ps)

  pub refused-below : (x : ℕ) → LiveWords graph g block_words x → drawn < space_bound x block_words (length parts) d
  refused-below x l = divided F x (length parts * d) drawn (omega arith) sums
    where
      at_all : Each (λ (p : Part). total (λ _. F) p.history.drawn ≤ total (won_pair s) p.final.won + total (λ _. F) p.final.allocation) parts
      at_all = Each-map (HasBegun s) _ (λ p b. covered s p b) parts r.runs

      here : (ps : List Part) (t : ℕ) (p : Part) → slice_get ps t ≡ Some p → Each (HasBegun s) ps → HasBegun s p
      here [] t p e h = absurd (none-some e)
      here (q ∷ ps) zero p e h = let k : q ≡ p = cc in subst (HasBegun s) k h.0
      here (q ∷ ps) (suc t) p e h = here ps t p e h.1

      sums : drawn * F + F ≤ x + length parts * d * F
      sums =
          let a : total (λ (p : Part). total (λ _. F) p.history.drawn) parts + F ≤ total (λ (p : Part). total (won_pair s) p.final.won + total (λ _. F) p.final.allocation) parts =
          total-less (λ (p : Part). total (λ _. F) p.history.drawn) (λ (p : Part). total (won_pair s) p.final.won + total (λ _. F) p.final.allocation) F parts r.t r.part r.there at_all
          (refused_covered s r.part (here parts r.t r.part r.there r.runs) r.cell r.wanted) in
          let b : total (λ (p : Part). total (won_pair s) p.final.won + total (λ _. F) p.final.allocation) parts ≡ total (λ (p : Part). total (won_pair s) p.final.won) parts + total (λ (p : Part). total (λ _. F) p.final.allocation) parts =
          total-sum (λ (p : Part). total (won_pair s) p.final.won) (λ (p : Part). total (λ _. F) p.final.allocation) parts in
          let c : total (λ (p : Part). total (λ _. F) p.history.drawn) parts ≡ drawn * F =
          total-same (λ (p : Part). total (λ _. F) p.history.drawn) (λ (p : Part). length p.history.drawn * F) (λ p. total-each F p.history.drawn) parts ∙ total-mul (λ (p : Part). length p.history.drawn) F parts ∙ ap (λ n. n * F) r.all_drawn in
          let e : total (λ (p : Part). total (λ _. F) p.final.allocation) parts ≡ length parts * d * F = all_places parts r.runs r.destinations_are in
          let w = won_below x l in
          atoms _ _ _ _ _ _ F x a b c e w
        where
          atoms : (t u v m n k f x : ℕ) → t + f ≤ u → u ≡ v + m → t ≡ n → m ≡ k → v ≤ x → n + f ≤ x + k
          atoms t u v m n k f x a b c e w = omega arith
