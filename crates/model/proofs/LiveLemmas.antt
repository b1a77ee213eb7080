-- First facts on what is live.
use Rattle.std.proofs.Common.{◌≡◌, ℕ, Bool, true, false, refl, sym, ◌∙◌}
use Rattle.std.proofs.lemmas.Map.Made.{length-from_same_keys}
use Rattle.std.specs.Cmp.{nat_eq_equiv}
use Rattle.model.specs.LiveCount.{LiveCount, LiveWords, small_words}
use Rattle.model.proofs.Same.{same_sum_by}
use Rattle.model.specs.Reached.{has}
use Rattle.model.specs.Graph.{Graph}
use Rattle.model.specs.Reached.{Reached, first, later}
use Rattle.model.specs.Live.{Live, IsYoung}

pub Live-young : (graph : Graph) (g name : ℕ) → Live graph g name → IsYoung graph g name
Live-young graph g name (first s) = s.0
Live-young graph g name (later before edge) = edge.young

-- a map that takes starts to starts and steps to steps takes what is reached to what is reached
pub Reached-map : {next next' : ℕ → ℕ → Type 0} {start start' : ℕ → Type 0} (f : ℕ → ℕ) → ((n : ℕ) → start n → start' (f n)) → ((m n : ℕ) → next m n → next' (f m) (f n)) → (n : ℕ) → Reached next start n → Reached next' start' (f n)
Reached-map f s e n (first h) = first (s n h)
Reached-map f s e n (later {m = m} before edge) = later (Reached-map f s e m before) (e m n edge)

-- a property of the starts that steps keep holds of all that is reached
pub Reached-ind : {next : ℕ → ℕ → Type 0} {start : ℕ → Type 0} (P : ℕ → Type 0) → ((n : ℕ) → start n → P n) → ((m n : ℕ) → P m → next m n → P n) → (n : ℕ) → Reached next start n → P n
Reached-ind P s e n (first h) = s n h
Reached-ind P s e n (later {m = m} before edge) = e m n (Reached-ind P s e m before) edge

-- there is one such number
pub LiveCount-one : (graph : Graph) (g m n : ℕ) → LiveCount graph g m → LiveCount graph g n → m ≡ n
LiveCount-one graph g m n a b =
    a.count
    ∙ length-from_same_keys nat_eq_equiv a.names b.names a.lists.distinct b.lists.distinct
    (λ q. same (has a.names q) (has b.names q) (λ h. b.lists.all q (a.lists.only q h)) (λ h. a.lists.all q (b.lists.only q h)))
    ∙ sym b.count
  where
    same : (x y : Bool) → (x ≡ true → y ≡ true) → (y ≡ true → x ≡ true) → x ≡ y
    same true y f k = sym (f refl)
    same false true f k = k refl
    same false false f k = refl

-- and one sum of their sizes
pub LiveWords-one : (graph : Graph) (g block_words x y : ℕ) → LiveWords graph g block_words x → LiveWords graph g block_words y → x ≡ y
LiveWords-one graph g block_words x y a b =
    a.words
    ∙ same_sum_by a.names b.names a.lists.distinct b.lists.distinct (record { there = λ q h. b.lists.all q (a.lists.only q h); back = λ q h. a.lists.all q (b.lists.only q h) }) (small_words graph block_words)
    ∙ sym b.words
