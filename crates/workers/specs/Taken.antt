-- In which order exports are taken.
use Rattle.std.specs.Prelude.{◌≡◌, ℕ, ◌<◌, ◌≤◌, ◌&&◌, List, [], ◌∷◌, length, Some, nat_eq, nat_lt, cond, slice_get}
use Rattle.workers.specs.Block.{Block}
use Rattle.workers.specs.System.{System}
use Rattle.workers.specs.Total.{total, one_if}
use Rattle.workers.specs.Joined.{Each}
use Rattle.workers.specs.Ordered.{IsRising, rests}

-- how often export i of worker u stands in the taken lists together
abbrev pub takings : ℕ → ℕ → List (List (ℕ × ℕ)) → ℕ
takings u i taken = total (λ (es : List (ℕ × ℕ)). total (λ (e : ℕ × ℕ). one_if (nat_eq e.0 u && nat_eq e.1 i)) es) taken

-- the positions of what was taken of worker u's exports
abbrev pub positions_of : ℕ → List (ℕ × ℕ) → List ℕ
positions_of u [] = []
positions_of u (e ∷ es) = cond (nat_eq e.0 u) (e.1 ∷ positions_of u es) (positions_of u es)

-- of worker u's exports, each labelled with its position, those before the front were taken, each once, and the others are queued
pub record IsTakenFrom (s : System) (u : ℕ) (exports : List Block) : Type 0 where
  pub front : ℕ
  pub within : front ≤ length exports
  pub labelled : (i : ℕ) (block : Block) → slice_get exports i ≡ Some block → block.sent ≡ Some (u, i)
  pub queue : slice_get s.queues u ≡ Some (rests front exports)
  pub taken : (i : ℕ) → takings u i s.taken ≡ one_if (nat_lt i front)

-- each worker has a list of exports, a queue and a list of what it took
pub record HaveLists (s : System) : Type 0 where
  pub exported : length s.exported ≡ length s.workers
  pub queues : length s.queues ≡ length s.workers
  pub taken : length s.taken ≡ length s.workers

-- each worker's exports are taken in their order, and nothing else is taken
pub record AreTakenInOrder (s : System) : Type 0 where
  pub lists : HaveLists s
  pub exports : (u : ℕ) (exports : List Block) → slice_get s.exported u ≡ Some exports → IsTakenFrom s u exports
  pub rising : (t : ℕ) (es : List (ℕ × ℕ)) → slice_get s.taken t ≡ Some es → (u : ℕ) → IsRising (positions_of u es)
  pub exporters : Each (λ (es : List (ℕ × ℕ)). Each (λ (e : ℕ × ℕ). e.0 < length s.workers) es) s.taken
