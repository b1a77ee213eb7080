-- The rule of the words, and what each step tells.
use Rattle.std.specs.Prelude.{◌≡◌, ◌≢◌, ℕ, ◌+◌, ◌-◌, Bool, true, false, List, [], ◌∷◌, ◌++◌, All, length, slice_index, ◌==◌, if◌then◌else◌, Option, Some, None}
use mathlib.Core.Option.{some}
use lib.ListN.{get_elem?}
use Rattle.atomic_table.specs.Table.{State, Me, Step}
use Rattle.layout.specs.declared.place.Place.{Place}
use Rattle.layout.specs.Place.{place_word, pointer_word}
use Rattle.model.specs.Total.{total}
use Rattle.forwarding.specs.Settled.{Pairs, wins_of}
use Rattle.forwarding.specs.Known.{known_in, Lasts}
use Rattle.forwarding.specs.declared.word_cells.plays.Mind.{Mind}
use Rattle.forwarding.specs.declared.word_cells.plays.Plan.{Plan}

abbrev pub mind : ℕ → Pairs → Pairs → Mind
mind parts known won = record { parts = parts; known = known; won = won }

-- 1 where the word is set, and else 0
abbrev pub set_count : ℕ → ℕ
set_count word = if word == 0 then 0 else 1

-- the word of the pair's name is that of its place
abbrev pub IsShown : List ℕ → ℕ × Place → Type 0
IsShown words x = slice_index words x.0 ≡ place_word x.1

-- What holds of each pass: its pairs are those of the words, and one with no part has won nothing
pub record IsSoundMind (words : List ℕ) (v : Mind) : Type 0 where
  pub known : All (IsShown words) v.known
  pub won : All (IsShown words) v.won
  pub spent : v.parts ≡ 0 → v.won ≡ []

-- A word that is set is that of a place, which stands in one won list, once
pub record IsKeptWords (plan : Plan) (s : State (Unit {0}) Mind) : Type 0 where
  pub wide : length s.words ≡ plan.count + 1
  pub spare : slice_index s.words plan.count ≡ 0
  pub whole : total (λ (v : Mind). v.parts) s.views ≡ plan.passes
  pub sound : (i : ℕ) (v : Mind) → get_elem? s.views i ≡ some v → IsSoundMind s.words v
  pub once : (name : ℕ) → total (λ (v : Mind). wins_of name v.won) s.views ≡ set_count (slice_index s.words name)
  pub set : (name : ℕ) → slice_index s.words name ≢ 0 → (p : Place) × (slice_index s.words name ≡ place_word p)

-- a pass that knows nothing and has won nothing, with its part
abbrev pub newcomer : Mind
newcomer = mind 1 [] []

abbrev pub dealt : Mind → Mind
dealt v = mind (v.parts - 1) v.known v.won

abbrev pub both : Mind → Mind → Mind
both v w = mind (v.parts + w.parts) (w.known ++ v.known) (w.won ++ v.won)

abbrev pub spent : Mind
spent = mind 0 [] []

abbrev pub learn : ℕ → Option Place → Mind → Mind
learn name None v = v
learn name (Some p) v = mind v.parts ((name, p) ∷ v.known) v.won

abbrev pub win : ℕ → Place → Mind → Mind
win name p v = mind v.parts ((name, p) ∷ v.known) (v.won ++ (name, p) ∷ [])

abbrev Sat : Type 0
Sat = Me (Unit {0}) Mind

-- the pointer that the word shows is known
abbrev pub Looked : Step (Unit {0}) → Sat → ℕ → Sat → Type 0
Looked st m found m' = (o : Option Place) × (pointer_word o ≡ found) × (m' ≡ (learn st.word o m.0, m.1)) × Lasts m.0.known st.word o

-- the word was 0, and the place of the new word is won; or the place that the word shows is known
abbrev pub RacedBy : Bool → Step (Unit {0}) → Sat → ℕ → Sat → Type 0
RacedBy true st m found m' = (p : Place) × (place_word p ≡ st.second) × (m' ≡ (win st.word p m.0, m.1)) × (known_in m.0.known st.word ≡ None)
RacedBy false st m found m' = (p : Place) × (place_word p ≡ found) × (m' ≡ (learn st.word (Some p) m.0, m.1)) × Lasts m.0.known st.word (Some p)

abbrev pub Raced : Step (Unit {0}) → Sat → ℕ → Sat → Type 0
Raced st m found m' = RacedBy (found == 0) st m found m'
