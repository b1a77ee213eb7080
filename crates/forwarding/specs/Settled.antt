-- What settling answers: the place of each name that was won.
use Rattle.std.specs.Prelude.{◌≡◌, ◌≤◌, ℕ, List, All, flat_map, Option, Some, None}
use Rattle.layout.specs.declared.place.Place.{Place}
use Rattle.model.specs.Total.{times}

-- names with their places
abbrev pub Pairs : Type 0
Pairs = List (ℕ × Place)

-- how many of the pairs have the name
abbrev pub wins_of : ℕ → Pairs → ℕ
wins_of name pairs = times (λ x. x.0) name pairs

-- 1 where there is a value, and else 0
abbrev pub ones : {X : Type 0} → Option X → ℕ
ones None = 0
ones (Some x) = 1

-- the pairs of all passes, one pass after another
abbrev pub all_pairs : {P : Type 0} → (P → Pairs) → List P → Pairs
all_pairs pairs_of passes = flat_map pairs_of passes

-- each place that is known is the one that f gives its name
abbrev pub KnowsOnly : (ℕ → Option Place) → (ℕ → Option Place) → Type 0
KnowsOnly known f = (name : ℕ) (place : Place) → known name ≡ Some place → f name ≡ Some place

-- where both know a place of a name, it is one place
abbrev pub AgreeWith : (ℕ → Option Place) → (ℕ → Option Place) → Type 0
AgreeWith known others = (name : ℕ) (place other : Place) → known name ≡ Some place → others name ≡ Some other → place ≡ other

-- any two of the passes agree
abbrev pub Agree : {P : Type 0} → (P → ℕ → Option Place) → List P → Type 0
Agree known passes = All (λ p. All (λ q. AgreeWith (known p) (known q)) passes) passes

-- f is the answer for the names below count: each place that a pass knows or won is the one that f gives, and each name that has a place was won once, by one pass, and no other was won
pub record IsSettled {P : Type 0} (known : P → ℕ → Option Place) (won : P → Pairs) (passes : List P) (count : ℕ) (f : ℕ → Option Place) : Type 0 where
  pub known_settled : All (λ p. KnowsOnly (known p) f) passes
  pub won_settled : All (λ x. f x.0 ≡ Some x.1) (all_pairs won passes)
  pub once : (name : ℕ) → wins_of name (all_pairs won passes) ≡ ones (f name)
  pub none_past : (name : ℕ) → count ≤ name → f name ≡ None
