-- What all seats count as and have seen, as it is gathered from the last seat to the first.
use Rattle.std.proofs.Common.{◌≡◌, ℕ, ◌+◌, ◌≤◌, true, false, Bool, List, [], ◌∷◌, ◌++◌, length, max, Some, sym, refl, ap, ◌∙◌, arith, length-append}
use Rattle.std.proofs.Math.Nat.{le-max_left, le-max_right}
use Rattle.std.proofs.lemmas.List.Elements.{All-pop, All-nil, All-cons, All-same, All-weaker}
use Rattle.std.proofs.lemmas.List.Sums.{sum_by_push, sum_by-cons, count_by-le-length}
use Rattle.std.specs.List.{All, count_by}
use Rattle.atomic_table.specs.Seated.{TableId}
use Rattle.model.specs.Total.{one_if}
use Rattle.idle_count.specs.declared.idle_plays.Share.{Share}
use Rattle.idle_count.proofs.IdleLemmas.{IsEnd}
use Rattle.idle_count.specs.IdleValue.{IdleValue, IdleSeatValue, IsSeatOf, HasEnded}

abbrev pub idles_of : List IdleSeatValue → ℕ
idles_of seats = count_by (λ (s : IdleSeatValue). s.idle) seats

pub idles_of-snoc : (xs : List IdleSeatValue) (p : IdleSeatValue) → idles_of (xs ++ p ∷ []) ≡ idles_of xs + one_if p.idle
idles_of-snoc xs p = sum_by_push (λ (s : IdleSeatValue). one_if s.idle) xs p

-- the greatest count that any of the seats has seen
abbrev pub most_seen : List IdleSeatValue → ℕ
most_seen [] = 0
most_seen (p ∷ ps) = max p.seen (most_seen ps)

pub most_seen-snoc : (xs : List IdleSeatValue) (p : IdleSeatValue) → max (most_seen xs) p.seen ≡ most_seen (xs ++ p ∷ [])
most_seen-snoc [] p = omega arith
most_seen-snoc (x ∷ xs) p = let r = most_seen-snoc xs p in omega arith

seen_below : (n : ℕ) (xs : List IdleSeatValue) → most_seen xs ≤ n → All (λ s. s.seen ≤ n) xs
seen_below n [] h = All-nil (λ (s : IdleSeatValue). s.seen ≤ n)
seen_below n (x ∷ xs) h =
    let a = le-max_left x.seen (most_seen xs) in
    let b = le-max_right x.seen (most_seen xs) in
    All-cons (λ (s : IdleSeatValue). s.seen ≤ n) x xs (omega arith) (seen_below n xs (omega arith))

-- all seats, once none is left to gather
pub all_below : (left : List IdleSeatValue) (n : ℕ) (all : List IdleSeatValue) → left ≡ [] → max (most_seen left) n ≡ most_seen all → All (λ s. s.seen ≤ n) all
all_below left n all gone e = seen_below n all (let z : most_seen left ≡ 0 = ap most_seen gone in omega arith)

-- what the last seat and the rest count as and have seen
pub record IsPopped (name : TableId) (all rest : List IdleSeatValue) (p : IdleSeatValue) : Type 0 where
  pub rest_each : All (λ s. s.name ≡ name) rest
  pub last : p.name ≡ name
  pub many : length all ≡ length rest + 1
  pub idles : idles_of all ≡ idles_of rest + one_if p.idle
  pub seen : max (most_seen rest) p.seen ≡ most_seen all

pub popped : (name : TableId) (all rest : List IdleSeatValue) (p : IdleSeatValue) → all ≡ rest ++ p ∷ [] → All (λ s. s.name ≡ name) all → IsPopped name all rest p
popped name all rest p is each = let h = All-pop (λ (s : IdleSeatValue). s.name ≡ name) all rest (Some p) is each in record {
  rest_each = h.0;
  last = h.1;
  many = ap length is ∙ (length-append rest (p ∷ []) ∙ omega arith);
  idles = ap idles_of is ∙ idles_of-snoc rest p;
  seen = most_seen-snoc rest p ∙ ap most_seen (sym is);
}

-- the seats of a count have its name
pub named : (count : IdleValue) (name : TableId) (all : List IdleSeatValue) → count.name ≡ name → All (IsSeatOf count) all → All (λ s. s.name ≡ name) all
named count name all is each = All-weaker (IsSeatOf count) (λ (s : IdleSeatValue). s.name ≡ name) (λ s h. h.name ∙ is) all each

one_at_most : (b : Bool) → one_if b ≤ 1
one_at_most true = omega arith
one_at_most false = omega arith

one_idle : (b : Bool) → one_if b ≡ 1 → b ≡ true
one_idle true e = refl
one_idle false e = absurd (omega arith)

-- as many idle seats as seats
pub all_idle : (xs : List IdleSeatValue) → idles_of xs ≡ length xs → All (λ s. s.idle ≡ true) xs
all_idle [] e = All-nil (λ (s : IdleSeatValue). s.idle ≡ true)
all_idle (x ∷ xs) e =
    let sum : idles_of (x ∷ xs) ≡ one_if x.idle + idles_of xs = sum_by-cons (λ (s : IdleSeatValue). one_if s.idle) x xs in
    let most : idles_of xs ≤ length xs = count_by-le-length (λ (s : IdleSeatValue). s.idle) xs in
    let one = one_at_most x.idle in
    All-cons (λ (s : IdleSeatValue). s.idle ≡ true) x xs (one_idle x.idle (omega arith)) (all_idle xs (omega arith))

-- what the seats count as, as those know who gathered it
pub record IsClosed (count : IdleValue) (k : ℕ) (seats : List IdleSeatValue) : Type 0 where
  pub idles : k ≡ idles_of seats
  pub most : k ≤ count.seats
  pub ended : All (λ s. HasEnded s → k ≡ count.seats) seats
  pub all : k ≡ count.seats → All (λ s. s.idle ≡ true) seats

pub closed : (count : IdleValue) (k : ℕ) (v : Share) (seats all : List IdleSeatValue) → IsEnd count.seats k v → seats ≡ all → All (IsSeatOf count) seats → length seats ≡ count.seats
    → v.idles ≡ idles_of all → All (λ s. s.seen ≤ v.seen) all → IsClosed count k seats
closed count k v seats all end is each many idles low =
    let sum : k ≡ idles_of seats = end.idles ∙ (idles ∙ ap idles_of (sym is)) in
    record {
      idles = sum;
      most = (let m = end.most in let i = end.idles in omega arith);
      ended = λ i d in_range has_ended.
          let seen = All-same (λ (s : IdleSeatValue). s.seen ≤ v.seen) seats all is low i d in_range in
          let same = (each i d in_range).seats in
          end.ended (omega arith) (omega arith);
      all = λ e. all_idle seats (sym sum ∙ (e ∙ sym many));
    }
