-- What all seats drew, as it is gathered from the last seat to the first, and what follows from how often each number stands in it.
use Rattle.std.proofs.Common.{◌≡◌, ◌≢◌, ℕ, ◌+◌, ◌<◌, ◌≤◌, ◌==◌, ◌||◌, Bool, true, false, List, [], ◌∷◌, ◌++◌, take, min, length, length-append, Option, Some, None, IfSome, MatchOption, get_or, ltb, not, inl, inr, nat_eq, eq-eqb, ne_eqb, refl, sym, ap, ◌∙◌, subst, ⊎_elim, append_assoc, arith}
use Rattle.std.proofs.lemmas.List.{append-nil}
use Rattle.std.proofs.lemmas.List.Elements.{All-pop, All-contains_itself}
use Rattle.std.proofs.lemmas.Option.{slice_get_within, get_or_from_slice_get, slice_get-get_or}
use Rattle.std.proofs.lemmas.Bool.{cases_lt, lt-ltb, le-ltb}
use Rattle.std.specs.Option.{is_some}
use Rattle.std.specs.List.Sorted.{IsStrictlyIncreasing}
use Rattle.std.proofs.lemmas.List.Kept.{AllPairs-from_increasing}
use Rattle.std.proofs.lemmas.Map.Made.{IsDistinct-from_AllPairs}
use Rattle.std.proofs.lemmas.Bool.Decides.{Decides-eqb}
use Rattle.std.proofs.lemmas.Bool.{eqb-false}
use Rattle.std.proofs.lemmas.Map.Keys.{IsDistinct-head, IsDistinct-tail, IsDistinct-cons}
use Rattle.std.specs.List.{All, Contains, AllByRecursion, IsDistinct, slice_get}
use Rattle.std.specs.Prelude.{if◌then◌else◌}
use mathlib.Core.Logic.{dite}
use native.Mathlib.Decide.{ℕ_discrete}
use Rattle.atomic_table.specs.Seated.{TableId}
use Rattle.model.specs.Total.{one_if}
use Rattle.block_pool.specs.Drawn.{times_in, after_draw}
use Rattle.block_pool.specs.ClaimsValue.{Source, SeatValue, IsSeatOf, all_drawn, any_out}
use Rattle.block_pool.proofs.DrawLemmas.{times-take, IsEnd}
use Rattle.block_pool.specs.declared.claims.claim_plays.Share.{Share}
use Rattle.block_pool.proofs.Containing.{Contains-first, Contains-later, Contains-cons_cases}

pub all_drawn-snoc : (xs : List SeatValue) (p : SeatValue) → all_drawn xs ++ p.drawn ≡ all_drawn (xs ++ p ∷ [])
all_drawn-snoc [] p = sym (append-nil p.drawn)
all_drawn-snoc (x ∷ xs) p = append_assoc x.drawn (all_drawn xs) p.drawn ∙ ap (λ (ys : List ℕ). x.drawn ++ ys) (all_drawn-snoc xs p)

-- how many seats found none left
abbrev pub outs_of : List SeatValue → ℕ
outs_of [] = 0
outs_of (p ∷ ps) = one_if p.out + outs_of ps

pub outs_of-snoc : (xs : List SeatValue) (p : SeatValue) → outs_of xs + one_if p.out ≡ outs_of (xs ++ p ∷ [])
outs_of-snoc [] p = omega arith
outs_of-snoc (x ∷ xs) p = let r = outs_of-snoc xs p in omega arith

any_out-first : (x : SeatValue) (xs : List SeatValue) → (any_out xs ≡ true → 0 < outs_of xs) → any_out (x ∷ xs) ≡ true → (b : Bool) → x.out ≡ b → 0 < outs_of (x ∷ xs)
any_out-first x xs later e true is = rw is (omega arith)
any_out-first x xs later e false is = let r = later (sym (ap (λ (b : Bool). b || any_out xs) is) ∙ e) in rw is (omega arith)

pub any_out-counted : (xs : List SeatValue) → any_out xs ≡ true → 0 < outs_of xs
any_out-counted [] e = cc
any_out-counted (x ∷ xs) e = any_out-first x xs (any_out-counted xs) e x.out refl

pub outs_left : (left : List SeatValue) (outs : ℕ) (all : List SeatValue) → left ≡ [] → outs_of left + outs ≡ outs_of all → any_out all ≡ true → 0 < outs
outs_left left outs all none sum some_out = let counted = any_out-counted all some_out in let e : outs_of left ≡ 0 = ap outs_of none in omega arith

-- what the last seat and the rest drew
pub record IsPopped (name : TableId) (all rest : List SeatValue) (p : SeatValue) : Type 0 where
  pub rest_each : All (λ s. s.source.name ≡ name) rest
  pub last : p.source.name ≡ name
  pub many : length all ≡ length rest + 1
  pub drawn : all_drawn rest ++ p.drawn ≡ all_drawn all
  pub outs : outs_of rest + one_if p.out ≡ outs_of all

pub popped : (name : TableId) (all rest : List SeatValue) (p : SeatValue) → all ≡ rest ++ p ∷ [] → All (λ s. s.source.name ≡ name) all → IsPopped name all rest p
popped name all rest p is each = let h = All-pop (λ (s : SeatValue). s.source.name ≡ name) all rest (Some p) is each in record {
  rest_each = h.0;
  last = h.1;
  many = ap length is ∙ (length-append rest (p ∷ []) ∙ omega arith);
  drawn = all_drawn-snoc rest p ∙ ap all_drawn (sym is);
  outs = outs_of-snoc rest p ∙ ap outs_of (sym is);
}

-- the rest of the seats of these claims
pub belong : (source : Source) (all rest : List SeatValue) (p : SeatValue) (name : TableId) → all ≡ rest ++ p ∷ [] → All (IsSeatOf source) all → source.name ≡ name → All (λ s. s.source.name ≡ name) rest
belong source all rest p name is each named = λ k d low. ap (λ (s : Source). s.name) ((All-pop (IsSeatOf source) all rest (Some p) is each).0 k d low) ∙ named

pub gathered : (rest mine seat all whole : List ℕ) → rest ++ seat ≡ all → all ++ mine ≡ whole → rest ++ (seat ++ mine) ≡ whole
gathered rest mine seat all whole is e = sym (append_assoc rest seat mine) ∙ (ap (λ (ys : List ℕ). ys ++ mine) is ∙ e)

-- what a first number counts
abbrev one : ℕ
one = 1

counts : (y x : ℕ) → y ≡ x → (if y == x then one else 0) ≡ 1
counts y x is = ap (λ (b : Bool). if b then one else 0) (eq-eqb y x is)

counts_none : (y x : ℕ) → y ≢ x → (if y == x then one else 0) ≡ 0
counts_none y x ne = ap (λ (b : Bool). if b then one else 0) (ne_eqb y x ne)

-- a number that stands in a list
pub Contains-times : (x : ℕ) (xs : List ℕ) → 0 < times_in x xs → Contains xs x
Contains-times x [] h = absurd (omega arith)
Contains-times x (y ∷ ys) h = dite (ℕ_discrete y x)
    (λ is. subst (λ (n : ℕ). Contains (y ∷ ys) n) is (Contains-first y ys))
    (λ ne. Contains-later y x ys (Contains-times x ys (let e = counts_none y x ne in omega arith)))

pub times-Contains : (x : ℕ) (xs : List ℕ) → Contains xs x → 0 < times_in x xs
times-Contains x [] (k, h, e) = absurd (omega arith)
times-Contains x (y ∷ ys) c = ⊎_elim
    (λ (is : y ≡ x). let e = counts y x is in omega arith)
    (λ (later : Contains ys x). let r = times-Contains x ys later in omega arith) (Contains-cons_cases y x ys c)

-- no number stands twice in a list exactly where each stands in it once at most
times-none : (k : ℕ) (ks : List ℕ) → AllByRecursion (λ y. nat_eq k y ≡ false) ks → times_in k ks ≡ 0
times-none k [] h = refl
times-none k (y ∷ ys) h = let r = times-none k ys h.1 in let e = counts_none y k (λ is. eqb-false k y h.0 (sym is)) in omega arith

none-times : (k : ℕ) (ks : List ℕ) → times_in k ks ≡ 0 → AllByRecursion (λ y. nat_eq k y ≡ false) ks
none-times k [] h = tt
none-times k (y ∷ ys) h = (ne_eqb k y (λ is. let e = counts y k (sym is) in absurd (omega arith)), none-times k ys (omega arith))

pub times-distinct : (ks : List ℕ) → IsDistinct nat_eq ks → (x : ℕ) → times_in x ks ≤ 1
times-distinct [] h x = omega arith
times-distinct (y ∷ ys) h x = let r = times-distinct ys (IsDistinct-tail nat_eq y ys h) x in dite (ℕ_discrete y x)
    (λ is. let none = times-none y ys (IsDistinct-head nat_eq y ys h) in let e = counts y x is in let z : times_in x ys ≡ times_in y ys = ap (λ (n : ℕ). times_in n ys) (sym is) in omega arith)
    (λ ne. let e = counts_none y x ne in omega arith)

pub IsDistinct-nil : IsDistinct nat_eq []
unfolding IsDistinct
IsDistinct-nil = tt

pub distinct-times : (ks : List ℕ) → ((x : ℕ) → times_in x ks ≤ 1) → IsDistinct nat_eq ks
distinct-times [] h = IsDistinct-nil
distinct-times (y ∷ ys) h = IsDistinct-cons nat_eq y ys
    (none-times y ys (let one = h y in let e = counts y y refl in omega arith))
    (distinct-times ys (λ x. let one = h x in omega arith))

-- the same of no seats
pub IsDistinct-none : (seats : List SeatValue) → seats ≡ [] → IsDistinct nat_eq (all_drawn seats)
IsDistinct-none seats none = subst (λ (all : List SeatValue). IsDistinct nat_eq (all_drawn all)) (sym none) IsDistinct-nil

-- what the seats drew, as those know who gathered it
pub record IsClosed (free : List ℕ) (k : ℕ) (seats : List SeatValue) : Type 0 where
  pub count : length (all_drawn seats) ≡ k
  pub first : (x : ℕ) → times_in x (all_drawn seats) ≡ times_in x (take k free)
  pub once : IsDistinct nat_eq (all_drawn seats)
  pub members : All (Contains free) (all_drawn seats)
  pub used_up : any_out seats ≡ true → k ≡ length free

pub closed : (free known : List ℕ) (k word : ℕ) (v : Share) (seats all : List SeatValue) → known ≡ free → IsDistinct nat_eq free → IsEnd known (length v.drawn) word v → seats ≡ all → v.drawn ≡ all_drawn all → (any_out all ≡ true → 0 < v.outs) → k ≡ min word (length free) → IsClosed free k seats
closed free known k word v seats all is_free distinct known_end is_all drawn_all outs_all is =
    let e : IsEnd free (length v.drawn) word v = subst (λ (ns : List ℕ). IsEnd ns (length v.drawn) word v) is_free known_end in
    let drawn : v.drawn ≡ all_drawn seats = drawn_all ∙ ap all_drawn (sym is_all) in
    let outs : any_out seats ≡ true → 0 < v.outs = λ some_out. outs_all (ap any_out (sym is_all) ∙ some_out) in
    let same : length v.drawn ≡ k = sym e.read ∙ sym is in
    let first : (x : ℕ) → times_in x (all_drawn seats) ≡ times_in x (take k free) = λ x. ap (times_in x) (sym drawn) ∙ (e.once x ∙ ap (λ (n : ℕ). times_in x (take n free)) same) in
    record {
      count = ap length (sym drawn) ∙ same;
      first = first;
      once = distinct-times (all_drawn seats) (λ x. let f = first x in let t = times-take x k free in let d = times-distinct free distinct x in omega arith);
      members = λ i d low. let x : ℕ = get_or (all_drawn seats) i d in
          Contains-times x free (let here = times-Contains x (all_drawn seats) (All-contains_itself (all_drawn seats) i d low) in let f = first x in let t = times-take x k free in omega arith);
      used_up = λ some_out. sym same ∙ e.all (outs some_out);
    }

-- what a draw reads was not drawn before, where the counter tells so
pub fresh_read : (mine free drawn : List ℕ) (at : ℕ) (found : Option ℕ) → mine ≡ free → found ≡ slice_get free at → (at < length mine → times_in (get_or mine at 0) drawn ≡ 0) → IfSome found (λ n. ¬ Contains drawn n)
fresh_read mine free drawn at None same is fresh = tt
fresh_read mine free drawn at (Some x) same is fresh =
    λ c.
    let long = ap length same in
    let low = slice_get_within free at x (sym is) in
    let reads : x ≡ get_or mine at 0 = sym (get_or_from_slice_get free at x 0 (sym is)) ∙ ap (λ (ns : List ℕ). get_or ns at 0) (sym same) in
    let here = times-Contains x drawn c in
    let none = fresh (omega arith) in
    let e : times_in x drawn ≡ times_in (get_or mine at 0) drawn = ap (λ (m : ℕ). times_in m drawn) reads in
    absurd (omega arith)

-- a seat as its parts show it
abbrev pub seat_value : TableId → Share → Bool → SeatValue
seat_value name me out = record { source = record { name = name; free = me.free; seats = me.seats }; drawn = me.drawn; out = out }

-- the seat after a draw
pub drew : (name name' : TableId) (me me' : Share) (out out' : Bool) (old : SeatValue) (free : List ℕ) (at : ℕ) (found : Option ℕ) → seat_value name me out ≡ old → out ≡ false → name' ≡ name → me' ≡ after_draw me at (ltb at (length me.free)) → me.free ≡ free → found ≡ slice_get free at → is_some found ≡ not out'
    → MatchOption found (seat_value name' me' out' ≡ record { source = old.source; drawn = old.drawn; out = true }) (λ n. (seat_value name' me' out' ≡ record { source = old.source; drawn = old.drawn ++ n ∷ []; out = old.out }) × Contains free n)
drew name name' me me' out true old free at None view is named after same found some =
    let past : length me.free ≤ at =
    elim (cases_lt at (length me.free)) [
      | inl h ↦ let no : None ≡ Some (get_or free at 0) = found ∙ slice_get-get_or free at 0 (omega (arith, ap length same)) in cc
      | inr h ↦ h
    ]
    in
    let now : me' ≡ after_draw me at false = after ∙ ap (after_draw me at) (le-ltb at (length me.free) past) in
    ap (λ n. seat_value n me' true) named ∙ ap (λ m. seat_value name m true) now ∙ ap (λ (v : SeatValue). record { source = v.source; drawn = v.drawn; out = true }) view
drew name name' me me' out false old free at None view is named after same found some = cc
drew name name' me me' out true old free at (Some n) view is named after same found some = cc
drew name name' me me' out false old free at (Some n) view is named after same found some =
    let low : at < length free = slice_get_within free at n (sym found) in
    let read : get_or me.free at 0 ≡ n = ap (λ l. get_or l at 0) same ∙ get_or_from_slice_get free at n 0 (sym found) in
    let now : me' ≡ after_draw me at true = after ∙ ap (after_draw me at) (lt-ltb at (length me.free) (omega (arith, ap length same))) in
    let was : seat_value name me false ≡ old = ap (seat_value name me) (sym is) ∙ view in
    let parts : seat_value name' me' false ≡ record { source = old.source; drawn = old.drawn ++ n ∷ []; out = old.out } =
    ap (λ m. seat_value m me' false) named
    ∙ ap (λ m. seat_value name m false) now
    ∙ ap (λ (v : SeatValue). record { source = v.source; drawn = v.drawn ++ get_or me.free at 0 ∷ []; out = v.out }) was
    ∙ ap (λ m. record { source = old.source; drawn = old.drawn ++ m ∷ []; out = old.out }) read
    in
    (parts, (at, low, get_or_from_slice_get free at n n (sym found)))

-- numbers that rise
pub IsDistinct-rising : (xs : List ℕ) → IsStrictlyIncreasing xs → IsDistinct nat_eq xs
IsDistinct-rising xs rising = let below = AllPairs-from_increasing xs rising in IsDistinct-from_AllPairs Decides-eqb xs (λ i j d low high is. let l = below i j d low high in absurd (omega arith))
