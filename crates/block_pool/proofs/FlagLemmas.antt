-- The numbers of the flags that are set, as flags are set and cleared.
use Rattle.std.proofs.Common.{◌≡◌, ◌≢◌, ℕ, zero, suc, ◌+◌, ◌<◌, ◌≤◌, ◌⊎◌, ◌↔◌, inl, inr, Bool, true, false, eqb, ltb, List, [], ◌∷◌, ◌++◌, length, get_or, set, take, drop, replicate, refl, sym, ap, subst, ◌∙◌, arith}
use Rattle.std.specs.List.{Contains, All, range_with_len}
use Rattle.std.specs.List.Sorted.{IsStrictlyIncreasing}
use Rattle.std.proofs.lemmas.Bool.{ne_eqb, eq-eqb, lt-ltb, le-ltb, cases_eq, cases_lt, false_from_ne_true}
use Rattle.std.proofs.lemmas.List.{get_or-set_same, get_or-set_other, get_or_default, get_or_past, length-take, append-nil, get_or-drop, take-append-drop}
use Rattle.block_pool.proofs.Containing.{Contains-first, Contains-later, Contains-cons_cases}
use Rattle.block_pool.specs.Members.{set_from, without, insert_rising}
use Rattle.block_pool.specs.NumberSetsWords.{NoneSetBelow, NoneSetFrom}

-- a number is there exactly where its flag is set
pub set_from-has : (first : ℕ) (bs : List Bool) (k : ℕ) → get_or bs k false ≡ true → Contains (set_from first bs) (first + k)
set_from-has first [] k e = cc
set_from-has first (true ∷ bs) zero e = let P : ℕ → Type 0 = λ n. Contains (first ∷ set_from (first + 1) bs) n in let same : first ≡ first + 0 = omega arith in subst P same (Contains-first first (set_from (first + 1) bs))
set_from-has first (false ∷ bs) zero e = cc
set_from-has first (true ∷ bs) (suc k) e =
    let P : ℕ → Type 0 = λ n. Contains (set_from (first + 1) bs) n in
    let same : first + 1 + k ≡ first + suc k = omega arith in
    Contains-later first (first + suc k) (set_from (first + 1) bs) (subst P same (set_from-has (first + 1) bs k e))
set_from-has first (false ∷ bs) (suc k) e =
    let P : ℕ → Type 0 = λ n. Contains (set_from (first + 1) bs) n in
    let same : first + 1 + k ≡ first + suc k = omega arith in
    subst P same (set_from-has (first + 1) bs k e)

pub set_from-at : (first : ℕ) (bs : List Bool) (n : ℕ) → Contains (set_from first bs) n → (k : ℕ) × (n ≡ first + k) × (get_or bs k false ≡ true)
set_from-at first [] n (k, h, e) = absurd (omega arith)
set_from-at first (true ∷ bs) n c =
    elim (Contains-cons_cases first n (set_from (first + 1) bs) c) [
      | inl e ↦ (0, omega arith, refl)
      | inr later ↦ let rest = set_from-at (first + 1) bs n later in (suc rest.0, omega (arith, rest.1), rest.2)
    ]
set_from-at first (false ∷ bs) n c =
    let rest = set_from-at (first + 1) bs n c in (suc rest.0, omega (arith, rest.1), rest.2)

pub is_set-from_contains : (bs : List Bool) (n : ℕ) → Contains (set_from 0 bs) n → get_or bs n false ≡ true
is_set-from_contains bs n c =
    let there = set_from-at 0 bs n c in
    let same : n ≡ there.0 = omega (arith, there.1) in rw same there.2

pub contains-from_is_set : (bs : List Bool) (n : ℕ) → get_or bs n false ≡ true → Contains (set_from 0 bs) n
contains-from_is_set bs n e =
    let P : ℕ → Type 0 = λ m. Contains (set_from 0 bs) m in
    let same : 0 + n ≡ n = omega arith in subst P same (set_from-has 0 bs n e)

-- the numbers begin at the first and end before the last, and they rise
pub set_from-bounds : (first : ℕ) (bs : List Bool) (k d : ℕ) → k < length (set_from first bs) → (first ≤ get_or (set_from first bs) k d) × (get_or (set_from first bs) k d < first + length bs)
set_from-bounds first [] k d h = absurd (omega arith)
set_from-bounds first (true ∷ bs) zero d h = (omega arith, omega arith)
set_from-bounds first (true ∷ bs) (suc k) d h =
    let rest = set_from-bounds (first + 1) bs k d (omega arith) in (omega (arith, rest.0), omega (arith, rest.1))
set_from-bounds first (false ∷ bs) k d h =
    let rest = set_from-bounds (first + 1) bs k d h in (omega (arith, rest.0), omega (arith, rest.1))

pub set_from-rises : (first : ℕ) (bs : List Bool) → IsStrictlyIncreasing (set_from first bs)
set_from-rises first [] k h = absurd (omega arith)
set_from-rises first (true ∷ bs) zero h =
    let low : first + 1 ≤ get_or (set_from (first + 1) bs) 0 0 = (set_from-bounds (first + 1) bs 0 0 (omega arith)).0 in omega arith
set_from-rises first (true ∷ bs) (suc k) h =
    let same : suc k + 1 ≡ suc (k + 1) = omega arith in rw same (set_from-rises (first + 1) bs k (omega arith))
set_from-rises first (false ∷ bs) k h = set_from-rises (first + 1) bs k h

-- all flags set
pub set_from-all : (first n : ℕ) → set_from first (replicate n true) ≡ range_with_len first n
set_from-all first zero = refl
set_from-all first (suc n) = ap (λ l. first ∷ l) (set_from-all (first + 1) n)

-- a number that is below all of them
without-below : (n first : ℕ) (bs : List Bool) → n < first → without n (set_from first bs) ≡ set_from first bs
without-below n first [] h = refl
without-below n first (true ∷ bs) h =
    let test : eqb first n ≡ false = ne_eqb first n (λ e. absurd (omega arith)) in
    rw test (ap (λ l. first ∷ l) (without-below n (first + 1) bs (omega arith)))
without-below n first (false ∷ bs) h = without-below n (first + 1) bs (omega arith)

insert_rising-below : (n first : ℕ) (bs : List Bool) → n < first → insert_rising n (set_from first bs) ≡ n ∷ set_from first bs
insert_rising-below n first [] h = refl
insert_rising-below n first (true ∷ bs) h = rw (lt-ltb n first h) refl
insert_rising-below n first (false ∷ bs) h = insert_rising-below n (first + 1) bs (omega arith)

-- a flag cleared
pub set_from-cleared : (first : ℕ) (bs : List Bool) (k : ℕ) → set_from first (set bs k false) ≡ without (first + k) (set_from first bs)
set_from-cleared first [] k = refl
set_from-cleared first (true ∷ bs) zero =
    let test : eqb first (first + 0) ≡ true = eq-eqb first (first + 0) (omega arith) in
    rw test (sym (without-below (first + 0) (first + 1) bs (omega arith)))
set_from-cleared first (false ∷ bs) zero = sym (without-below (first + 0) (first + 1) bs (omega arith))
set_from-cleared first (true ∷ bs) (suc k) =
    let test : eqb first (first + suc k) ≡ false = ne_eqb first (first + suc k) (λ e. absurd (omega arith)) in
    let same : first + 1 + k ≡ first + suc k = omega arith in
    let P : ℕ → Type 0 = λ n. set_from (first + 1) (set bs k false) ≡ without n (set_from (first + 1) bs) in
    rw test (ap (λ l. first ∷ l) (subst P same (set_from-cleared (first + 1) bs k)))
set_from-cleared first (false ∷ bs) (suc k) =
    let same : first + 1 + k ≡ first + suc k = omega arith in
    let P : ℕ → Type 0 = λ n. set_from (first + 1) (set bs k false) ≡ without n (set_from (first + 1) bs) in
    subst P same (set_from-cleared (first + 1) bs k)

pub length-set_from-cleared : (first : ℕ) (bs : List Bool) (k : ℕ) → get_or bs k false ≡ true → length (set_from first (set bs k false)) + 1 ≡ length (set_from first bs)
length-set_from-cleared first [] k e = cc
length-set_from-cleared first (true ∷ bs) zero e = omega arith
length-set_from-cleared first (false ∷ bs) zero e = cc
length-set_from-cleared first (true ∷ bs) (suc k) e = omega (arith, length-set_from-cleared (first + 1) bs k e)
length-set_from-cleared first (false ∷ bs) (suc k) e = length-set_from-cleared (first + 1) bs k e

-- a flag set
pub set_from-set : (first : ℕ) (bs : List Bool) (k : ℕ) → k < length bs → get_or bs k false ≡ false → set_from first (set bs k true) ≡ insert_rising (first + k) (set_from first bs)
set_from-set first [] k h e = absurd (omega arith)
set_from-set first (true ∷ bs) zero h e = cc
set_from-set first (false ∷ bs) zero h e =
    let same : first ≡ first + 0 = omega arith in
    rw (← same) (sym (insert_rising-below first (first + 1) bs (omega arith)))
set_from-set first (true ∷ bs) (suc k) h e =
    let test : ltb (first + suc k) first ≡ false = le-ltb (first + suc k) first (omega arith) in
    let same : first + 1 + k ≡ first + suc k = omega arith in
    let P : ℕ → Type 0 = λ n. set_from (first + 1) (set bs k true) ≡ insert_rising n (set_from (first + 1) bs) in
    rw test (ap (λ l. first ∷ l) (subst P same (set_from-set (first + 1) bs k (omega arith) e)))
set_from-set first (false ∷ bs) (suc k) h e =
    let same : first + 1 + k ≡ first + suc k = omega arith in
    let P : ℕ → Type 0 = λ n. set_from (first + 1) (set bs k true) ≡ insert_rising n (set_from (first + 1) bs) in
    subst P same (set_from-set (first + 1) bs k (omega arith) e)

pub length-set_from-set : (first : ℕ) (bs : List Bool) (k : ℕ) → k < length bs → get_or bs k false ≡ false → length (set_from first (set bs k true)) ≡ length (set_from first bs) + 1
length-set_from-set first [] k h e = absurd (omega arith)
length-set_from-set first (true ∷ bs) zero h e = cc
length-set_from-set first (false ∷ bs) zero h e = omega arith
length-set_from-set first (true ∷ bs) (suc k) h e = omega (arith, length-set_from-set (first + 1) bs k (omega arith) e)
length-set_from-set first (false ∷ bs) (suc k) h e = length-set_from-set (first + 1) bs k (omega arith) e

-- the first flag that is set
pub set_from-first : (first : ℕ) (bs : List Bool) (n : ℕ) → NoneSetBelow bs n → get_or bs n false ≡ true → set_from first bs ≡ (first + n) ∷ set_from first (set bs n false)
set_from-first first [] n none e = cc
set_from-first first (true ∷ bs) zero none e =
    let same : first ≡ first + 0 = omega arith in ap (λ n. n ∷ set_from (first + 1) bs) same
set_from-first first (false ∷ bs) zero none e = cc
set_from-first first (true ∷ bs) (suc n) none e = let no : true ≡ false = none 0 (omega arith) in cc
set_from-first first (false ∷ bs) (suc n) none e =
    let same : first + 1 + n ≡ first + suc n = omega arith in
    rw (← same) (set_from-first (first + 1) bs n (λ k h. none (suc k) (omega arith)) e)

pub set_from-none : (first : ℕ) (bs : List Bool) → NoneSetBelow bs (length bs) → set_from first bs ≡ []
set_from-none first [] none = refl
set_from-none first (true ∷ bs) none = let no : true ≡ false = none 0 (omega arith) in cc
set_from-none first (false ∷ bs) none = set_from-none (first + 1) bs (λ k h. none (suc k) (omega arith))

-- a flag that is set is one of the flags
pub is_set-in_limit : (bs : List Bool) (n : ℕ) → get_or bs n false ≡ true → n < length bs
is_set-in_limit bs n e =
    elim (cases_lt n (length bs)) [ inl h ↦ h | inr h ↦ let past : get_or bs n false ≡ false = get_or_past bs n false h in cc ]

pub contains-in_limit : (bs : List Bool) (n : ℕ) → Contains (set_from 0 bs) n → n < length bs
contains-in_limit bs n c = is_set-in_limit bs n (is_set-from_contains bs n c)

pub not_set-from_not_contains : (bs : List Bool) (n : ℕ) → (Contains (set_from 0 bs) n → ⊥) → get_or bs n false ≡ false
not_set-from_not_contains bs n fails = false_from_ne_true (get_or bs n false) (λ e. fails (contains-from_is_set bs n e))

get_or-cleared : (bs : List Bool) (k : ℕ) → get_or (set bs k false) k false ≡ false
get_or-cleared [] k = refl
get_or-cleared (b ∷ bs) zero = refl
get_or-cleared (b ∷ bs) (suc k) = get_or-cleared bs k

-- which numbers are there after a flag was cleared, and after one was set
pub contains-cleared : (bs : List Bool) (k n : ℕ) → Contains (set_from 0 (set bs k false)) n ↔ (Contains (set_from 0 bs) n × (n ≢ k))
contains-cleared bs k n = (
  λ c.
      let is : get_or (set bs k false) n false ≡ true = is_set-from_contains (set bs k false) n c in
      elim (cases_eq n k) [
        | inl e ↦ let no : get_or (set bs k false) n false ≡ false = rw e (get_or-cleared bs k) in cc
        | inr ne ↦ (contains-from_is_set bs n (sym (get_or-set_other bs k n false false ne) ∙ is), ne)
      ],
  λ both. contains-from_is_set (set bs k false) n (get_or-set_other bs k n false false both.1 ∙ is_set-from_contains bs n both.0),
)

pub contains-set : (bs : List Bool) (k n : ℕ) → k < length bs → Contains (set_from 0 (set bs k true)) n ↔ ((n ≡ k) ⊎ Contains (set_from 0 bs) n)
contains-set bs k n h = (
  λ c.
      let is : get_or (set bs k true) n false ≡ true = is_set-from_contains (set bs k true) n c in
      elim (cases_eq n k) [
        | inl e ↦ inl e
        | inr ne ↦ inr (contains-from_is_set bs n (sym (get_or-set_other bs k n true false ne) ∙ is))
      ],
  λ either.
      elim either [
        | inl e ↦ contains-from_is_set (set bs k true) n (rw e (get_or-set_same bs k true false h))
        | inr c ↦
            elim (cases_eq n k) [
              | inl e ↦ contains-from_is_set (set bs k true) n (rw e (get_or-set_same bs k true false h))
              | inr ne ↦ contains-from_is_set (set bs k true) n (get_or-set_other bs k n true false ne ∙ is_set-from_contains bs n c)
            ]
      ],
)

-- the numbers after a flag was cleared, and after one was set
pub without-cleared : (bs : List Bool) (k : ℕ) → set_from 0 (set bs k false) ≡ without k (set_from 0 bs)
without-cleared bs k =
    let P : ℕ → Type 0 = λ n. set_from 0 (set bs k false) ≡ without n (set_from 0 bs) in
    let same : 0 + k ≡ k = omega arith in subst P same (set_from-cleared 0 bs k)

pub insert_rising-set : (bs : List Bool) (k : ℕ) → k < length bs → get_or bs k false ≡ false → set_from 0 (set bs k true) ≡ insert_rising k (set_from 0 bs)
insert_rising-set bs k h e =
    let P : ℕ → Type 0 = λ n. set_from 0 (set bs k true) ≡ insert_rising n (set_from 0 bs) in
    let same : 0 + k ≡ k = omega arith in subst P same (set_from-set 0 bs k h e)

-- there are at most as many numbers as flags
pub length-set_from-le : (first : ℕ) (bs : List Bool) → length (set_from first bs) ≤ length bs
length-set_from-le first [] = omega arith
length-set_from-le first (true ∷ bs) = omega (arith, length-set_from-le (first + 1) bs)
length-set_from-le first (false ∷ bs) = omega (arith, length-set_from-le (first + 1) bs)

-- the numbers are below how many flags there are
pub All-in_limit : (bs : List Bool) → All (λ n. n < length bs) (set_from 0 bs)
All-in_limit bs k d h = let bounds = set_from-bounds 0 bs k d h in omega (arith, bounds.1)

-- the numbers of a pool rise and are below its limit
pub free-rises : (bs : List Bool) (free : List ℕ) → set_from 0 bs ≡ free → IsStrictlyIncreasing free
free-rises bs free e = subst IsStrictlyIncreasing e (set_from-rises 0 bs)

pub free-in_limit : (bs : List Bool) (free : List ℕ) (limit : ℕ) → set_from 0 bs ≡ free → length bs ≡ limit → All (λ n. n < limit) free
free-in_limit bs free limit e l =
    let P : List ℕ → Type 0 = λ ns. All (λ n. n < limit) ns in
    let Q : ℕ → Type 0 = λ m. All (λ n. n < m) (set_from 0 bs) in
    subst P e (subst Q l (All-in_limit bs))

pub none_below-cleared : (bs : List Bool) (n : ℕ) → NoneSetBelow bs n → NoneSetBelow (set bs n false) (n + 1)
none_below-cleared bs n none k h =
    elim (cases_eq k n) [
      | inl same ↦ rw same (get_or-cleared bs n)
      | inr ne ↦ get_or-set_other bs n k false false ne ∙ none k (below_but k n h ne)
    ]
  where
    below_but : (k n : ℕ) → k < n + 1 → k ≢ n → k < n
    below_but k n h ne = omega arith

-- the numbers of the flags of two lists
pub set_from-append : (first : ℕ) (bs cs : List Bool) → set_from first (bs ++ cs) ≡ set_from first bs ++ set_from (first + length bs) cs
set_from-append first [] cs = let same : first ≡ first + 0 = omega arith in ap (λ n. set_from n cs) same
set_from-append first (true ∷ bs) cs =
    let same : first + 1 + length bs ≡ first + suc (length bs) = omega arith in
    ap (λ l. first ∷ l) (rw (← same) (set_from-append (first + 1) bs cs))
set_from-append first (false ∷ bs) cs =
    let same : first + 1 + length bs ≡ first + suc (length bs) = omega arith in
    rw (← same) (set_from-append (first + 1) bs cs)

-- where no flag is set from a place on, the numbers are below it, and no more than it
pub none_past-drop : (bs : List Bool) (n : ℕ) → NoneSetFrom bs n → NoneSetBelow (drop n bs) (length (drop n bs))
none_past-drop bs n none k h = get_or-drop n bs k false ∙ none (n + k) (omega arith)

pub set_from-at_most : (bs : List Bool) (n : ℕ) → NoneSetFrom bs n → length (set_from 0 bs) ≤ n
set_from-at_most bs n none =
    let whole : take n bs ++ drop n bs ≡ bs = take-append-drop n bs in
    let rest : set_from (0 + length (take n bs)) (drop n bs) ≡ [] = set_from-none (0 + length (take n bs)) (drop n bs) (none_past-drop bs n none) in
    let front : length (set_from 0 (take n bs)) ≤ length (take n bs) = length-set_from-le 0 (take n bs) in
    let both : set_from 0 bs ≡ set_from 0 (take n bs) =
    ap (set_from 0) (sym whole) ∙ set_from-append 0 (take n bs) (drop n bs) ∙ ap (λ l. set_from 0 (take n bs) ++ l) rest ∙ append-nil (set_from 0 (take n bs))
    in
    rw both (omega (arith, length-take n bs))

pub contains-below : (bs : List Bool) (limit n : ℕ) → NoneSetFrom bs limit → Contains (set_from 0 bs) n → n < limit
contains-below bs limit n none c =
    elim (cases_lt n limit) [
      | inl h ↦ h
      | inr h ↦
          let is : get_or bs n false ≡ true = is_set-from_contains bs n c in
          let no : get_or bs n false ≡ false = none n h in cc
    ]

pub All-below : (bs : List Bool) (limit : ℕ) → NoneSetFrom bs limit → All (λ n. n < limit) (set_from 0 bs)
All-below bs limit none k d h = contains-below bs limit (get_or (set_from 0 bs) k d) none (k, h, get_or_default (set_from 0 bs) k (get_or (set_from 0 bs) k d) d h)

-- flags cleared, and flags set
pub none_past-cleared : (bs : List Bool) (limit n : ℕ) → NoneSetFrom bs limit → NoneSetFrom (set bs n false) limit
none_past-cleared bs limit n none k h =
    elim (cases_eq k n) [
      | inl same ↦ rw same (get_or-cleared bs n)
      | inr ne ↦ get_or-set_other bs n k false false ne ∙ none k h
    ]

pub none_past-set : (bs : List Bool) (limit n : ℕ) → n < limit → NoneSetFrom bs limit → NoneSetFrom (set bs n true) limit
none_past-set bs limit n below none k h = get_or-set_other bs n k true false (λ same. absurd (omega arith)) ∙ none k h

pub none_below-kept : (bs : List Bool) (place n : ℕ) → NoneSetBelow bs place → NoneSetBelow (set bs n false) place
none_below-kept bs place n none k h =
    elim (cases_eq k n) [
      | inl same ↦ rw same (get_or-cleared bs n)
      | inr ne ↦ get_or-set_other bs n k false false ne ∙ none k h
    ]

pub none_below-set : (bs : List Bool) (low place n : ℕ) → low ≤ place → low ≤ n → NoneSetBelow bs place → NoneSetBelow (set bs n true) low
none_below-set bs low place n most before none k h = get_or-set_other bs n k true false (λ same. absurd (omega arith)) ∙ none k (omega arith)
