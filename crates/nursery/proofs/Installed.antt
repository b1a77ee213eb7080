-- The objects of blocks put into a heap are those that the blocks brought.
use Rattle.std.proofs.Common.{◌≡◌, ◌≢◌, ℕ, zero, suc, ◌<◌, ◌≤◌, Bool, true, false, List, [], ◌∷◌, length, map, Some, None, refl, sym, ap, subst, ◌∙◌, arith, ⊎_elim, ◌⊎◌, inl, inr, cond, ◌&&◌, ◌||◌}
use Rattle.std.proofs.lemmas.Bool.{cases_eq, true≢false}
use Rattle.std.proofs.lemmas.Bool.Decides.{nat_tests}
use Rattle.std.proofs.lemmas.List.Elements.{All-head, All-tail}
use Rattle.std.specs.Prelude.{nat_eq, nat_lt, All}
use Rattle.std.specs.List.{IsDistinct}
use Rattle.std.specs.Ordering.{nat_cmp}
use Rattle.std.specs.FinMap.{find}
use Rattle.model.proofs.Has.{has_none, has_head, has_tail}
use Rattle.model.specs.Reached.{has}
use Rattle.model.proofs.Same.{distinct_absent}
use Rattle.model.proofs.Finds.{find_in_first, find_in_second, find_below, find_above}
use Rattle.layout.specs.Object.{Raw}
use Rattle.layout.specs.Place.{small_word}
use Rattle.block_pool.specs.BlockValue.{BlockValue, used_of}
use Rattle.steps.specs.BlockObjects.{block_objects, objects_from, copies_of}
use Rattle.nursery.specs.Table.{slot_objects}
use Rattle.nursery.specs.Installed.{is_installed_at, installed}
use Rattle.nursery.proofs.TableLemmas.{IsWordOf, slot_objects-within}

-- each block takes at most so many words
abbrev pub EachFits : List BlockValue → Type 0
EachFits [] = Unit {0}
EachFits (block ∷ blocks) = (used_of block ≤ 512) × EachFits blocks

abbrev pub numbers_of : List BlockValue → List ℕ
numbers_of blocks = map (λ b. b.number) blocks

-- a word of another block isn't in it
find-other_block : (block : BlockValue) (n q : ℕ) → used_of block ≤ 512 → IsWordOf n q → block.number ≢ n → find nat_cmp q (block_objects block.number block) ≡ None
find-other_block block n q fits word ne =
    ⊎_elim
    (λ lt. find_below q _ _ _ (slot_objects-within block.number (Some block) fits) (omega (arith, word.low, word.high)))
    (λ ge. find_above q _ _ _ (slot_objects-within block.number (Some block) fits) (omega (arith, word.low, word.high, ne)))
    (lower_or_higher block.number n ne)
  where
    lower_or_higher : (a b : ℕ) → a ≢ b → (b < a) ⊎ (a < b)
    lower_or_higher zero zero d = absurd (d refl)
    lower_or_higher zero (suc b) d = inr (omega arith)
    lower_or_higher (suc a) zero d = inl (omega arith)
    lower_or_higher (suc a) (suc b) d = ⊎_elim (λ h. inl (omega arith)) (λ h. inr (omega arith)) (lower_or_higher a b (λ e. d (ap suc e)))

find-no_copies : (blocks : List BlockValue) (n q : ℕ) → EachFits blocks → IsWordOf n q → has (numbers_of blocks) n ≡ false → find nat_cmp q (copies_of blocks) ≡ None
find-no_copies [] n q fits word none = refl
find-no_copies (block ∷ blocks) n q fits word none =
    let ne : block.number ≢ n = λ e. true≢false (sym (subst (λ m. has (m ∷ numbers_of blocks) n ≡ true) (sym e) (has_head n (numbers_of blocks))) ∙ none) in
    let rest : has (numbers_of blocks) n ≡ false = other (has (numbers_of blocks) n) refl in
    find_in_second q (block_objects block.number block) (copies_of blocks) (find-other_block block n q fits.0 word ne)
    ∙ find-no_copies blocks n q fits.1 word rest
  where
    other : (b : Bool) → has (numbers_of blocks) n ≡ b → has (numbers_of blocks) n ≡ false
    other true is = absurd (true≢false (sym (has_tail block.number (numbers_of blocks) n is) ∙ none))
    other false is = is

test_number : (block : BlockValue) (n : ℕ) → is_installed_at n block ≡ true → block.number ≡ n
test_number block n is = grind (arith, nat_tests, is)

empty_objects : (block : BlockValue) (n : ℕ) → block.number ≡ n → is_installed_at n block ≡ false → block.objects ≡ []
empty_objects block n same is = go block.objects (λ lt. absurd (true≢false (sym (both lt) ∙ is)))
  where
    both : 0 < length block.objects → is_installed_at n block ≡ true
    both lt = grind (arith, nat_tests, same, lt)

    go : (xs : List Raw) → (0 < length xs → ⊥) → xs ≡ []
    go [] h = refl
    go (x ∷ xs) h = absurd (h (omega arith))

absent_rest : (block : BlockValue) (blocks : List BlockValue) (n : ℕ) → has (numbers_of (block ∷ blocks)) n ≡ false → has (numbers_of blocks) n ≡ false
absent_rest block blocks n none = go (has (numbers_of blocks) n) refl
  where
    go : (b : Bool) → has (numbers_of blocks) n ≡ b → has (numbers_of blocks) n ≡ false
    go true is = absurd (true≢false (sym (has_tail block.number (numbers_of blocks) n is) ∙ none))
    go false is = is

pub none_installed : (blocks : List BlockValue) (n : ℕ) → has (numbers_of blocks) n ≡ false → installed blocks n ≡ None
none_installed [] n none = refl
none_installed (block ∷ blocks) n none = go (is_installed_at n block) refl (none_installed blocks n (absent_rest block blocks n none))
  where
    go : (b : Bool) → is_installed_at n block ≡ b → installed blocks n ≡ None → installed (block ∷ blocks) n ≡ None
    go true is after = absurd (true≢false (sym (subst (λ m. has (m ∷ numbers_of blocks) n ≡ true) (sym (test_number block n is)) (has_head n (numbers_of blocks))) ∙ none))
    go false is after = rw is after

pub distinct_rest : (x : ℕ) (xs : List ℕ) → IsDistinct nat_eq (x ∷ xs) → IsDistinct nat_eq xs
unfolding IsDistinct
distinct_rest x xs d = d.1

-- what the blocks hold at a word is what the installed block of that number holds
pub find-copies : (blocks : List BlockValue) (n q : ℕ) → EachFits blocks → IsDistinct nat_eq (numbers_of blocks) → IsWordOf n q → find nat_cmp q (copies_of blocks) ≡ find nat_cmp q (slot_objects n (installed blocks n))
find-copies [] n q fits once word = refl
find-copies (block ∷ blocks) n q fits once word =
    go (is_installed_at n block) refl (find-copies blocks n q fits.1 (distinct_rest block.number (numbers_of blocks) once) word)
  where
    absent : block.number ≡ n → has (numbers_of blocks) n ≡ false
    absent same = subst (λ m. has (numbers_of blocks) m ≡ false) same (distinct_absent block.number (numbers_of blocks) once)

    go : (b : Bool) → is_installed_at n block ≡ b → find nat_cmp q (copies_of blocks) ≡ find nat_cmp q (slot_objects n (installed blocks n)) → find nat_cmp q (copies_of (block ∷ blocks)) ≡ find nat_cmp q (slot_objects n (installed (block ∷ blocks) n))
    go true is rest =
        let same : block.number ≡ n = test_number block n is in
        rw is (find_in_first q (block_objects block.number block) (copies_of blocks) (find-no_copies blocks n q fits.1 word (absent same)) ∙ ap (λ m. find nat_cmp q (block_objects m block)) same)
    go false is rest =
        rw is (⊎_elim
        (λ same.
        let none : block.objects ≡ [] = empty_objects block n same is in
        find_in_second q (block_objects block.number block) (copies_of blocks) (ap (λ os. find nat_cmp q (objects_from (small_word block.number 0) block.generation block.step os)) none) ∙ rest)
        (λ ne. find_in_second q (block_objects block.number block) (copies_of blocks) (find-other_block block n q fits.0 word ne) ∙ rest)
        (cases_eq block.number n))

-- a word below the first block is in none of them
pub find-copies_first : (blocks : List BlockValue) (q : ℕ) → EachFits blocks → q < small_word 0 0 → find nat_cmp q (copies_of blocks) ≡ None
find-copies_first [] q fits lt = refl
find-copies_first (block ∷ blocks) q fits lt =
    find_in_second q (block_objects block.number block) (copies_of blocks) (find_below q _ _ _ (slot_objects-within block.number (Some block) fits.0) (omega arith))
    ∙ find-copies_first blocks q fits.1 lt

-- an installed block is one of the blocks
pub installed-all : (P : BlockValue → Type 0) (blocks : List BlockValue) (n : ℕ) (block : BlockValue) → All P blocks → installed blocks n ≡ Some block → P block × (block.number ≡ n)
installed-all P [] n block all is = absurd (cc)
installed-all P (b ∷ blocks) n block all is = go (is_installed_at n b) refl is (installed-all P blocks n block (All-tail P b blocks all))
  where
    go : (t : Bool) → is_installed_at n b ≡ t → cond t (Some b) (installed blocks n) ≡ Some block → (installed blocks n ≡ Some block → P block × (block.number ≡ n)) → P block × (block.number ≡ n)
    go true at e rest =
        let same : b ≡ block = cc in
        (subst P same (All-head P b blocks all), subst (λ x. x.number ≡ n) same (test_number b n at))
    go false at e rest = rest e

second_of : (a b : Bool) → (a && b) ≡ true → b ≡ true
second_of true b h = h
second_of false b h = absurd (true≢false (sym h))

-- an installed block has an object
pub installed-some : (blocks : List BlockValue) (n : ℕ) (block : BlockValue) → installed blocks n ≡ Some block → block.objects ≡ [] → ⊥
installed-some [] n block is empty = cc
installed-some (b ∷ blocks) n block is empty = go (is_installed_at n b) refl is (λ h. installed-some blocks n block h empty)
  where
    go : (t : Bool) → is_installed_at n b ≡ t → cond t (Some b) (installed blocks n) ≡ Some block → (installed blocks n ≡ Some block → ⊥) → ⊥
    go true at e rest =
        let same : b ≡ block = cc in
        let none : length b.objects ≡ 0 = ap (λ x. length x.objects) same ∙ ap length empty in
        let some : nat_lt 0 (length b.objects) ≡ true = second_of (nat_eq b.number n) (nat_lt 0 (length b.objects)) at in
        grind (arith, nat_tests, none, some)
    go false at e rest = rest e

pub each_fits : (words : ℕ) (blocks : List BlockValue) → words ≤ 512 → All (λ b. used_of b ≤ words) blocks → EachFits blocks
each_fits words [] le all = tt
each_fits words (b ∷ blocks) le all = (omega (arith, All-head (λ x. used_of x ≤ words) b blocks all), each_fits words blocks le (All-tail (λ x. used_of x ≤ words) b blocks all))

pub all_numbers : (blocks : List BlockValue) (free : List ℕ) (n : ℕ) → All (λ b. has free b.number ≡ true) blocks → has (numbers_of blocks) n ≡ true → has free n ≡ true
all_numbers [] free n all h = has_none n h
all_numbers (b ∷ blocks) free n all h =
    go (nat_eq n b.number) refl h (all_numbers blocks free n (All-tail (λ x. has free x.number ≡ true) b blocks all))
  where
    go : (t : Bool) → nat_eq n b.number ≡ t → (t || has (numbers_of blocks) n) ≡ true → (has (numbers_of blocks) n ≡ true → has free n ≡ true) → has free n ≡ true
    go true e h rest = let same : n ≡ b.number = grind (arith, nat_tests, e) in subst (λ m. has free m ≡ true) (sym same) (All-head (λ x. has free x.number ≡ true) b blocks all)
    go false e h rest = rest h
