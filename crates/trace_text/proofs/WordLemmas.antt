-- The first word of a line.
use Rattle.std.proofs.Common.{◌≡◌, ℕ, ◌<◌, ◌≤◌, true, false, List, [], ◌∷◌, ◌++◌, length, get_or, take, drop, refl, sym, ◌∙◌, ap, arith, drop-cons, take-append-drop, length-take-le, get_or-take, take_all, ⊎_elim, zero, suc}
use Rattle.std.proofs.lemmas.List.{drop_all}
use Rattle.std.specs.Prelude.{All}
use Rattle.std.proofs.str.Laws.{order}
use Rattle.std.proofs.lemmas.List.Splits.{slice_split_none, slice_split_at}
use Rattle.std.proofs.lemmas.List.Elements.{All-from_get_or}
use Rattle.trace_text.specs.Words.{is_blank, words}

-- the bytes before n are of one word
abbrev pub IsWordUpTo : List ℕ → ℕ → Type 0
IsWordUpTo line n = (k : ℕ) → k < n → is_blank (get_or line k 0) ≡ false

all_of_word : (line : List ℕ) (n : ℕ) → n ≤ length line → IsWordUpTo line n → All (λ b. is_blank b ≡ false) (take n line)
all_of_word line n in_range word =
    All-from_get_or (λ b. is_blank b ≡ false) (take n line) 0
    (λ i lt. let below : i < n = omega (arith, length-take-le n line in_range) in rw (get_or-take n line i 0 below) (word i below))

-- a word with nothing after it
word_alone : (word : List ℕ) → All (λ b. is_blank b ≡ false) word → 0 < length word → words word ≡ word ∷ []
word_alone [] unbroken some = elim some [ ]
word_alone (b ∷ bs) unbroken some = rw (slice_split_none is_blank (b ∷ bs) unbroken) refl

-- a word, a blank, and the words after it
word_and_more : (word : List ℕ) (y : ℕ) (ys : List ℕ) → All (λ b. is_blank b ≡ false) word → 0 < length word → is_blank y ≡ true → words (word ++ y ∷ ys) ≡ word ∷ words (y ∷ ys)
word_and_more [] y ys unbroken some blank = elim some [ ]
word_and_more (b ∷ bs) y ys unbroken some blank = rw (slice_split_at is_blank (b ∷ bs) y ys unbroken blank, blank) refl

-- the words of a line that begins with a word of n bytes
pub first_word : (line : List ℕ) (n : ℕ) → 0 < n → n ≤ length line → IsWordUpTo line n → (n < length line → is_blank (get_or line n 0) ≡ true) → words line ≡ take n line ∷ words (drop n line)
first_word line n some in_range word stops =
    let unbroken = all_of_word line n in_range word in
    let nonempty : 0 < length (take n line) = omega (arith, length-take-le n line in_range) in
    ⊎_elim
    (λ lt.
    let joined : words (take n line ++ drop n line) ≡ take n line ∷ words (drop n line) = rw (drop-cons line n 0 lt) (word_and_more (take n line) _ _ unbroken nonempty (stops lt)) in
    ap words (sym (take-append-drop n line)) ∙ joined)
    (λ ge.
    let whole : take n line ≡ line = take_all n line ge in
    let none : drop n line ≡ [] = drop_all n line ge in
    rw none (ap words (sym whole) ∙ word_alone (take n line) unbroken nonempty))
    (order n (length line))

-- such a word has a byte
pub word_has_bytes : (line : List ℕ) (n : ℕ) → 0 < length line → is_blank (get_or line 0 0) ≡ false → (n < length line → is_blank (get_or line n 0) ≡ true) → 0 < n
word_has_bytes line zero some begins stops = let blank : true ≡ false = sym (stops some) ∙ begins in cc
word_has_bytes line (suc n) some begins stops = omega arith
