-- The pieces of a text that begins with a line.
use Rattle.std.proofs.Common.{◌≡◌, ℕ, ◌<◌, arith, rules, length, length-append, map, Bool, cond, true, false, List, [], ◌∷◌, ◌++◌, refl, ap, ◌∙◌, suc}
use Rattle.std.specs.Prelude.{◌==◌, nat_lt}
use Rattle.std.specs.List.{slice_split, onto_first, AllByRecursion}
use Rattle.std.proofs.lemmas.List.Splits.{slice_split_none, slice_split_at}
use Rattle.trace_session.specs.Pieces.{HasNoFeed, Piece, finished, unfinished, last_piece, pieces_of, pieces, whole_lines}

-- a part that is not the last is a finished line
not_last : (line : List ℕ) (ends : Bool) (b : ℕ) (parts : List (List ℕ)) → pieces_of (line ∷ cond ends ([] ∷ parts) (onto_first b parts)) ≡ finished line ∷ pieces_of (cond ends ([] ∷ parts) (onto_first b parts))
not_last line true b parts = refl
not_last line false b [] = refl
not_last line false b (part ∷ parts) = refl

pieces_of_line : (line : List ℕ) (rest : List ℕ) → pieces_of (line ∷ slice_split (λ byte. byte == 10) rest) ≡ finished line ∷ pieces_of (slice_split (λ byte. byte == 10) rest)
pieces_of_line line [] = refl
pieces_of_line line (b ∷ bs) = not_last line (b == 10) b (slice_split (λ byte. byte == 10) bs)

pub pieces_line : (line rest : List ℕ) → HasNoFeed line → pieces (line ++ 10 ∷ rest) ≡ finished line ∷ pieces rest
unfolding pieces
pieces_line line rest free = rw (slice_split_at (λ byte. byte == 10) line 10 rest free refl) (pieces_of_line line rest)

pub pieces_last : (text : List ℕ) → HasNoFeed text → pieces text ≡ last_piece text
unfolding pieces
pieces_last text free = rw (slice_split_none (λ byte. byte == 10) text free) refl

-- a line that has begun, and what follows it
pub record BeginsWith (front : List ℕ) (text : List ℕ) : Type 0 where
  pub more : List ℕ
  pub others : List (List ℕ)
  pub parts : slice_split (λ byte. byte == 10) text ≡ (front ++ more) ∷ others

begins_with_nothing : (text : List ℕ) → BeginsWith [] text
begins_with_nothing [] = record { more = []; others = []; parts = refl }
begins_with_nothing (b ∷ bs) =
    let rest = begins_with_nothing bs in
    begins_with_byte (b == 10) b bs rest refl
  where
    begins_with_byte : (ends : Bool) (b : ℕ) (bs : List ℕ) → BeginsWith [] bs → (b == 10) ≡ ends → BeginsWith [] (b ∷ bs)
    begins_with_byte true b bs rest is = record { more = []; others = slice_split (λ byte. byte == 10) bs; parts = rw is refl }
    begins_with_byte false b bs rest is = record { more = b ∷ rest.more; others = rest.others; parts = rw (is, rest.parts) refl }

pub begins_with : (front text : List ℕ) → AllByRecursion (λ byte. (byte == 10) ≡ false) front → BeginsWith front (front ++ text)
begins_with [] text free = begins_with_nothing text
begins_with (b ∷ bs) text free =
    let rest = begins_with bs text free.1 in
    record { more = rest.more; others = rest.others; parts = rw (free.0, rest.parts) refl }

-- the first piece is longer than a line may be
pub data BeginsLong (all : List Piece) : Type 0 where
  long_finished : {line : List ℕ} {more : List Piece} → all ≡ finished line ∷ more → 4096 < length line → BeginsLong all
  long_unfinished : {line : List ℕ} → all ≡ unfinished line ∷ [] → 4096 < length line → BeginsLong all

last_piece_long : (line : List ℕ) → 4096 < length line → last_piece line ≡ unfinished line ∷ []
last_piece_long [] long = absurd (omega (arith, long))
last_piece_long (b ∷ bs) long = refl

long_by_parts : (parts : List (List ℕ)) (first : List ℕ) (others : List (List ℕ)) → 4096 < length first → parts ≡ first ∷ others → BeginsLong (pieces_of parts)
long_by_parts parts first [] long is = long_unfinished {line = first} (ap pieces_of is ∙ last_piece_long first long) long
long_by_parts parts first (next ∷ others) long is = long_finished {line = first} {more = pieces_of (next ∷ others)} (ap pieces_of is) long

each_of : (text : List ℕ) → HasNoFeed text → AllByRecursion (λ byte. (byte == 10) ≡ false) text
each_of [] free = tt
each_of (b ∷ bs) free = (free 0 0 (omega arith), each_of bs (λ k d low. free (suc k) d (omega (arith, low))))

-- so many bytes without a line feed, whatever follows them
pub begins_long : (front more : List ℕ) → HasNoFeed front → 4096 < length front → BeginsLong (pieces (front ++ more))
unfolding pieces
begins_long front more free long =
    let begins = begins_with front more (each_of front free) in
    long_by_parts (slice_split (λ byte. byte == 10) (front ++ more)) (front ++ begins.more) begins.others (omega (arith, long, length-append front begins.more)) begins.parts

none_whole : (text : List ℕ) → whole_lines (last_piece text) ≡ []
none_whole [] = refl
none_whole (b ∷ bs) = refl

-- what has no line feed has no whole line
pub no_whole_lines : (rest : List ℕ) → HasNoFeed rest → whole_lines (pieces rest) ≡ []
no_whole_lines rest free = ap whole_lines (pieces_last rest free) ∙ none_whole rest

pub whole_lines_are : (lines : List (List ℕ)) (rest : List ℕ) → HasNoFeed rest → whole_lines (map finished lines ++ pieces rest) ≡ map finished lines
whole_lines_are [] rest free = no_whole_lines rest free
whole_lines_are (line ∷ lines) rest free = ap (λ ps. finished line ∷ ps) (whole_lines_are lines rest free)

pub long_line : (text : List ℕ) → 4096 < length text → nat_lt 4096 (length text) ≡ true
long_line text long = search rules
