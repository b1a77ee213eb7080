-- Lines that are cut off one after another, while an input is read.
use Rattle.std.proofs.Common.{◌≡◌, ℕ, ◌+◌, ◌≤◌, inr, inl, ◌⊎◌, List, [], ◌∷◌, ◌++◌, length, length-append, take, drop, refl, sym, ap, subst, ◌∙◌, append_assoc, append-nil, arith}
use Rattle.std.proofs.Math.Seq.{drop-append-add, take-append_seam}
use Rattle.std.proofs.lemmas.List.{drop-drop}
use Rattle.std.specs.Prelude.{IsTrue}
use Rattle.heap_text.specs.Streams.{Input, Gives, OfGiven, OfInput}
use Rattle.heap_text.proofs.Streams.{Gives-nil, Gives-trans}
use Rattle.trace_session.specs.Pieces.{HasNoFeed}
use Rattle.trace_session.specs.Lines.{LinesValue, most_left, Moves, Cuts, IsOutOfReads, Fills, Waits}

-- ---- a line within a text

pub line_there : (items : List ℕ) (start : ℕ) (line after : List ℕ) → drop start items ≡ line ++ 10 ∷ after → take (length line) (drop start items) ≡ line
line_there items start line after is = ap (λ xs. take (length line) xs) is ∙ take-append_seam line (10 ∷ after)

pub line_after : (items : List ℕ) (start : ℕ) (line after : List ℕ) → drop start items ≡ line ++ 10 ∷ after → drop (start + (length line + 1)) items ≡ after
line_after items start line after is = sym (drop-drop (length line + 1) start items) ∙ ap (λ xs. drop (length line + 1) xs) is ∙ drop-append-add line (10 ∷ after) 1

-- ---- moves one after another

pub Moves-nil : (v : LinesValue) (i : Input) → Moves v v i i (λ text rest. text ≡ rest)
Moves-nil v i = record { bytes = []; gave = Gives-nil i; reads = omega arith; holds = λ more. refl }

-- what was read first, and then what was read next
pub Moves-trans : {P Q R : List ℕ → List ℕ → Type 0} (a b c : LinesValue) (i j k : Input) → ((text mid rest : List ℕ) → P text mid → Q mid rest → R text rest) → Moves a b i j P → Moves b c j k Q → Moves a c i k R
Moves-trans {P} {Q} {R} a b c i j k f first then = record {
  bytes = first.bytes ++ then.bytes;
  gave = Gives-trans i j k first.bytes then.bytes first.gave then.gave;
  reads = omega (arith, first.reads, then.reads, length-append first.bytes then.bytes);
  holds = λ more.
      let whole : (first.bytes ++ then.bytes) ++ more ≡ first.bytes ++ (then.bytes ++ more) = append_assoc first.bytes then.bytes more in
      rw whole (f _ _ _ (first.holds (then.bytes ++ more)) (then.holds more));
}

module _ {P : List ℕ → List ℕ → Type 0} (a b : LinesValue) (i j : Input) (m : Moves a b i j P) where
  pub moves_as : {Q : List ℕ → List ℕ → Type 0} → ((text rest : List ℕ) → P text rest → Q text rest) → Moves a b i j Q
  moves_as f = record { bytes = m.bytes; gave = m.gave; reads = m.reads; holds = λ more. f _ _ (m.holds more) }

  -- a stop right after the moves
  pub stops_moved : {R : List ℕ → Type 0} → ((text rest : List ℕ) → P text rest → R text) → OfInput a.pending i j R
  stops_moved f = record { bytes = m.bytes; gave = m.gave; holds = λ more ends. f _ _ (m.holds more) }

  -- the same, where what is pending begins what is left
  pub stops_pending : {R : List ℕ → Type 0} → ((text more : List ℕ) → P text (b.pending ++ more) → R text) → OfInput a.pending i j R
  stops_pending f = record { bytes = m.bytes; gave = m.gave; holds = λ more ends. f _ more (m.holds more) }

  -- the same at the end of the input, where what is pending is all that is left
  pub stops_ended : {R : List ℕ → Type 0} → IsTrue j.ended → ((text : List ℕ) → P text b.pending → R text) → OfInput a.pending i j R
  stops_ended ended f = record {
    bytes = m.bytes;
    gave = m.gave;
    holds = λ more ends. f _ (subst (λ xs. P (a.pending ++ (m.bytes ++ more)) xs) (ap (λ xs. b.pending ++ xs) (ends ended) ∙ append-nil b.pending) (m.holds more));
  }

  -- of what was given alone
  pub given_moved : {R : List ℕ → Type 0} → ((text : List ℕ) → P text b.pending → R text) → OfGiven a.pending i j R
  given_moved f = record {
    bytes = m.bytes;
    gave = m.gave;
    holds = f _ (subst (λ xs. P (a.pending ++ m.bytes) xs) (append-nil b.pending) (subst (λ xs. P (a.pending ++ xs) (b.pending ++ [])) (append-nil m.bytes) (m.holds [])));
  }

  -- what comes to a stop after the moves comes to it from the first moment on
  module _ (k : Input) {Q : List ℕ → Type 0} where
    pub stops_after : {R : List ℕ → Type 0} → OfInput b.pending j k Q → ((text mid : List ℕ) → P text mid → Q mid → R text) → OfInput a.pending i k R
    stops_after then f = record {
      bytes = m.bytes ++ then.bytes;
      gave = Gives-trans i j k m.bytes then.bytes m.gave then.gave;
      holds = λ more ends.
          let whole : (m.bytes ++ then.bytes) ++ more ≡ m.bytes ++ (then.bytes ++ more) = append_assoc m.bytes then.bytes more in
          rw whole (f _ _ (m.holds (then.bytes ++ more)) (then.holds more ends));
    }

    pub given_after : {R : List ℕ → Type 0} → OfGiven b.pending j k Q → ((text mid : List ℕ) → P text mid → Q mid → R text) → OfGiven a.pending i k R
    given_after then f = record {
      bytes = m.bytes ++ then.bytes;
      gave = Gives-trans i j k m.bytes then.bytes m.gave then.gave;
      holds = f _ _ (m.holds then.bytes) then.holds;
    }

-- a stop where nothing more is read
pub OfInput-here : {P : List ℕ → Type 0} (v : LinesValue) (i : Input) → ((text : List ℕ) → P text) → OfInput v.pending i i P
OfInput-here v i holds = record { bytes = []; gave = Gives-nil i; holds = λ more ends. holds _ }

pub OfInput-map : {P Q : List ℕ → Type 0} (front : List ℕ) (i j : Input) → OfInput front i j P → ((text : List ℕ) → P text → Q text) → OfInput front i j Q
OfInput-map front i j of f = record { bytes = of.bytes; gave = of.gave; holds = λ more ends. f _ (of.holds more ends) }

pub OfGiven-map : {P Q : List ℕ → Type 0} (front : List ℕ) (i j : Input) → OfGiven front i j P → ((text : List ℕ) → P text → Q text) → OfGiven front i j Q
OfGiven-map front i j of f = record { bytes = of.bytes; gave = of.gave; holds = f _ of.holds }

-- ---- what one call does

-- as many bytes came as reads went, over both
pub out_after : {P : List ℕ → List ℕ → Type 0} (a b : LinesValue) (i j k : Input) → Moves a b i j P → IsOutOfReads b.reads j k → IsOutOfReads a.reads i k
out_after a b i j k m out = omega (arith, m.reads, out, ap length m.gave.given, length-append i.given m.bytes)

pub moves_filled : (n : ℕ) (a b : LinesValue) (i j : Input) → Fills n a b i j → Moves a b i j (λ text rest. text ≡ rest)
moves_filled n a b i j f = record {
  bytes = f.bytes;
  gave = f.gave;
  reads = omega (arith, f.reads, f.len);
  holds = λ more. sym (append_assoc a.pending f.bytes more) ∙ ap (λ xs. xs ++ more) (sym f.pending);
}

-- no read, and what was pending still is
pub moves_kept : (a b : LinesValue) (i j : Input) → Gives i j [] → b.pending ≡ a.pending → b.reads ≡ a.reads → Moves a b i j (λ text rest. text ≡ rest)
moves_kept a b i j gave same reads = record { bytes = []; gave = gave; reads = omega (arith, reads); holds = λ more. ap (λ xs. xs ++ more) (sym same) }

-- the line is cut off that came with what was read
pub cuts : (a b c : LinesValue) (i j : Input) → Moves a b i j (λ text rest. text ≡ rest) → most_left b ≤ most_left a → b.pending ≡ c.line ++ 10 ∷ c.pending → HasNoFeed c.line → c.reads ≡ b.reads → Cuts a c i j
cuts a b c i j m less is free reads = record {
  moves = record {
    bytes = m.bytes;
    gave = m.gave;
    reads = omega (arith, m.reads, reads);
    holds = λ more. m.holds more ∙ ap (λ xs. xs ++ more) is ∙ append_assoc c.line (10 ∷ c.pending) more;
  };
  free = free;
  less = omega (arith, less, reads, ap length is, length-append c.line (10 ∷ c.pending));
}

-- ---- what comes after moves

-- after moves the next line is cut off
pub at_line : {P : List ℕ → List ℕ → Type 0} (a b c : LinesValue) (i j k : Input) → Moves a b i j P → Cuts b c j k
    → Moves a c i k (λ text rest. P text (c.line ++ 10 ∷ rest))
at_line {P} a b c i j k first cut = Moves-trans a b c i j k (λ text mid rest p is. subst (P text) is p) first cut.moves

-- after moves no line feed came
pub at_wait : {P : List ℕ → List ℕ → Type 0} (a b c : LinesValue) (i j k : Input) → Moves a b i j P → Waits b c j k → Moves a c i k P
at_wait {P} a b c i j k first wait = Moves-trans a b c i j k (λ text mid rest p is. subst (P text) is p) first wait.moves

-- after moves a read failed, or no read may come any more
pub reads_fail : {P : List ℕ → List ℕ → Type 0} {F : Type 0} (a b : LinesValue) (i j k : Input) → Moves a b i j P → (old mid new : ℕ) → mid ≡ old
    → (new ≡ mid + 1) ⊎ (F × IsOutOfReads b.reads j k) → (new ≡ old + 1) ⊎ IsOutOfReads a.reads i k
reads_fail a b i j k first old mid new same (inl failed) = inl (failed ∙ ap (λ n. n + 1) same)
reads_fail a b i j k first old mid new same (inr out) = inr (out_after a b i j k first out.1)

pub reads_failed : {P : List ℕ → List ℕ → Type 0} (a b : LinesValue) (i j k : Input) → Moves a b i j P → (old mid new : ℕ) → mid ≡ old
    → (new ≡ mid + 1) ⊎ IsOutOfReads b.reads j k → (new ≡ old + 1) ⊎ IsOutOfReads a.reads i k
reads_failed a b i j k first old mid new same (inl failed) = inl (failed ∙ ap (λ n. n + 1) same)
reads_failed a b i j k first old mid new same (inr out) = inr (out_after a b i j k first out)
