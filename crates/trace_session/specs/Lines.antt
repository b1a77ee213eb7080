-- The lines of an input, as far as it was read.
use Rattle.std.specs.Prelude.{◌≡◌, ℕ, ◌+◌, ◌*◌, ◌<◌, ◌≤◌, List, ◌∷◌, ◌++◌, length, IsTrue, refl}
use Rattle.std.specs.Coded.{Coded, code_by, coded×, coded_ℕ, coded_list}
use Rattle.heap_text.specs.Streams.{Input, Gives}
use Rattle.trace_session.specs.Pieces.{HasNoFeed}
use Rattle.trace_session.specs.declared.trace_lines.lines.Next.{Next}
use Rattle.trace_session.specs.declared.trace_lines.lines.Next.TheVariants.{Line, TooLong, Unfinished, End}

-- the bytes that were read and are in no line yet, the line that was cut off last, and how many reads that give bytes may still come
pub record LinesValue : Type 0 where
  pub pending : List ℕ
  pub line : List ℕ
  pub reads : ℕ

abbrev pub lines_code : Coded LinesValue
lines_code = code_by (List ℕ × (List ℕ × ℕ)) (coded× (coded_list coded_ℕ) (coded× (coded_list coded_ℕ) coded_ℕ)) (λ v. (v.pending, (v.line, v.reads))) (λ p. record { pending = p.0; line = p.1.0; reads = p.1.1 }) (λ _. refl)

-- no more bytes than these can come out any more: a read gives 65,536 at the most
abbrev pub most_left : LinesValue → ℕ
most_left v = length v.pending + v.reads * 65536

-- while reads gave some bytes, what was pending became what is: P of the text from the first moment on, and of the text from the second on, however the input goes on
pub record Moves (old new : LinesValue) (before after : Input) (P : List ℕ → List ℕ → Type 0) : Type 0 where
  pub bytes : List ℕ
  pub gave : Gives before after bytes
  pub reads : old.reads ≤ new.reads + length bytes
  pub holds : (more : List ℕ) → P (old.pending ++ (bytes ++ more)) (new.pending ++ more)

-- the next line was cut off
pub record Cuts (old new : LinesValue) (before after : Input) : Type 0 where
  pub moves : Moves old new before after (λ text rest. text ≡ new.line ++ 10 ∷ rest)
  pub free : HasNoFeed new.line
  pub less : most_left new < most_left old

-- no line feed came
pub record Waits (old new : LinesValue) (before after : Input) : Type 0 where
  pub moves : Moves old new before after (λ text rest. text ≡ rest)
  pub free : HasNoFeed new.pending

-- what was found
abbrev pub Found : Next → (old new : LinesValue) (before after : Input) → Type 0
Found Line old new before after = Cuts old new before after
Found TooLong old new before after = Waits old new before after × (4096 < length new.pending)
Found Unfinished old new before after = Waits old new before after × ((0 < length new.pending) × (length new.pending ≤ 4096)) × IsTrue after.ended
Found End old new before after = Waits old new before after × (length new.pending ≡ 0) × IsTrue after.ended

-- as many bytes were given as reads were left, so that no read may come any more
abbrev pub IsOutOfReads : ℕ → (before after : Input) → Type 0
IsOutOfReads reads before after = reads + length before.given ≤ length after.given

-- a read gave so many bytes
pub record Fills (n : ℕ) (old new : LinesValue) (before after : Input) : Type 0 where
  pub bytes : List ℕ
  pub gave : Gives before after bytes
  pub len : length bytes ≡ n
  pub pending : new.pending ≡ old.pending ++ bytes
  pub reads : old.reads ≤ new.reads + n
  pub left : n + new.reads * 65536 ≤ old.reads * 65536
