-- What a writer took while bytes are written piece by piece.
use Rattle.std.proofs.Common.{◌≡◌, ℕ, List, [], ◌++◌, take, drop, sym, ap, subst, ◌∙◌, append_assoc, append-nil, take-append-drop}
use Rattle.heap_text.specs.Streams.{Output, Appends, AppendsFront}
use Rattle.heap_text.proofs.Streams.{Appends-trans}

-- new is old with all of bytes but the rest
pub record HoldsAllBut (old new : Output) (bytes rest : List ℕ) : Type 0 where
  pub front : List ℕ
  pub whole : bytes ≡ front ++ rest
  pub held : Appends old new front

pub HoldsAllBut-more : (old now new : Output) (bytes rest after : List ℕ) (n : ℕ) → HoldsAllBut old now bytes rest → Appends now new (take n rest) → after ≡ drop n rest → HoldsAllBut old new bytes after
HoldsAllBut-more old now new bytes rest after n holds more is = record {
  front = holds.front ++ take n rest;
  whole = holds.whole ∙ ap (λ xs. holds.front ++ xs) (sym (take-append-drop n rest) ∙ ap (λ xs. take n rest ++ xs) (sym is)) ∙ sym (append_assoc holds.front (take n rest) after);
  held = Appends-trans old now new holds.front (take n rest) holds.held more;
}

-- a write that took nothing
pub HoldsAllBut-front : (old now new : Output) (bytes rest : List ℕ) → HoldsAllBut old now bytes rest → Appends now new [] → AppendsFront old new bytes
HoldsAllBut-front old now new bytes rest holds none = record {
  front = holds.front;
  rest = rest;
  bytes_are = holds.whole;
  took = subst (Appends old new) (append-nil holds.front) (Appends-trans old now new holds.front [] holds.held none);
}
