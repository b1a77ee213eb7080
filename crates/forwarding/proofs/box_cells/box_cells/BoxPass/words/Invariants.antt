use Rattle.std.proofs.Common.{◌≡◌, ◌≤◌, map, length, take}
use Rattle.std.specs.Vec.{vec_capacity}
use Rattle.layout.specs.Place.{pointer_word}
use Rattle.forwarding.specs.Noted.{place_of}
use Rattle.forwarding.specs.ShortWords.{long_word}
use Rattle.forwarding.proofs.box_cells.box_cells.BoxPass.words.Given as goal

abbrev pub invariant-loop-known : goal.invariant-loop-known
invariant-loop-known g l = record {
  words : map long_word l.words.items ≡ map (λ known. pointer_word (place_of known)) (take l.known-index l.known-items);
  many : length l.words.items ≡ l.known-index;
  room : length l.known-items ≤ vec_capacity l.words;
}
