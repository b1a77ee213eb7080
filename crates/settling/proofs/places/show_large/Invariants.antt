use Rattle.std.proofs.Common.{◌≡◌, length, map, take}
use Rattle.layout.specs.Place.{place_word}
use Rattle.settling.specs.Shown.{AreShown}
use Rattle.settling.proofs.places.show_large.Given as goal

-- the places after the large objects before this one
abbrev pub invariant-loop-place : goal.invariant-loop-place
invariant-loop-place g l = record {
  count : length l.places ≡ length l.fn.places;
  shown : AreShown l.heap l.collection (map place_word (take l.place-index l.large)) l.fn.places l.places;
}
