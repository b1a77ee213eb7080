-- The lists of a sweep have room for what the block in hand and the one that is copied into can bring.
use Rattle.std.proofs.Common.{◌≡◌, ℕ, ◌+◌, ◌≤◌, ◌<◌, ◌∷◌, [], ap, ◌∙◌, arith}
use Rattle.std.proofs.lemmas.List.Sums.{sum_by-append, sum_by-cons}
use Rattle.layout.specs.declared.place.Place.{Place}
use Rattle.layout.specs.Object.{Raw, raw_size}
use Rattle.block_pool.specs.BlockValue.{BlockValue, used_of}
use Rattle.scavenge.proofs.CopyRaces.{copied}

-- a copy takes the words of its object
pub used_copied : (into : BlockValue) (raw : Raw) (name : Place) → used_of (copied into raw name) ≡ used_of into + raw_size raw
used_copied into raw name =
    let a = sum_by-append raw_size into.objects (raw ∷ []) in
    let b = sum_by-cons raw_size raw [] in
    omega (arith, a, b)

-- so there is room for what was won, and after it for the rest
pub has_room : (into : BlockValue) (raw : Raw) (won room capacity size : ℕ) → won + room + into.words ≤ capacity + used_of into → used_of into + size ≤ into.words → size ≡ raw_size raw → won + room < capacity
has_room into raw won room capacity size r fits is = omega (arith, r, fits, is)

pub room_after : (into block : BlockValue) (raw : Raw) (name : Place) (won room capacity : ℕ) → block ≡ copied into raw name → won + room + into.words ≤ capacity + used_of into → won + 1 + room + block.words ≤ capacity + used_of block
room_after into block raw name won room capacity is r =
    let u = ap used_of is ∙ used_copied into raw name in
    let w = ap (λ (b : BlockValue). b.words) is in
    omega (arith, u, w, r)
