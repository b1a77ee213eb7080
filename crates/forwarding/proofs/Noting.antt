-- A step on one cell keeps what holds of a pass.
use Rattle.std.proofs.Common.{◌≡◌, ◌≢◌, ℕ, suc, ◌<◌, ◌≤◌, List, [], ◌∷◌, ◌++◌, All, map, set, length, get_or, Some, None, refl, sym, ap, ◌∙◌, subst, arith, get_or-set_same, get_or-set_other}
use Rattle.std.specs.Prelude.{Option, IfSome, AllPairs}
use Rattle.std.specs.Option.{MatchOption, option_copied}
use denote.Bor.{Bor}
use Rattle.std.proofs.lemmas.List.{get_or_past, get_or-map, map-set, length-map, length-set}
use Rattle.std.proofs.lemmas.List.FromFn.{length-map-range_with_len, get_or-map-range_with_len}
use Rattle.std.proofs.Math.Seq.{map-set_same}
use Rattle.std.proofs.lemmas.List.Elements.{All-push, All-weaker}
use mathlib.Core.Logic.{dite}
use native.Mathlib.Decide.{ℕ_discrete, dec_le}
use Rattle.std.specs.declared.alloc.Global.{Global}
use Rattle.once_cell.specs.declared.race.note.Note.{Note}
use Rattle.once_cell.specs.Once.{cell_name, Agrees}
use Rattle.layout.specs.declared.place.Place.{Place}
use Rattle.forwarding.specs.declared.box_cells.bid.Bid.{Bid}
use Rattle.forwarding.specs.Learned.{Learns}
use Rattle.forwarding.specs.Settled.{Pairs, wins_of, ones}
use Rattle.forwarding.specs.Noted.{NotedValue, IsSoundNotes, IsPassOf, IsApart, bid_at, bid_of, place_of, new_pass, new_passes}
use Rattle.forwarding.specs.Boxed.{note_cell, note_known, names_of, IsNoted}
use Rattle.model.proofs.Times.{times-append}
use Rattle.forwarding.proofs.Wins.{wins-one, wins-other, sum_wins, sum_lt, sum_of_ones}

abbrev Cells : Type 0
Cells = List (Global × ℕ)

abbrev Notes : Type 0
Notes = List (Note Bid)

pub same_many : (cells : Cells) (notes : Notes) → map note_cell notes ≡ names_of cells → length notes ≡ length cells
same_many cells notes are = sym (length-map notes note_cell) ∙ (ap length are ∙ length-map cells cell_name)

pub known_many : (notes : Notes) (known : List (Option Bid)) → map note_known notes ≡ known → length known ≡ length notes
known_many notes known told = ap length (sym told) ∙ length-map notes note_known

-- the note at a name is of the cell there
pub of_cell : (cells : Cells) (notes : Notes) (i : ℕ) (c : Global × ℕ) (n : Note Bid) → map note_cell notes ≡ names_of cells → i < length cells → c ≡ get_or cells i c → n ≡ get_or notes i n → n.cell ≡ cell_name c
of_cell cells notes i c n are l at at' = let m = same_many cells notes are in
    ap note_cell at' ∙ (sym (get_or-map note_cell notes i n 0 (omega arith)) ∙ (ap (λ (xs : List ℕ). get_or xs i 0) are ∙ (get_or-map cell_name cells i c 0 l ∙ ap cell_name (sym at))))

pub still_of : (notes : Notes) (i : ℕ) (n m : Note Bid) → n ≡ get_or notes i n → m.cell ≡ n.cell → map note_cell (set notes i m) ≡ map note_cell notes
still_of notes i n m at same = map-set_same note_cell notes i m n (same ∙ ap note_cell at)

pub told_set : (notes : Notes) (known : List (Option Bid)) (i : ℕ) (m : Note Bid) (r : Option Bid) → map note_known notes ≡ known → m.known ≡ r → map note_known (set notes i m) ≡ set known i r
told_set notes known i m r told is = map-set note_known notes i m ∙ (ap (λ (k : List (Option Bid)). set k i m.known) told ∙ ap (λ (o : Option Bid). set known i o) is)

-- what is known at a name is what its note knows
pub bid_here : (notes : Notes) (known : List (Option Bid)) (i : ℕ) (n : Note Bid) → map note_known notes ≡ known → i < length notes → n ≡ get_or notes i n → bid_at known i ≡ n.known
bid_here notes known i n told within at = ap (λ (k : List (Option Bid)). get_or k i None) (sym told) ∙ (get_or-map note_known notes i n None within ∙ ap note_known (sym at))

pub ones_most : (o : Option Bid) → ones o ≤ 1
ones_most None = omega arith
ones_most (Some p) = omega arith

more_known : (o r : Option Bid) → ((b : Bid) → o ≡ Some b → r ≡ Some b) → ones o ≤ ones r
more_known None r f = omega arith
more_known (Some b) r f = let e : ones r ≡ 1 = ap ones (f b refl) in omega arith

pub place_lasts : (o r : Option Bid) → ((b : Bid) → o ≡ Some b → r ≡ Some b) → (p : Place) → place_of o ≡ Some p → place_of r ≡ Some p
place_lasts None r f p e = absurd (cc)
place_lasts (Some b) r f p e = ap place_of (f b refl) ∙ e

module _ (known : List (Option Bid)) (i : ℕ) (r : Option Bid) (within : i < length known) (lasting : (b : Bid) → bid_at known i ≡ Some b → r ≡ Some b) where
  now_here : bid_at (set known i r) i ≡ r
  now_here = get_or-set_same known i r None within

  now_there : (k : ℕ) → k ≢ i → bid_at (set known i r) k ≡ bid_at known k
  now_there k ne = get_or-set_other known i k r None ne

  still : (k : ℕ) (b : Bid) → bid_at known k ≡ Some b → bid_at (set known i r) k ≡ Some b
  still k b e = dite (ℕ_discrete k i)
      (λ is. ap (λ (j : ℕ). bid_at (set known i r) j) is ∙ (now_here ∙ lasting b (ap (λ (j : ℕ). bid_at known j) (sym is) ∙ e)))
      (λ ne. now_there k ne ∙ e)

  pub learns : Learns (λ k. place_of (bid_at known k)) (λ k. place_of (bid_at (set known i r) k)) i (place_of r)
  learns = record {
    told = ap place_of now_here;
    lasting = place_lasts (bid_at known i) r lasting;
    others = λ k ne. ap place_of (now_there k ne);
  }

  pub keeps : (number : ℕ) (won : Pairs) → IsSoundNotes number known won → IsSoundNotes number (set known i r) won
  keeps number won s = record {
    own = All-weaker (λ (x : ℕ × Place). bid_at known x.0 ≡ Some (bid_of x.1 number)) (λ (x : ℕ × Place). bid_at (set known i r) x.0 ≡ Some (bid_of x.1 number)) (λ x e. still x.0 _ e) won s.own;
    once = λ name. let was = s.once name in let more = more_known (bid_at known name) (bid_at (set known i r) name) (still name) in omega arith;
  }

  pub wins : (number : ℕ) (won : Pairs) (place : Place) → IsSoundNotes number known won → bid_at known i ≡ None → r ≡ Some (bid_of place number) → IsSoundNotes number (set known i r) (won ++ (i, place) ∷ [])
  wins number won place s unknown mine = let kept = keeps number won s in record {
    own = All-push (λ (x : ℕ × Place). bid_at (set known i r) x.0 ≡ Some (bid_of x.1 number)) won (i, place) kept.own (now_here ∙ mine);
    once = λ name. let more = times-append (λ (x : ℕ × Place). x.0) name won ((i, place) ∷ []) in let was = s.once name in dite (ℕ_discrete i name)
        (λ is. let one : wins_of name ((i, place) ∷ []) ≡ 1 = ap (λ (j : ℕ). wins_of j ((i, place) ∷ [])) (sym is) ∙ wins-one i place in
        let a : ones (bid_at known name) ≡ 0 = ap ones (ap (λ (j : ℕ). bid_at known j) (sym is) ∙ unknown) in
        let b : ones (bid_at (set known i r) name) ≡ 1 = ap ones (ap (λ (j : ℕ). bid_at (set known i r) j) (sym is) ∙ (now_here ∙ mine)) in omega arith)
        (λ ne. let none = wins-other name i place ne in let b : ones (bid_at (set known i r) name) ≡ ones (bid_at known name) = ap ones (now_there name (λ e. ne (sym e))) in omega arith);
  }

-- the names that were won are below the number of cells
pub own_below : (number : ℕ) (known : List (Option Bid)) (won : Pairs) → IsSoundNotes number known won → All (λ (x : ℕ × Place). x.0 < length known) won
own_below number known won s = All-weaker (λ (x : ℕ × Place). bid_at known x.0 ≡ Some (bid_of x.1 number)) (λ (x : ℕ × Place). x.0 < length known)
    (λ x e. dite (dec_le (suc x.0) (length known)) (λ (b : x.0 < length known). b) (λ high. let past : bid_at known x.0 ≡ None = get_or_past known x.0 None (omega arith) in absurd (cc))) won s.own

-- there is room for a name that is not known
pub room_for : (number : ℕ) (known : List (Option Bid)) (won : Pairs) (i : ℕ) → IsSoundNotes number known won → i < length known → bid_at known i ≡ None → length won < length known
room_for number known won i s l unknown =
    let none : ones (bid_at known i) ≡ 0 = ap ones unknown in
    let here = s.once i in
    let all = sum_wins (length known) won (own_below number known won s) in
    let less = sum_lt (λ k. wins_of k won) (λ _. 1) (length known) i (λ k. let a = s.once k in let b = ones_most (bid_at known k) in omega arith) l (omega arith) in
    let many = sum_of_ones (length known) in omega arith

-- what was known is what is found
pub agrees : (k : Option Bid) (x b : Bid) → Agrees k x → k ≡ Some b → b ≡ x
agrees k x b h e = subst (λ (o : Option Bid). IfSome o (λ y. y ≡ x)) e h

pub looked : (r : Option (Bor Bid)) (k k' : Option Bid) → MatchOption r ((k ≡ None) × (k' ≡ None)) (λ b. (k' ≡ Some b.now) × Agrees k b.now) → (k' ≡ option_copied r) × ((b : Bid) → k ≡ Some b → option_copied r ≡ Some b)
looked None k k' h = let a = h.0 in (h.1, λ p e. absurd (cc))
looked (Some b) k k' h = (h.0, λ p e. ap Some (sym (agrees k b.now p h.1 e)))

-- a name below the number of cells has a cell
pub has_cell : (cells : Cells) (names : List ℕ) (name : ℕ) → names_of cells ≡ names → name < length names → name < length cells
has_cell cells names name are l = let a = ap length are in let b = length-map cells cell_name in omega arith

-- the note of one cell changed, and what is known of the cell with it
module _ (number i room : ℕ) (notes : Notes) (known : List (Option Bid)) (won : Pairs) (n m : Note Bid) (r : Option Bid) (noted : IsNoted number notes known won room) (within : i < length notes) (at : n ≡ get_or notes i n) (is : m.known ≡ r) (lasting : (b : Bid) → n.known ≡ Some b → r ≡ Some b) where
  inside : i < length known
  inside = let m = known_many notes known noted.told in omega arith

  here : bid_at known i ≡ n.known
  here = bid_here notes known i n noted.told within at

  lasts : (b : Bid) → bid_at known i ≡ Some b → r ≡ Some b
  lasts b e = lasting b (sym here ∙ e)

  pub noted_set : IsNoted number (set notes i m) (set known i r) won room
  noted_set = record {
    told = told_set notes known i m r noted.told is;
    sound = keeps known i r inside lasts number won noted.sound;
    enough = (let e = noted.enough in let l = length-set known i r in omega arith);
  }

  pub noted_won : (place : Place) (more : Pairs) (room' : ℕ) → more ≡ won ++ (i, place) ∷ [] → room' ≡ room → n.known ≡ None → r ≡ Some (bid_of place number) → IsNoted number (set notes i m) (set known i r) more room'
  noted_won place more room' are same unknown mine = record {
    told = told_set notes known i m r noted.told is;
    sound = subst (λ (ps : Pairs). IsSoundNotes number (set known i r) ps) (sym are) (wins known i r inside lasts number won place noted.sound (here ∙ unknown) mine);
    enough = (let e = noted.enough in let l = length-set known i r in omega arith);
  }

  pub noted_learns : Learns (λ k. place_of (bid_at known k)) (λ k. place_of (bid_at (set known i r) k)) i (place_of r)
  noted_learns = learns known i r inside lasts

-- there is room for a pair of a name that the note of its cell does not know
pub noted_room : (number i room : ℕ) (notes : Notes) (known : List (Option Bid)) (won : Pairs) (n : Note Bid) → IsNoted number notes known won room → i < length notes → n ≡ get_or notes i n → n.known ≡ None → length won < room
noted_room number i room notes known won n noted within at unknown =
    let m = known_many notes known noted.told in
    let l = room_for number known won i noted.sound (omega arith) (bid_here notes known i n noted.told within at ∙ unknown) in
    let e = noted.enough in omega arith

pub new_passes-apart : (cells : List ℕ) (n : ℕ) → AllPairs IsApart (new_passes cells n)
new_passes-apart cells n i j d less in_list same =
    let many = length-map-range_with_len (new_pass cells) 0 n in
    let one = ap (λ (p : NotedValue). p.number) (get_or-map-range_with_len (new_pass cells) 0 n i i d (omega arith) (omega arith)) in
    let two = ap (λ (p : NotedValue). p.number) (get_or-map-range_with_len (new_pass cells) 0 n j j d (omega arith) (omega arith)) in
    omega arith

pub new_passes-fit : (cells : List ℕ) (n : ℕ) → All (IsPassOf cells) (new_passes cells n)
new_passes-fit cells n k d l =
    let many = length-map-range_with_len (new_pass cells) 0 n in
    ap (λ (p : NotedValue). p.cells) (get_or-map-range_with_len (new_pass cells) 0 n k k d (omega arith) (omega arith))
