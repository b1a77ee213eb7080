-- What two passes know together, and then all.
use Rattle.std.proofs.Common.{◌≡◌, ℕ, ◌+◌, ◌<◌, ◌≤◌, ◌⊎◌, inl, inr, List, map, set, length, get_or, Some, None, sym, ap, ◌∙◌, subst, arith, below_more, get_or-set_same, get_or-set_other}
use Rattle.std.specs.Prelude.{Option}
use Rattle.std.proofs.lemmas.List.{set-get_or, get_or-map, get_or_read, get_or_default, length-map}
use Rattle.once_cell.specs.declared.race.note.Note.{Note}
use Rattle.forwarding.specs.declared.box_cells.bid.Bid.{Bid}
use Rattle.forwarding.specs.Noted.{NotedValue, IsSoundNotes, bid_at}
use Rattle.forwarding.specs.Gathered.{IsCovered, IsGathered}
use Rattle.forwarding.specs.Boxed.{note_cell, Joined, Joins}

-- notes at one name, of two lists of notes of the same cells, are of one cell
pub same_cell : (one two : List (Note Bid)) (i : ℕ) (n m : Note Bid) → map note_cell two ≡ map note_cell one → i < length one → i < length two → n ≡ get_or one i n → m ≡ get_or two i m → m.cell ≡ n.cell
same_cell one two i n m are l l' at at' =
    ap note_cell at' ∙ (sym (get_or-map note_cell two i m 0 l') ∙ (ap (λ (xs : List ℕ). get_or xs i 0) are ∙ (get_or-map note_cell one i n 0 l ∙ ap note_cell (sym at))))

pub unchanged : {X : Type 0} (xs : List X) (i : ℕ) (n m d : X) → n ≡ get_or xs i d → m ≡ n → set xs i m ≡ xs
unchanged {X} xs i n m d at same = ap (λ (x : X). set xs i x) (same ∙ at) ∙ set-get_or xs i d

pub joined_at : (a b c x y z : Option Bid) → a ≡ x → b ≡ y → c ≡ z → Joined x y z → Joined a b c
joined_at a b c x y z e f g j =
    subst (λ (o : Option Bid). Joined o b c) (sym e) (subst (λ (o : Option Bid). Joined x o c) (sym f) (subst (λ (o : Option Bid). Joined x y o) (sym g) j))

module _ (start found known : List (Option Bid)) (i : ℕ) (one two both : Option Bid) (within : i < length known) (first : one ≡ get_or known i one) (second : two ≡ get_or found i two) (bound : i < length found) (joined : Joined one two both) (left : (k : ℕ) → i ≤ k → bid_at known k ≡ bid_at start k) where
  here : Joined (bid_at start i) (bid_at found i) (bid_at (set known i both) i)
  here = joined_at _ _ _ _ _ _ (sym (left i (omega arith)) ∙ sym (get_or_read known i one within first None)) (sym (get_or_read found i two bound second None)) (get_or-set_same known i both None within) joined

  pub joins_more : ((k : ℕ) → k < i → Joined (bid_at start k) (bid_at found k) (bid_at known k)) → (k : ℕ) → k < i + 1 → Joined (bid_at start k) (bid_at found k) (bid_at (set known i both) k)
  joins_more done = below_more (λ (k : ℕ). Joined (bid_at start k) (bid_at found k) (bid_at (set known i both) k)) i
      (λ k low. subst (λ (o : Option Bid). Joined (bid_at start k) (bid_at found k) o) (sym (get_or-set_other known i k both None (λ e. absurd (omega arith)))) (done k low))
      here

  pub left_more : (k : ℕ) → i + 1 ≤ k → bid_at (set known i both) k ≡ bid_at start k
  left_more k high = get_or-set_other known i k both None (λ e. absurd (omega arith)) ∙ left k (omega arith)

-- what one or the other knew is known to both
pub joined_one : (a b c : Option Bid) (x : Bid) → Joined a b c → a ≡ Some x → c ≡ Some x
joined_one None b c x j e = absurd (cc)
joined_one (Some y) b c x j e = j.0 ∙ e

pub joined_other : (a b c : Option Bid) (x : Bid) → Joined a b c → b ≡ Some x → c ≡ Some x
joined_other None b c x j e = j ∙ e
joined_other (Some y) None c x j e = absurd (cc)
joined_other (Some y) (Some z) c x j e = j.0 ∙ (ap Some (sym j.1) ∙ e)

-- and one of them knew it
pub joined_from : (a b c : Option Bid) (x : Bid) → Joined a b c → c ≡ Some x → (a ≡ Some x) ⊎ (b ≡ Some x)
joined_from None b c x j e = inr (sym j ∙ e)
joined_from (Some y) b c x j e = inl (sym j.0 ∙ e)

-- one more pass was joined
pub gathered_more : (i : ℕ) (passes : List NotedValue) (p e : NotedValue) (all more : List (Option Bid)) → p ≡ get_or passes i e → i < length passes → IsSoundNotes p.number p.known p.won → Joins all p.known more → IsGathered i passes all → IsGathered (i + 1) passes more
gathered_more i passes p e all more at within sound joins g =
    let same : (d : NotedValue) → get_or passes i d ≡ p = λ d. get_or_default passes i d e within ∙ sym at in
    record {
      covers = λ k d. below_more (λ (j : ℕ). IsCovered more (get_or passes j d)) i
          (λ j low. let c = g.covers j d low in (c.0, λ name b f. joined_one _ _ _ b (joins name) (c.1 name b f)))
          (subst (λ (q : NotedValue). IsCovered more q) (sym (same d)) (sound, λ name b f. joined_other _ _ _ b (joins name) f)) k;
      only = λ name b f. elim (joined_from _ _ _ b (joins name) f) [
        | inl old ↦ let was = g.only name b old in (was.0, omega (arith, was.1), was.2)
        | inr new ↦ (i, omega arith, λ d. ap (λ (q : NotedValue). bid_at q.known name) (same d) ∙ new)
      ];
    }

pub same_lengths : (one two : List (Note Bid)) → map note_cell two ≡ map note_cell one → length two ≡ length one
same_lengths one two are = sym (length-map two note_cell) ∙ (ap length are ∙ length-map one note_cell)
