-- What is told and named, seat by seat and label by label.
use Rattle.std.proofs.Common.{◌≡◌, ℕ, ◌+◌, ◌<◌, ◌≤◌, List, [], ◌∷◌, length, map, set, drop, get_or, sym, refl, ap, ◌∙◌, Option, Some}
use Rattle.std.proofs.lemmas.List.{drop_all, drop_more}
use Rattle.block_pool.specs.BlockValue.{BlockValue}
use Rattle.pending_queues.specs.PendingValue.{SeatValue}
use Rattle.pending_queues.specs.SeatPass.{sizes_of}
use Rattle.pending_queues.specs.Written.{left, with_taker, with_takers}
use Rattle.pending_queues.specs.Telling.{all_left, placed, named}
use Rattle.pending_queues.specs.declared.exports.label.Label.{Label}
use Rattle.pending_queues.specs.declared.exports.deliveries.Delivery.{Delivery}

-- blocks that are left, by their sizes
pub left_sizes : (blocks : List BlockValue) → map left (sizes_of blocks) ≡ all_left blocks
left_sizes [] = refl
left_sizes (b ∷ bs) = ap (λ l. left (length b.objects) ∷ l) (left_sizes bs)

abbrev pub label_of : Label → Option (ℕ × ℕ)
label_of t = Some (t.exporter, t.position)

-- one more label was named, and then all are
pub takers_next : (start now next : List (List Delivery)) (t : ℕ) (log : List Label) (i : ℕ) (d : Label) (all : List (Option (ℕ × ℕ))) → i < length log
    → with_takers now t (map label_of (drop i log)) ≡ with_takers start t all → next ≡ with_taker now t (label_of (get_or log i d))
    → with_takers next t (map label_of (drop (i + 1) log)) ≡ with_takers start t all
takers_next start now next t log i d all lt so is =
    ap (λ l. with_takers l t (map label_of (drop (i + 1) log))) is ∙ ap (λ l. with_takers now t (map label_of l)) (sym (drop_more log i d lt)) ∙ so

pub takers_end : (start now : List (List Delivery)) (t : ℕ) (log : List Label) (i : ℕ) (all : List (Option (ℕ × ℕ))) → length log ≤ i
    → with_takers now t (map label_of (drop i log)) ≡ with_takers start t all → now ≡ with_takers start t all
takers_end start now t log i all le so = ap (λ l. with_takers now t (map label_of l)) (sym (drop_all i log le)) ∙ so

module _ {A K : Type 0} where
  pub placed_next : (start now next : List (List Delivery)) (seats : List (SeatValue A K)) (i : ℕ) (d : SeatValue A K) → i < length seats
      → placed now (drop i seats) ≡ placed start seats → next ≡ set now (get_or seats i d).index (all_left (get_or seats i d).sent)
      → placed next (drop (i + 1) seats) ≡ placed start seats
  placed_next start now next seats i d lt so is = ap (λ l. placed l (drop (i + 1) seats)) is ∙ ap (placed now) (sym (drop_more seats i d lt)) ∙ so

  pub placed_end : (start now : List (List Delivery)) (seats : List (SeatValue A K)) (i : ℕ) → length seats ≤ i → placed now (drop i seats) ≡ placed start seats → now ≡ placed start seats
  placed_end start now seats i le so = ap (placed now) (sym (drop_all i seats le)) ∙ so

  pub named_next : (start now next : List (List Delivery)) (seats : List (SeatValue A K)) (i : ℕ) (d : SeatValue A K) → i < length seats
      → named now (drop i seats) ≡ named start seats → next ≡ with_takers now (get_or seats i d).index (map (λ b. b.sent) (get_or seats i d).taken)
      → named next (drop (i + 1) seats) ≡ named start seats
  named_next start now next seats i d lt so is = ap (λ l. named l (drop (i + 1) seats)) is ∙ ap (named now) (sym (drop_more seats i d lt)) ∙ so

  pub named_end : (start now : List (List Delivery)) (seats : List (SeatValue A K)) (i : ℕ) → length seats ≤ i → named now (drop i seats) ≡ named start seats → now ≡ named start seats
  named_end start now seats i le so = ap (named now) (sym (drop_all i seats le)) ∙ so
