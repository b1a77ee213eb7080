-- What is written down of each block: who is named last.
use Rattle.std.proofs.Common.{◌≡◌, ◌≢◌, ◌≤◌, ℕ, zero, suc, ◌+◌, ◌<◌, ◌==◌, if◌then◌else◌, Bool, true, false, Option, Some, None, List, [], ◌∷◌, map, set, get_or, sym, refl, ap, ◌∙◌, arith, eq-eqb, ne_eqb, option_map}
use mathlib.Core.Logic.{dite}
use native.Mathlib.Decide.{ℕ_discrete}
use Rattle.std.specs.Prelude.{is_some}
use Rattle.std.specs.List.{slice_get}
use Rattle.std.proofs.lemmas.List.Sums.{sum_by-cons}
use Rattle.model.specs.Total.{total}
use Rattle.std.proofs.lemmas.List.{get_or-set_other}
use Rattle.block_pool.specs.BlockValue.{BlockValue}
use Rattle.pending_queues.specs.Labelled.{is_label, times_at}
use Rattle.pending_queues.specs.PendingValue.{SeatValue}
use Rattle.pending_queues.specs.Delivered.{is_taker}
use Rattle.pending_queues.specs.Written.{with_name, with_taker, with_takers}
use Rattle.pending_queues.specs.Telling.{named}
use Rattle.pending_queues.specs.declared.exports.deliveries.Delivery.{Delivery}

-- the delivery at a position of an exporter's list
abbrev pub look : List (List Delivery) → ℕ → ℕ → Option Delivery
look lists u p = slice_get (get_or lists u []) p

-- the delivery with another taker
abbrev pub taken_by : (Option ℕ → Option ℕ) → Option Delivery → Option Delivery
taken_by f o = option_map (λ (d : Delivery). record d { taker = f d.taker }) o

name_here : (list : List Delivery) (p t : ℕ) → slice_get (with_name list p t) p ≡ taken_by (λ _. Some t) (slice_get list p)
name_here [] zero t = refl
name_here [] (suc p) t = refl
name_here (d ∷ ds) zero t = refl
name_here (d ∷ ds) (suc p) t = name_here ds p t

name_else : (list : List Delivery) (p j t : ℕ) → j ≢ p → slice_get (with_name list p t) j ≡ slice_get list j
name_else [] p j t ne = refl
name_else (d ∷ ds) zero zero t ne = absurd (ne refl)
name_else (d ∷ ds) zero (suc j) t ne = refl
name_else (d ∷ ds) (suc p) zero t ne = refl
name_else (d ∷ ds) (suc p) (suc j) t ne = name_else ds p j t (λ e. ne (ap suc e))

-- a list is changed by a function that leaves the empty list as it is
pub here_set : {X : Type 0} (lists : List (List X)) (u : ℕ) (f : List X → List X) → f [] ≡ [] → get_or (set lists u (f (get_or lists u []))) u [] ≡ f (get_or lists u [])
here_set [] zero f e = sym e
here_set [] (suc u) f e = sym e
here_set (x ∷ xs) zero f e = refl
here_set (x ∷ xs) (suc u) f e = here_set xs u f e

same_delivery : (o : Option Delivery) → o ≡ taken_by (λ t. t) o
same_delivery None = refl
same_delivery (Some d) = refl

-- the taker of a block at a position, after a seat was named for a label
abbrev pub taker_by : ℕ → ℕ → ℕ → Option (ℕ × ℕ) → Option ℕ → Option ℕ
taker_by u p t label o = if is_label u p label then Some t else o

pub look_taker : (lists : List (List Delivery)) (t u p : ℕ) (label : Option (ℕ × ℕ)) → look (with_taker lists t label) u p ≡ taken_by (taker_by u p t label) (look lists u p)
look_taker lists t u p None = same_delivery (look lists u p)
look_taker lists t u p (Some (e, q)) =
    dite (ℕ_discrete e u)
    (λ (same : e ≡ u).
    let here : get_or (with_taker lists t (Some (e, q))) e [] ≡ with_name (get_or lists e []) q t = here_set lists e (λ l. with_name l q t) refl in
    let there : look (with_taker lists t (Some (e, q))) u p ≡ slice_get (with_name (get_or lists u []) q t) p =
    ap (λ n. slice_get (get_or (with_taker lists t (Some (e, q))) n []) p) (sym same) ∙ ap (λ l. slice_get l p) here ∙ ap (λ n. slice_get (with_name (get_or lists n []) q t) p) same in
    dite (ℕ_discrete q p)
    (λ (at : q ≡ p). rw (eq-eqb e u same, eq-eqb q p at) (there ∙ ap (λ n. slice_get (with_name (get_or lists u []) n t) p) at ∙ name_here (get_or lists u []) p t))
    (λ (ne : q ≢ p). rw (eq-eqb e u same, ne_eqb q p ne) (there ∙ name_else (get_or lists u []) q p t (λ h. ne (sym h)) ∙ same_delivery (look lists u p))))
    (λ (other : e ≢ u). rw (ne_eqb e u other) (ap (λ l. slice_get l p) (get_or-set_other lists e u (with_name (get_or lists e []) q t) [] (λ h. other (sym h))) ∙ same_delivery (look lists u p)))

-- the same after several labels, and after several seats
abbrev pub takers_by : ℕ → ℕ → ℕ → List (Option (ℕ × ℕ)) → Option ℕ → Option ℕ
takers_by u p t [] o = o
takers_by u p t (label ∷ labels) o = takers_by u p t labels (taker_by u p t label o)

twice : (f g : Option ℕ → Option ℕ) (o : Option Delivery) → taken_by g (taken_by f o) ≡ taken_by (λ t. g (f t)) o
twice f g None = refl
twice f g (Some d) = refl

look_takers : (lists : List (List Delivery)) (t u p : ℕ) (labels : List (Option (ℕ × ℕ))) → look (with_takers lists t labels) u p ≡ taken_by (takers_by u p t labels) (look lists u p)
look_takers lists t u p [] = same_delivery (look lists u p)
look_takers lists t u p (label ∷ labels) =
    look_takers (with_taker lists t label) t u p labels ∙ ap (taken_by (takers_by u p t labels)) (look_taker lists t u p label) ∙ twice (taker_by u p t label) (takers_by u p t labels) (look lists u p)

abbrev pub labels_of : List BlockValue → List (Option (ℕ × ℕ))
labels_of blocks = map (λ (b : BlockValue). b.sent) blocks

pub on_bool : {P : Type 0} (q : Bool) → (q ≡ true → P) → (q ≡ false → P) → P
on_bool true f g = f refl
on_bool false f g = g refl

-- the first block, and the others
abbrev pub one_at : ℕ → ℕ → BlockValue → ℕ
one_at u p b = if is_label u p b.sent then 1 else 0

pub times-cons : (u p : ℕ) (b : BlockValue) (bs : List BlockValue) → times_at u p (b ∷ bs) ≡ one_at u p b + times_at u p bs
times-cons u p b bs = sum_by-cons (one_at u p) b bs

one_here : (u p : ℕ) (b : BlockValue) → is_label u p b.sent ≡ true → one_at u p b ≡ 1
one_here u p b e = rw e refl

pub none_here : (u p : ℕ) (b : BlockValue) → is_label u p b.sent ≡ false → one_at u p b ≡ 0
none_here u p b e = rw e refl

this_label : (u p t : ℕ) (label : Option (ℕ × ℕ)) (o : Option ℕ) → is_label u p label ≡ true → taker_by u p t label o ≡ Some t
this_label u p t label o e = rw e refl

other_label : (u p t : ℕ) (label : Option (ℕ × ℕ)) (o : Option ℕ) → is_label u p label ≡ false → taker_by u p t label o ≡ o
other_label u p t label o e = rw e refl

-- where nobody is named, nothing changes
none_named : (u p t : ℕ) (blocks : List BlockValue) (o : Option ℕ) → times_at u p blocks ≡ 0 → takers_by u p t (labels_of blocks) o ≡ o
none_named u p t [] o none = refl
none_named u p t (b ∷ bs) o none =
    let c = times-cons u p b bs in
    on_bool (is_label u p b.sent)
    (λ e. let h = one_here u p b e in absurd (omega arith))
    (λ e. ap (takers_by u p t (labels_of bs)) (other_label u p t b.sent o e) ∙ none_named u p t bs o (let h = none_here u p b e in omega arith))

-- who is named stays
stays_named : (u p t : ℕ) (labels : List (Option (ℕ × ℕ))) → takers_by u p t labels (Some t) ≡ Some t
stays_named u p t [] = refl
stays_named u p t (label ∷ labels) =
    on_bool (is_label u p label)
    (λ e. ap (takers_by u p t labels) (this_label u p t label (Some t) e) ∙ stays_named u p t labels)
    (λ e. ap (takers_by u p t labels) (other_label u p t label (Some t) e) ∙ stays_named u p t labels)

some_named : (u p t : ℕ) (blocks : List BlockValue) (o : Option ℕ) → 0 < times_at u p blocks → takers_by u p t (labels_of blocks) o ≡ Some t
some_named u p t [] o some = absurd (let z : times_at u p [] ≡ 0 = refl in omega arith)
some_named u p t (b ∷ bs) o some =
    let c = times-cons u p b bs in
    on_bool (is_label u p b.sent)
    (λ e. ap (takers_by u p t (labels_of bs)) (this_label u p t b.sent o e) ∙ stays_named u p t (labels_of bs))
    (λ e. ap (takers_by u p t (labels_of bs)) (other_label u p t b.sent o e) ∙ some_named u p t bs o (let h = none_here u p b e in omega arith))

module _ {A K : Type 0} where
  abbrev pub seat_takers : ℕ → ℕ → List (SeatValue A K) → Option ℕ → Option ℕ
  seat_takers u p [] o = o
  seat_takers u p (s ∷ seats) o = seat_takers u p seats (takers_by u p s.index (labels_of s.taken) o)

  pub look_named : (lists : List (List Delivery)) (u p : ℕ) (seats : List (SeatValue A K)) → look (named lists seats) u p ≡ taken_by (seat_takers u p seats) (look lists u p)
  look_named lists u p [] = same_delivery (look lists u p)
  look_named lists u p (s ∷ seats) =
      look_named (with_takers lists s.index (labels_of s.taken)) u p seats ∙ ap (taken_by (seat_takers u p seats)) (look_takers lists s.index u p (labels_of s.taken))
      ∙ twice (takers_by u p s.index (labels_of s.taken)) (seat_takers u p seats) (look lists u p)

  -- how often all seats took the block
  abbrev pub all_times : ℕ → ℕ → List (SeatValue A K) → ℕ
  all_times u p seats = total (λ (s : SeatValue A K). times_at u p s.taken) seats

  -- how often one seat did, where it has that number
  abbrev pub times_as : ℕ → ℕ → ℕ → SeatValue A K → ℕ
  times_as t u p s = if s.index == t then times_at u p s.taken else 0

  abbrev pub times_by : ℕ → ℕ → ℕ → List (SeatValue A K) → ℕ
  times_by t u p seats = total (times_as t u p) seats

  nobody : (u p : ℕ) (seats : List (SeatValue A K)) (o : Option ℕ) → all_times u p seats ≡ 0 → seat_takers u p seats o ≡ o
  nobody u p [] o none = refl
  nobody u p (s ∷ seats) o none =
      ap (seat_takers u p seats) (none_named u p s.index s.taken o (omega arith)) ∙ nobody u p seats o (omega arith)

  as_here : (t u p : ℕ) (s : SeatValue A K) → (s.index == t) ≡ true → times_as t u p s ≡ times_at u p s.taken
  as_here t u p s e = rw e refl

  as_other : (t u p : ℕ) (s : SeatValue A K) → (s.index == t) ≡ false → times_as t u p s ≡ 0
  as_other t u p s e = rw e refl

  few_as : (t u p : ℕ) (s : SeatValue A K) → times_as t u p s ≤ times_at u p s.taken
  few_as t u p s = on_bool (s.index == t) (λ e. let h = as_here t u p s e in omega arith) (λ e. let h = as_other t u p s e in omega arith)

  pub few_times : (t u p : ℕ) (seats : List (SeatValue A K)) → times_by t u p seats ≤ all_times u p seats
  few_times t u p [] = omega arith
  few_times t u p (s ∷ seats) = let h = few_times t u p seats in let f = few_as t u p s in omega arith

  -- one seat is that taker or not
  taker_is : (t u p : ℕ) (s : SeatValue A K) → times_at u p s.taken ≡ 1 → is_taker t (Some s.index) ≡ times_as t u p s
  taker_is t u p s one =
      on_bool (s.index == t)
      (λ e. let a : is_taker t (Some s.index) ≡ 1 = rw e refl in let h = as_here t u p s e in omega arith)
      (λ e. let a : is_taker t (Some s.index) ≡ 0 = rw e refl in let h = as_other t u p s e in omega arith)

  -- the one that took it is named
  pub one_named : (t u p : ℕ) (seats : List (SeatValue A K)) (o : Option ℕ) → all_times u p seats ≡ 1 → is_taker t (seat_takers u p seats o) ≡ times_by t u p seats
  one_named t u p [] o one = absurd (omega arith)
  one_named t u p (s ∷ seats) o one =
      dite (ℕ_discrete (times_at u p s.taken) 0)
      (λ (none : times_at u p s.taken ≡ 0).
      let f = few_as t u p s in
      let rest : times_by t u p seats ≡ times_by t u p (s ∷ seats) = omega arith in
      ap (λ x. is_taker t (seat_takers u p seats x)) (none_named u p s.index s.taken o none) ∙ one_named t u p seats o (omega arith) ∙ rest)
      (λ (some : times_at u p s.taken ≢ 0).
      let here : times_at u p s.taken ≡ 1 = omega arith in
      let none : all_times u p seats ≡ 0 = omega arith in
      let few = few_times t u p seats in
      let rest : times_as t u p s ≡ times_by t u p (s ∷ seats) = omega arith in
      ap (λ x. is_taker t (seat_takers u p seats x)) (some_named u p s.index s.taken o (omega arith)) ∙ ap (is_taker t) (nobody u p seats (Some s.index) none)
      ∙ taker_is t u p s here ∙ rest)

  pub someone : (u p : ℕ) (seats : List (SeatValue A K)) (o : Option ℕ) → all_times u p seats ≡ 1 → is_some (seat_takers u p seats o) ≡ true
  someone u p [] o one = absurd (omega arith)
  someone u p (s ∷ seats) o one =
      dite (ℕ_discrete (times_at u p s.taken) 0)
      (λ (none : times_at u p s.taken ≡ 0). someone u p seats (takers_by u p s.index (labels_of s.taken) o) (omega arith))
      (λ (some : times_at u p s.taken ≢ 0).
      let none : all_times u p seats ≡ 0 = omega arith in
      ap (λ x. is_some (seat_takers u p seats x)) (some_named u p s.index s.taken o (omega arith)) ∙ ap is_some (nobody u p seats (Some s.index) none))

  pub no_one : (u p : ℕ) (seats : List (SeatValue A K)) → all_times u p seats ≡ 0 → seat_takers u p seats None ≡ None
  no_one u p seats none = nobody u p seats None none
