-- Who took the blocks that the queues handed out.
use Rattle.std.proofs.Common.{◌≡◌, ◌≢◌, ℕ, zero, suc, List, [], ◌∷◌, ◌++◌, length, Some, refl, sym, ap, ◌∙◌, ⊎_elim}
use Rattle.std.proofs.lemmas.Bool.{cases_eq}
use Rattle.std.specs.Prelude.{slice_get, slice_set}
use Rattle.block_pool.specs.BlockValue.{BlockValue}
use Rattle.pending_queues.specs.PlainValue.{PlainLane, with_taker}
use Rattle.machine.specs.InterleavedValue.{MemberValue}
use Rattle.machine.specs.IsInterleaved.{HasTaken, AreTakenBy}
use Rattle.machine.proofs.Places.{set-each, get-set, get-set_other}
use Rattle.machine.proofs.Lanes.{places_more}

abbrev pub AreTakers : List PlainLane → List MemberValue → Type 0
AreTakers lanes members = (u : ℕ) (lane : PlainLane) → slice_get lanes u ≡ Some lane → AreTakenBy members u lane

get-more : {A : Type 0} (xs ys : List A) (k : ℕ) (x : A) → slice_get xs k ≡ Some x → slice_get (xs ++ ys) k ≡ Some x
get-more [] ys k x e = absurd (cc)
get-more (z ∷ zs) ys zero x e = e
get-more (z ∷ zs) ys (suc k) x e = get-more zs ys k x e

get-last : {A : Type 0} (xs : List A) (x : A) → slice_get (xs ++ x ∷ []) (length xs) ≡ Some x
get-last [] x = refl
get-last (z ∷ zs) x = get-last zs x

-- a member whose taken list is as before, or has more
module _ (members : List MemberValue) (t : ℕ) (m m' : MemberValue) (at : slice_get members t ≡ Some m) where
  has_still : ((k : ℕ) (e : ℕ × ℕ) → slice_get m.taken k ≡ Some e → slice_get m'.taken k ≡ Some e) → (by u position : ℕ) → HasTaken members by u position → HasTaken (slice_set members t m') by u position
  has_still more by u position h = ⊎_elim same other (cases_eq by t)
    where
      same : by ≡ t → HasTaken (slice_set members t m') by u position
      same e =
          let one : m ≡ h.member = some_is (sym at ∙ ap (slice_get members) (sym e) ∙ h.there) in
          record { member = m'; there = ap (slice_get (slice_set members t m')) e ∙ get-set members t m m' at; place = h.place; took = more h.place (u, position) (ap (λ (x : MemberValue). slice_get x.taken h.place) one ∙ h.took) }
        where
          some_is : {x y : MemberValue} → Some x ≡ Some y → x ≡ y
          some_is {x = x} {y = y} e = cc

      other : by ≢ t → HasTaken (slice_set members t m') by u position
      other ne = record { member = h.member; there = get-set_other members t by m' ne ∙ h.there; place = h.place; took = h.took }

  pub takers_same : (lanes : List PlainLane) → m'.taken ≡ m.taken → AreTakers lanes members → AreTakers lanes (slice_set members t m')
  takers_same lanes same k u lane there position by taken = has_still (λ i e x. ap (λ xs. slice_get xs i) same ∙ x) by u position (k u lane there position by taken)

  -- it took the next block of worker u
  pub takers_more : (lanes : List PlainLane) (u : ℕ) (lane : PlainLane) (b : BlockValue) (seat : ℕ) → slice_get lanes u ≡ Some lane → seat ≡ t → m'.taken ≡ m.taken ++ (u, length lane.takers) ∷ [] → AreTakers lanes members
      → AreTakers (slice_set lanes u (with_taker lane seat (Some b))) (slice_set members t m')
  takers_more lanes u lane b seat there mine took k =
      set-each (AreTakenBy (slice_set members t m')) lanes u (with_taker lane seat (Some b)) (λ i x e. old i x e)
      (places_more (λ position by. HasTaken (slice_set members t m') by u position) lane.takers seat (old u lane there) new)
    where
      old : AreTakers lanes (slice_set members t m')
      old i x e position by taken = has_still (λ j y z. ap (λ xs. slice_get xs j) took ∙ get-more m.taken ((u, length lane.takers) ∷ []) j y z) by i position (k i x e position by taken)

      new : HasTaken (slice_set members t m') seat u (length lane.takers)
      new =
          record {
            member = m';
            there = ap (slice_get (slice_set members t m')) mine ∙ get-set members t m m' at;
            place = length m.taken;
            took = ap (λ xs. slice_get xs (length m.taken)) took ∙ get-last m.taken (u, length lane.takers);
          }

-- a queue that was taken from no further
pub takers_lane : (lanes : List PlainLane) (members : List MemberValue) (u : ℕ) (lane new : PlainLane) → slice_get lanes u ≡ Some lane → new.takers ≡ lane.takers → AreTakers lanes members → AreTakers (slice_set lanes u new) members
takers_lane lanes members u lane new there same k = set-each (AreTakenBy members) lanes u new k (λ position by taken. k u lane there position by (ap (λ ts. slice_get ts position) (sym same) ∙ taken))
