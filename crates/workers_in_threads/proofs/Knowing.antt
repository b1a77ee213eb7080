-- What a worker knows of places, as its pass learns.
use Rattle.std.proofs.Common.{◌≡◌, ◌≢◌, ℕ, ◌+◌, zero, suc, ◌∷◌, ◌++◌, [], List, Option, Some, length, refl, sym, ap, ◌∙◌, ⊎_elim, arith}
use Rattle.std.specs.Prelude.{slice_get}
use Rattle.std.proofs.lemmas.Bool.{cases_eq}
use Rattle.layout.specs.declared.place.Place.{Place}
use Rattle.forwarding.specs.Learned.{Learns}
use Rattle.steps.specs.HeapValue.{HeapValue}
use Rattle.steps.specs.CollectionValue.{CollectionValue}
use Rattle.workers.specs.Block.{Block}
use Rattle.workers.specs.Joined.{Each}
use Rattle.workers.specs.Ordered.{LeftHere}
use Rattle.scavenge.specs.Told.{StillKnows}
use Rattle.workers_in_threads.specs.SharingValue.{labelled_from}
use Rattle.workers_in_threads.specs.IsSharing.{KnowsPair}

-- what is known stays so
pub still_known : (old new : ℕ → Option Place) (number : ℕ) (r : Option Place) → Learns old new number r → (m : ℕ) (p : Place) → old m ≡ Some p → new m ≡ Some p
still_known old new number r l m p e =
    ⊎_elim
    (λ (same : m ≡ number). ap new same ∙ l.told ∙ l.lasting p (ap old (sym same) ∙ e))
    (λ (ne : m ≢ number). l.others m ne ∙ e)
    (cases_eq m number)

pub pair_still : (heap : HeapValue) (c : CollectionValue) (old new : ℕ → Option Place) (number : ℕ) (r : Option Place) → Learns old new number r → (e : ℕ × ℕ) → KnowsPair heap c old e → KnowsPair heap c new e
pair_still heap c old new number r l e k = record { number = k.number; of = k.of; place = k.place; shown = still_known old new number r l k.number k.place k.shown; stands = k.stands }

pub pair_kept : (heap : HeapValue) (c : CollectionValue) (old new : ℕ → Option Place) → StillKnows old new → (e : ℕ × ℕ) → KnowsPair heap c old e → KnowsPair heap c new e
pair_kept heap c old new lasts e k = record { number = k.number; of = k.of; place = k.place; shown = lasts k.number k.place k.shown; stands = k.stands }

pub each_on : {X : Type 0} (P Q : X → Type 0) → ((x : X) → P x → Q x) → (xs : List X) → Each P xs → Each Q xs
each_on P Q f [] h = tt
each_on P Q f (x ∷ xs) h = (f x h.0, each_on P Q f xs h.1)

pub each_more : {X : Type 0} (P : X → Type 0) (xs : List X) (x : X) → Each P xs → P x → Each P (xs ++ x ∷ [])
each_more P [] x h p = (p, tt)
each_more P (y ∷ ys) x h p = (h.0, each_more P ys x h.1 p)

-- one more export, labelled with its position
pub labelled_more : (u i : ℕ) (bs : List Block) (b : Block) → labelled_from u i (bs ++ b ∷ []) ≡ labelled_from u i bs ++ (let x : Block = record b { sent = Some (u, i + length bs) } in x) ∷ []
labelled_more u i [] b = let e : i ≡ i + 0 = omega arith in ap (λ j. (let x : Block = record b { sent = Some (u, j) } in x) ∷ []) e
labelled_more u i (a ∷ bs) b =
    let e : i + 1 + length bs ≡ i + suc (length bs) = omega arith in
    ap (λ xs. (let x : Block = record a { sent = Some (u, i) } in x) ∷ xs) (labelled_more u (i + 1) bs b ∙ ap (λ j. labelled_from u (i + 1) bs ++ (let x : Block = record b { sent = Some (u, j) } in x) ∷ []) e)

pub labelled_length : (u i : ℕ) (bs : List Block) → length (labelled_from u i bs) ≡ length bs
labelled_length u i [] = refl
labelled_length u i (b ∷ bs) = ap suc (labelled_length u (i + 1) bs)

-- the block that stands there was exported there
pub labelled_at : (u i : ℕ) (bs : List Block) (j : ℕ) (b : Block) → slice_get (labelled_from u i bs) j ≡ Some b → (sent : Block) × (slice_get bs j ≡ Some sent) × (b ≡ (let x : Block = record sent { sent = Some (u, i + j) } in x))
labelled_at u i [] j b e = absurd (cc)
labelled_at u i (a ∷ bs) zero b e =
    let q : (let x : Block = record a { sent = Some (u, i) } in x) ≡ b = cc in
    let z : i ≡ i + 0 = omega arith in
    (a, refl, sym q ∙ ap (λ k. (let x : Block = record a { sent = Some (u, k) } in x)) z)
labelled_at u i (a ∷ bs) (suc j) b e =
    let r = labelled_at u (i + 1) bs j b e in
    let z : i + 1 + j ≡ i + suc j = omega arith in
    (r.0, r.1, r.2 ∙ ap (λ k. (let x : Block = record r.0 { sent = Some (u, k) } in x)) z)

pub left_here : (u : ℕ) (bs : List Block) (j : ℕ) (b : Block) → slice_get (labelled_from u 0 bs) j ≡ Some b → LeftHere u bs b j
left_here u bs j b e =
    let l = labelled_at u 0 bs j b e in
    let z : 0 + j ≡ j = omega arith in
    record { sent = l.0; there = l.1; same = l.2 ∙ ap (λ k. (let x : Block = record l.0 { sent = Some (u, k) } in x)) z }
