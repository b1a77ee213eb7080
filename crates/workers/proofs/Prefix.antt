-- What a worker has at any moment of its run accounts for what it got.
use Rattle.std.proofs.Common.{◌≡◌, ℕ, ◌+◌, ◌/◌, ◌<◌, ◌≤◌, Bool, true, false, not, zero, suc, List, [], ◌∷◌, ◌++◌, Option, Some, None, refl, sym, ap, subst, ◌∙◌, cond, arith, nat_le, eqb-true, ne_eqb, add-zero, ◌≢◌, slice_get}
use Rattle.std.proofs.lemmas.Bool.{lt-leb}
use Rattle.workers.specs.Block.{Block, Copy, empty_block, front_copy, with_field, with_copy, with_front_moved}
use Rattle.layout.specs.Place.{small_word}
use Rattle.workers.specs.Setting.{Setting, is_large_name, words_of}
use Rattle.workers.specs.Worker.{Worker, Hand, Nothing, Open, Holding, HoldingLarge}
use Rattle.workers.specs.WorkerRun.{no_history}
use Rattle.workers.specs.Total.{total, front_total, one_if}
use Rattle.workers.specs.Joined.{Each, OnSome, Part, somes}
use Rattle.workers.specs.Laid.{LaidFrom, Laid, words_in}
use Rattle.workers.specs.Refused.{HasBegun}
use Rattle.workers.specs.Ordered.{in_block}
use Rattle.workers.proofs.Lists.{at, none-OnSome, none-some, Each-append, Each-map, Each-at_all, at-none}
use Rattle.workers.proofs.Totals.{total-append, front_total-updated, front_total-push, front_total_more, of_some}
use Rattle.workers.proofs.Balance.{InFront, balance, got, has, in_hand, scans_in}
use Rattle.workers.proofs.Laid.{LaidOut, HandLaid, moves_laid}
use Rattle.workers.proofs.OnePart.{total-somes, total-none, total-zero, Each-somes}
use Rattle.workers.proofs.Renamed.{zero-Each, one_if-not}
use Rattle.workers.proofs.Space.{moves}

abbrev pub held : Hand → List Block
held Nothing = []
held (Open d) = []
held (Holding b) = b ∷ []
held (HoldingLarge n) = []

-- all blocks that a worker has
abbrev pub located : Worker → List Block
located w = held w.hand ++ (somes w.allocation ++ (w.aside ++ w.done))

pub member-le : {A : Type 0} (f : A → ℕ) (xs : List A) (i : ℕ) (x : A) → slice_get xs i ≡ Some x → f x ≤ total f xs
member-le f [] i x e = absurd (none-some e)
member-le f (y ∷ xs) zero x e = let q : y ≡ x = cc in let a : f y ≡ f x = ap f q in omega arith
member-le f (y ∷ xs) (suc i) x e = let a : f x ≤ total f xs = member-le f xs i x e in omega arith

pub record Picked {A : Type 0} (f : A → ℕ) (P : A → Type 0) (xs : List A) : Type 0 where
  pub i : ℕ
  pub x : A
  pub there : slice_get xs i ≡ Some x
  pub fact : P x
  pub counts : 0 < f x

-- a sum that is not 0 has a member that is not
pub pick : {A : Type 0} (f : A → ℕ) (P : A → Type 0) (xs : List A) → Each P xs → 0 < total f xs → Picked f P xs
pick f P [] h l = absurd (omega arith)
pick f P (x ∷ xs) h l = go (f x) refl (pick f P xs h.1)
  where
    go : (n : ℕ) → f x ≡ n → (0 < total f xs → Picked f P xs) → Picked f P (x ∷ xs)
    go zero e rest = let r = rest (omega arith) in record { i = suc r.i; x = r.x; there = r.there; fact = r.fact; counts = r.counts }
    go (suc n) e rest = record { i = 0; x = x; there = refl; fact = h.0; counts = omega arith }

-- none of its kind
pub no_kind : {A : Type 0} (ν φ : A → ℕ) (ys : List A) → total ν ys ≡ 0 → Each (λ y. ν y ≡ 0 → φ y ≡ 0) ys → total φ ys ≡ 0
no_kind ν φ [] z h = refl
no_kind ν φ (y ∷ ys) z h = let a : φ y ≡ 0 = h.0 (omega arith) in let b : total φ ys ≡ 0 = no_kind ν φ ys (omega arith) h.1 in omega arith

-- the only one of its kind
pub alone : {A : Type 0} (ν φ : A → ℕ) (xs : List A) (i : ℕ) (x : A) → slice_get xs i ≡ Some x → 0 < ν x → total ν xs ≤ 1 → Each (λ y. ν y ≡ 0 → φ y ≡ 0) xs → total φ xs ≡ φ x
alone ν φ [] i x e p l h = absurd (none-some e)
alone ν φ (y ∷ xs) zero x e p l h =
    let q : y ≡ x = cc in
    let a : ν y ≡ ν x = ap ν q in
    let b : φ y ≡ φ x = ap φ q in
    let z : total φ xs ≡ 0 = nothing xs (omega arith) h.1 in
    omega arith
  where
    nothing : (ys : List _) → total ν ys ≡ 0 → Each (λ y. ν y ≡ 0 → φ y ≡ 0) ys → total φ ys ≡ 0
    nothing [] z h = refl
    nothing (y ∷ ys) z h = let a : φ y ≡ 0 = h.0 (omega arith) in let b : total φ ys ≡ 0 = nothing ys (omega arith) h.1 in omega arith
alone ν φ (y ∷ xs) (suc i) x e p l h =
    let m : ν x ≤ total ν xs = member xs i x e in
    let a : φ y ≡ 0 = h.0 (omega arith) in
    let r : total φ xs ≡ φ x = alone ν φ xs i x e p (omega arith) h.1 in
    omega arith
  where
    member : (ys : List _) (i : ℕ) (x : _) → slice_get ys i ≡ Some x → ν x ≤ total ν ys
    member [] i x e = absurd (none-some e)
    member (y ∷ ys) zero x e = let q : y ≡ x = cc in let a : ν y ≡ ν x = ap ν q in omega arith
    member (y ∷ ys) (suc i) x e = let a : ν x ≤ total ν ys = member ys i x e in omega arith

pub somes-at : {A : Type 0} (xs : List (Option A)) (d : ℕ) (x : A) → at xs d ≡ Some x → (i : ℕ) × (slice_get (somes xs) i ≡ Some x)
somes-at [] d x e = absurd (none-some e)
somes-at (None ∷ xs) zero x e = absurd (none-some e)
somes-at (Some y ∷ xs) zero x e = (0, e)
somes-at (None ∷ xs) (suc d) x e = somes-at xs d x e
somes-at (Some y ∷ xs) (suc d) x e = let r = somes-at xs d x e in (suc r.0, r.1)

module _ (setting : Setting) (part : Part) (r : HasBegun setting part) where
  total-located : (φ : Block → ℕ) → total φ (located part.final) ≡ total φ (held part.final.hand) + (total (of_some φ) part.final.allocation + (total φ part.final.aside + total φ part.final.done))
  total-located φ =
      total-append φ (held part.final.hand) (somes part.final.allocation ++ (part.final.aside ++ part.final.done))
      ∙ ap (λ n. total φ (held part.final.hand) + n)
      (total-append φ (somes part.final.allocation) (part.final.aside ++ part.final.done)
      ∙ ap (λ n. n + total φ (part.final.aside ++ part.final.done)) (total-somes φ part.final.allocation)
      ∙ ap (λ n. total (of_some φ) part.final.allocation + n) (total-append φ part.final.aside part.final.done))

  module _ (φ : Block → ℕ) where
    account : (pair : ℕ × ℕ → ℕ) (scan number unshut shut : ℕ → ℕ)
        → ((n d : ℕ) → φ (empty_block n d) ≡ number n)
        → ((i : ℕ) (v : Option ℕ) (b : Block) → φ (with_field i v b) ≡ φ b)
        → ((c : Copy) (b : Block) → InFront b → is_large_name setting c.name ≡ false → φ (with_copy c b) ≡ φ b + pair (c.name, c.place))
        → ((b : Block) (c : Copy) → front_copy b ≡ Some c → φ (with_front_moved b) ≡ φ b + scan c.place)
        → ((n : ℕ) → is_large_name setting n ≡ true → pair (n, n) ≡ unshut n)
        → ((n : ℕ) → shut n ≡ unshut n + scan n)
        → (inner : ℕ) × (((n : ℕ) → part.final.hand ≡ HoldingLarge n → inner ≡ unshut n) × (total φ (held part.final.hand) ≤ inner) × (((n : ℕ) → unshut n ≡ 0) → inner ≡ total φ (held part.final.hand)) × (total pair part.final.won + total scan part.final.scanned + total number part.history.drawn + total φ part.history.taken ≡ total (of_some φ) part.final.allocation + total φ part.final.aside + total φ part.final.done + inner + total φ part.history.exported + total unshut part.final.large + total shut part.final.large_done))
    account pair scan number unshut shut a b c d e g = (
      in_hand setting φ pair scan number unshut shut a b c d e g part.final.hand,
      (
        λ n q. ap (in_hand setting φ pair scan number unshut shut a b c d e g) q,
        (on part.final.hand).0,
        (on part.final.hand).1,
        balance setting φ pair scan number unshut shut a b c d e g (moves setting part r) (none-OnSome InFront part.start.allocation r.opening.no_allocation) begins,
      ),
    )
      where
        on : (hand : Hand) → (total φ (held hand) ≤ in_hand setting φ pair scan number unshut shut a b c d e g hand) × (((n : ℕ) → unshut n ≡ 0) → in_hand setting φ pair scan number unshut shut a b c d e g hand ≡ total φ (held hand))
        on Nothing = (omega arith, λ z. refl)
        on (Open d) = (omega arith, λ z. refl)
        on (Holding b) = (omega arith, λ z. omega arith)
        on (HoldingLarge n) = (omega arith, λ z. z n)

        begins : got setting φ pair scan number unshut shut a b c d e g part.start no_history ≡ has setting φ pair scan number unshut shut a b c d e g part.start no_history
        begins =
            let q1 : total pair part.start.won ≡ 0 = ap (total pair) r.opening.no_won in
            let q2 : total scan part.start.scanned ≡ 0 = ap (total scan) r.opening.no_scanned in
            let q3 : total (of_some φ) part.start.allocation ≡ 0 = total-none φ part.start.allocation r.opening.no_allocation in
            let q4 : total φ part.start.aside ≡ 0 = ap (total φ) r.opening.no_aside in
            let q5 : total φ part.start.done ≡ 0 = ap (total φ) r.opening.no_done in
            let q6 : in_hand setting φ pair scan number unshut shut a b c d e g part.start.hand ≡ 0 = ap (in_hand setting φ pair scan number unshut shut a b c d e g) r.opening.no_hand in
            let q7 : total unshut part.start.large ≡ 0 = ap (total unshut) r.opening.no_large in
            let q8 : total shut part.start.large_done ≡ 0 = ap (total shut) r.opening.no_large_done in
            omega arith

  -- numbers
  pub numbers : (number : ℕ → ℕ) → total number part.history.drawn + total (λ b. number b.number) part.history.taken ≡ total (λ b. number b.number) (located part.final) + total (λ b. number b.number) part.history.exported
  numbers number =
      let z1 = total-zero part.final.won in
      let z2 = total-zero part.final.scanned in
      let z3 = total-zero part.final.large_done in
      let z4 = total-zero part.final.large in
      let l = total-located (λ b. number b.number) in
      let x = account (λ b. number b.number) (λ _. 0) (λ _. 0) number (λ _. 0) (λ _. 0) (λ n d. refl) (λ i v b. refl) (λ c b i l. sym (add-zero _)) (λ b c e. sym (add-zero _)) (λ n l. refl) (λ n. refl) in
      let y = x.1.2 (λ n. refl) in
      let z = x.1.3 in
      omega arith

  -- scanned places
  pub scans : (scan : ℕ → ℕ) → total scan part.final.scanned + total (scans_in setting scan) part.history.taken ≡ total (scans_in setting scan) (located part.final) + total (scans_in setting scan) part.history.exported + total scan part.final.large_done
  scans scan =
      let z1 = total-zero part.final.won in
      let z2 = total-zero part.history.drawn in
      let z4 = total-zero part.final.large in
      let l = total-located (scans_in setting scan) in
      let x = account (scans_in setting scan) (λ _. 0) scan (λ _. 0) (λ _. 0) scan (λ n d. refl)
      (λ i v b. front_total-updated (λ (c : Copy). scan c.place) _ (λ c. refl) b.front b.copies b.front)
      (λ c b i l. front_total-push (λ (c : Copy). scan c.place) b.front b.copies c i ∙ sym (add-zero _))
      (λ b c e. front_total_more (λ (c : Copy). scan c.place) b.front b.copies c e) (λ n l. refl) (λ n. omega arith) in
      let y = x.1.2 (λ n. refl) in
      let z = x.1.3 in
      omega arith

  pub large_done_are : Each (λ n. is_large_name setting n ≡ true) part.final.large_done
  large_done_are =
      Each-map (λ n. one_if (not (is_large_name setting n)) ≡ 0) (λ n. is_large_name setting n ≡ true) (λ n e. one_if-not _ e) part.final.large_done
      (zero-Each (λ n. one_if (not (is_large_name setting n))) part.final.large_done
      (let z1 = total-zero part.final.won in
      let z2 = total-zero part.final.scanned in
      let z3 = total-zero part.history.drawn in
      let z4 = total-zero part.history.taken in
      let x = account (λ _. 0) (λ _. 0) (λ _. 0) (λ _. 0) (λ n. one_if (not (is_large_name setting n))) (λ n. one_if (not (is_large_name setting n))) (λ n d. refl) (λ i v b. refl) (λ c b i l. refl) (λ b c e. refl)
      (λ n l. sym (ap (λ y. one_if (not y)) l)) (λ n. sym (add-zero _)) in
      let z = x.1.3 in
      omega arith))

  pub hand_is : (n : ℕ) → part.final.hand ≡ HoldingLarge n → is_large_name setting n ≡ true
  hand_is n q =
      one_if-not _
      (let z1 = total-zero part.final.won in
      let z2 = total-zero part.final.scanned in
      let z3 = total-zero part.history.drawn in
      let z4 = total-zero part.history.taken in
      let x = account (λ _. 0) (λ _. 0) (λ _. 0) (λ _. 0) (λ n. one_if (not (is_large_name setting n))) (λ n. one_if (not (is_large_name setting n))) (λ n d. refl) (λ i v b. refl) (λ c b i l. refl) (λ b c e. refl)
      (λ n l. sym (ap (λ y. one_if (not y)) l)) (λ n. sym (add-zero _)) in
      let z = x.1.3 in
      let y = x.1.0 n q in
      omega arith)

  -- each of its blocks is laid
  pub all_laid : Each (Laid setting) part.history.taken → Each (Laid setting) (located part.final) × Each (Laid setting) part.history.exported
  all_laid taken =
      let l : LaidOut setting (Unit {0}) part.final part.history = moves_laid setting (Unit {0}) (moves setting part r) (λ _. taken) begins in (
        Each-append (Laid setting) (held part.final.hand) _ (on part.final.hand (l.hand tt))
            (Each-append (Laid setting) (somes part.final.allocation) _ (Each-somes (Laid setting) part.final.allocation (Each-at_all (Laid setting) part.final.allocation (λ d. weaken d (at part.final.allocation d) (l.allocation d))))
            (Each-append (Laid setting) part.final.aside part.final.done l.aside (l.done tt))),
        l.exported,
      )
    where
      weaken : (d : ℕ) (o : Option Block) → OnSome (λ b. Laid setting b × (b.destination ≡ d)) o → OnSome (Laid setting) o
      weaken d None h = tt
      weaken d (Some b) h = h.0

      on : (hand : Hand) → HandLaid setting (Unit {0}) hand → Each (Laid setting) (held hand)
      on Nothing h = tt
      on (Open d) h = tt
      on (Holding b) h = (h, tt)
      on (HoldingLarge n) h = tt

      begins : LaidOut setting (Unit {0}) part.start no_history
      begins =
          record {
            allocation = λ d. subst (OnSome _) (sym (at-none part.start.allocation r.opening.no_allocation d)) tt;
            hand = λ _. subst (λ x. HandLaid setting (Unit {0}) x) (sym r.opening.no_hand) tt;
            aside = subst (Each (Laid setting)) (sym r.opening.no_aside) tt;
            done = λ _. subst (Each (Laid setting)) (sym r.opening.no_done) tt;
            exported = tt;
          }

-- places of laid copies
module _ (setting : Setting) (small_blocks : setting.block_words ≤ 65536) (k : ℕ) where
  -- a place of block k that isn't below p
  abbrev pub late : ℕ → ℕ → ℕ
  late p q = cond (in_block k q) (one_if (nat_le p q)) 0

  elsewhere : (number destination offset : ℕ) (cs : List Copy) (p n : ℕ) → number ≢ k → LaidFrom setting number destination offset cs → offset + words_in setting cs ≤ 65536 → front_total (λ (c : Copy). late p c.place) n cs ≡ 0
  elsewhere number destination offset [] p n ne h l = refl
  elsewhere number destination offset (c ∷ cs) p zero ne h l = refl
  elsewhere number destination offset (c ∷ cs) p (suc n) ne h l =
      let w : 0 < words_of setting c.name = h.0.has_words in
      let at_offset : c.place ≡ small_word number offset = h.0.place in
      let r : front_total (λ (c : Copy). late p c.place) n cs ≡ 0 = elsewhere number destination (offset + words_of setting c.name) cs p n ne h.1 (omega arith) in
      let x : in_block k c.place ≡ false = ne_eqb (c.place / 65536) (k + 1) (λ e. ne (omega arith)) in
      let y : late p c.place ≡ 0 = ap (λ b. cond b (one_if (nat_le p c.place)) 0) x in
      omega arith

  beyond : (number destination offset : ℕ) (cs : List Copy) (n : ℕ) (c : Copy) → LaidFrom setting number destination offset cs → slice_get cs n ≡ Some c → small_word number offset ≤ c.place
  beyond number destination offset [] n c h e = absurd (none-some e)
  beyond number destination offset (x ∷ cs) zero c h e = let q : x ≡ c = cc in let a : x.place ≡ c.place = ap (λ (y : Copy). y.place) q in let b : x.place ≡ small_word number offset = h.0.place in omega arith
  beyond number destination offset (x ∷ cs) (suc n) c h e = let r : small_word number (offset + words_of setting x.name) ≤ c.place = beyond number destination (offset + words_of setting x.name) cs n c h.1 e in omega arith

  before : (number destination offset : ℕ) (cs : List Copy) (n : ℕ) (c : Copy) → LaidFrom setting number destination offset cs → slice_get cs n ≡ Some c → front_total (λ (x : Copy). late c.place x.place) n cs ≡ 0
  before number destination offset [] n c h e = refl
  before number destination offset (x ∷ cs) zero c h e = refl
  before number destination offset (x ∷ cs) (suc n) c h e =
      let w : 0 < words_of setting x.name = h.0.has_words in
      let at_offset : x.place ≡ small_word number offset = h.0.place in
      let m : small_word number (offset + words_of setting x.name) ≤ c.place = beyond number destination (offset + words_of setting x.name) cs n c h.1 e in
      let r : front_total (λ (y : Copy). late c.place y.place) n cs ≡ 0 = before number destination (offset + words_of setting x.name) cs n c h.1 e in
      let f : nat_le c.place x.place ≡ false = lt-leb c.place x.place (omega arith) in
      let y : late c.place x.place ≡ 0 = ap (λ b. cond (in_block k x.place) (one_if b) 0) f ∙ none_of (in_block k x.place) in
      omega arith
    where
      none_of : (b : Bool) → ◌≡◌ {A = ℕ} (cond b 0 0) 0
      none_of true = refl
      none_of false = refl

  pub block_elsewhere : (p : ℕ) (b : Block) → Laid setting b → b.number ≢ k → scans_in setting (late p) b ≡ 0
  block_elsewhere p b l ne = let w : words_in setting b.copies ≤ setting.block_words = l.within in elsewhere b.number b.destination 0 b.copies p b.front ne l.from (omega arith)

  pub block_before : (b : Block) (c : Copy) → Laid setting b → front_copy b ≡ Some c → scans_in setting (late c.place) b ≡ 0
  block_before b c l e = before b.number b.destination 0 b.copies b.front c l.from e

  -- the block of a laid copy
  pub front_number : (b : Block) (c : Copy) → Laid setting b → front_copy b ≡ Some c → in_block k c.place ≡ true → b.number ≡ k
  front_number b c l e i =
      let w : words_in setting b.copies ≤ setting.block_words = l.within in
      let r = go b.number b.destination 0 b.copies b.front l.from (omega arith) e in
      let p : c.place ≡ small_word b.number r.0 = r.1.1 in
      let lt : r.0 < 65536 = r.1.0 in
      let t : c.place / 65536 ≡ k + 1 = eqb-true _ _ i in
      omega arith
    where
      go : (number destination offset : ℕ) (cs : List Copy) (n : ℕ) → LaidFrom setting number destination offset cs → offset + words_in setting cs ≤ 65536 → slice_get cs n ≡ Some c → (o : ℕ) × ((o < 65536) × (c.place ≡ small_word number o))
      go number destination offset [] n h l e = absurd (none-some e)
      go number destination offset (x ∷ cs) zero h l e = let w : 0 < words_of setting x.name = h.0.has_words in let q : x ≡ c = cc in (offset, (omega arith, sym (ap (λ (y : Copy). y.place) q) ∙ h.0.place))
      go number destination offset (x ∷ cs) (suc n) h l e = go number destination (offset + words_of setting x.name) cs n h.1 (omega arith) e
