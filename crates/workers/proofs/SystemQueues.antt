-- In a run of the system each export is taken once, as it was sent.
use Rattle.std.proofs.Common.{◌≡◌, ◌≢◌, ℕ, zero, suc, ◌+◌, ◌<◌, ◌≤◌, ◌&&◌, List, [], ◌∷◌, ◌++◌, Some, refl, sym, ap, subst, ◌∙◌, ◌⊎◌, inl, inr, ⊎_elim, set, length, arith, nat_eq, nat_lt, eq-eqb, ne_eqb, lt-ltb, le-ltb, length-append}
use Rattle.std.proofs.lemmas.Bool.{cases_eq}
use Rattle.std.specs.Prelude.{slice_get}
use Rattle.workers.specs.Block.{Block, updated}
use Rattle.workers.specs.Setting.{Setting}
use Rattle.workers.specs.Worker.{Worker}
use Rattle.workers.specs.WorkerRun.{Exported, Took, first_alone}
use Rattle.workers.specs.System.{System}
use Rattle.workers.specs.Total.{total, one_if}
use Rattle.workers.specs.Joined.{Each, Part, WasExported, is_sent, deliveries}
use Rattle.workers.proofs.Lists.{Each-at, Each-set, Each-map, Each-append, none-some, get-lt, get-append}
use Rattle.workers.proofs.Totals.{total-push}
use Rattle.workers.proofs.SystemParts.{acted, total-set}

abbrev pub labelled : ℕ → ℕ → List Block → List Block
labelled u i [] = []
labelled u i (x ∷ xs) = record x { sent = Some (u, i) } ∷ labelled u (suc i) xs

-- what each exported, under its labels
abbrev pub label_all : ℕ → List Part → List (List Block)
label_all u [] = []
label_all u (p ∷ ps) = labelled u 0 p.history.exported ∷ label_all (suc u) ps

module _ where
  pub length-labelled : (u i : ℕ) (xs : List Block) → length (labelled u i xs) ≡ length xs
  length-labelled u i [] = refl
  length-labelled u i (x ∷ xs) = ap suc (length-labelled u (suc i) xs)

  labelled-push : (u i n : ℕ) (xs : List Block) (b : Block) → n ≡ i + length xs → labelled u i (xs ++ b ∷ []) ≡ labelled u i xs ++ record b { sent = Some (u, n) } ∷ []
  labelled-push u i n [] b e = let q : i ≡ n = omega arith in ap (λ k. record b { sent = Some (u, k) } ∷ []) q
  labelled-push u i n (x ∷ xs) b e = ap (λ t. record x { sent = Some (u, i) } ∷ t) (labelled-push u (suc i) n xs b (omega arith))

  pub get-labelled : (u i k n : ℕ) (xs : List Block) (b : Block) → n ≡ i + k → slice_get (labelled u i xs) k ≡ Some b → (x : Block) × ((slice_get xs k ≡ Some x) × (b ≡ record x { sent = Some (u, n) }))
  get-labelled u i k n [] b e g = absurd (none-some g)
  get-labelled u i zero n (x ∷ xs) b e g =
      let q : i ≡ n = omega arith in
      let s : record x { sent = Some (u, i) } ≡ b = cc in
      (x, (refl, sym s ∙ ap (λ k. record x { sent = Some (u, k) }) q))
  get-labelled u i (suc k) n (x ∷ xs) b e g = get-labelled u (suc i) k n xs b (omega arith) g

  pub get-label_all : (k u n : ℕ) (ps : List Part) (bs : List Block) → n ≡ k + u → slice_get (label_all k ps) u ≡ Some bs → (p : Part) × ((slice_get ps u ≡ Some p) × (bs ≡ labelled n 0 p.history.exported))
  get-label_all k u n [] bs e g = absurd (none-some g)
  get-label_all k zero n (p ∷ ps) bs e g =
      let q : k ≡ n = omega arith in
      let s : labelled k 0 p.history.exported ≡ bs = cc in
      (p, (refl, sym s ∙ ap (λ x. labelled x 0 p.history.exported) q))
  get-label_all k (suc u) n (p ∷ ps) bs e g = get-label_all (suc k) u n ps bs (omega arith) g

  label_all-get : (k u n : ℕ) (ps : List Part) (p : Part) → n ≡ k + u → slice_get ps u ≡ Some p → slice_get (label_all k ps) u ≡ Some (labelled n 0 p.history.exported)
  label_all-get k u n [] p e g = absurd (none-some g)
  label_all-get k zero n (x ∷ ps) p e g =
      let q : k ≡ n = omega arith in
      let s : x ≡ p = cc in
      ap (λ y. Some (labelled k 0 y.history.exported)) s ∙ ap (λ y. Some (labelled y 0 p.history.exported)) q
  label_all-get k (suc u) n (x ∷ ps) p e g = label_all-get (suc k) u n ps p (omega arith) g

  label_all-set : (k t n : ℕ) (ps : List Part) (p : Part) → n ≡ k + t → label_all k (set ps t p) ≡ set (label_all k ps) t (labelled n 0 p.history.exported)
  label_all-set k t n [] p e = refl
  label_all-set k zero n (x ∷ ps) p e = let q : k ≡ n = omega arith in ap (λ y. labelled y 0 p.history.exported ∷ label_all (suc k) ps) q
  label_all-set k (suc t) n (x ∷ ps) p e = ap (λ y. labelled k 0 x.history.exported ∷ y) (label_all-set (suc k) t n ps p (omega arith))

pub set-same : {A : Type 0} (xs : List A) (i : ℕ) (x : A) → slice_get xs i ≡ Some x → set xs i x ≡ xs
set-same [] i x e = refl
set-same (y ∷ xs) zero x e = let q : y ≡ x = cc in ap (λ z. z ∷ xs) (sym q)
set-same (y ∷ xs) (suc i) x e = ap (λ z. y ∷ z) (set-same xs i x e)

pub get-set_same : {A : Type 0} (xs : List A) (i : ℕ) (x y : A) → slice_get xs i ≡ Some y → slice_get (set xs i x) i ≡ Some x
get-set_same [] i x y e = absurd (none-some e)
get-set_same (z ∷ xs) zero x y e = refl
get-set_same (z ∷ xs) (suc i) x y e = get-set_same xs i x y e

pub get-set_other : {A : Type 0} (xs : List A) (i k : ℕ) (x : A) → k ≢ i → slice_get (set xs i x) k ≡ slice_get xs k
get-set_other [] i k x n = refl
get-set_other (z ∷ xs) zero zero x n = absurd (n refl)
get-set_other (z ∷ xs) zero (suc k) x n = refl
get-set_other (z ∷ xs) (suc i) zero x n = refl
get-set_other (z ∷ xs) (suc i) (suc k) x n = get-set_other xs i k x (λ p. n (ap suc p))

updated-set : {A : Type 0} (f : A → A) (xs : List A) (i : ℕ) (x : A) → slice_get xs i ≡ Some x → updated f xs i ≡ set xs i (f x)
updated-set f [] i x e = refl
updated-set f (y ∷ xs) zero x e = let q : y ≡ x = cc in ap (λ z. f z ∷ xs) q
updated-set f (y ∷ xs) (suc i) x e = ap (λ z. y ∷ z) (updated-set f xs i x e)

-- from a place on
abbrev pub from : {A : Type 0} → ℕ → List A → List A
from m [] = []
from zero (x ∷ xs) = x ∷ xs
from (suc m) (x ∷ xs) = from m xs

from-push : {A : Type 0} (m : ℕ) (xs : List A) (y : A) → m ≤ length xs → from m (xs ++ y ∷ []) ≡ from m xs ++ y ∷ []
from-push zero [] y h = refl
from-push (suc m) [] y h = absurd (omega arith)
from-push zero (x ∷ xs) y h = refl
from-push (suc m) (x ∷ xs) y h = from-push m xs y (omega arith)

from-zero : {A : Type 0} (ys : List A) → from 0 ys ≡ ys
from-zero [] = refl
from-zero (y ∷ ys) = refl

pub from-first : {A : Type 0} (m : ℕ) (xs : List A) (b : A) (rest : List A) → from m xs ≡ b ∷ rest → (slice_get xs m ≡ Some b) × (from (suc m) xs ≡ rest)
from-first m [] b rest e = absurd (cc)
from-first zero (x ∷ xs) b rest e = let q : x ≡ b = cc in let r : xs ≡ rest = cc in (ap Some q, from-zero xs ∙ r)
from-first (suc m) (x ∷ xs) b rest e = from-first m xs b rest e

from-empty : {A : Type 0} (m : ℕ) (xs : List A) → from m xs ≡ [] → length xs ≤ m
from-empty m [] e = omega arith
from-empty zero (x ∷ xs) e = absurd (cc)
from-empty (suc m) (x ∷ xs) e = let h : length xs ≤ m = from-empty m xs e in omega arith

pub record Sent (exported : List (List Block)) (b : Block) : Type 0 where
  pub u : ℕ
  pub i : ℕ
  pub blocks : List Block
  pub exporter : slice_get exported u ≡ Some blocks
  pub there : slice_get blocks i ≡ Some b

-- so many of the exports were taken, the others are queued
pub record Queued (s : System) (parts : List Part) (u : ℕ) (p : Part) : Type 0 where
  pub front : ℕ
  pub within : front ≤ length p.history.exported
  pub queue : slice_get s.queues u ≡ Some (from front (labelled u 0 p.history.exported))
  pub taken : (i : ℕ) → total (λ (q : Part). deliveries u i q.history.taken) parts ≡ one_if (nat_lt i front)

pub record Queues (s : System) (parts : List Part) : Type 0 where
  pub exported : s.exported ≡ label_all 0 parts
  pub queues : (u : ℕ) (p : Part) → slice_get parts u ≡ Some p → Queued s parts u p
  pub sent : Each (λ (p : Part). Each (Sent s.exported) p.history.taken) parts

-- what the joined parts ask for, where the queues are empty
module _ (s : System) (parts : List Part) (a : Queues s parts) where
  pub was_exported : (b : Block) → Sent s.exported b → WasExported parts b
  was_exported b x =
      let g = get-label_all 0 x.u x.u parts x.blocks (omega arith) (ap (λ es. slice_get es x.u) (sym a.exported) ∙ x.exporter) in
      let h = get-labelled x.u 0 x.i x.i g.0.history.exported b (omega arith) (ap (λ bs. slice_get bs x.i) (sym g.1.1) ∙ x.there) in
      record { u = x.u; i = x.i; part = g.0; exporter = g.1.0; sent = h.0; there = h.1.0; same = h.1.1 }

  pub taken_were_exported : Each (λ (p : Part). Each (WasExported parts) p.history.taken) parts
  taken_were_exported = Each-map (λ (p : Part). Each (Sent s.exported) p.history.taken) _ (λ p h. Each-map (Sent s.exported) (WasExported parts) was_exported p.history.taken h) parts a.sent

  pub taken_once : ((u : ℕ) (p : Part) → slice_get parts u ≡ Some p → slice_get s.queues u ≡ Some []) → (u i : ℕ) (p : Part) → slice_get parts u ≡ Some p → i < length p.history.exported → total (λ (q : Part). deliveries u i q.history.taken) parts ≡ 1
  taken_once empty u i p e l =
      let q = a.queues u p e in
      let z : Some (from q.front (labelled u 0 p.history.exported)) ≡ Some [] = sym q.queue ∙ empty u p e in
      let y : from q.front (labelled u 0 p.history.exported) ≡ [] = cc in
      let m : length (labelled u 0 p.history.exported) ≤ q.front = from-empty q.front (labelled u 0 p.history.exported) y in
      let n = length-labelled u 0 p.history.exported in
      q.taken i ∙ ap one_if (lt-ltb i q.front (omega arith))

module _ (setting : Setting) (s : System) (parts : List Part) (a : Queues s parts) (t : ℕ) (p : Part) (there : slice_get parts t ≡ Some p) where
  -- the queue's front block is taken
  pub take_queues : (u : ℕ) (x : Part) (b : Block) (rest : List Block) (taken' : List (List (ℕ × ℕ))) (workers' : List Worker) → slice_get parts u ≡ Some x → slice_get s.queues u ≡ Some (b ∷ rest)
      → Queues (record s { workers = workers'; queues = set s.queues u rest; taken = taken' }) (set parts t (acted setting p (Took b)))
  take_queues u x b rest taken' workers' ex e =
      record {
        exported = a.exported ∙ sym same_labels;
        queues = λ v y g. queued v y g (cases_eq v u);
        sent = Each-set (λ (q : Part). Each (Sent s.exported) q.history.taken) parts t (acted setting p (Took b))
            (Each-append (Sent s.exported) p.history.taken (b ∷ []) (Each-at (λ (q : Part). Each (Sent s.exported) q.history.taken) parts t p there a.sent)
            (record { u = u; i = front.front; blocks = labelled u 0 x.history.exported; exporter = ap (λ es. slice_get es u) a.exported ∙ label_all-get 0 u u parts x (omega arith) ex; there = first.0 }, tt)) a.sent;
      }
    where
      front : Queued s parts u x
      front = a.queues u x ex

      first : (slice_get (labelled u 0 x.history.exported) front.front ≡ Some b) × (from (suc front.front) (labelled u 0 x.history.exported) ≡ rest)
      first = (let z : Some (from front.front (labelled u 0 x.history.exported)) ≡ Some (b ∷ rest) = sym front.queue ∙ e in from-first front.front (labelled u 0 x.history.exported) b rest cc)

      label : b.sent ≡ Some (u, front.front)
      label = ap (λ (y : Block). y.sent) (get-labelled u 0 front.front front.front x.history.exported b (omega arith) first.0).1.1

      below : front.front < length x.history.exported
      below = (let l : front.front < length (labelled u 0 x.history.exported) = get-lt (labelled u 0 x.history.exported) front.front b first.0 in let n = length-labelled u 0 x.history.exported in omega arith)

      same_labels : label_all 0 (set parts t (acted setting p (Took b))) ≡ label_all 0 parts
      same_labels = label_all-set 0 t t parts (acted setting p (Took b)) (omega arith) ∙ set-same (label_all 0 parts) t (labelled t 0 p.history.exported) (label_all-get 0 t t parts p (omega arith) there)

      old_part : (v : ℕ) (y : Part) → slice_get (set parts t (acted setting p (Took b))) v ≡ Some y → (z : Part) × ((slice_get parts v ≡ Some z) × (y.history.exported ≡ z.history.exported))
      old_part v y g =
          ⊎_elim
          (λ (q : v ≡ t). (let c : Some (acted setting p (Took b)) ≡ Some y = sym (get-set_same parts t (acted setting p (Took b)) p there) ∙ ap (slice_get (set parts t (acted setting p (Took b)))) (sym q) ∙ g in
          let d : acted setting p (Took b) ≡ y = cc in
          (p, (ap (slice_get parts) q ∙ there, ap (λ (z : Part). z.history.exported) (sym d)))))
          (λ (n : v ≢ t). (y, (sym (get-set_other parts t v (acted setting p (Took b)) n) ∙ g, refl)))
          (cases_eq v t)

      counts : (v i : ℕ) → total (λ (q : Part). deliveries v i q.history.taken) (set parts t (acted setting p (Took b))) ≡ total (λ (q : Part). deliveries v i q.history.taken) parts + one_if (nat_eq u v && nat_eq front.front i)
      counts v i =
          let c : total (λ (q : Part). deliveries v i q.history.taken) (set parts t (acted setting p (Took b))) + deliveries v i p.history.taken ≡ total (λ (q : Part). deliveries v i q.history.taken) parts + deliveries v i (p.history.taken ++ b ∷ []) = total-set (λ (q : Part). deliveries v i q.history.taken) parts t p (acted setting p (Took b)) there in
          let d : deliveries v i (p.history.taken ++ b ∷ []) ≡ deliveries v i p.history.taken + one_if (is_sent v i b.sent) = total-push (λ (y : Block). one_if (is_sent v i y.sent)) p.history.taken b in
          let f : one_if (is_sent v i b.sent) ≡ one_if (nat_eq u v && nat_eq front.front i) = ap (λ o. one_if (is_sent v i o)) label in
          omega arith

      step : (m i : ℕ) → one_if (nat_lt i m) + one_if (nat_eq m i) ≡ one_if (nat_lt i (suc m))
      step m i =
          ⊎_elim
          (λ (q : m ≡ i). (let c : one_if (nat_lt i m) ≡ 0 = ap one_if (le-ltb i m (omega arith)) in let d : one_if (nat_eq m i) ≡ 1 = ap one_if (eq-eqb m i q) in let f : one_if (nat_lt i (suc m)) ≡ 1 = ap one_if (lt-ltb i (suc m) (omega arith)) in omega arith))
          (λ (n : m ≢ i). (let d : one_if (nat_eq m i) ≡ 0 = ap one_if (ne_eqb m i n) in ⊎_elim
          (λ (l : i < m). (let c : one_if (nat_lt i m) ≡ 1 = ap one_if (lt-ltb i m l) in let f : one_if (nat_lt i (suc m)) ≡ 1 = ap one_if (lt-ltb i (suc m) (omega arith)) in omega arith))
          (λ (l : m < i). (let c : one_if (nat_lt i m) ≡ 0 = ap one_if (le-ltb i m (omega arith)) in let f : one_if (nat_lt i (suc m)) ≡ 0 = ap one_if (le-ltb i (suc m) (omega arith)) in omega arith))
          (apart m i n)))
          (cases_eq m i)
        where
          apart : (m i : ℕ) → m ≢ i → (i < m) ⊎ (m < i)
          apart zero zero n = absurd (n refl)
          apart zero (suc i) n = inr (omega arith)
          apart (suc m) zero n = inl (omega arith)
          apart (suc m) (suc i) n = ⊎_elim (λ (l : i < m). inl (omega arith)) (λ (l : m < i). inr (omega arith)) (apart m i (λ q. n (ap suc q)))

      queued : (v : ℕ) (y : Part) → slice_get (set parts t (acted setting p (Took b))) v ≡ Some y → (v ≡ u) ⊎ (v ≢ u) → Queued (record s { workers = workers'; queues = set s.queues u rest; taken = taken' }) (set parts t (acted setting p (Took b))) v y
      queued v y g (inl q) =
          let z = old_part v y g in
          let c : Some z.0 ≡ Some x = sym z.1.0 ∙ ap (slice_get parts) q ∙ ex in
          let d : z.0 ≡ x = cc in
          let k : y.history.exported ≡ x.history.exported = z.1.1 ∙ ap (λ (w : Part). w.history.exported) d in
          let l : front.front < length y.history.exported = subst (λ w. front.front < length w) (sym k) below in
          record {
            front = suc front.front;
            within = omega arith;
            queue = ap (slice_get (set s.queues u rest)) q ∙ get-set_same s.queues u rest (b ∷ rest) e ∙ ap Some (sym first.1) ∙ ap (λ w. Some (from (suc front.front) (labelled w 0 x.history.exported))) (sym q) ∙ ap (λ w. Some (from (suc front.front) (labelled v 0 w))) (sym k);
            taken = λ i. (
                let n = counts v i in
                let m : one_if (nat_eq u v && nat_eq front.front i) ≡ one_if (nat_eq front.front i) = ap (λ w. one_if (w && nat_eq front.front i)) (eq-eqb u v (sym q)) in
                let o : total (λ (w : Part). deliveries v i w.history.taken) parts ≡ one_if (nat_lt i front.front) = ap (λ w. total (λ (r : Part). deliveries w i r.history.taken) parts) q ∙ front.taken i in
                let h = step front.front i in
                omega arith);
          }
      queued v y g (inr n) =
          let z = old_part v y g in
          let h = a.queues v z.0 z.1.0 in
          record {
            front = h.front;
            within = subst (λ w. h.front ≤ length w) (sym z.1.1) h.within;
            queue = get-set_other s.queues u v rest n ∙ h.queue ∙ ap (λ w. Some (from h.front (labelled v 0 w))) (sym z.1.1);
            taken = λ i. (
                let c = counts v i in
                let m : one_if (nat_eq u v && nat_eq front.front i) ≡ 0 = ap (λ w. one_if (w && nat_eq front.front i)) (ne_eqb u v (λ q. n (sym q))) in
                let o = h.taken i in
                omega arith);
          }

  pub in-set : (p' : Part) (v : ℕ) (y : Part) → slice_get (set parts t p') v ≡ Some y → ((v ≡ t) × (p' ≡ y)) ⊎ ((v ≢ t) × (slice_get parts v ≡ Some y))
  in-set p' v y g =
      ⊎_elim
      (λ (q : v ≡ t). (let c : Some p' ≡ Some y = sym (get-set_same parts t p' p there) ∙ ap (slice_get (set parts t p')) (sym q) ∙ g in let d : p' ≡ y = cc in inl (q, d)))
      (λ (n : v ≢ t). inr (n, sym (get-set_other parts t v p' n) ∙ g))
      (cases_eq v t)

  same_counts : (p' : Part) → p'.history.taken ≡ p.history.taken → (v i : ℕ) → total (λ (q : Part). deliveries v i q.history.taken) (set parts t p') ≡ total (λ (q : Part). deliveries v i q.history.taken) parts
  same_counts p' e v i =
      let c : total (λ (q : Part). deliveries v i q.history.taken) (set parts t p') + deliveries v i p.history.taken ≡ total (λ (q : Part). deliveries v i q.history.taken) parts + deliveries v i p'.history.taken = total-set (λ (q : Part). deliveries v i q.history.taken) parts t p p' there in
      let d : deliveries v i p'.history.taken ≡ deliveries v i p.history.taken = ap (deliveries v i) e in
      omega arith

  -- an act that neither exports nor takes
  pub quiet_queues : (s' : System) (p' : Part) → p'.history.exported ≡ p.history.exported → p'.history.taken ≡ p.history.taken → s'.exported ≡ s.exported → s'.queues ≡ s.queues → Queues s' (set parts t p')
  quiet_queues s' p' ee et es qs =
      record {
        exported = es ∙ a.exported ∙ sym (label_all-set 0 t t parts p' (omega arith) ∙ ap (λ xs. set (label_all 0 parts) t (labelled t 0 xs)) ee ∙ set-same (label_all 0 parts) t (labelled t 0 p.history.exported) (label_all-get 0 t t parts p (omega arith) there));
        queues = λ v y g. (
            let k : (z : Part) × ((slice_get parts v ≡ Some z) × (y.history.exported ≡ z.history.exported)) =
            ⊎_elim (λ (r : (v ≡ t) × (p' ≡ y)). (p, (ap (slice_get parts) r.0 ∙ there, ap (λ (z : Part). z.history.exported) (sym r.1) ∙ ee))) (λ (r : (v ≢ t) × (slice_get parts v ≡ Some y)). (y, (r.1, refl))) (in-set p' v y g) in
            let h = a.queues v k.0 k.1.0 in
            record { front = h.front; within = subst (λ w. h.front ≤ length w) (sym k.1.1) h.within; queue = ap (λ w. slice_get w v) qs ∙ h.queue ∙ ap (λ w. Some (from h.front (labelled v 0 w))) (sym k.1.1); taken = λ i. same_counts p' et v i ∙ h.taken i });
        sent = subst (λ w. Each (λ (q : Part). Each (Sent w) q.history.taken) (set parts t p')) (sym es)
            (Each-set (λ (q : Part). Each (Sent s.exported) q.history.taken) parts t p' (subst (Each (Sent s.exported)) (sym et) (Each-at (λ (q : Part). Each (Sent s.exported) q.history.taken) parts t p there a.sent)) a.sent);
      }

  -- the oldest block aside goes to the back of the queue
  pub export_queues : (b : Block) (bs : List Block) (sent : List Block) (workers' : List Worker) → p.final.aside ≡ b ∷ bs → slice_get s.exported t ≡ Some sent
      → Queues (record s { workers = workers'; queues = updated (λ q. q ++ record b { sent = Some (t, length sent) } ∷ []) s.queues t; exported = updated (λ q. q ++ record b { sent = Some (t, length sent) } ∷ []) s.exported t }) (set parts t (acted setting p Exported))
  export_queues b bs sent workers' oldest is =
      record {
        exported = updated-set (λ q. q ++ record b { sent = Some (t, length sent) } ∷ []) s.exported t sent is ∙ ap (λ w. set w t (sent ++ record b { sent = Some (t, length sent) } ∷ [])) a.exported ∙ ap (set (label_all 0 parts) t) longer ∙ sym (label_all-set 0 t t parts (acted setting p Exported) (omega arith));
        queues = λ v y g. ⊎_elim (λ (r : (v ≡ t) × (acted setting p Exported ≡ y)). mine v y r.0 r.1) (λ (r : (v ≢ t) × (slice_get parts v ≡ Some y)). others v y r.0 r.1) (in-set (acted setting p Exported) v y g);
        sent = Each-map (λ (q : Part). Each (Sent s.exported) q.history.taken) _ (λ q h. Each-map (Sent s.exported) (Sent new_exported) grow q.history.taken h) (set parts t (acted setting p Exported))
            (Each-set (λ (q : Part). Each (Sent s.exported) q.history.taken) parts t (acted setting p Exported) (Each-at (λ (q : Part). Each (Sent s.exported) q.history.taken) parts t p there a.sent) a.sent);
      }
    where
      new_exported : List (List Block)
      new_exported = updated (λ q. q ++ record b { sent = Some (t, length sent) } ∷ []) s.exported t

      is_labelled : sent ≡ labelled t 0 p.history.exported
      is_labelled = (let c : Some sent ≡ Some (labelled t 0 p.history.exported) = sym is ∙ ap (λ w. slice_get w t) a.exported ∙ label_all-get 0 t t parts p (omega arith) there in cc)

      count : length sent ≡ length p.history.exported
      count = ap length is_labelled ∙ length-labelled t 0 p.history.exported

      now : (acted setting p Exported).history.exported ≡ p.history.exported ++ b ∷ []
      now = ap (λ w. p.history.exported ++ first_alone w) oldest

      relabelled : labelled t 0 (p.history.exported ++ b ∷ []) ≡ labelled t 0 p.history.exported ++ record b { sent = Some (t, length sent) } ∷ []
      relabelled = labelled-push t 0 (length sent) p.history.exported b (count ∙ omega arith)

      longer : sent ++ record b { sent = Some (t, length sent) } ∷ [] ≡ labelled t 0 (acted setting p Exported).history.exported
      longer = ap (λ w. w ++ record b { sent = Some (t, length sent) } ∷ []) is_labelled ∙ sym relabelled ∙ ap (labelled t 0) (sym now)

      mine : (v : ℕ) (y : Part) → v ≡ t → acted setting p Exported ≡ y → Queued (record s { workers = workers'; queues = updated (λ q. q ++ record b { sent = Some (t, length sent) } ∷ []) s.queues t; exported = updated (λ q. q ++ record b { sent = Some (t, length sent) } ∷ []) s.exported t }) (set parts t (acted setting p Exported)) v y
      mine v y r d =
          let h = a.queues t p there in
          let e : y.history.exported ≡ p.history.exported ++ b ∷ [] = ap (λ (z : Part). z.history.exported) (sym d) ∙ now in
          let n : length y.history.exported ≡ length p.history.exported + 1 = ap length e ∙ length-append p.history.exported (b ∷ []) in
          let w : h.front ≤ length p.history.exported = h.within in
          let w2 : h.front ≤ length (labelled t 0 p.history.exported) = subst (λ z. h.front ≤ z) (sym (length-labelled t 0 p.history.exported)) w in
          record {
            front = h.front;
            within = omega arith;
            queue =
                ap (slice_get (updated (λ q. q ++ record b { sent = Some (t, length sent) } ∷ []) s.queues t)) r
                ∙ ap (λ z. slice_get z t) (updated-set (λ q. q ++ record b { sent = Some (t, length sent) } ∷ []) s.queues t (from h.front (labelled t 0 p.history.exported)) h.queue)
                ∙ get-set_same s.queues t _ (from h.front (labelled t 0 p.history.exported)) h.queue
                ∙ ap Some (sym (from-push h.front (labelled t 0 p.history.exported) (record b { sent = Some (t, length sent) }) w2) ∙ ap (from h.front) (sym relabelled ∙ ap (labelled t 0) (sym e) ∙ ap (λ z. labelled z 0 y.history.exported) (sym r)));
            taken = λ i. same_counts (acted setting p Exported) refl v i ∙ ap (λ z. total (λ (q : Part). deliveries z i q.history.taken) parts) r ∙ h.taken i;
          }

      others : (v : ℕ) (y : Part) → v ≢ t → slice_get parts v ≡ Some y → Queued (record s { workers = workers'; queues = updated (λ q. q ++ record b { sent = Some (t, length sent) } ∷ []) s.queues t; exported = updated (λ q. q ++ record b { sent = Some (t, length sent) } ∷ []) s.exported t }) (set parts t (acted setting p Exported)) v y
      others v y r d =
          let h = a.queues v y d in
          let k = a.queues t p there in
          record {
            front = h.front;
            within = h.within;
            queue = ap (λ z. slice_get z v) (updated-set (λ q. q ++ record b { sent = Some (t, length sent) } ∷ []) s.queues t (from k.front (labelled t 0 p.history.exported)) k.queue) ∙ get-set_other s.queues t v _ r ∙ h.queue;
            taken = λ i. same_counts (acted setting p Exported) refl v i ∙ h.taken i;
          }

      grow : (x : Block) → Sent s.exported x → Sent (updated (λ q. q ++ record b { sent = Some (t, length sent) } ∷ []) s.exported t) x
      grow x h =
          ⊎_elim
          (λ (q : h.u ≡ t).
          let c : Some h.blocks ≡ Some sent = sym h.exporter ∙ ap (slice_get s.exported) q ∙ is in
          let d : h.blocks ≡ sent = cc in
          record {
            u = t;
            i = h.i;
            blocks = sent ++ record b { sent = Some (t, length sent) } ∷ [];
            exporter = ap (λ z. slice_get z t) (updated-set (λ q. q ++ record b { sent = Some (t, length sent) } ∷ []) s.exported t sent is) ∙ get-set_same s.exported t _ sent is;
            there = (let g : slice_get sent h.i ≡ Some x = ap (λ z. slice_get z h.i) (sym d) ∙ h.there in get-append sent _ h.i (get-lt sent h.i x g) ∙ g);
          })
          (λ (n : h.u ≢ t).
          record { u = h.u; i = h.i; blocks = h.blocks; exporter = ap (λ z. slice_get z h.u) (updated-set (λ q. q ++ record b { sent = Some (t, length sent) } ∷ []) s.exported t sent is) ∙ get-set_other s.exported t h.u _ n ∙ h.exporter; there = h.there })
          (cases_eq h.u t)
