-- What each thread did, as a worker's part.
use Rattle.std.proofs.Common.{◌≡◌, ℕ, zero, suc, ◌+◌, List, [], ◌∷◌, map, length, Option, Some, refl, sym, ap, subst, ◌∙◌, arith}
use Rattle.std.specs.Prelude.{slice_get}
use Rattle.layout.specs.declared.place.Place.{Place}
use Rattle.steps.specs.HeapValue.{HeapValue}
use Rattle.steps.specs.CollectionValue.{CollectionValue}
use Rattle.workers.specs.Total.{total}
use Rattle.workers.specs.Joined.{Each, Part}
use Rattle.workers_in_threads.specs.SharingValue.{begins}
use Rattle.workers_in_threads.specs.Threads.{ThreadValue, IsThread, AreThreads}

module _ {P A : Type 0} (known : P → ℕ → Option Place) (won : P → List (ℕ × Place)) (heap : HeapValue) (c : CollectionValue) (n : ℕ) where
  abbrev pub Is : ℕ → ThreadValue P A → Type 0
  Is t r = IsThread known won heap c n t r

  abbrev pub Are : ℕ → List (ThreadValue P A) → Type 0
  Are t rs = AreThreads known won heap c n t rs

  abbrev pub part_of : (t : ℕ) (r : ThreadValue P A) → Is t r → Part
  part_of t r k = record { start = begins heap c n t; final = r.workspace.worker; history = k.worked.history }

  abbrev pub parts_of : (t : ℕ) (rs : List (ThreadValue P A)) → Are t rs → List Part
  parts_of t [] h = []
  parts_of t (r ∷ rs) h = part_of t r h.0 ∷ parts_of (t + 1) rs h.1

  pub finals_are : (t : ℕ) (rs : List (ThreadValue P A)) (h : Are t rs) → map (λ (p : Part). p.final) (parts_of t rs h) ≡ map (λ (r : ThreadValue P A). r.workspace.worker) rs
  finals_are t [] h = refl
  finals_are t (r ∷ rs) h = ap (λ ws. r.workspace.worker ∷ ws) (finals_are (t + 1) rs h.1)

  pub parts_length : (t : ℕ) (rs : List (ThreadValue P A)) (h : Are t rs) → length (parts_of t rs h) ≡ length rs
  parts_length t [] h = refl
  parts_length t (r ∷ rs) h = ap suc (parts_length (t + 1) rs h.1)

  -- what holds of each thread's part
  pub each_part : (Q : Part → Type 0) (E : ThreadValue P A → Type 0) → ((t : ℕ) (r : ThreadValue P A) (k : Is t r) → E r → Q (part_of t r k)) → (t : ℕ) (rs : List (ThreadValue P A)) (h : Are t rs) → Each E rs → Each Q (parts_of t rs h)
  each_part Q E f t [] h e = tt
  each_part Q E f t (r ∷ rs) h e = (f t r h.0 e.0, each_part Q E f (t + 1) rs h.1 e.1)

  pub each_thread : (Q : Part → Type 0) → ((t : ℕ) (r : ThreadValue P A) (k : Is t r) → Q (part_of t r k)) → (t : ℕ) (rs : List (ThreadValue P A)) (h : Are t rs) → Each Q (parts_of t rs h)
  each_thread Q f t [] h = tt
  each_thread Q f t (r ∷ rs) h = (f t r h.0, each_thread Q f (t + 1) rs h.1)

  -- sums over the parts
  pub total_parts : (F : Part → ℕ) (G : ThreadValue P A → ℕ) → ((t : ℕ) (r : ThreadValue P A) (k : Is t r) → F (part_of t r k) ≡ G r) → (t : ℕ) (rs : List (ThreadValue P A)) (h : Are t rs) → total F (parts_of t rs h) ≡ total G rs
  total_parts F G f t [] h = refl
  total_parts F G f t (r ∷ rs) h = ap (λ k. F (part_of t r h.0) + k) (total_parts F G f (t + 1) rs h.1) ∙ ap (λ k. k + total G rs) (f t r h.0)

  -- the part at a place is that of the thread there
  pub record PartAt (t : ℕ) (rs : List (ThreadValue P A)) (h : Are t rs) (u : ℕ) (r : ThreadValue P A) : Type 0 where
    pub is : Is (t + u) r
    pub there : slice_get (parts_of t rs h) u ≡ Some (part_of (t + u) r is)

  pub part_at : (t : ℕ) (rs : List (ThreadValue P A)) (h : Are t rs) (u : ℕ) (r : ThreadValue P A) → slice_get rs u ≡ Some r → PartAt t rs h u r
  part_at t [] h u r e = absurd (cc)
  part_at t (x ∷ rs) h zero r e =
      let q : x ≡ r = cc in
      subst (PartAt t (x ∷ rs) h zero) q (subst (λ s. (k : Is s x) → slice_get (parts_of t (x ∷ rs) h) zero ≡ Some (part_of s x k) → PartAt t (x ∷ rs) h zero x) (let z : t + 0 ≡ t = omega arith in z)
      (λ k there. record { is = k; there = there }) h.0 refl)
  part_at t (x ∷ rs) h (suc u) r e =
      let p = part_at (t + 1) rs h.1 u r e in
      subst (λ s. (k : Is s r) → slice_get (parts_of t (x ∷ rs) h) (suc u) ≡ Some (part_of s r k) → PartAt t (x ∷ rs) h (suc u) r) (let z : t + suc u ≡ t + 1 + u = omega arith in z)
      (λ k there. record { is = k; there = there }) p.is p.there

  -- the same, where the first thread is worker 0
  pub record PartFirst (rs : List (ThreadValue P A)) (h : Are 0 rs) (u : ℕ) (r : ThreadValue P A) : Type 0 where
    pub is : Is u r
    pub there : slice_get (parts_of 0 rs h) u ≡ Some (part_of u r is)

  pub part_first : (rs : List (ThreadValue P A)) (h : Are 0 rs) (u : ℕ) (r : ThreadValue P A) → slice_get rs u ≡ Some r → PartFirst rs h u r
  part_first rs h u r e =
      let p = part_at 0 rs h u r e in
      subst (λ s. (k : Is s r) → slice_get (parts_of 0 rs h) u ≡ Some (part_of s r k) → PartFirst rs h u r) (let z : u ≡ 0 + u = omega arith in z)
      (λ k there. record { is = k; there = there }) p.is p.there

  -- each began with its share
  starts_from : (s : ℕ) (rs : List (ThreadValue P A)) (h : Are s rs) (u : ℕ) (p : Part) → slice_get (parts_of s rs h) u ≡ Some p → p.start ≡ begins heap c n (s + u)
  starts_from s [] h u p e = absurd (cc)
  starts_from s (r ∷ rs) h zero p e = let q : part_of s r h.0 ≡ p = cc in let z : s ≡ s + 0 = omega arith in ap (λ (x : Part). x.start) (sym q) ∙ ap (begins heap c n) z
  starts_from s (r ∷ rs) h (suc u) p e = let z : s + 1 + u ≡ s + suc u = omega arith in starts_from (s + 1) rs h.1 u p e ∙ ap (begins heap c n) z

  pub starts_at : (rs : List (ThreadValue P A)) (h : Are 0 rs) (u : ℕ) (p : Part) → slice_get (parts_of 0 rs h) u ≡ Some p → p.start ≡ begins heap c n u
  starts_at rs h u p e = let z : 0 + u ≡ u = omega arith in starts_from 0 rs h u p e ∙ ap (begins heap c n) z
