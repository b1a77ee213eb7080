-- The slots dealt out to the workers are all slots.
use Rattle.std.proofs.Common.{◌≡◌, ◌≢◌, ℕ, zero, suc, ◌+◌, ◌%◌, ◌<◌, ◌≤◌, Bool, true, false, List, [], ◌∷◌, Option, None, refl, sym, ap, subst, ◌∙◌, ⊎_elim, cond, length, replicate, arith, nat_eq, eq-eqb, ne_eqb, mod-lt}
use Rattle.std.proofs.lemmas.Bool.{cases_eq}
use Rattle.workers.specs.Block.{Block}
use Rattle.workers.specs.Setting.{Setting, is_collected, destination_of}
use Rattle.workers.specs.Worker.{Worker}
use Rattle.workers.specs.System.{every, opening_worker, opening_workers}
use Rattle.workers.specs.Total.{total, one_if, times}
use Rattle.workers.specs.Joined.{Each, IsOpening, Roomy}

-- over k numbers from t on
abbrev rsum : (ℕ → ℕ) → ℕ → ℕ → ℕ
rsum g t zero = 0
rsum g t (suc k) = g t + rsum g (t + 1) k

rsum-zero : (g : ℕ → ℕ) (t k : ℕ) → ((i : ℕ) → t ≤ i → g i ≡ 0) → rsum g t k ≡ 0
rsum-zero g t zero h = refl
rsum-zero g t (suc k) h =
    let a : g t ≡ 0 = h t (omega arith) in
    let b : rsum g (t + 1) k ≡ 0 = rsum-zero g (t + 1) k (λ i l. h i (omega arith)) in
    omega arith

rsum-sum : (g h : ℕ → ℕ) (t k : ℕ) → rsum (λ i. g i + h i) t k ≡ rsum g t k + rsum h t k
rsum-sum g h t zero = refl
rsum-sum g h t (suc k) = let a : rsum (λ i. g i + h i) (t + 1) k ≡ rsum g (t + 1) k + rsum h (t + 1) k = rsum-sum g h (t + 1) k in omega arith

rsum-same : (g h : ℕ → ℕ) (t k : ℕ) → ((i : ℕ) → g i ≡ h i) → rsum g t k ≡ rsum h t k
rsum-same g h t zero e = refl
rsum-same g h t (suc k) e =
    let a : g t ≡ h t = e t in
    let b : rsum g (t + 1) k ≡ rsum h (t + 1) k = rsum-same g h (t + 1) k e in
    omega arith

rsum-pick : (m v t k : ℕ) → t ≤ m → m < t + k → rsum (λ i. cond (nat_eq m i) v 0) t k ≡ v
rsum-pick m v t zero l h = absurd (omega arith)
rsum-pick m v t (suc k) l h =
    ⊎_elim
    (λ (e : m ≡ t).
    let a : cond (nat_eq m t) v 0 ≡ v = ap (λ b. cond b v 0) (eq-eqb m t e) in
    let b : rsum (λ i. cond (nat_eq m i) v 0) (t + 1) k ≡ 0 = rsum-zero (λ i. cond (nat_eq m i) v 0) (t + 1) k (λ i q. ap (λ b. cond b v 0) (ne_eqb m i (λ p. absurd (omega arith)))) in
    omega arith)
    (λ (n : m ≢ t).
    let a : cond (nat_eq m t) v 0 ≡ 0 = ap (λ b. cond b v 0) (ne_eqb m t n) in
    let b : rsum (λ i. cond (nat_eq m i) v 0) (t + 1) k ≡ v = rsum-pick m v (t + 1) k (omega arith) (omega arith) in
    omega arith)
    (cases_eq m t)

every-times : (x n t i y : ℕ) (ys : List ℕ) → times x (every n t i (y ∷ ys)) ≡ cond (nat_eq (i % n) t) (one_if (nat_eq y x)) 0 + times x (every n t (i + 1) ys)
every-times x n t i y ys = go (nat_eq (i % n) t)
  where
    go : (b : Bool) → times x (cond b (y ∷ every n t (i + 1) ys) (every n t (i + 1) ys)) ≡ cond b (one_if (nat_eq y x)) 0 + times x (every n t (i + 1) ys)
    go true = refl
    go false = omega arith

all_slots : (x n i : ℕ) (ys : List ℕ) → 0 < n → rsum (λ t. times x (every n t i ys)) 0 n ≡ times x ys
all_slots x n i [] p = rsum-zero (λ t. 0) 0 n (λ i l. refl)
all_slots x n i (y ∷ ys) p =
    let a : rsum (λ t. times x (every n t i (y ∷ ys))) 0 n ≡ rsum (λ t. cond (nat_eq (i % n) t) (one_if (nat_eq y x)) 0 + times x (every n t (i + 1) ys)) 0 n = rsum-same _ _ 0 n (λ t. every-times x n t i y ys) in
    let b : rsum (λ t. cond (nat_eq (i % n) t) (one_if (nat_eq y x)) 0 + times x (every n t (i + 1) ys)) 0 n ≡ rsum (λ t. cond (nat_eq (i % n) t) (one_if (nat_eq y x)) 0) 0 n + rsum (λ t. times x (every n t (i + 1) ys)) 0 n = rsum-sum (λ t. cond (nat_eq (i % n) t) (one_if (nat_eq y x)) 0) (λ t. times x (every n t (i + 1) ys)) 0 n in
    let m : i % n < n = mod-lt i p in
    let c : rsum (λ t. cond (nat_eq (i % n) t) (one_if (nat_eq y x)) 0) 0 n ≡ one_if (nat_eq y x) = rsum-pick (i % n) (one_if (nat_eq y x)) 0 n (omega arith) (omega arith) in
    let d : rsum (λ t. times x (every n t (i + 1) ys)) 0 n ≡ times x ys = all_slots x n (i + 1) ys p in
    omega arith

dealt : (x destinations n : ℕ) (slots : List ℕ) (t k : ℕ) → total (λ (w : Worker). times x w.starts) (opening_workers destinations n slots t k) ≡ rsum (λ i. times x (every n i 0 slots)) t k
dealt x destinations n slots t zero = refl
dealt x destinations n slots t (suc k) = ap (λ r. times x (every n t 0 slots) + r) (dealt x destinations n slots (t + 1) k)

-- a target is dealt out as often as it is a slot's
pub starts_dealt : (x destinations n : ℕ) (slots : List ℕ) → 0 < n → total (λ (w : Worker). times x w.starts) (opening_workers destinations n slots 0 n) ≡ times x slots
starts_dealt x destinations n slots p = dealt x destinations n slots 0 n ∙ all_slots x n 0 slots p

every-Each : (P : ℕ → Type 0) (n t i : ℕ) (ys : List ℕ) → Each P ys → Each P (every n t i ys)
every-Each P n t i [] h = tt
every-Each P n t i (y ∷ ys) h = go (nat_eq (i % n) t) (every-Each P n t (i + 1) ys h.1)
  where
    go : (b : Bool) → Each P (every n t (i + 1) ys) → Each P (cond b (y ∷ every n t (i + 1) ys) (every n t (i + 1) ys))
    go true r = (h.0, r)
    go false r = r

replicate-none : (k : ℕ) → Each (λ (b : Option Block). b ≡ None) (replicate k None)
replicate-none zero = tt
replicate-none (suc k) = (refl, replicate-none k)

pub length-replicate-none : (k : ℕ) → length (replicate {A = Option Block} k None) ≡ k
length-replicate-none zero = refl
length-replicate-none (suc k) = ap suc (length-replicate-none k)

pub opens : (destinations n : ℕ) (slots : List ℕ) (t : ℕ) → IsOpening (opening_worker destinations n slots t)
opens destinations n slots t =
    record { fields = refl; no_proposal = refl; no_hand = refl; no_allocation = replicate-none destinations; no_aside = refl; no_done = refl; no_large = refl; no_large_done = refl; no_won = refl; no_scanned = refl }

pub opens_roomy : (setting : Setting) (destinations n : ℕ) (slots : List ℕ) (t : ℕ) → ((name : ℕ) → is_collected setting name ≡ true → destination_of setting name < destinations) → Roomy setting (opening_worker destinations n slots t)
opens_roomy setting destinations n slots t h name y = subst (λ k. destination_of setting name < k) (sym (length-replicate-none destinations)) (h name y)

pub opening_each : (setting : Setting) (P : ℕ → Type 0) (destinations n : ℕ) (slots : List ℕ) → Each P slots → (t k : ℕ) → Each (λ (w : Worker). Each P w.starts) (opening_workers destinations n slots t k)
opening_each setting P destinations n slots h t zero = tt
opening_each setting P destinations n slots h t (suc k) = (every-Each P n t 0 slots h, opening_each setting P destinations n slots h (t + 1) k)

every-length : (n t i y : ℕ) (ys : List ℕ) → length (every n t i (y ∷ ys)) ≡ cond (nat_eq (i % n) t) 1 0 + length (every n t (i + 1) ys)
every-length n t i y ys = go (nat_eq (i % n) t)
  where
    go : (b : Bool) → length (cond b (y ∷ every n t (i + 1) ys) (every n t (i + 1) ys)) ≡ cond b 1 0 + length (every n t (i + 1) ys)
    go true = omega arith
    go false = omega arith

all_lengths : (n i : ℕ) (ys : List ℕ) → 0 < n → rsum (λ t. length (every n t i ys)) 0 n ≡ length ys
all_lengths n i [] p = rsum-zero (λ t. 0) 0 n (λ i l. refl)
all_lengths n i (y ∷ ys) p =
    let a : rsum (λ t. length (every n t i (y ∷ ys))) 0 n ≡ rsum (λ t. cond (nat_eq (i % n) t) 1 0 + length (every n t (i + 1) ys)) 0 n = rsum-same _ _ 0 n (λ t. every-length n t i y ys) in
    let b : rsum (λ t. cond (nat_eq (i % n) t) 1 0 + length (every n t (i + 1) ys)) 0 n ≡ rsum (λ t. cond (nat_eq (i % n) t) 1 0) 0 n + rsum (λ t. length (every n t (i + 1) ys)) 0 n = rsum-sum (λ t. cond (nat_eq (i % n) t) 1 0) (λ t. length (every n t (i + 1) ys)) 0 n in
    let m : i % n < n = mod-lt i p in
    let c : rsum (λ t. cond (nat_eq (i % n) t) 1 0) 0 n ≡ 1 = rsum-pick (i % n) 1 0 n (omega arith) (omega arith) in
    let d : rsum (λ t. length (every n t (i + 1) ys)) 0 n ≡ length ys = all_lengths n (i + 1) ys p in
    omega arith

-- the start lists are as long as the slots
pub lengths_dealt : (destinations n : ℕ) (slots : List ℕ) → 0 < n → total (λ (w : Worker). length w.starts) (opening_workers destinations n slots 0 n) ≡ length slots
lengths_dealt destinations n slots p = dealt_length 0 n ∙ all_lengths n 0 slots p
  where
    dealt_length : (t k : ℕ) → total (λ (w : Worker). length w.starts) (opening_workers destinations n slots t k) ≡ rsum (λ i. length (every n i 0 slots)) t k
    dealt_length t zero = refl
    dealt_length t (suc k) = ap (λ r. length (every n t 0 slots) + r) (dealt_length (t + 1) k)
