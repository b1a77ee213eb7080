-- Where every free block was drawn, none is left.
use Rattle.std.proofs.Common.{◌≡◌, ◌≢◌, ℕ, ◌+◌, ◌<◌, ◌≤◌, Bool, true, false, cond, nat_eq, not, ◌||◌, List, [], ◌∷◌, ◌++◌, length, take, refl, sym, ap, subst, ◌∙◌, ⊎_elim, arith, eq-eqb, ne_eqb}
use Rattle.std.proofs.lemmas.Bool.{cases_eq}
use Rattle.std.proofs.Math.Seq.{take-length}
use Rattle.block_pool.specs.Drawn.{times_in}
use Rattle.block_pool.specs.ClaimsValue.{SeatValue, all_drawn, any_out}
use Rattle.workers.specs.System.{without_number}
use Rattle.scavenge.specs.Waiting.{left_of}

no_more : (n : ℕ) → cond false 1 0 + n ≡ n
no_more n = omega arith

without_less : (x n : ℕ) (free : List ℕ) → times_in x (without_number n free) ≤ times_in x free
without_less x n [] = omega arith
without_less x n (y ∷ ys) = go (not (nat_eq y n)) (without_less x n ys)
  where
    go : (b : Bool) → times_in x (without_number n ys) ≤ times_in x ys → times_in x (cond b (y ∷ without_number n ys) (without_number n ys)) ≤ times_in x (y ∷ ys)
    go true h = omega (arith, h)
    go false h = omega (arith, h)

without_none : (n : ℕ) (free : List ℕ) → times_in n (without_number n free) ≡ 0
without_none n [] = refl
without_none n (y ∷ ys) = ⊎_elim
    (λ (e : y ≡ n). ap (λ b. times_in n (cond (not b) (y ∷ without_number n ys) (without_number n ys))) (eq-eqb y n e) ∙ without_none n ys)
    (λ (ne : y ≢ n). ap (λ b. times_in n (cond (not b) (y ∷ without_number n ys) (without_number n ys))) (ne_eqb y n ne) ∙ ap (λ b. cond b 1 0 + times_in n (without_number n ys)) (ne_eqb y n ne) ∙ no_more (times_in n (without_number n ys)) ∙ without_none n ys)
    (cases_eq y n)

left_less : (x : ℕ) (free drawn : List ℕ) → times_in x (left_of free drawn) ≤ times_in x free
left_less x free [] = omega arith
left_less x free (n ∷ ns) = let h = left_less x (without_number n free) ns in let w = without_less x n free in omega (arith, h, w)

-- what is left was not drawn
left_undrawn : (x : ℕ) (free drawn : List ℕ) → 0 < times_in x (left_of free drawn) → times_in x drawn ≡ 0
left_undrawn x free [] some = refl
left_undrawn x free (n ∷ ns) some = ⊎_elim
    (λ (e : n ≡ x). absurd (let h = left_less x (without_number n free) ns in let w : times_in x (without_number n free) ≡ 0 = subst (λ k. times_in k (without_number n free) ≡ 0) e (without_none n free) in omega (arith, h, w, some)))
    (λ (ne : n ≢ x). ap (λ b. cond b 1 0 + times_in x ns) (ne_eqb n x ne) ∙ no_more (times_in x ns) ∙ left_undrawn x (without_number n free) ns some)
    (cases_eq n x)

times_first : (x : ℕ) (xs : List ℕ) → 0 < times_in x (x ∷ xs)
times_first x xs = let e : times_in x (x ∷ xs) ≡ 1 + times_in x xs = ap (λ b. cond b 1 0 + times_in x xs) (eq-eqb x x refl) in omega (arith, e)

no_items : (xs : List ℕ) → ((x : ℕ) → 0 < times_in x xs → 0 < 0) → xs ≡ []
no_items [] h = refl
no_items (x ∷ xs) h = absurd (let k = h x (times_first x xs) in omega (arith, k))

pub none_left : (free drawn : List ℕ) → ((x : ℕ) → times_in x drawn ≡ times_in x free) → left_of free drawn ≡ []
none_left free drawn same = no_items (left_of free drawn) (λ x some.
    let u : times_in x drawn ≡ 0 = left_undrawn x free drawn some in
    let l = left_less x free drawn in
    let s = same x in
    omega (arith, u, l, s, some))

pub none_left_of : (free drawn : List ℕ) → length drawn ≡ length free → ((x : ℕ) → times_in x drawn ≡ times_in x (take (length drawn) free)) → left_of free drawn ≡ []
none_left_of free drawn many same = none_left free drawn (λ x. same x ∙ ap (λ n. times_in x (take n free)) many ∙ ap (times_in x) (take-length free))

pub counted : (free : List ℕ) (seats : List SeatValue) (seat : SeatValue) (k : ℕ) → seats ≡ seat ∷ [] → length (all_drawn seats) ≡ k → ((x : ℕ) → times_in x (all_drawn seats) ≡ times_in x (take k free)) → (any_out seats ≡ true → k ≡ length free)
    → seat.out ≡ true → left_of free seat.drawn ≡ []
counted free seats seat k one count first used out =
    let all : all_drawn seats ≡ seat.drawn = ap all_drawn one ∙ append-nil seat.drawn in
    let any : any_out seats ≡ true = ap any_out one ∙ ap (λ b. b || false) out in
    let many : length seat.drawn ≡ k = ap length (sym all) ∙ count in
    none_left_of free seat.drawn (many ∙ used any) (λ x. ap (times_in x) (sym all) ∙ first x ∙ ap (λ n. times_in x (take n free)) (sym many))
  where
    append-nil : (xs : List ℕ) → xs ++ [] ≡ xs
    append-nil [] = refl
    append-nil (x ∷ xs) = ap (λ ys. x ∷ ys) (append-nil xs)
