-- Pairs of names and places: who is known, and how often a name was won.
use Rattle.std.proofs.Common.{◌≡◌, ◌≢◌, ℕ, ◌+◌, cond, [], ◌∷◌, ◌++◌, All, Some, None, sym, refl, subst, eq-eqb, ne_eqb}
use Rattle.std.specs.Prelude.{Option}
use Rattle.std.proofs.lemmas.List.Elements.{All-head, All-tail}
use mathlib.Core.Logic.{dite}
use native.Mathlib.Decide.{ℕ_discrete}
use Rattle.layout.specs.declared.place.Place.{Place}
use Rattle.forwarding.specs.Learned.{Learns}
use Rattle.model.proofs.Times.{times-append}
use Rattle.forwarding.specs.Settled.{Pairs, wins_of}
use Rattle.forwarding.specs.Known.{known_in, Lasts}

pub wins_of-append : (name : ℕ) (xs ys : Pairs) → wins_of name (xs ++ ys) ≡ wins_of name xs + wins_of name ys
wins_of-append name xs ys = times-append (λ (x : ℕ × Place). x.0) name xs ys

pub wins_of-itself : (name other : ℕ) (p : Place) → name ≡ other → wins_of other ((name, p) ∷ []) ≡ 1
wins_of-itself name other p is = rw (eq-eqb name other is)

pub wins_of-another : (name other : ℕ) (p : Place) → name ≢ other → wins_of other ((name, p) ∷ []) ≡ 0
wins_of-another name other p ne = rw (ne_eqb name other ne)

pub known_in-head : (n : ℕ) (p : Place) (xs : Pairs) → known_in ((n, p) ∷ xs) n ≡ Some p
known_in-head n p xs = rw (eq-eqb n n refl)

pub known_in-other : (n m : ℕ) (p : Place) (xs : Pairs) → m ≢ n → known_in ((n, p) ∷ xs) m ≡ known_in xs m
known_in-other n m p xs ne = rw (ne_eqb n m (λ e. ne (sym e)))

-- what holds of all pairs holds of a known one
pub known_all : (P : ℕ × Place → Type 0) (xs : Pairs) (name : ℕ) (p : Place) → All P xs → known_in xs name ≡ Some p → P (name, p)
known_all P [] name p a e = cc
known_all P (x ∷ xs) name p a e = dite (ℕ_discrete x.0 name)
    (λ is. let e' : Some x.1 ≡ Some p = subst (λ b. cond b (Some x.1) (known_in xs name) ≡ Some p) (eq-eqb x.0 name is) e in
    let q : x.1 ≡ p = cc in subst (λ (z : ℕ × Place). P z) (λ i. (is i, q i)) (All-head P x xs a))
    (λ ne. known_all P xs name p (All-tail P x xs a) (subst (λ b. cond b (Some x.1) (known_in xs name) ≡ Some p) (ne_eqb x.0 name ne) e))

pub none_unless : (o : Option Place) → ((p : Place) → o ≡ Some p → ⊥) → o ≡ None
none_unless None f = refl
none_unless (Some p) f = absurd (f p refl)

-- a pair before the others is learned
pub Learns-cons : (name : ℕ) (p : Place) (known : Pairs) → Lasts known name (Some p) → Learns (known_in known) (known_in ((name, p) ∷ known)) name (Some p)
Learns-cons name p known lasts = record {
  told = known_in-head name p known;
  lasting = lasts;
  others = λ m ne. known_in-other name m p known ne;
}

-- nothing is learned of a name that has no place
pub Learns-none : (name : ℕ) (known : Pairs) → Lasts known name None → Learns (known_in known) (known_in known) name None
Learns-none name known lasts = record {
  told = none_unless (known_in known name) (λ p e. let z : None ≡ Some p = lasts p e in cc);
  lasting = lasts;
  others = λ m ne. refl;
}
