-- Reads one after another, and writes one after another.
use Rattle.std.proofs.Common.{◌≡◌, ℕ, ◌⊎◌, inl, inr, List, [], ◌∷◌, ◌++◌, length, Option, Some, None, Result, Ok, Err, refl, sym, ap, subst, ◌∙◌, append_assoc, append-nil, length-append, arith}
use Rattle.std.specs.Prelude.{IfSome, IsTrue, OnErr}
use Rattle.std.specs.Io.KnownBytes as known
use Rattle.std.proofs.KnownBytes as known_laws
use Rattle.heap_text.specs.Streams.{Input, Output, Gives, Appends, AppendsFront, OfInput}

pub Gives-nil : (a : Input) → Gives a a []
Gives-nil a = record { given = sym (append-nil a.given); left = known_laws.Consumes-nil a.remaining; end = λ is. inl is }

-- nothing follows all that was left
nothing_more : (x y z : List ℕ) → x ≡ x ++ (y ++ z) → y ≡ []
nothing_more x [] z is = refl
nothing_more x (b ∷ y) z is = absurd (omega (arith, ap length is, length-append x, length-append (b ∷ y)))

all_of_first : (a b c : Option (List ℕ)) (x y : List ℕ) → known.Consumes a b x → known.Consumes b c y → IfSome a (λ left. left ≡ x) → IfSome a (λ left. left ≡ x ++ y)
all_of_first None b c x y first second all = tt
all_of_first (Some l) None c x y first second all = absurd first
all_of_first (Some l) (Some m) None x y first second all = absurd second
all_of_first (Some l) (Some m) (Some n) x y first second all =
    let none : y ≡ [] = nothing_more x y n (sym all ∙ first ∙ ap (λ k. x ++ k) second) in
    all ∙ sym (append-nil x) ∙ ap (λ k. x ++ k) (sym none)

all_of_both : (a b : Option (List ℕ)) (x y : List ℕ) → known.Consumes a b x → IfSome b (λ left. left ≡ y) → IfSome a (λ left. left ≡ x ++ y)
all_of_both None b x y first all = tt
all_of_both (Some l) None x y first all = absurd first
all_of_both (Some l) (Some m) x y first all = first ∙ ap (λ k. x ++ k) all

ended_by : (a b c : Option (List ℕ)) (x y : List ℕ) (A B : Type 0) → known.Consumes a b x → known.Consumes b c y → (B → A ⊎ IfSome a (λ left. left ≡ x)) → B ⊎ IfSome b (λ left. left ≡ y) → A ⊎ IfSome a (λ left. left ≡ x ++ y)
ended_by a b c x y A B first second before (inr all) = inr (all_of_both a b x y first all)
ended_by a b c x y A B first second before (inl is) = ended_before a b c x y A first second (before is)
  where
    ended_before : (a b c : Option (List ℕ)) (x y : List ℕ) (A : Type 0) → known.Consumes a b x → known.Consumes b c y → A ⊎ IfSome a (λ left. left ≡ x) → A ⊎ IfSome a (λ left. left ≡ x ++ y)
    ended_before a b c x y A first second (inl is) = inl is
    ended_before a b c x y A first second (inr all) = inr (all_of_first a b c x y first second all)

pub Gives-trans : (a b c : Input) (x y : List ℕ) → Gives a b x → Gives b c y → Gives a c (x ++ y)
Gives-trans a b c x y first second = record {
  given = second.given ∙ ap (λ k. k ++ y) first.given ∙ append_assoc a.given x y;
  left = known_laws.Consumes-trans a.remaining b.remaining c.remaining x y first.left second.left;
  end = λ is. ended_by a.remaining b.remaining c.remaining x y _ _ first.left second.left first.end (second.end is);
}

pub Appends-nil : (a : Output) → Appends a a []
Appends-nil a = record { taken = sym (append-nil a.taken); held = known_laws.Appends-nil a.contents }

pub Appends-trans : (a b c : Output) (x y : List ℕ) → Appends a b x → Appends b c y → Appends a c (x ++ y)
Appends-trans a b c x y first second = record {
  taken = second.taken ∙ ap (λ k. k ++ y) first.taken ∙ append_assoc a.taken x y;
  held = known_laws.Appends-trans a.contents b.contents c.contents x y first.held second.held;
}

pub AppendsFront-none : (a : Output) (bytes : List ℕ) → AppendsFront a a bytes
AppendsFront-none a bytes = record { front = []; rest = bytes; bytes_are = refl; took = Appends-nil a }

-- all of the first of two, and a front of the second
pub AppendsFront-after : (a b c : Output) (x y : List ℕ) → Appends a b x → AppendsFront b c y → AppendsFront a c (x ++ y)
AppendsFront-after a b c x y first then = record {
  front = x ++ then.front;
  rest = then.rest;
  bytes_are = ap (λ k. x ++ k) then.bytes_are ∙ sym (append_assoc x then.front then.rest);
  took = Appends-trans a b c x then.front first then.took;
}

-- a front of the first of two
pub AppendsFront-first : (a b : Output) (x y : List ℕ) → AppendsFront a b x → AppendsFront a b (x ++ y)
AppendsFront-first a b x y some = record {
  front = some.front;
  rest = some.rest ++ y;
  bytes_are = ap (λ k. k ++ y) some.bytes_are ∙ append_assoc some.front some.rest y;
  took = some.took;
}

-- where a source tells what is left before its end was read, a fact of what may be read is one of what is left
of_left : (a b : Option (List ℕ)) (front bytes : List ℕ) (P : List ℕ → Type 0) (B : Type 0) → known.Consumes a b bytes → (B → IfSome a (λ left. left ≡ bytes)) → ((more : List ℕ) → (B → more ≡ []) → P (front ++ (bytes ++ more))) → IfSome a (λ left. P (front ++ left))
of_left None b front bytes P B takes all holds = tt
of_left (Some l) None front bytes P B takes all holds = absurd takes
of_left (Some l) (Some m) front bytes P B takes all holds =
    subst (λ k. P (front ++ k)) (sym takes) (holds m (λ is. nothing_more bytes m [] (sym (all is) ∙ takes ∙ ap (λ k. bytes ++ k) (sym (append-nil m)))))

pub of_remaining : (front : List ℕ) (old new : Input) (P : List ℕ → Type 0) → (IsTrue old.ended → ⊥) → OfInput front old new P → IfSome old.remaining (λ left. P (front ++ left))
of_remaining front old new P going of = of_left old.remaining new.remaining front of.bytes P (IsTrue new.ended) of.gave.left
    (λ is. only_left (of.gave.end is)) of.holds
  where
    only_left : {B : Type 0} → IsTrue old.ended ⊎ B → B
    only_left (inl is) = absurd (going is)
    only_left (inr all) = all

-- what is so at an error
pub on_err : {T E : Type 0} {P : Type 0} (r : Result T E) → P → OnErr r P
on_err (Ok x) p = tt
on_err (Err e) p = p

pub on_err_too : {T E : Type 0} {P Q : Type 0} (r : Result T E) → (P → Q) → OnErr r P → OnErr r Q
on_err_too (Ok x) f p = tt
on_err_too (Err e) f p = f p

-- the same bytes by another term
pub Appends-as : (a b : Output) (x y : List ℕ) → x ≡ y → Appends a b x → Appends a b y
Appends-as a b x y same took = subst (Appends a b) same took

pub AppendsFront-as : (a b : Output) (x y : List ℕ) → x ≡ y → AppendsFront a b x → AppendsFront a b y
AppendsFront-as a b x y same some = subst (AppendsFront a b) same some
