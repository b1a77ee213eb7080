-- The pointers of older objects after a collection.
use Rattle.std.proofs.Common.{◌≡◌, ◌≢◌, ℕ, zero, suc, Bool, true, false, cond, ◌&&◌, List, [], ◌∷◌, ◌++◌, length, map, set, Option, Some, refl, sym, ap, ◌∙◌, arith, ◌⊎◌, inl, inr, ⊎_elim}
use Rattle.std.proofs.lemmas.Bool.{cases_eq, eq-eqb, ne_eqb}
use Rattle.std.specs.Prelude.{slice_get, nat_eq}
use Rattle.std.specs.Option.{option_map}
use Rattle.model.specs.Graph.{Object, with_pointer}
use Rattle.model.proofs.Among.{Among}
use Rattle.heap.specs.Moves.{with_writes}

-- what a field holds after these were written
abbrev pub written : List (ℕ × (ℕ × ℕ)) → (name i : ℕ) → Option ℕ → Option ℕ
written [] name i value = value
written (w ∷ ws) name i value = written ws name i (cond (nat_eq w.0 name && nat_eq w.1.0 i) (Some w.1.1) value)

abbrev step : ℕ × (ℕ × ℕ) → ℕ → Object → Object
step w name o = cond (nat_eq w.0 name) (with_pointer o w.1.0 (Some w.1.1)) o

pub with_writes-append : (ws : List (ℕ × (ℕ × ℕ))) (w : ℕ × (ℕ × ℕ)) (name : ℕ) (o : Object) → with_writes (ws ++ w ∷ []) name o ≡ cond (nat_eq w.0 name) (with_pointer (with_writes ws name o) w.1.0 (Some w.1.1)) (with_writes ws name o)
with_writes-append [] w name o = refl
with_writes-append (v ∷ ws) w name o = with_writes-append ws w name (step v name o)

-- an object that none of the writes names stays
pub with_writes-none : (ws : List (ℕ × (ℕ × ℕ))) (name : ℕ) (o : Object) → ((w : ℕ × (ℕ × ℕ)) → Among w ws → w.0 ≢ name) → with_writes ws name o ≡ o
with_writes-none [] name o none = refl
with_writes-none (w ∷ ws) name o none =
    let here : nat_eq w.0 name ≡ false = ne_eqb w.0 name (none w (inl refl)) in
    ap (λ b. with_writes ws name (cond b (with_pointer o w.1.0 (Some w.1.1)) o)) here ∙ with_writes-none ws name o (λ v h. none v (inr h))

-- the pointers alone change
abbrev pub pointers_after : List (ℕ × (ℕ × ℕ)) → ℕ → List (Option ℕ) → List (Option ℕ)
pointers_after [] name ps = ps
pointers_after (w ∷ ws) name ps = pointers_after ws name (cond (nat_eq w.0 name) (set ps w.1.0 (Some w.1.1)) ps)

with_writes-pointers : (ws : List (ℕ × (ℕ × ℕ))) (name : ℕ) (o : Object) → with_writes ws name o ≡ record o { pointers = pointers_after ws name o.pointers }
with_writes-pointers [] name o = refl
with_writes-pointers (w ∷ ws) name o = go (nat_eq w.0 name) (λ x. with_writes-pointers ws name x)
  where
    go : (b : Bool) → ((x : Object) → with_writes ws name x ≡ record x { pointers = pointers_after ws name x.pointers }) → with_writes ws name (cond b (with_pointer o w.1.0 (Some w.1.1)) o) ≡ record o { pointers = pointers_after ws name (cond b (set o.pointers w.1.0 (Some w.1.1)) o.pointers) }
    go true rest = rest (with_pointer o w.1.0 (Some w.1.1))
    go false rest = rest o

length-set_at : (ps : List (Option ℕ)) (i : ℕ) (v : Option ℕ) → length (set ps i v) ≡ length ps
length-set_at [] i v = refl
length-set_at (p ∷ ps) zero v = refl
length-set_at (p ∷ ps) (suc i) v = ap suc (length-set_at ps i v)

get-set_at : (ps : List (Option ℕ)) (i : ℕ) (v w : Option ℕ) → slice_get ps i ≡ Some w → slice_get (set ps i v) i ≡ Some v
get-set_at [] i v w is = absurd (cc)
get-set_at (p ∷ ps) zero v w is = refl
get-set_at (p ∷ ps) (suc i) v w is = get-set_at ps i v w is

get-set_apart : (ps : List (Option ℕ)) (i k : ℕ) (v : Option ℕ) → k ≢ i → slice_get (set ps i v) k ≡ slice_get ps k
get-set_apart [] i k v ne = refl
get-set_apart (p ∷ ps) zero zero v ne = absurd (ne refl)
get-set_apart (p ∷ ps) zero (suc k) v ne = refl
get-set_apart (p ∷ ps) (suc i) zero v ne = refl
get-set_apart (p ∷ ps) (suc i) (suc k) v ne = get-set_apart ps i k v (λ e. ne (ap suc e))

pub length_after : (ws : List (ℕ × (ℕ × ℕ))) (name : ℕ) (ps : List (Option ℕ)) → length (pointers_after ws name ps) ≡ length ps
length_after [] name ps = refl
length_after (w ∷ ws) name ps = go (nat_eq w.0 name) (λ xs. length_after ws name xs)
  where
    go : (b : Bool) → ((xs : List (Option ℕ)) → length (pointers_after ws name xs) ≡ length xs) → length (pointers_after ws name (cond b (set ps w.1.0 (Some w.1.1)) ps)) ≡ length ps
    go true rest = rest (set ps w.1.0 (Some w.1.1)) ∙ length-set_at ps w.1.0 (Some w.1.1)
    go false rest = rest ps

-- writing changes no length
pub with_writes-length : (ws : List (ℕ × (ℕ × ℕ))) (name : ℕ) (o : Object) → length (with_writes ws name o).pointers ≡ length o.pointers
with_writes-length ws name o = ap (λ x. length x.pointers) (with_writes-pointers ws name o) ∙ length_after ws name o.pointers

get_after : (ws : List (ℕ × (ℕ × ℕ))) (name i : ℕ) (ps : List (Option ℕ)) (v : Option ℕ) → slice_get ps i ≡ Some v → slice_get (pointers_after ws name ps) i ≡ Some (written ws name i v)
get_after [] name i ps v is = is
get_after (w ∷ ws) name i ps v is = go (λ xs x at. get_after ws name i xs x at) (nat_eq w.0 name)
  where
    here : ((xs : List (Option ℕ)) (x : Option ℕ) → slice_get xs i ≡ Some x → slice_get (pointers_after ws name xs) i ≡ Some (written ws name i x)) → (b : Bool) → nat_eq w.1.0 i ≡ b → slice_get (pointers_after ws name (set ps w.1.0 (Some w.1.1))) i ≡ Some (written ws name i (cond b (Some w.1.1) v))
    here rest b e = ⊎_elim
        (λ same.
        let yes : b ≡ true = sym e ∙ eq-eqb w.1.0 i same in
        rw yes (rest (set ps w.1.0 (Some w.1.1)) (Some w.1.1) (ap (λ k. slice_get (set ps k (Some w.1.1)) i) same ∙ get-set_at ps i (Some w.1.1) v is)))
        (λ ne.
        let no : b ≡ false = sym e ∙ ne_eqb w.1.0 i ne in
        rw no (rest (set ps w.1.0 (Some w.1.1)) v (get-set_apart ps w.1.0 i (Some w.1.1) (λ s. ne (sym s)) ∙ is)))
        (cases_eq w.1.0 i)

    go : ((xs : List (Option ℕ)) (x : Option ℕ) → slice_get xs i ≡ Some x → slice_get (pointers_after ws name xs) i ≡ Some (written ws name i x)) → (b : Bool) → slice_get (pointers_after ws name (cond b (set ps w.1.0 (Some w.1.1)) ps)) i ≡ Some (written ws name i (cond (b && nat_eq w.1.0 i) (Some w.1.1) v))
    go rest true = here rest (nat_eq w.1.0 i) refl
    go rest false = rest ps v is

-- either no write names the field, or the last that does counts
pub record IsWritten (ws : List (ℕ × (ℕ × ℕ))) (name i : ℕ) (value : Option ℕ) : Type 0 where
  pub target : ℕ
  pub among : Among (name, (i, target)) ws
  pub is : written ws name i value ≡ Some target

pub record IsUnwritten (ws : List (ℕ × (ℕ × ℕ))) (name i : ℕ) (value : Option ℕ) : Type 0 where
  pub none : (target : ℕ) → Among (name, (i, target)) ws → ⊥
  pub is : written ws name i value ≡ value

pub written_or_not : (ws : List (ℕ × (ℕ × ℕ))) (name i : ℕ) (value : Option ℕ) → IsWritten ws name i value ⊎ IsUnwritten ws name i value
written_or_not [] name i value = inr (record { none = λ target h. h; is = refl })
written_or_not (w ∷ ws) name i value = ⊎_elim
    (λ same. ⊎_elim
    (λ field.
    let yes : (nat_eq w.0 name && nat_eq w.1.0 i) ≡ true = ap (λ b. b && nat_eq w.1.0 i) (eq-eqb w.0 name same) ∙ eq-eqb w.1.0 i field in
    let this : (name, (i, w.1.1)) ≡ w = ap (λ n. let p : ℕ × (ℕ × ℕ) = (n, (i, w.1.1)) in p) (sym same) ∙ ap (λ k. let p : ℕ × (ℕ × ℕ) = (w.0, (k, w.1.1)) in p) (sym field) in
    ⊎_elim
    (λ later. inl (record { target = later.target; among = inr later.among; is = ap (λ b. written ws name i (cond b (Some w.1.1) value)) yes ∙ later.is }))
    (λ not. inl (record { target = w.1.1; among = inl this; is = ap (λ b. written ws name i (cond b (Some w.1.1) value)) yes ∙ not.is }))
    (written_or_not ws name i (Some w.1.1)))
    (λ other. past (written_or_not ws name i value) (λ target e. other (sym (ap (λ p. p.1.0) e))) (off (nat_eq w.0 name) (nat_eq w.1.0 i) (inr (ne_eqb w.1.0 i other)))) (cases_eq w.1.0 i))
    (λ other. past (written_or_not ws name i value) (λ target e. other (sym (ap (λ p. p.0) e))) (off (nat_eq w.0 name) (nat_eq w.1.0 i) (inl (ne_eqb w.0 name other))))
    (cases_eq w.0 name)
  where
    off : (a b : Bool) → (a ≡ false) ⊎ (b ≡ false) → (a && b) ≡ false
    off true true (inl e) = absurd (cc)
    off true true (inr e) = absurd (cc)
    off true false h = refl
    off false b h = refl

    past : IsWritten ws name i value ⊎ IsUnwritten ws name i value → ((target : ℕ) → ◌≡◌ {A = ℕ × (ℕ × ℕ)} (name, (i, target)) w → ⊥) → (nat_eq w.0 name && nat_eq w.1.0 i) ≡ false → IsWritten (w ∷ ws) name i value ⊎ IsUnwritten (w ∷ ws) name i value
    past later_or_not ne off_here = ⊎_elim
        (λ later. inl (record { target = later.target; among = inr later.among; is = ap (λ b. written ws name i (cond b (Some w.1.1) value)) off_here ∙ later.is }))
        (λ not. inr (record { none = λ target h. ⊎_elim (λ e. ne target e) (λ r. not.none target r) h; is = ap (λ b. written ws name i (cond b (Some w.1.1) value)) off_here ∙ not.is }))
        later_or_not

same_pointers : (f : ℕ → ℕ) (xs ps : List (Option ℕ)) → length xs ≡ length ps → ((i : ℕ) (v : Option ℕ) → slice_get ps i ≡ Some v → slice_get xs i ≡ Some (option_map f v)) → xs ≡ map (option_map f) ps
same_pointers f [] [] len each = refl
same_pointers f [] (p ∷ ps) len each = absurd (omega (arith, len))
same_pointers f (x ∷ xs) [] len each = absurd (omega (arith, len))
same_pointers f (x ∷ xs) (p ∷ ps) len each =
    let here : x ≡ option_map f p = same_some (each 0 p refl) in
    ap (λ y. y ∷ xs) here ∙ ap (λ ys. option_map f p ∷ ys) (same_pointers f xs ps (omega (arith, len)) (λ i v is. each (suc i) v is))
  where
    same_some : {a b : Option ℕ} → Some a ≡ Some b → a ≡ b
    same_some e = cc

-- where each field holds what f makes of it, the pointers are moved by f
pub moved_pointers : (ws : List (ℕ × (ℕ × ℕ))) (name : ℕ) (o : Object) (f : ℕ → ℕ) → ((i : ℕ) (v : Option ℕ) → slice_get o.pointers i ≡ Some v → written ws name i v ≡ option_map f v) → with_writes ws name o ≡ record o { pointers = map (option_map f) o.pointers }
moved_pointers ws name o f each =
    with_writes-pointers ws name o
    ∙ ap (λ ps. let x : Object = record o { pointers = ps } in x)
    (same_pointers f (pointers_after ws name o.pointers) o.pointers (length_after ws name o.pointers) (λ i v is. get_after ws name i o.pointers v is ∙ ap Some (each i v is)))
