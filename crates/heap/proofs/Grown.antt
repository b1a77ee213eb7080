-- Sets that grow, and sets that are taken back.
use Rattle.std.proofs.Common.{◌≡◌, ℕ, zero, suc, ◌+◌, ◌<◌, ◌≤◌, Bool, true, false, cond, List, [], ◌∷◌, ◌++◌, length, map, take, get_or, set, Result, Ok, Err, refl, sym, ap, ◌∙◌, arith, ⊎_elim, append_assoc, get_or-set_other, get_or-set_same}
use Rattle.std.proofs.lemmas.Bool.{cases_eq}
use Rattle.std.proofs.lemmas.List.{append-nil, length-set, same_lists}
use Rattle.std.specs.Prelude.{OnOk, OnErr}
use Rattle.model.specs.Reached.{has}
use Rattle.model.proofs.Has.{has_left, has_right, has_head}
use Rattle.nursery.proofs.TableSteps.{get_or_any}
use Rattle.remembered_set.specs.Sets.{members_of, noted}
use Rattle.heap.specs.Growth.{AreGrown}

pub grown_same : (old new : List (List ℕ)) → new ≡ old → AreGrown old new
grown_same old new is = record {
  generations = ap length is;
  more = λ h. ([], ap (λ sets. members_of sets h) is ∙ sym (append-nil (members_of old h)));
}

pub grown_more : (a b c : List (List ℕ)) → AreGrown a b → AreGrown b c → AreGrown a c
grown_more a b c first second = record {
  generations = second.generations ∙ first.generations;
  more = λ h.
      let xs = first.more h in
      let ys = second.more h in
      (xs.0 ++ ys.0, ys.1 ∙ ap (λ ms. ms ++ ys.0) xs.1 ∙ append_assoc (members_of a h) xs.0 ys.0);
}

pub grown_has : (a b : List (List ℕ)) → AreGrown a b → (h n : ℕ) → has (members_of a h) n ≡ true → has (members_of b h) n ≡ true
grown_has a b grown h n is = let xs = grown.more h in rw xs.1 (has_left (members_of a h) xs.0 n is)

module _ (sets : List (List ℕ)) (h name : ℕ) (in_range : h < length sets) where
  abbrev more_sets : List (List ℕ)
  more_sets = set sets h (members_of sets h ++ name ∷ [])

  set_more : (k : ℕ) → (xs : List ℕ) × (members_of more_sets k ≡ members_of sets k ++ xs)
  set_more k = ⊎_elim
      (λ same. (name ∷ [], ap (members_of more_sets) same ∙ get_or-set_same sets h (members_of sets h ++ name ∷ []) [] in_range ∙ sym (ap (λ j. members_of sets j ++ name ∷ []) same)))
      (λ differ. ([], get_or-set_other sets h k (members_of sets h ++ name ∷ []) [] differ ∙ sym (append-nil (members_of sets k))))
      (cases_eq k h)

  pub grown_noted : AreGrown sets (noted sets h name)
  grown_noted = go (has (members_of sets h) name)
    where
      go : (b : Bool) → AreGrown sets (cond b sets more_sets)
      go true = grown_same sets sets refl
      go false = record { generations = length-set sets h (members_of sets h ++ name ∷ []); more = set_more }

  pub noted_has : has (members_of (noted sets h name) h) name ≡ true
  noted_has = go (has (members_of sets h) name) refl
    where
      go : (b : Bool) → has (members_of sets h) name ≡ b → has (members_of (cond b sets more_sets) h) name ≡ true
      go true is = is
      go false is = ap (λ ms. has ms name) (get_or-set_same sets h (members_of sets h ++ name ∷ []) [] in_range) ∙ has_right (members_of sets h) (name ∷ []) name (has_head name [])

  pub grown_by_note : {T E : Type 0} (r : Result T E) (new : List (List ℕ)) → OnOk r (new ≡ noted sets h name) → OnErr r (new ≡ sets) → AreGrown sets new
  grown_by_note (Ok x) new ok err = rw ok grown_noted
  grown_by_note (Err e) new ok err = grown_same sets new err

take-front : (xs ys : List ℕ) → take (length xs) (xs ++ ys) ≡ xs
take-front [] ys = refl
take-front (x ∷ xs) ys = ap (λ zs. x ∷ zs) (take-front xs ys)

-- a set that is cut to its first length is what it was
pub cut_grown : (start now : List (List ℕ)) → AreGrown start now → (h n : ℕ) → n ≡ length (members_of start h) → take n (members_of now h) ≡ members_of start h
cut_grown start now grown h n len = let xs = grown.more h in rw (len, xs.1) (take-front (members_of start h) xs.0)

pub lens_at : (start : List (List ℕ)) (lens : List ℕ) (h d : ℕ) → lens ≡ map length start → h < length start → get_or lens h d ≡ length (members_of start h)
lens_at start lens h d is lt = ap (λ ls. get_or ls h d) is ∙ go start h lt
  where
    go : (xs : List (List ℕ)) (i : ℕ) → i < length xs → get_or (map length xs) i d ≡ length (get_or xs i [])
    go [] i below = absurd (omega (arith, below))
    go (x ∷ xs) zero below = refl
    go (x ∷ xs) (suc i) below = go xs i (omega (arith, below))

-- the sets before a place are cut, and the others are not yet
pub record AreCut (start old new : List (List ℕ)) (i : ℕ) : Type 0 where
  pub generations : length new ≡ length old
  pub before : (h : ℕ) → h < i → members_of new h ≡ members_of start h
  pub after : (h : ℕ) → i ≤ h → members_of new h ≡ members_of old h

pub cut_none : (start old : List (List ℕ)) → AreCut start old old 0
cut_none start old = record { generations = refl; before = λ h lt. absurd (omega (arith, lt)); after = λ h le. refl }

pub cut_next : (start old now new : List (List ℕ)) (i n : ℕ) → AreGrown start old → i < length old → n ≡ length (members_of start i) → new ≡ set now i (take n (members_of now i)) → AreCut start old now i → AreCut start old new (i + 1)
cut_next start old now new i n grown in_range len is so_far = rw is record {
  generations = length-set now i (take n (members_of now i)) ∙ so_far.generations;
  before = λ h lt. ⊎_elim
      (λ same. ap (members_of (set now i (take n (members_of now i)))) same ∙ get_or-set_same now i (take n (members_of now i)) [] (omega (arith, so_far.generations, in_range)) ∙ ap (take n) (so_far.after i (omega arith)) ∙ cut_grown start old grown i n len ∙ ap (members_of start) (sym same))
      (λ differ. get_or-set_other now i h (take n (members_of now i)) [] differ ∙ so_far.before h (omega (arith, lt, differ)))
      (cases_eq h i);
  after = λ h le. get_or-set_other now i h (take n (members_of now i)) [] (omega (arith, le)) ∙ so_far.after h (omega (arith, le));
}

pub cut_all : (start old new : List (List ℕ)) (i : ℕ) → AreGrown start old → length start ≤ i → AreCut start old new i → new ≡ start
cut_all start old new i grown le cut =
    same_lists new start (cut.generations ∙ grown.generations) (λ h d lt.
    get_or_any new h d [] lt ∙ cut.before h (omega (arith, lt, cut.generations, grown.generations, le)) ∙ sym (get_or_any start h d [] (omega (arith, lt, cut.generations, grown.generations))))
