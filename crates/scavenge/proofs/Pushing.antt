-- A copy is put at the end of a block, and proposed.
use Rattle.std.proofs.Common.{◌≡◌, ◌≢◌, ℕ, zero, suc, ◌+◌, Bool, true, false, cond, nat_eq, nat_le, eq-eqb, ne_eqb, List, [], ◌∷◌, ◌++◌, length, map, take, set, replicate, Option, Some, None, refl, sym, ap, subst, ◌∙◌, ⊎_elim, arith, length-append}
use Rattle.std.proofs.lemmas.Bool.{cases_eq}
use Rattle.std.proofs.lemmas.List.{map-set}
use Rattle.std.proofs.lemmas.List.Sums.{sum_by-cons}
use Rattle.std.specs.Prelude.{slice_get, sum_by, is_some}
use Rattle.std.specs.Option.{option_map, option_and_then}
use Rattle.model.specs.Config.{Config}
use Rattle.model.specs.Destination.{Shape}
use Rattle.layout.specs.declared.place.Place.{Place}
use Rattle.layout.specs.Object.{Raw, raw_size}
use Rattle.layout.specs.Place.{place_word, small_word}
use Rattle.block_pool.specs.BlockValue.{BlockValue, used_of, words_of as raw_words}
use Rattle.steps.specs.Words.{target_of_word}
use Rattle.workers.specs.Block.{Block, Copy, copy_words, used_words, has_unscanned}
use Rattle.workers.specs.Worker.{Proposal, Copied, allocation_at}
use Rattle.workers.specs.Joined.{OnSome}
use Rattle.workers.proofs.Lists.{at-set_same, at-set_other}
use Rattle.scavenge.specs.Named.{named, named_copies, named_copy}
use Rattle.scavenge.specs.Fronts.{slot_at, is_unscanned, fits_at}
use Rattle.scavenge.specs.declared.workspace.proposed.Proposed.{Proposed}
use Rattle.scavenge.specs.Shown.{WorkspaceValue, IsNoted, AreNoted, IsMade, proposal_of, copied_of, unnoted, has_place_for, copied_into, propose_in, with_copy_proposed}
use Rattle.scavenge.proofs.Fields.{set-same, length-map}
use Rattle.scavenge.proofs.Renewing.{shown_slot}
use Rattle.scavenge.proofs.Scans.{unscanned_named}

-- words that copies take
used_copies : (number offset : ℕ) (origins : List ℕ) (raws : List Raw) → length raws ≡ length origins → sum_by copy_words (named_copies number offset origins raws) ≡ sum_by raw_size raws
used_copies number offset [] [] e = refl
used_copies number offset [] (r ∷ raws) e = absurd (omega arith)
used_copies number offset (o ∷ origins) [] e = absurd (omega arith)
used_copies number offset (o ∷ origins) (r ∷ raws) e =
    let a : sum_by copy_words (named_copy number offset o r ∷ named_copies number (offset + raw_size r) origins raws) ≡ copy_words (named_copy number offset o r) + sum_by copy_words (named_copies number (offset + raw_size r) origins raws) = sum_by-cons copy_words (named_copy number offset o r) (named_copies number (offset + raw_size r) origins raws) in
    let b : sum_by raw_size (r ∷ raws) ≡ raw_size r + sum_by raw_size raws = sum_by-cons raw_size r raws in
    let h : sum_by copy_words (named_copies number (offset + raw_size r) origins raws) ≡ sum_by raw_size raws = used_copies number (offset + raw_size r) origins raws (omega arith) in
    let s : copy_words (named_copy number offset o r) ≡ raw_size r = ap (λ n. 1 + n + length r.plain) (length-map target_of_word r.pointers) in
    a ∙ ap (λ n. n + sum_by copy_words (named_copies number (offset + raw_size r) origins raws)) s ∙ ap (λ n. raw_size r + n) h ∙ sym b

pub used_named : (shape : Shape) (b : BlockValue) → IsNoted 0 b → used_words (named shape b) ≡ used_of b
used_named shape b n = used_copies b.number 0 b.origins b.objects (omega (arith, n.count))

-- fitting is seen alike
pub fits_same : (k : Config) (size : ℕ) (o : Option BlockValue) → OnSome (IsNoted 0) o → OnSome (IsMade k) o → has_place_for k.block_words size (option_map (named k.shape) o) ≡ fits_at size o
fits_same k size None n m = refl
fits_same k size (Some b) n m = ap (λ x. nat_le (x + size) k.block_words) (used_named k.shape b n) ∙ ap (nat_le (used_of b + size)) (sym m.words)

pub record At (slots : List (Option BlockValue)) (d : ℕ) : Type 0 where
  pub block : BlockValue
  pub there : slot_at slots d ≡ Some block

pub at_of : (slots : List (Option BlockValue)) (d size : ℕ) → fits_at size (slot_at slots d) ≡ true → At slots d
at_of slots d size f = go (slot_at slots d) refl f
  where
    go : (o : Option BlockValue) → slot_at slots d ≡ o → fits_at size o ≡ true → At slots d
    go None e f = absurd (let q : false ≡ true = f in cc)
    go (Some b) e f = record { block = b; there = e }

-- the block with the copy
abbrev pub pushed : BlockValue → Raw → BlockValue
pushed b raw = record b { objects = b.objects ++ raw ∷ [] }

take_whole : {A : Type 0} (xs ys : List A) (n : ℕ) → length xs ≡ n → take n (xs ++ ys) ≡ xs
take_whole [] ys zero e = refl
take_whole [] ys (suc n) e = absurd (omega arith)
take_whole (x ∷ xs) ys zero e = absurd (omega arith)
take_whole (x ∷ xs) ys (suc n) e = ap (λ z. x ∷ z) (take_whole xs ys n (omega arith))

get_last : {A : Type 0} (xs : List A) (x : A) (n : ℕ) → length xs ≡ n → slice_get (xs ++ x ∷ []) n ≡ Some x
get_last [] x zero e = refl
get_last [] x (suc n) e = absurd (omega arith)
get_last (y ∷ xs) x zero e = absurd (omega arith)
get_last (y ∷ xs) x (suc n) e = get_last xs x n (omega arith)

pushed_noted : (b : BlockValue) (raw : Raw) → IsNoted 0 b → IsNoted 1 (pushed b raw)
pushed_noted b raw n = let l : length (b.objects ++ raw ∷ []) ≡ length b.objects + 1 = length-append b.objects (raw ∷ []) in record { count = omega (arith, n.count); front = n.front }

abbrev pub proposed_copy : Place → Place → ℕ → Proposed
proposed_copy name place d = record { name = name; place = place; destination = Some d }

pub proposed_noted : {slots slots' : List (Option BlockValue)} {aside done : List BlockValue} {held : Option BlockValue} (name place : Place) (d : ℕ) (b : BlockValue) (raw : Raw) → slot_at slots d ≡ Some b → slots' ≡ set slots d (Some (pushed b raw))
    → place_word place ≡ small_word b.number (used_of b) → AreNoted slots aside done held None → AreNoted slots' aside done held (Some (proposed_copy name place d))
proposed_noted {slots = slots} {slots' = slots'} {aside = aside} {done = done} {held = held} name place d b raw there se pe n =
    subst (λ xs. AreNoted xs aside done held (Some (proposed_copy name place d))) (sym se)
    (record {
      in_slots = λ e. ⊎_elim
          (λ (q : e ≡ d). subst (λ x. OnSome (IsNoted (cond (nat_eq x d) 1 0)) (slot_at (set slots d (Some (pushed b raw))) x)) (sym q)
          (subst (OnSome (IsNoted (cond (nat_eq d d) 1 0))) (sym now)
          (subst (λ m. IsNoted m (pushed b raw)) (sym (ap (λ z. cond z 1 0) (eq-eqb d d refl))) (pushed_noted b raw old))))
          (λ (ne : e ≢ d). subst (OnSome (IsNoted (cond (nat_eq e d) 1 0))) (sym (at-set_other slots d e (Some (pushed b raw)) ne))
          (subst (λ m. OnSome (IsNoted m) (slot_at slots e)) (sym (ap (λ z. cond z 1 0) (ne_eqb e d ne))) (n.in_slots e)))
          (cases_eq e d);
      in_aside = n.in_aside;
      in_done = n.in_done;
      in_hand = n.in_hand;
      there = record {
        block = pushed b raw;
        there = now;
        place_is = pe ∙ ap (λ xs. small_word b.number (raw_words xs)) (sym (take_whole b.objects (raw ∷ []) (length b.origins) (omega (arith, old.count))));
      };
    })
  where
    old : IsNoted 0 b
    old = subst (OnSome (IsNoted 0)) there (n.in_slots d)

    now : slot_at (set slots d (Some (pushed b raw))) d ≡ Some (pushed b raw)
    now = at-set_same slots d (Some (pushed b raw)) b there

named_pushed : (number offset : ℕ) (origins : List ℕ) (raws : List Raw) (r : Raw) → length raws ≡ length origins → named_copies number offset origins (raws ++ r ∷ []) ≡ named_copies number offset origins raws
named_pushed number offset [] raws r e = refl
named_pushed number offset (o ∷ origins) [] r e = absurd (omega arith)
named_pushed number offset (o ∷ origins) (x ∷ raws) r e = ap (λ cs. named_copy number offset o x ∷ cs) (named_pushed number (offset + raw_size x) origins raws r (omega arith))

pub slots_pushed : (shape : Shape) (slots : List (Option BlockValue)) (d : ℕ) (b : BlockValue) (raw : Raw) → slot_at slots d ≡ Some b → IsNoted 0 b → map (option_map (named shape)) (set slots d (Some (pushed b raw))) ≡ map (option_map (named shape)) slots
slots_pushed shape slots d b raw there n =
    map-set (option_map (named shape)) slots d (Some (pushed b raw))
    ∙ ap (λ cs. set (map (option_map (named shape)) slots) d (Some (let x : Block = record (named shape b) { copies = cs } in x))) (named_pushed b.number 0 b.origins b.objects raw (omega (arith, n.count)))
    ∙ set-same (map (option_map (named shape)) slots) d (named shape b) (shown_slot shape slots d (Some b) there)

pub shown_copy : (shape : Shape) (slots : List (Option BlockValue)) (d : ℕ) (b : BlockValue) (raw : Raw) (name place : Place) → slot_at slots d ≡ Some b → IsNoted 0 b → place_word place ≡ small_word b.number (used_of b)
    → proposal_of (set slots d (Some (pushed b raw))) (Some (proposed_copy name place d)) ≡ Some (Copied (copied_into (named shape b) (place_word name) raw) d)
shown_copy shape slots d b raw name place there n pe =
    ap (λ o. copied_of (place_word name) (place_word place) d (unnoted o)) (at-set_same slots d (Some (pushed b raw)) b there)
    ∙ ap (copied_of (place_word name) (place_word place) d) (get_last b.objects raw (length b.origins) (omega (arith, n.count)))
    ∙ ap (λ w. Some (Copied (copy w) d)) (pe ∙ ap (small_word b.number) (sym (used_named shape b n)))
  where
    copy : ℕ → Copy
    copy w = record { name = place_word name; place = w; pointers = map target_of_word raw.pointers; plain = raw.plain }

pub copied_is : {V N : WorkspaceValue} → V ≡ N → (name : ℕ) (raw : Raw) (d : ℕ) (q : Option Proposal) (a : List (Option Block)) (block : Block) → allocation_at V.worker d ≡ Some block → q ≡ Some (Copied (copied_into block name raw) d) → a ≡ V.worker.allocation
    → (let x : WorkspaceValue = record V { worker = record V.worker { proposal = q; allocation = a } } in x) ≡ (let x : WorkspaceValue = record N { worker = with_copy_proposed N.worker name raw d } in x)
copied_is {V = V} same name raw d q a block e qe ae =
    ap (λ z. (let x : WorkspaceValue = record V { worker = record V.worker { proposal = z; allocation = a } } in x)) qe
    ∙ ap (λ z. (let x : WorkspaceValue = record V { worker = record V.worker { proposal = Some (Copied (copied_into block name raw) d); allocation = z } } in x)) ae
    ∙ ap (λ z. (let x : WorkspaceValue = record V { worker = z } in x)) (sym (ap (propose_in V.worker name raw d) e))
    ∙ ap (λ (v : WorkspaceValue). (let x : WorkspaceValue = record v { worker = with_copy_proposed v.worker name raw d } in x)) same

-- unscanned is seen alike
pub open_same : (shape : Shape) (o : Option BlockValue) → OnSome (IsNoted 0) o → is_some (option_and_then (λ (b : Block). cond (has_unscanned b) (Some b) None) (option_map (named shape) o)) ≡ is_unscanned o
open_same shape None n = refl
open_same shape (Some b) n = go (has_unscanned (named shape b)) ∙ unscanned_named shape b n
  where
    go : (x : Bool) → is_some (cond x (Some (named shape b)) None) ≡ x
    go true = refl
    go false = refl

pub none_at : (n d : ℕ) → slot_at (replicate n None) d ≡ None
none_at zero d = refl
none_at (suc n) zero = refl
none_at (suc n) (suc d) = none_at n d

pub map_nones : (shape : Shape) (n : ℕ) → map (option_map (named shape)) (replicate n None) ≡ replicate n None
map_nones shape zero = refl
map_nones shape (suc n) = ap (λ xs. None ∷ xs) (map_nones shape n)
